-- A desk, as its callers see it, how it opens, and the words with which it ends.
use Rattle.std.specs.Prelude.{◌≡◌, ℕ, ◌+◌, ◌<◌, ◌≤◌, true, List, map, length, slice_index_or, None}
use Rattle.album_items.specs.declared.openings.Opening.{Opening}
use Rattle.album_stamps.specs.declared.limits.TheConstants.{MAX_PARTS, MAX_MARKS, CLIENTS}
use Rattle.atomic_table.specs.Seated.{TableId}
use Rattle.album_partition.specs.declared.marks.Mark.{Mark}
use Rattle.album_partition.specs.Marks.{is_legal}
use Rattle.album_passes.specs.Cuts.{marks_at}
use Rattle.album_passes.specs.Changes.{empty_cut}
use Rattle.album_passes.specs.Knowledge.{Terms}
use Rattle.album_passes.specs.Pass.{PassState}
use Rattle.album_passes.specs.Owner.{OwnerState}

-- its table, and what it was opened with
pub record DeskState : Type 0 where
  pub table : TableId
  pub terms : Terms

-- what it is opened with
abbrev pub terms_of : Opening → ℕ → Terms
terms_of opening sessions = record {
  opening = opening.items;
  parts = opening.parts;
  limit = opening.limit;
  sessions = sessions;
  checked = opening.checked;
  first = opening.first;
}

-- the table has a word for the numbers and one for each partition, and the desk's own numbers are those of the terms
pub record IsDesk (table : TableId) (terms : Terms) (parts limit sessions : ℕ) : Type 0 where
  pub words : table.words ≡ parts + 1
  pub slots : table.slots ≡ 0
  pub parts_are : terms.parts ≡ parts
  pub limit_is : terms.limit ≡ limit
  pub sessions_are : terms.sessions ≡ sessions
  pub some : 0 < parts
  pub few : parts ≤ MAX_PARTS
  pub low_limit : limit ≤ MAX_MARKS
  pub few_sessions : sessions < CLIENTS

-- ---- as it opens

-- the owner of a partition, with the empty cut
abbrev pub first_owner : DeskState → ℕ → OwnerState
first_owner desk part = record {
  table = desk.table;
  part = part;
  cut = empty_cut desk.terms.opening desk.terms.parts desk.terms.checked;
  drawn = 0;
}

-- the first pass: the empty cut, and no number
abbrev pub first_pass : DeskState → PassState
first_pass desk = record {
  table = desk.table;
  cut = empty_cut desk.terms.opening desk.terms.parts desk.terms.checked;
  number = None;
  drawn = 0;
}

-- the owners of all partitions, in order
pub record AreOwners (desk : DeskState) (owners : List OwnerState) : Type 0 where
  pub count : length owners ≡ desk.terms.parts
  pub each : (part : ℕ) (other : OwnerState) → part < desk.terms.parts
      → slice_index_or owners part other ≡ first_owner desk part

-- ---- as it ends

-- the lengths of one history of each partition, whose marks may follow each other, and which has room for them
pub record AreWords (terms : Terms) (words : List ℕ) : Type 0 where
  pub histories : List (List Mark)
  pub lengths : words ≡ map length histories
  pub wide : length histories ≡ terms.parts
  pub legal : (part : ℕ) → is_legal (marks_at histories part) ≡ true
  pub few : (part : ℕ) → length (marks_at histories part) ≤ terms.limit
