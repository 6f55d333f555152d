-- What a log's text leaves to the next epoch.
use Rattle.std.specs.Prelude.{◌≡◌, ℕ, ◌<◌, ◌≤◌, ◌==◌, List, [], ◌∷◌, ◌++◌, length, All, Option, Some, None, Ok, if◌then◌else◌}
use Rattle.std.specs.List.{list_any, slice_get}
use Rattle.album_stamps.specs.Stamps.{counter_of}
use Rattle.album_items.specs.declared.openings.Opening.{Opening}
use Rattle.album_partition.specs.Marks.{prepares, prepare_in}
use Rattle.album_partition.specs.declared.marks.Mark.{Mark}
use Rattle.album_partition.specs.declared.marks.Mark.TheVariants.{Prepared}
use Rattle.album_epochs.specs.Folding.{stamp_in, AreFolded, AreFoldedStamps}
use Rattle.album_keepers.specs.declared.log_entries.LogEntry.{LogEntry}
use Rattle.album_log.specs.Seals.{sealed}
use Rattle.album_wire.specs.MarkLine.{mark_line_of}
use Rattle.album_wire.specs.declared.mark_line.PreparedMark.{PreparedMark}
use Rattle.album_data.specs.Texts.{IsLine}

-- ---- what a line says

-- the entry that a mark's line spells
abbrev pub entry_with : PreparedMark → LogEntry
entry_with mark = record { part = mark.part; mark = Prepared mark.stamp mark.writes mark.items }

-- The line is a sealed one, with a newline behind it, and what is sealed spells the entry once its bracket is there
-- again.
pub record IsEntryLine (line : List ℕ) (entry : LogEntry) : Type 0 where
  pub body : List ℕ
  pub mark : PreparedMark
  pub is : line ≡ sealed body ++ 10 ∷ []
  pub says : mark_line_of (body ++ 125 ∷ []) ≡ Ok mark
  pub spells : entry ≡ entry_with mark

-- the text is lines, one after another, each of which is that of an entry
pub data AreEntryLines : List ℕ → List LogEntry → Type 0 where
  none : AreEntryLines [] []
  more : (text line : List ℕ) (entry : LogEntry) (entries : List LogEntry) → AreEntryLines text entries
      → IsLine line → IsEntryLine line entry → AreEntryLines (text ++ line) (entries ++ entry ∷ [])

-- ---- what the entries are

-- with a mark that prepares this stamp behind the others, unless one of them does
abbrev pub with_prepare : List Mark → Mark → Option ℕ → List Mark
with_prepare marks mark None = marks
with_prepare marks mark (Some stamp) = if list_any (prepares stamp) marks then marks else marks ++ mark ∷ []

abbrev pub with_mark : List Mark → Mark → List Mark
with_mark marks mark = with_prepare marks mark (prepare_in mark)

-- the marks of a partition: those of its entries, in their order, each stamp's first one
abbrev pub marks_after : ℕ → List Mark → List LogEntry → List Mark
marks_after part marks [] = marks
marks_after part marks (entry ∷ entries) =
    marks_after part (if entry.part == part then with_mark marks entry.mark else marks) entries

-- the histories that a log's entries leave, of so many partitions
pub record AreLogged (parts : ℕ) (entries : List LogEntry) (histories : List (List Mark)) : Type 0 where
  pub count : length histories ≡ parts
  pub each : (part : ℕ) → part < parts → slice_get histories part ≡ Some (marks_after part [] entries)

-- ---- the next opening

-- The opening with which the next epoch begins: the counts, the policy and the root stay, the clocks begin above all
-- that were drawn before, as far as the log has them, and the rows and their stamps are what the log leaves, folded.
pub record IsOpenedAfter (opening : Opening) (entries : List LogEntry) (next : Opening) : Type 0 where
  pub parts : next.parts ≡ opening.parts
  pub limit : next.limit ≡ opening.limit
  pub policy : next.policy ≡ opening.policy
  pub checked : next.checked ≡ opening.checked
  pub root : next.root ≡ opening.root
  pub first : opening.first ≤ next.first
  pub above : All (λ entry. counter_of (stamp_in entry.mark) ≤ next.first) entries
  pub histories : List (List Mark)
  pub logged : AreLogged opening.parts entries histories
  pub rows : AreFolded opening.items histories next.items
  pub stamps : AreFoldedStamps opening.stamps opening.items histories next.stamps
