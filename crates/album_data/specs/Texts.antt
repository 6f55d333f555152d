-- The line of an entry in a log.
use Rattle.std.specs.Prelude.{◌≡◌, ◌≢◌, ℕ, ◌-◌, List, [], ◌∷◌, ◌++◌, length, take, slice_index, EachIndex}
use Rattle.album_partition.specs.declared.marks.Mark.{Mark}
use Rattle.album_partition.specs.declared.marks.Mark.TheVariants.{Prepared, Committed, Discarded, Trimmed}
use Rattle.album_keepers.specs.declared.log_entries.LogEntry.{LogEntry}
use Rattle.album_log.specs.Seals.{sealed}
use Rattle.album_log.specs.Texts.{IsWholeText}
use Rattle.album_wire.specs.MarkLine.{mark_text}
use Rattle.album_wire.specs.Spellable.{IsSpellableMark}

-- ---- an entry

-- the text without its last two bytes: of a line that is an object, its bracket and its newline
abbrev pub without_end : List ℕ → List ℕ
without_end text = take (length text - 2) text

-- the line of a mark that prepares a stamp, sealed; no other has one
abbrev pub mark_line : ℕ → Mark → List ℕ
mark_line part (Prepared stamp writes items) = sealed (without_end (mark_text part stamp writes items)) ++ 10 ∷ []
mark_line part (Committed stamp) = []
mark_line part (Discarded stamp) = []
mark_line part (Trimmed item) = []

abbrev pub entry_text : LogEntry → List ℕ
entry_text entry = mark_line entry.part entry.mark

-- a mark whose line is read back as what it is
abbrev pub IsSpellableOf : ℕ → Mark → Type 0
IsSpellableOf part (Prepared stamp writes items) =
    IsSpellableMark (record { part = part; stamp = stamp; writes = writes; items = items })
IsSpellableOf part (Committed stamp) = ⊥
IsSpellableOf part (Discarded stamp) = ⊥
IsSpellableOf part (Trimmed item) = ⊥

-- an entry whose line is read back
abbrev pub IsSpellableEntry : LogEntry → Type 0
IsSpellableEntry entry = IsSpellableOf entry.part entry.mark

-- one line: its newline is its last byte alone
pub record IsLine (line : List ℕ) : Type 0 where
  pub front : List ℕ
  pub is : line ≡ front ++ 10 ∷ []
  pub no_other : EachIndex front (λ k. slice_index front k ≢ 10)

-- the text has this line, behind other whole lines
pub record HasLine (text line : List ℕ) : Type 0 where
  pub before : List ℕ
  pub after : List ℕ
  pub whole : IsWholeText before
  pub one : IsLine line
  pub there : text ≡ before ++ (line ++ after)
