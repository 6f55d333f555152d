-- Entries of a book, and which of them are of one writer. A writer holds a key that nobody else holds, and gives it up
-- for each entry that it adds.
use Rattle.std.specs.Prelude.{ℕ, ◌==◌, List, [], ◌∷◌, if◌then◌else◌}
use Rattle.logbook.specs.Pages.{Book}
use Rattle.album_passes.specs.Pass.{PassState}

-- the key that its writer gave up for it, the pass, and the key that the writer holds from then on
pub record Entry : Type 0 where
  pub key : ℕ
  pub pass : PassState
  pub next : ℕ

-- the passes in the entries of the writer who held this key at first, in order
abbrev pub passes_from : ℕ → List Entry → List PassState
passes_from key [] = []
passes_from key (entry ∷ entries) =
    if entry.key == key then entry.pass ∷ passes_from entry.next entries else passes_from key entries

-- the key that this writer holds after these entries
abbrev pub key_after : ℕ → List Entry → ℕ
key_after key [] = key
key_after key (entry ∷ entries) = if entry.key == key then key_after entry.next entries else key_after key entries

-- the book, and the key that the writer held at first
pub record ListName : Type 0 where
  pub book : Book
  pub first : ℕ
