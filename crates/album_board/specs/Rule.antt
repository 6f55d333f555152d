-- The rule of the book, and what a step on its first word shows.
use Rattle.std.specs.Prelude.{◌≡◌, ℕ, ◌<◌, true, false, List, [], ◌∷◌, ◌++◌, length, None}
use Rattle.logbook.specs.Pages.{Cell, cell, Step, View, may_make}
use Rattle.atomic_table.specs.Seated.{TableId}
use Rattle.album_passes.specs.Changes.{empty_cut}
use Rattle.album_passes.specs.Pass.{PassState}
use Rattle.album_board.specs.Entries.{Entry, passes_from, key_after}

-- the key of each entry was given up: its word is at home
abbrev pub AreGivenUp : List Cell → List Entry → Type 0
AreGivenUp cells [] = Unit {0}
AreGivenUp cells (entry ∷ entries) = ((cell cells entry.key).1 ≡ true) × AreGivenUp cells entries

-- and so is the first word
pub record IsKept (cells : List Cell) (log : List Entry) : Type 0 where
  pub some : 0 < length cells
  pub home : (cell cells 0).1 ≡ true
  pub given_up : AreGivenUp cells log

-- a key is drawn: the right to make the word of it
abbrev pub Draws : Step Entry → View Entry ℕ → ℕ → View Entry ℕ → Type 0
Draws step old found new = new.1.0.right ≡ may_make

-- The entry is added. So the writer that held its key, whichever that is, has the entry's pass after those from before,
-- and holds the next key.
abbrev pub Adds : Step Entry → View Entry ℕ → ℕ → View Entry ℕ → Type 0
Adds step old found new = (first : ℕ) → key_after first old.0 ≡ step.ask.key
    → (passes_from first new.0 ≡ passes_from first old.0 ++ step.ask.pass ∷ [])
    × (key_after first new.0 ≡ step.ask.next)

-- no table's
abbrev pub no_table : TableId
no_table = record { words = 0; slots = 0; views_name = 0; atom = 0; block = 0; offset = 0; slot_names = [] }

-- a pass of no table, which has seen nothing
abbrev pub no_pass : PassState
no_pass = record { table = no_table; cut = empty_cut [] 0 false; number = None; drawn = 0 }

-- what a step asks that adds none
abbrev pub no_entry : Entry
no_entry = record { key = 0; pass = no_pass; next = 0 }
