-- The writer of a list.
use Rattle.std.specs.Prelude.{◌≡◌, ℕ, ◌-◌, ◌^◌, true, min, List, length}
use Rattle.logbook.specs.Pages.{Book, Named, Nib, may_write}
use Rattle.album_board.specs.Entries.{Entry, ListName, passes_from, key_after}

-- the number of what is added after so many: how many they are, or the greatest number where they are more
abbrev pub number_of : ℕ → ℕ
number_of count = min count (2 ^ 64 - 1)

-- the first word of the book
abbrev pub head_of : Book → Named
head_of book = record { tracked = true; key = 0; book = book }

-- a pen: its book, and what it is the right to
pub record PenState : Type 0 where
  pub book : Book
  pub nib : Nib

-- The word is the first one of the book. The pen has the right to the key that the writer holds after the log's
-- entries. The number is that of what is added next.
pub record IsWriter
    (name : ListName) (head : Named) (pen : PenState) (number : ℕ) (book : Book) (log : List Entry) : Type 0 where
  pub head_is : head ≡ head_of name.book
  pub pen_of : pen.book ≡ name.book
  pub right : pen.nib.right ≡ may_write
  pub key : pen.nib.key ≡ key_after name.first log
  pub number_is : number ≡ number_of (length (passes_from name.first log))
  pub seen_of : book ≡ name.book
