-- What a text of lines is, and which text the bytes of a file hold.
use Rattle.std.specs.Prelude.{◌≡◌, ◌≢◌, ℕ, ◌-◌, ◌<◌, ◌==◌, ◌++◌, not, List, length, take, slice_index, EachIndex}
use Rattle.std.specs.List.{before_first, suffix_len}

-- no byte is 0, and it is empty or ends with a newline
pub record IsWholeText (text : List ℕ) : Type 0 where
  pub no_zero : EachIndex text (λ k. slice_index text k ≢ 0)
  pub ends : 0 < length text → slice_index text (length text - 1) ≡ 10

-- the bytes before the first zero
abbrev pub before_zero : List ℕ → List ℕ
before_zero bytes = before_first (λ byte. byte == 0) bytes

-- the bytes up to and with the last newline
abbrev pub up_to_newline : List ℕ → List ℕ
up_to_newline bytes = take (length bytes - suffix_len (λ byte. not (byte == 10)) bytes) bytes

-- the whole lines before the first zero
unfoldable pub whole_text : List ℕ → List ℕ
whole_text bytes = up_to_newline (before_zero bytes)

-- what is kept is the old text and then whole lines of the group, from its first on
pub record IsKept (old group kept : List ℕ) : Type 0 where
  pub part : List ℕ
  pub rest : List ℕ
  pub whole : IsWholeText part
  pub begins : group ≡ part ++ rest
  pub follows : kept ≡ old ++ part
