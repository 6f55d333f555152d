-- What a file holds that is a log of text, now and after a crash.
use Rattle.std.specs.Prelude.{◌≡◌, ℕ, ◌-◌, ◌<◌, ◌≤◌, ◌++◌, ◌⊎◌, Bool, false, IsTrue, List, length, take, replicate, slice_index}
use Rattle.sqlite_disk.specs.Disk.{Only, MoreFaults}
use Rattle.album_log.specs.Texts.{IsWholeText, IsKept, whole_text}

-- the file begins with the text, and has zeros behind it, at least one, up to `size`
pub record HasText (text : List ℕ) (size : ℕ) (file : List ℕ) : Type 0 where
  pub whole : IsWholeText text
  pub room : length text < size
  pub within : size ≤ length file
  -- `slice_index` is 0 past the end of the text
  pub each : (k : ℕ) → k < size → slice_index file k ≡ slice_index text k

-- the contents that a crash may leave
abbrev pub Outcomes : Type 1
Outcomes = List ℕ → Type 0

-- each crash leaves the text
abbrev pub LeavesText : List ℕ → ℕ → Outcomes → Type 0
LeavesText text size outcomes = (c : List ℕ) → outcomes c → HasText text size c

-- each crash leaves the old text and whole lines of the group, from its first on
abbrev pub LeavesKept : List ℕ → List ℕ → Outcomes → Type 0
LeavesKept old group outcomes = (c : List ℕ) → outcomes c → IsKept old group (whole_text c)

-- the file is at least `to` long, and has zeros from `from` up to there
pub record HasZeros (from to : ℕ) (file : List ℕ) : Type 0 where
  pub within : to ≤ length file
  pub zero : (k : ℕ) → from ≤ k → k < to → slice_index file k ≡ 0

-- what a log shows
pub record LogView (D : Type 0) : Type 0 where
  pub text : List ℕ
  pub disk : D
  -- no call has failed
  pub is_open : Bool
  -- the disk was mixing as the log began
  pub is_mixing : Bool

-- a file was found to have a byte: it had one, if the disk that was left then is clean
pub record HadByte (D : Type 0) (is_clean : D → Bool) (file : List ℕ) : Type 0 where
  pub left : D
  pub some : IsTrue (is_clean left) → 0 < length file

-- the file is the text with zeros behind it, at least one, and a crash leaves just that
pub record IsLog (text file : List ℕ) (outcomes : Outcomes) : Type 0 where
  pub whole : IsWholeText text
  pub room : length text < length file
  pub zeros : file ≡ text ++ replicate (length file - length text) 0
  pub only : Only file outcomes

-- the file has the text and zeros up to `size`, and a crash leaves just that file
pub record IsDurable (text : List ℕ) (size : ℕ) (file : List ℕ) (outcomes : Outcomes) : Type 0 where
  pub stands : HasText text size file
  pub only : Only file outcomes

-- what holds of an open log, whose text ends at `end`: its file is known up to `size`, which is its end if the disk is
-- clean
pub record IsSound (end size : ℕ) (file : List ℕ) (outcomes : Outcomes) (is_clean is_usable : Bool) : Type 0 where
  pub usable : IsTrue is_usable
  pub durable : IsDurable (take end file) size file outcomes
  pub reach : end < size
  pub all : IsTrue is_clean → size ≡ length file

-- why an append fails: a call of the disk failed, or the disk was mixing and is so no longer
abbrev pub HasCause : Bool → Bool → ℕ → ℕ → Type 0
HasCause was_mixing is_mixing old_faults new_faults =
    MoreFaults old_faults new_faults ⊎ (IsTrue was_mixing × (is_mixing ≡ false))
