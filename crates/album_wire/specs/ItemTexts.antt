-- Values of the texts of items, each refused by the first test that fails.
use Rattle.std.specs.Prelude.{ℕ, List, nat_lt, length, if◌then◌else◌, Result, Ok, Err}
use Rattle.std.specs.Option.{ok_or}
use Rattle.hex.specs.Hex.{decode_of}
use Rattle.album_stamps.specs.declared.refusals.Refusal.{Refusal}
use Rattle.album_stamps.specs.declared.refusals.Refusal.TheVariants.{BadWho, BadText}
use Rattle.album_stamps.specs.declared.limits.TheConstants.{MAX_CONTENT}
use Rattle.album_stamps.specs.Outcome.{◌>>=◌}
use Rattle.album_lists.specs.Whos.{user_of}
use Rattle.album_items.specs.Texts.{title_of}

-- an owner
abbrev pub owner_read : List ℕ → Result (List ℕ) Refusal
owner_read text = ok_or (user_of text) BadWho

-- a title
abbrev pub title_read : List ℕ → Result (List ℕ) Refusal
title_read text = ok_or (title_of text) BadText

-- a content: two digits a byte, each of 0 to 9 and a to f, in either case
abbrev pub or_bad_text : {A E : Type 0} → Result A E → Result A Refusal
or_bad_text (Ok a) = Ok a
or_bad_text (Err e) = Err BadText

unfoldable pub bytes_read : List ℕ → Result (List ℕ) Refusal
bytes_read text = or_bad_text (decode_of text)

abbrev pub short : List ℕ → Result (List ℕ) Refusal
short bytes = if nat_lt MAX_CONTENT (length bytes) then Err BadText else Ok bytes

unfoldable pub content_read : List ℕ → Result (List ℕ) Refusal
content_read text = bytes_read text >>= short
