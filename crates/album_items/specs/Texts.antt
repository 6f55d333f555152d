-- Which bytes are titles.
use Rattle.std.specs.Prelude.{ℕ, List, Bool, ◌&&◌, ◌==◌, not, nat_le, length, if◌then◌else◌, Option, Some, None}
use Rattle.std.specs.List.{list_all}
use Rattle.album_stamps.specs.declared.limits.TheConstants.{MAX_TITLE}

-- none of U+0000 to U+001F, and not U+007F; a longer character has no such byte
abbrev pub is_title_byte : ℕ → Bool
is_title_byte b = nat_le 32 b && not (b == 127)

-- at most 200 such bytes
abbrev pub is_title : List ℕ → Bool
is_title text = nat_le (length text) MAX_TITLE && list_all is_title_byte text

-- the title that the text is
abbrev pub title_of : List ℕ → Option (List ℕ)
title_of text = if is_title text then Some text else None
