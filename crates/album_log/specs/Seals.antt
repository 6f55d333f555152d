-- How a line is sealed: its last member is a sum of what is before it.
use Rattle.std.specs.Prelude.{ℕ, List, ◌++◌, codes}
use Rattle.std.specs.Int.{w64, to_be_bytes}
use Rattle.hex.specs.Hex.{encode_lower}
use Rattle.sqlite_disk.specs.Digest.{digest}

-- what is before the digits of the sum, and what is behind them
abbrev pub opening : List ℕ
opening = codes ",\"sum\":\""

abbrev pub closing : List ℕ
closing = codes "\"}"

-- the sixteen digits of the sum of these bytes
unfoldable pub digits_of : List ℕ → List ℕ
digits_of body = encode_lower (to_be_bytes w64 (digest 0 body))

-- what is written behind these bytes, which end a member of a JSON object, to seal them
abbrev pub seal_of : List ℕ → List ℕ
seal_of body = opening ++ (digits_of body ++ closing)

-- the bytes with their seal
abbrev pub sealed : List ℕ → List ℕ
sealed body = body ++ seal_of body
