-- The value of a line: of bytes that are one JSON text, and of those that are none. For `data` and the laws of lines.
use Rattle.std.proofs.Common.{◌≡◌, ◌≢◌, ℕ, List, [], ◌∷◌, Bool, true, false, cond, is_some, Option, Some, None, Ok, Err, refl, ap}
use Rattle.std.specs.Option.{ok_or}
use Rattle.std.specs.Str.{IsUtf8, is_utf8}
use Rattle.std.proofs.lemmas.Str.{IsUtf8-from_is_utf8, is_utf8-from_IsUtf8}
use Rattle.json.specs.Token.{Token}
use Rattle.json.specs.Reads.{Yields}
use Rattle.json.specs.declared.token.Token.{Token as Next}
use Rattle.json.specs.Lex.{tokens}
use Rattle.json.specs.Json as json
use Rattle.serde_json.specs.Data.{Data}
use Rattle.serde_json.specs.Read.{read, max_depth}
use Rattle.album_stamps.specs.declared.refusals.Refusal.TheVariants.{BadLine}
use Rattle.album_lines.specs.Fields.{data_of}
use Rattle.album_lines.specs.Spelling.{IsJson}
use Rattle.album_lines.specs.Trees.{is_in_range, data_in}
use Rattle.album_lines.proofs.Reading.{in_range}
use Rattle.album_lines.proofs.Steps.{value_there}

-- bytes that are no text, or no JSON
pub data_refused : (bytes : List ℕ) → (IsUtf8 bytes → read bytes ≡ None) → data_of bytes ≡ Err BadLine
unfolding data_of
data_refused bytes none = by_test (is_utf8 bytes) refl
  where
    by_test : (b : Bool) → is_utf8 bytes ≡ b → cond b (ok_or (read bytes) BadLine) (Err BadLine) ≡ Err BadLine
    by_test true e = ap (λ o. ok_or o BadLine) (none (IsUtf8-from_is_utf8 bytes e))
    by_test false e = refl

-- bytes that are one JSON text
pub data_read : (bytes : List ℕ) (d : Data) → IsUtf8 bytes → read bytes ≡ Some d → data_of bytes ≡ Ok d
unfolding data_of
data_read bytes d utf8 is = rw (is_utf8-from_IsUtf8 bytes utf8, is) refl

-- bytes that a value was read from
pub data_spelled : (bytes : List ℕ) (d : Data) → data_of bytes ≡ Ok d → IsJson d bytes
unfolding data_of
data_spelled bytes d = go (is_utf8 bytes) refl
  where
    go : (b : Bool) → is_utf8 bytes ≡ b → cond b (ok_or (read bytes) BadLine) (Err BadLine) ≡ Ok d → IsJson d bytes
    go true e h = record { utf8 = IsUtf8-from_is_utf8 bytes e; value = value_there _ BadLine d h }
    go false e h = cc

-- no value is at the front of the tokens
pub none_read : (bytes : List ℕ) → json.value max_depth (tokens bytes) ≡ None → read bytes ≡ None
none_read bytes none = rw none refl

-- more follows the value
pub more_read : (bytes : List ℕ) (j : json.Json) (rest : List Token)
    → json.value max_depth (tokens bytes) ≡ Some (j, rest)
    → rest ≢ []
    → read bytes ≡ None
more_read bytes j [] is more = absurd (more refl)
more_read bytes j (t ∷ rest) is more = rw is refl

-- a token is left where one is read, and none where none is
pub some_left : (next : Option Next) (old new : List Token) → Yields old next new → is_some next ≡ true → old ≢ []
some_left None old new h some = absurd (cc)
some_left (Some t) old new h some = λ none. cc

pub none_left : (next : Option Next) (old new : List Token) → Yields old next new → is_some next ≡ false → old ≡ []
none_left None old new h none = h.0
none_left (Some t) old new h none = absurd (cc)

-- one value is there
pub one_read : (bytes : List ℕ) (j : json.Json)
    → json.value max_depth (tokens bytes) ≡ Some (j, [])
    → read bytes ≡ cond (is_in_range j) (Some (data_in j)) None
one_read bytes j is = rw is (in_range j)
