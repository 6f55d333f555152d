-- The tokens of what is left of a text, by what comes before it.
use Rattle.std.specs.Prelude.{◌≡◌, ◌||◌, ◌==◌, ℕ, List, Bool, true, false}
use Rattle.json.specs.Token.{Token}
use Rattle.json.specs.Lex as lexed
use Rattle.json.specs.Lex.{between, lex, punctuate, may_begin, may_close, begins_colon}
use Rattle.album_lines.specs.declared.tokens.Place.{Place}
use Rattle.album_lines.specs.declared.tokens.Place.TheVariants.{Fresh, AfterComma, AfterValue}

-- what comes before it: a bracket or a colon, a comma, or a value
abbrev pub place_of : Place → lexed.Place
place_of Fresh = lexed.fresh
place_of AfterComma = lexed.after_comma
place_of AfterValue = lexed.after_value

abbrev pub tokens_at : Place → List ℕ → List Token
tokens_at place text = punctuate (place_of place) (lex between text)

-- the tokens are those of a text at whose front a value or a key may begin, or an object or a list may close
abbrev pub MayBegin : List Token → List ℕ → Type 0
MayBegin ts text = (p : lexed.Place) × (may_begin p ≡ true) × (ts ≡ punctuate p (lex between text))

abbrev pub MayClose : List Token → List ℕ → Type 0
MayClose ts text = (p : lexed.Place) × (may_close p ≡ true) × (ts ≡ punctuate p (lex between text))

-- the tokens are those after a value that ends where this text begins
abbrev pub GoesOn : List ℕ → List Token → Type 0
GoesOn text ts = (begins_colon (lex between text) ≡ false) × (punctuate lexed.after_value (lex between text) ≡ ts)

-- a byte between tokens: a space, a tab, a newline or a carriage return
abbrev pub is_blank : ℕ → Bool
is_blank byte = (byte == 32) || ((byte == 9) || ((byte == 10) || (byte == 13)))
