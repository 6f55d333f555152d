-- The JSON value of a line, and the parts that it must have, or the line is refused.
use Rattle.std.specs.Prelude.{ℕ, List, [], ◌∷◌, Bool, true, ◌&&◌, ◌==◌, if◌then◌else◌, bytes_eq, Option, Some, None, is_some, option_and_then, Result, Ok, Err}
use Rattle.std.specs.List.{list_any}
use Rattle.std.specs.Option.{ok_or}
use Rattle.std.specs.Str.{is_utf8}
use Rattle.serde_json.specs.Data.{Data, Items, no_items, item, Members, no_members, member}
use Rattle.serde_json.specs.Events.{items_len}
use Rattle.serde_json.specs.Find.{get, at, as_null, as_bool, as_str, as_u64, as_number, as_array, as_object}
use Rattle.serde_json.specs.Read.{read}
use Rattle.album_stamps.specs.declared.refusals.Refusal.{Refusal}
use Rattle.album_stamps.specs.declared.refusals.Refusal.TheVariants.{BadLine, BadRequest}
use Rattle.album_stamps.specs.Outcome.{◌>>=◌}

-- the value of a line: UTF-8, and one JSON text whose brackets are nested at most 127 deep
unfoldable pub data_of : List ℕ → Result Data Refusal
data_of bytes = if is_utf8 bytes then ok_or (read bytes) BadLine else Err BadLine

-- a test that must hold
abbrev pub guard : Bool → Result Bool Refusal
guard test = if test then Ok true else Err BadRequest

-- the name is one of these
abbrev pub is_among : List (List ℕ) → List ℕ → Bool
is_among names name = list_any (λ n. bytes_eq n name) names

-- every member's name is one of these
abbrev pub has_only : List (List ℕ) → Members → Bool
has_only names no_members = true
has_only names (member name value members) = is_among names name && has_only names members

-- an object with no other names than these
abbrev pub only_of : List (List ℕ) → Data → Result Bool Refusal
only_of names d = ok_or (as_object d) BadRequest >>= λ members. guard (has_only names members)

-- the member of an object that must be there
abbrev pub field_of : List ℕ → Data → Result Data Refusal
field_of name d = ok_or (get name d) BadRequest

-- an object with a member of this name
abbrev pub has : List ℕ → Data → Bool
has name d = is_some (get name d)

-- a member that may be left out, and is this then
abbrev pub member_or : {A : Type 0} → A → (Data → Result A Refusal) → Option Data → Result A Refusal
member_or other read None = Ok other
member_or other read (Some d) = read d

-- the item of a list that must be there
abbrev pub item_of : ℕ → Data → Result Data Refusal
item_of i d = ok_or (at i d) BadRequest

-- a text
abbrev pub text_of : Data → Result (List ℕ) Refusal
text_of d = ok_or (as_str d) BadRequest

-- a whole number that fits 64 bits, written with no point, exponent or minus
abbrev pub whole_of : Data → Result ℕ Refusal
whole_of d = ok_or (option_and_then as_u64 (as_number d)) BadRequest

-- true or false
abbrev pub truth_of : Data → Result Bool Refusal
truth_of d = ok_or (as_bool d) BadRequest

-- nothing
abbrev pub is_nothing : Data → Bool
is_nothing d = is_some (as_null d)

-- a list
abbrev pub is_list : Data → Bool
is_list d = is_some (as_array d)

abbrev pub list_of : Data → Result Items Refusal
list_of d = ok_or (as_array d) BadRequest

-- a list of so many items
abbrev pub sized : ℕ → Data → Result Bool Refusal
sized n d = list_of d >>= λ items. guard (items_len items == n)

-- the value under a name of an object, and the one at an index of a list, as `read` reads it
abbrev pub under : {A : Type 0} → (Data → Result A Refusal) → List ℕ → Data → Result A Refusal
under read name d = field_of name d >>= read

abbrev pub standing_at : {A : Type 0} → (Data → Result A Refusal) → ℕ → Data → Result A Refusal
standing_at read i d = item_of i d >>= read

-- each item of a list read, or the first refusal
abbrev pub each : {A : Type 0} → (Data → Result A Refusal) → Items → Result (List A) Refusal
each read no_items = Ok []
each read (item d items) = read d >>= λ first. each read items >>= λ others. Ok (first ∷ others)
