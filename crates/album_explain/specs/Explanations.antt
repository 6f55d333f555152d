-- The lines that explain.
use Rattle.std.specs.Prelude.{ℕ, List, [], ◌∷◌, codes, map, filter, string_bytes, Bool, Option, Some, None}
use Rattle.std.specs.Int.{w32, trailing_zeros}
use Rattle.serde_json.specs.Data.{Data, Members, string, object, no_members, member}
use Rattle.album_stamps.specs.declared.refusals.Refusal.{Refusal}
use Rattle.album_stamps.specs.Refusals.{name_of, number_of}
use Rattle.album_access.specs.Bits.{mask_table, has_bit}
use Rattle.album_access.specs.declared.masks.Mask.{Mask}
use Rattle.album_lists.specs.declared.lists.Ace.{Ace}
use Rattle.album_lists.specs.declared.lists.Holder.{Holder}
use Rattle.album_eval.specs.Matching.{Case}
use Rattle.album_eval.specs.declared.verdicts.Verdict.{Verdict}
use Rattle.album_eval.specs.declared.verdicts.Verdict.TheVariants as verdict
use Rattle.album_lines.specs.Spelling.{whole_data, list_data}
use Rattle.album_explain.specs.declared.decisions.Decision.{Decision}
use Rattle.album_explain.specs.declared.decisions.Decision.TheVariants as decision
use Rattle.album_explain.specs.declared.places.Found.{Found}
use Rattle.album_explain.specs.declared.explanations.BitRow.{BitRow}
use Rattle.album_explain.specs.Names.{bit_name}
use Rattle.album_explain.specs.Decisions.{decision}

-- ---- a refusal

-- a text that says where, and the number there, if there is one
abbrev pub Place : Type 0
Place = List ℕ × Option ℕ

abbrev pub place_of : Found → Place
place_of found = (string_bytes found.at, found.value)

-- what the line of a refusal says in addition to its place
abbrev pub refused_fields : ℕ → Refusal → Members
refused_fields number refusal =
    member (codes "line") (whole_data number) (
    member (codes "name") (string (name_of refusal)) (
    member (codes "refused") (whole_data (number_of refusal)) no_members))

-- a line of this number is refused at this place
abbrev pub refused_at : ℕ → Refusal → List ℕ → Option ℕ → Data
refused_at number refusal at None = object (
    member (codes "at") (string at) (
    member (codes "line") (whole_data number) (
    member (codes "name") (string (name_of refusal)) (
    member (codes "refused") (whole_data (number_of refusal)) no_members))))
refused_at number refusal at (Some value) = object (
    member (codes "at") (string at) (
    member (codes "line") (whole_data number) (
    member (codes "name") (string (name_of refusal)) (
    member (codes "refused") (whole_data (number_of refusal)) (
    member (codes "value") (whole_data value) no_members)))))

-- the same, with the place if it is known
abbrev pub refused_json : ℕ → Refusal → Option Place → Data
refused_json number refusal None = object (refused_fields number refusal)
refused_json number refusal (Some place) = refused_at number refusal place.0 place.1

-- ---- a verdict

-- a bit that is asked: its name, and how it is decided
abbrev pub Row : Type 0
Row = List ℕ × Decision

abbrev pub bit_row : BitRow → Row
bit_row row = (row.name.now, row.decision)

-- the number of the bit that a value of a table is
abbrev pub bit_of : ℕ → ℕ
bit_of value = trailing_zeros w32 value

-- a row of the table whose bit the mask has
abbrev pub is_row : Mask → List ℕ × ℕ → Bool
is_row mask named = has_bit mask (bit_of named.1)

-- the bit's name on an object of this kind, and its decision
abbrev pub row_of : Case → List Ace → Holder → List ℕ × ℕ → Row
row_of case entries holder named = (bit_name holder named.0 named.1, decision case entries (bit_of named.1))

-- the bits of the mask, in the order of the table, which is rising
abbrev pub bit_rows : Case → List Ace → Holder → Mask → List Row
bit_rows case entries holder mask = map (row_of case entries holder) (filter (is_row mask) mask_table)

abbrev pub decision_word : Decision → List ℕ
decision_word decision.Given = codes "allowed"
decision_word (decision.AllowedBy i) = codes "allowed"
decision_word (decision.DeniedBy i) = codes "denied"
decision_word decision.DeniedAtEnd = codes "denied"

-- the index of the entry that decides; `owner`, where the policy gives the bit; or the list's `end`
abbrev pub decision_at_json : Decision → Data
decision_at_json decision.Given = string (codes "owner")
decision_at_json (decision.AllowedBy i) = whole_data i
decision_at_json (decision.DeniedBy i) = whole_data i
decision_at_json decision.DeniedAtEnd = string (codes "end")

-- [name, word, at]
abbrev pub bit_json : Row → Data
bit_json row = list_data (string row.0 ∷ string (decision_word row.1) ∷ decision_at_json row.1 ∷ [])

abbrev pub bits_json : List Row → Data
bits_json rows = list_data (map bit_json rows)

-- the groups that the principal is in, rising
abbrev pub groups_json : List ℕ → Data
groups_json groups = list_data (map whole_data groups)

abbrev pub denied_json : ℕ → Data → List ℕ → List Row → Data
denied_json number at groups rows = object (
    member (codes "answer") (string (codes "denied")) (
    member (codes "at") at (
    member (codes "bits") (bits_json rows) (
    member (codes "groups") (groups_json groups) (
    member (codes "line") (whole_data number) no_members)))))

-- the verdict on a line of this number, how its bits are decided, and with which groups
abbrev pub explanation_json : ℕ → Verdict → List ℕ → List Row → Data
explanation_json number verdict.Granted groups rows = object (
    member (codes "answer") (string (codes "granted")) (
    member (codes "bits") (bits_json rows) (
    member (codes "groups") (groups_json groups) (
    member (codes "line") (whole_data number) no_members))))
explanation_json number (verdict.DeniedBy index) groups rows = denied_json number (whole_data index) groups rows
explanation_json number verdict.DeniedAtEnd groups rows = denied_json number (string (codes "end")) groups rows
