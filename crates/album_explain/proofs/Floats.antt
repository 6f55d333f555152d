-- No line that explains has a float. For `write_refused`: `no_float_in_refused`; for `write_explanation`:
-- `no_float_in_explanation`.
use Rattle.std.proofs.Common.{◌≡◌, ℕ, List, [], ◌∷◌, map, false, Some, None, Option, refl}
use Rattle.serde_json.specs.Data.{string}
use Rattle.serde_json.specs.Written.{has_float, items_have_float}
use Rattle.serde_json.specs.View.{items_of}
use Rattle.album_stamps.specs.declared.refusals.Refusal.{Refusal}
use Rattle.album_eval.specs.declared.verdicts.Verdict.{Verdict}
use Rattle.album_eval.specs.declared.verdicts.Verdict.TheVariants as verdict
use Rattle.album_lines.specs.Spelling.{list_data, whole_data}
use Rattle.album_explain.specs.declared.decisions.Decision.{Decision}
use Rattle.album_explain.specs.declared.decisions.Decision.TheVariants as decision
use Rattle.album_explain.specs.Explanations.{Place, Row, refused_at, refused_json, decision_word, decision_at_json, bit_json, explanation_json}

at_place : (number : ℕ) (refusal : Refusal) (at : List ℕ) (value : Option ℕ) → has_float (refused_at number refusal at value) ≡ false
at_place number refusal at None = refl
at_place number refusal at (Some value) = refl

pub no_float_in_refused : (number : ℕ) (refusal : Refusal) (place : Option Place) → has_float (refused_json number refusal place) ≡ false
no_float_in_refused number refusal None = refl
no_float_in_refused number refusal (Some place) = at_place number refusal place.0 place.1

decided : (name : List ℕ) (d : Decision) → has_float (list_data (string name ∷ string (decision_word d) ∷ decision_at_json d ∷ [])) ≡ false
decided name decision.Given = refl
decided name (decision.AllowedBy i) = refl
decided name (decision.DeniedBy i) = refl
decided name decision.DeniedAtEnd = refl

in_rows : (rows : List Row) → items_have_float (items_of (map bit_json rows)) ≡ false
in_rows [] = refl
in_rows (row ∷ rows) = rw (decided row.0 row.1, in_rows rows) refl

in_groups : (groups : List ℕ) → items_have_float (items_of (map whole_data groups)) ≡ false
in_groups [] = refl
in_groups (group ∷ groups) = rw (in_groups groups) refl

pub no_float_in_explanation : (number : ℕ) (v : Verdict) (groups : List ℕ) (rows : List Row)
    → has_float (explanation_json number v groups rows) ≡ false
no_float_in_explanation number verdict.Granted groups rows = rw (in_rows rows, in_groups groups) refl
no_float_in_explanation number (verdict.DeniedBy i) groups rows = rw (in_rows rows, in_groups groups) refl
no_float_in_explanation number verdict.DeniedAtEnd groups rows = rw (in_rows rows, in_groups groups) refl
