-- How each bit of a question is decided.
use Rattle.std.specs.Prelude.{◌≡◌, ◌≤◌, ℕ, List, Bool, true, false, if◌then◌else◌, Option, Some, None}
use Rattle.album_access.specs.Bits.{has_bit}
use Rattle.album_access.specs.declared.masks.Mask.{Mask}
use Rattle.album_lists.specs.declared.lists.Ace.{Ace}
use Rattle.album_eval.specs.declared.verdicts.Verdict.{Verdict}
use Rattle.album_eval.specs.declared.verdicts.Verdict.TheVariants as verdict
use Rattle.album_eval.specs.Matching.{Case}
use Rattle.album_eval.specs.Policies.{is_given}
use Rattle.album_eval.specs.Verdict.{first_mention, is_denied_at}
use Rattle.album_explain.specs.declared.decisions.Decision.{Decision}
use Rattle.album_explain.specs.declared.decisions.Decision.TheVariants.{Given, AllowedBy, DeniedBy, DeniedAtEnd}

-- by the first mention of a bit: the entry there allows it or denies it, and without one it is denied at the end
abbrev pub decision_by : List Ace → Option ℕ → Decision
decision_by entries None = DeniedAtEnd
decision_by entries (Some i) = if is_denied_at entries i then DeniedBy i else AllowedBy i

abbrev pub decision_at : Case → List Ace → ℕ → Decision
decision_at case entries bit = decision_by entries (first_mention case bit entries)

-- how a bit is decided
unfoldable pub decision : Case → List Ace → ℕ → Decision
decision case entries bit = if is_given case bit then Given else decision_at case entries bit

abbrev pub allows : Decision → Bool
allows Given = true
allows (AllowedBy i) = true
allows (DeniedBy i) = false
allows DeniedAtEnd = false

-- a bit of the mask is denied by the entry at the index
abbrev pub HasDenied : (ℕ → Decision) → Mask → ℕ → Type 0
HasDenied decided mask i = (bit : ℕ) × (has_bit mask bit ≡ true) × (decided bit ≡ DeniedBy i)

-- What the decisions on the bits of a mask add up to. Granted: each is allowed. DeniedBy: the least index of an entry
-- that denies one. DeniedAtEnd: no entry denies one, and one is denied at the end.
abbrev pub AddsUp : (ℕ → Decision) → Mask → Verdict → Type 0
AddsUp decided mask verdict.Granted = (bit : ℕ) → has_bit mask bit ≡ true → allows (decided bit) ≡ true
AddsUp decided mask (verdict.DeniedBy i) =
    HasDenied decided mask i × ((k : ℕ) → HasDenied decided mask k → i ≤ k)
AddsUp decided mask verdict.DeniedAtEnd =
    ((k : ℕ) → HasDenied decided mask k → ⊥)
    × (bit : ℕ)
    × (has_bit mask bit ≡ true)
    × (decided bit ≡ DeniedAtEnd)
