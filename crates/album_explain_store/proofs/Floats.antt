-- No line that explains another has a float. For `explain_taken`.
use Rattle.std.proofs.Common.{◌≡◌, ℕ, true, false, refl}
use Rattle.serde_json.specs.Written.{has_float}
use Rattle.album_explain_store.specs.declared.explanations.Kind.{Kind}
use Rattle.album_explain_store.specs.declared.explanations.Kind.TheVariants as kind
use Rattle.album_explain_store.specs.declared.explanations.Taken.{Taken}
use Rattle.album_explain_store.specs.Explanations.{taken_json}

pub no_float_in_taken : (number : ℕ) (taken : Taken) → has_float (taken_json number taken) ≡ false
no_float_in_taken number taken = go taken.kind
  where
    go : (k : Kind) → has_float (taken_json number (record taken { kind = k })) ≡ false
    go (kind.Open true) = refl
    go (kind.Open false) = refl
    go kind.Item = refl
    go kind.Begin = refl
    go kind.Ask = refl
    go kind.Deliver = refl
    go kind.Sweep = refl
    go kind.Stop = refl
    go kind.Restart = refl
    go kind.Trim = refl
    go kind.Who = refl
    go kind.Pending = refl
    go kind.Dump = refl
