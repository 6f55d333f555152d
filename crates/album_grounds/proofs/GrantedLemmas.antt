-- What is kept was asked for, `as_asked`, and asked knowing what was kept before, `kept_was_known`.
use Rattle.std.proofs.Common.{◌≡◌, ◌<◌, ◌≤◌, ℕ, true, Contains, Some, sym, ◌∙◌, subst}
use Rattle.album_items.specs.Openings.{Row}
use Rattle.album_items.specs.declared.values.Value.{Value}
use Rattle.album_eval.specs.declared.policies.Policy.{Policy}
use Rattle.album_listing.specs.ViewLookups.{stamp_seen}
use Rattle.album_partition.specs.Bases.{IsMadeOn}
use Rattle.album_partition.specs.Marks.{state_of}
use Rattle.album_terminate.specs.declared.deciding.StampState.TheVariants as state
use Rattle.album_permits.specs.Permits.{PermitState, permit_on}
use Rattle.album_stamps.specs.Stamps.{client_number}
use Rattle.album_passes.specs.Cuts.{Cut, Announced, prefix_for, announced_for, IsBaseOf, IsSound}
use Rattle.album_passes.specs.Reads.{written_value}
use Rattle.album_passes.proofs.PreparedLemmas.{version_announced, version_based}
use Rattle.album_grounds.specs.Grounds.{items_of, write_of, IsKept}
use Rattle.album_grounds.specs.Granted.{IsPermitFor, AreGranted, IsEffectOn, IsAsAsked, IsAskedKnowing}
use Rattle.album_grounds.proofs.GoingOnLemmas.{kept_written, is_committed}
use Rattle.album_grounds.proofs.WriteLemmas.{pair_is}

same_announced : (c : Cut) (t : ℕ) (a b : Announced) → announced_for c t ≡ Some a → announced_for c t ≡ Some b → a ≡ b
same_announced c t a b e f = cc (e, f)

-- the base that is announced is what the view shows
base_seen : (permit : PermitState) (t : ℕ) (w : Row) (b : ℕ) → IsBaseOf (write_of permit t) w b → stamp_seen permit.view.rows w.0 ≡ b
base_seen permit t w b h =
    (pair_is (λ (row : Row). stamp_seen permit.view.rows row.0) (write_of permit t).writes w b h).1

effect_on : (c : Cut) (t i : ℕ) (v : Value) (a : Announced) (permit : PermitState) → IsSound c → announced_for c t ≡ Some a
    → Contains a.writes (i, v) → written_value c i t ≡ Some v → IsPermitFor t a permit → IsEffectOn c t i v permit
effect_on c t i v a permit s announced wrote there h = record {
  granted = h.granted;
  written = subst (λ (y : Announced). Contains y.writes (i, v)) h.writes wrote;
  based = λ checked done. (let b = version_based c i t v s checked there done in
      let all : b.0 ≡ write_of permit t = same_announced c t b.0 a b.1 announced ∙ h.writes in
      let base : stamp_seen permit.view.rows i ≡ b.2.0 =
      base_seen permit t (i, v) b.2.0 (subst (λ (y : Announced). IsBaseOf y (i, v) b.2.0) all b.2.1) in
      subst (λ (y : ℕ). IsMadeOn (prefix_for c i) i t y) (sym base) b.2.2);
}

pub as_asked : (policy : Policy) (n : ℕ) (c : Cut) (t i : ℕ) (v : Value) → IsSound c → AreGranted policy n c → client_number t ≡ n
    → written_value c i t ≡ Some v → IsAsAsked policy c t i v
as_asked policy n c t i v s granted own there =
    let a = version_announced c i t v s there in
    let w = granted t a.0 own a.1 in
    record {
      principal = w.principal;
      ask = w.ask;
      begun = w.begun;
      then = w.then;
      since = w.since;
      permitted = record {
        rows = w.permitted.rows;
        seen = w.permitted.seen;
        view = w.permitted.view;
        holds = effect_on c t i v a.0 (permit_on policy w.principal w.ask w.permitted.rows) s a.1 a.2 there w.permitted.holds;
      };
    }

-- and who wrote over what is kept had seen it
pub kept_was_known : (policy : Policy) (n : ℕ) (c : Cut) (permit : PermitState) (s i t : ℕ) (v : Value) → IsSound c → c.checked ≡ true → 1 ≤ c.parts
    → IsKept c permit s → Contains (items_of permit s) i → AreGranted policy n c → client_number t ≡ n
    → written_value c i t ≡ Some v → state_of (prefix_for c i) t ≡ state.Committed → s < t → IsAskedKnowing policy c s t i v
kept_was_known policy n c permit s i t v sound checked low kept of granted own there done less =
    let w = kept_written c permit s i sound low kept of in
    let a = as_asked policy n c t i v sound granted own there in
    let h = a.permitted.holds in
    record {
      principal = a.principal;
      ask = a.ask;
      begun = a.begun;
      then = a.then;
      since = a.since;
      permitted = record {
        rows = a.permitted.rows;
        seen = a.permitted.seen;
        view = a.permitted.view;
        holds = (h, (h.based checked done).next s (is_committed (prefix_for c i) s w.0) w.1 less);
      };
    }
