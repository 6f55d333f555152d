use Rattle.std.proofs.Common.{◌≡◌, ℕ, ◌≤◌, min, All, get_or, take, sym, ◌∙◌, subst, arith}
use Rattle.std.proofs.lemmas.List.{take_all, take_more}
use Rattle.std.proofs.lemmas.List.Elements.{All-push, All-weaker}
use Rattle.album_keepers.proofs.keeper.least_of.Goals as goal

-- one stamp more
pub loop-stamp-preserved : goal.loop-stamp-preserved
loop-stamp-preserved c = record {
  below =
      let i = c.loop-stamp.stamp-index in
      let stamps = c.args.stamps.now in
      let last = c.stamp-item.result in
      let before = c.loop-stamp.least in
      let least = c.min-least.result in
      let is : least ≡ min before c.value.result = c.min-least.ensures in
      let value : c.value.result ≡ get_or stamps i last = c.value.ensures.value ∙ c.stamp-item.is in
      subst (All (λ (s : ℕ). least ≤ s)) (sym (take_more stamps i last c.loop-stamp-test.true))
      (All-push (λ (s : ℕ). least ≤ s) (take i stamps) (get_or stamps i last)
      (All-weaker (λ (s : ℕ). before ≤ s) (λ (s : ℕ). least ≤ s) (λ s h. omega (arith, is, h)) (take i stamps) c.loop-stamp.invariant.below)
      (omega (arith, is, value)));
}

pub returns : goal.returns
returns c =
    subst (All (λ (s : ℕ). c.loop-stamp.least ≤ s)) (take_all c.loop-stamp.stamp-index c.args.stamps.now c.loop-stamp-test.false)
    c.loop-stamp.invariant.below
