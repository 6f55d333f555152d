use Rattle.std.proofs.Common.{◌<◌, max, arith, ap, sym, ◌∙◌, length-set, get_or, set, get_or-set_same, get_or-set_other}
use native.Mathlib.Decide.{ℕ_discrete}
use mathlib.Core.Logic.{dite}
use Rattle.album_passes.proofs.lengths.greater_each.Goals as goal

-- at the index that was set, and at another
pub loop-part-preserved : goal.loop-part-preserved
loop-part-preserved c = record {
  width = length-set c.loop-part.all c.loop-part.part c.max.result ∙ c.loop-part.invariant.width;
  greater = λ q l. dite (ℕ_discrete q c.loop-part.part)
      (λ e. let at : c.loop-part.part < 16 = c.loop-part-test.true in ap (λ z. get_or (set c.loop-part.all c.loop-part.part c.max.result) z 0) e ∙ get_or-set_same c.loop-part.all c.loop-part.part c.max.result 0 (omega arith) ∙ c.max.ensures ∙ ap (λ z. max (get_or c.args.one.now z 0) (get_or c.args.other.now z 0)) (sym e))
      (λ n. get_or-set_other c.loop-part.all c.loop-part.part q c.max.result 0 n ∙ c.loop-part.invariant.greater q (omega arith));
}
