use Rattle.std.proofs.Common.{◌+◌, ℕ, max, ap, sym, ◌∙◌, subst, take}
use Rattle.album_epochs.specs.Folding.{IsGreatestOf}
use Rattle.album_epochs.proofs.GreatestLemmas.{none_yet, greatest_more, all_greatest}
use Rattle.album_epochs.proofs.greatest.greatest_in.Goals as goal

pub loop-mark-init : goal.loop-mark-init
loop-mark-init c = none_yet c.args.marks.now c.zero-greatest.result c.zero-greatest.ensures

pub loop-mark-preserved : goal.loop-mark-preserved
loop-mark-preserved c =
    subst (λ (n : ℕ). IsGreatestOf (take (c.loop-mark.mark-index + 1) c.args.marks.now) n)
    (sym (c.later-greatest.ensures ∙ ap (max c.loop-mark.greatest) c.stamp_in.ensures))
    (greatest_more c.args.marks.now c.loop-mark.mark-index c.mark-item.result c.loop-mark.greatest c.loop-mark-test.true c.mark-item.is c.loop-mark.invariant)

pub returns : goal.returns
returns c = all_greatest c.args.marks.now c.loop-mark.mark-index c.loop-mark.greatest c.loop-mark-test.false c.loop-mark.invariant
