use Rattle.std.proofs.Common.{◌+◌, ℕ, sym, subst}
use Rattle.album_epochs.proofs.GreatestLemmas.{IsGreatestBefore, none_before, each_more, all_each}
use Rattle.album_epochs.proofs.greatest.greatest_stamp.Goals as goal

pub loop-history-init : goal.loop-history-init
loop-history-init c = none_before c.args.histories.now c.zero-greatest.result c.zero-greatest.ensures

pub loop-history-preserved : goal.loop-history-preserved
loop-history-preserved c =
    subst (λ (n : ℕ). IsGreatestBefore c.args.histories.now (c.loop-history.history-index + 1) n) (sym c.later-greatest.ensures)
    (each_more c.args.histories.now c.loop-history.history-index c.loop-history.greatest c.greatest_in.result c.history-item.result
    c.loop-history-test.true c.history-item.is c.loop-history.invariant c.greatest_in.ensures)

pub returns-clause-above : goal.returns-clause-above
returns-clause-above c = all_each c.args.histories.now c.loop-history.history-index c.loop-history.greatest c.loop-history-test.false c.loop-history.invariant

pub returns-clause-reached : goal.returns-clause-reached
returns-clause-reached c = c.loop-history.invariant.reached
