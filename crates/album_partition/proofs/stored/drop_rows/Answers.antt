use Rattle.std.proofs.Common.{subst, arith}
use Rattle.std.proofs.lemmas.List.{take_all}
use Rattle.album_partition.proofs.StoredLemmas.{HasDropped, nothing_dropped, dropped_more, dropped_all}
use Rattle.album_partition.proofs.stored.drop_rows.Goals as goal

pub loop-row-init : goal.loop-row-init
loop-row-init c = nothing_dropped _ _

pub loop-row-preserved : goal.loop-row-preserved
loop-row-preserved c = dropped_more _ _ _ _ _ _ _ _ c.loop-row-test.true c.row-item.is c.loop-row.invariant c.drop_stamp.ensures

pub returns : goal.returns
returns c =
    dropped_all _ _ _ _ c.requires
    (subst (HasDropped c.args.versions.now c.loop-row.versions c.args.stamp) (take_all c.loop-row.row-index c.args.rows.now (omega arith)) c.loop-row.invariant)
