use Rattle.std.proofs.Common.{◌∙◌, sym, ap, arith}
use Rattle.album_items.specs.Openings.{Row}
use Rattle.album_partition.specs.Bases.{is_base}
use Rattle.album_partition.proofs.BaseLemmas.{one_fails, all_based, one_more}
use Rattle.album_partition.proofs.stored.Stored.are_bases.Goals as goal

pub returns-then-not-is_base : goal.returns-then-not-is_base
returns-then-not-is_base c =
    one_fails c.args.self.now c.args.stamp c.args.rows.now c.args.bases.now c.loop-index.index c.index-rows-index.result c.index-bases-index.result
    (omega (arith, c.loop-index-test.true)) (omega (arith, c.if-rows-bases.false)) c.index-rows-index.is c.index-bases-index.is
    (ap (λ (w : Row). is_base c.args.self.now c.args.stamp w.0 c.index-bases-index.result) c.index-rows-index.is ∙ sym c.if-not-is_base.ensures)

pub loop-index-preserved : goal.loop-index-preserved
loop-index-preserved c =
    one_more c.args.self.now c.args.stamp c.args.rows.now c.args.bases.now c.loop-index.index c.index-rows-index.result c.index-bases-index.result
    (omega (arith, c.loop-index-test.true)) (omega (arith, c.if-rows-bases.false)) c.index-rows-index.is c.index-bases-index.is
    (ap (λ (w : Row). is_base c.args.self.now c.args.stamp w.0 c.index-bases-index.result) c.index-rows-index.is ∙ sym c.if-not-is_base.ensures) c.loop-index.invariant

pub returns : goal.returns
returns c =
    all_based c.args.self.now c.args.stamp c.args.rows.now c.args.bases.now c.loop-index.index
    (omega (arith, c.loop-index-test.false)) (omega (arith, c.if-rows-bases.false)) c.loop-index.invariant
