use Rattle.std.proofs.Common.{◌∙◌}
use Rattle.album_port.proofs.AuditLines.{one_more_line}
use Rattle.album_port.proofs.log.Log.append_all.Goals as goal

pub loop-of-preserved : goal.loop-of-preserved
loop-of-preserved g c = record {
  written =
      one_more_line _ _ _ c.loop-of.invariant.named _ _ c.loop-of.invariant.asked c.args.records.now c.loop-of.of-index c.of-item.result
      c.loop-of-test.true c.of-item.is _ _ _ c.loop-of.invariant.written c.in_ok-append.ensures.written;
  named = c.append.ensures.named ∙ c.loop-of.invariant.named;
  asked = c.append.ensures.asked ∙ c.loop-of.invariant.asked;
}
