use Rattle.std.proofs.Common.{arith}
use Rattle.album_judge.proofs.Parts.{more, within, cut_short, cut_kept}
use Rattle.album_judge.proofs.writing.write_text.Goals as goal

pub loop-at-preserved : goal.loop-at-preserved
loop-at-preserved g c = (
  within _ _ _ c.loop-at.invariant.0 c.in-Ok.ensures.bound,
  more _ _ _ c.args.text.now c.loop-at.at c.in-Ok.taken c.loop-at.invariant.1 c.in-Ok.ensures.bytes,
)

-- a write took no byte
pub returns-in-Ok-eq0-clause-err : goal.returns-in-Ok-eq0-clause-err
returns-in-Ok-eq0-clause-err g c =
    cut_short _ _ c.args.text.now _ (omega arith)
    (more _ _ _ c.args.text.now c.loop-at.at c.in-Ok-eq0.field-0 c.loop-at.invariant.1 c.in-Ok-eq0.ensures.bytes)

-- a write failed
pub returns-in-Err-clause-err : goal.returns-in-Err-clause-err
returns-in-Err-clause-err g c =
    cut_kept _ _ _ c.args.text.now c.loop-at.at c.loop-at-test.true c.loop-at.invariant.1 c.in-Err.ensures.bytes
