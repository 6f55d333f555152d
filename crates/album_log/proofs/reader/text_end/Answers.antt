-- Behind `end` is no newline, and the loop stops behind one or at 0.
use Rattle.std.proofs.Common.{sym, arith}
use Rattle.album_log.proofs.ReadLemmas.{text_end_is}
use Rattle.album_log.proofs.reader.text_end.Goals as goal

pub returns-else-text-end-ne10 : goal.returns-else-text-end-ne10
returns-else-text-end-ne10 c =
    sym (text_end_is c.args.text.now c.loop-end.end c.loop-end.invariant.0 c.loop-end.invariant.1 (λ _. c.if-text-end-ne10.false))

pub returns-after-loop-end : goal.returns-after-loop-end
returns-after-loop-end c =
    sym (text_end_is c.args.text.now c.loop-end.end c.loop-end.invariant.0 c.loop-end.invariant.1 (λ some. absurd (omega arith)))
