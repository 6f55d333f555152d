-- No zero was passed, and the loop stops at one or at the end.
use Rattle.std.proofs.Common.{sym, arith}
use Rattle.album_log.proofs.ReadLemmas.{first_zero_is}
use Rattle.album_log.proofs.reader.first_zero.Goals as goal

pub returns-then-byte-eq0-clause-first : goal.returns-then-byte-eq0-clause-first
returns-then-byte-eq0-clause-first c =
    sym (first_zero_is c.args.bytes.now c.loop-i.i (omega arith) c.loop-i.invariant (λ _. c.if-byte-eq0.true))

pub returns-clause-first : goal.returns-clause-first
returns-clause-first c =
    sym (first_zero_is c.args.bytes.now _ (omega arith) (λ k low. c.loop-i.invariant k (omega arith)) (λ low. absurd (omega arith)))
