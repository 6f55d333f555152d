use Rattle.std.proofs.Common.{arith}
use Rattle.std.proofs.lemmas.Bool.Decides.{nat_tests}
use Rattle.album_lines.proofs.Numerals.{nothing_read, is_small, one_more, read_decimal, one_zero}
use Rattle.album_lines.proofs.tokens.number_at_front.Goals as goal

pub returns-then-text-eq48 : goal.returns-then-text-eq48
returns-then-text-eq48 c = (omega arith, one_zero c.args.text.now (grind (arith, nat_tests)) c.if-text-eq48.true)

pub overflow_mul-n : goal.overflow_mul-n
overflow_mul-n c = omega (arith, is_small c.args.text.now c.loop-len.n c.loop-len.len c.loop-len.invariant.read (omega arith))

pub overflow_add-n : goal.overflow_add-n
overflow_add-n c =
    omega (arith, is_small c.args.text.now c.loop-len.n c.loop-len.len c.loop-len.invariant.read (omega arith), c.if-is_ascii_digit.ensures.cases, c.from.ensures)

pub loop-len-init : goal.loop-len-init
loop-len-init c = record { read = nothing_read c.args.text.now; short = omega arith }

pub loop-len-preserved : goal.loop-len-preserved
loop-len-preserved c = record {
  read = one_more c.args.text.now c.loop-len.n c.loop-len.len c.from.result c.loop-len.invariant.read (omega arith)
      c.if-is_ascii_digit.ensures.cases c.from.ensures;
  short = omega arith;
}

pub returns-else-len-eq0 : goal.returns-else-len-eq0
returns-else-len-eq0 c =
    read_decimal c.args.text.now c.loop-len.n c.loop-len.len c.loop-len.invariant.read (omega arith) c.loop-len.invariant.short c.if-text-eq48.false
