use Rattle.album_eval.proofs.Asking.{without_has}
use Rattle.album_eval.proofs.verdicts.without.Goals as goal

pub returns : goal.returns
returns c = without_has c.args.mask c.args.other c.from_bits_retain.result (rw (c.bits.ensures tt) at c.bits.type_inv) (rw (c.bits-2.ensures tt) at c.bits-2.type_inv) (rw (c.bits.ensures tt, c.bits-2.ensures tt) at (c.from_bits_retain.ensures tt))
