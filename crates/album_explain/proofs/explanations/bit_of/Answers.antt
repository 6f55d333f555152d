use Rattle.std.proofs.Common.{arith}
use Rattle.std.proofs.lemmas.Nat.{trailing_le}
use Rattle.album_explain.proofs.explanations.bit_of.Goals as goal

pub returns-clause-small : goal.returns-clause-small
returns-clause-small c = let low = trailing_le 32 c.bits.result in omega (arith, low)
