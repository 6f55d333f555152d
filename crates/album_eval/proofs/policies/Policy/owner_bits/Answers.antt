use Rattle.album_eval.proofs.Asking.{no_bits, two_bits}
use Rattle.album_eval.proofs.policies.Policy.owner_bits.Goals as goal

pub returns-in-Three : goal.returns-in-Three
returns-in-Three c = rw c.in-Three.is (two_bits c.union-in-Three.result (c.union-in-Three.ensures tt))

pub returns-in-Two : goal.returns-in-Two
returns-in-Two c = rw c.in-Two.is (two_bits c.union.result (c.union.ensures tt))

pub returns-in-One : goal.returns-in-One
returns-in-One c = rw c.in-One.is (no_bits c.empty.result (c.empty.ensures tt))
