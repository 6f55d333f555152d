use Rattle.std.proofs.Common.{refl, ◌∙◌}
use Rattle.album_eval.specs.Policies.{is_given}
use Rattle.album_eval.proofs.Asking.{no_bits}
use Rattle.album_eval.proofs.verdicts.given.Goals as goal

pub returns-then-owns : goal.returns-then-owns
unfolding is_given
returns-then-owns c = λ bit. (let is = c.if-owns.ensures in c.owner_bits.ensures bit ∙ rw (← is) refl)

pub returns-else-owns : goal.returns-else-owns
unfolding is_given
returns-else-owns c = λ bit. (let is = c.if-owns.ensures in no_bits c.empty.result (c.empty.ensures tt) bit ∙ rw (← is) refl)
