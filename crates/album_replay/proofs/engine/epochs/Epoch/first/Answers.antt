use Rattle.album_replay.proofs.Standing.{first_is, led_first}
use Rattle.album_replay.proofs.engine.epochs.Epoch.first.Goals as goal

pub invariant_of-result : goal.invariant_of-result
invariant_of-result c = led_first c.args.opening c.in_ok-world.world c.in_ok-world.ensures

pub returns : goal.returns
returns c = first_is c.args.opening c.args.trace c.in_ok-world.world c.in_ok-world.ensures
