use Rattle.std.proofs.Common.{◌≡◌, map, take}
use Rattle.album_terminate.specs.Asking.{check_to}
use Rattle.album_terminate.proofs.asking.checks.Given as goal

abbrev pub invariant-loop-other : goal.invariant-loop-other
invariant-loop-other l = l.messages.items ≡ map (check_to l.part l.stamp) (take l.other-index l.others)
