use Rattle.std.proofs.Common.{◌≡◌, map, take}
use Rattle.album_writer.specs.Writing.{places_in, commit_to, commit_round}
use Rattle.album_writer.proofs.writing.Writing.commits.Given as goal

abbrev pub invariant-loop-place : goal.invariant-loop-place
invariant-loop-place l =
    l.messages.items ≡ map (commit_to (commit_round l.self)) (take l.place-index (places_in l.self))
