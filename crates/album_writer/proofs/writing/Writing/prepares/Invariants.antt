use Rattle.std.proofs.Common.{◌≡◌, map, take}
use Rattle.album_writer.specs.Writing.{places_in, prepare_to}
use Rattle.album_writer.proofs.writing.Writing.prepares.Given as goal

abbrev pub invariant-loop-place : goal.invariant-loop-place
invariant-loop-place l = l.messages.items ≡ map (prepare_to l.self) (take l.place-index (places_in l.self))
