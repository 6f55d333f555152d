use Rattle.std.proofs.Common.{◌≡◌, map, take}
use Rattle.album_permits.specs.declared.outs.Out.TheVariants as out
use Rattle.album_world.proofs.outputs.noted.Given as goal

abbrev pub invariant-loop-note : goal.invariant-loop-note
invariant-loop-note l = l.outs.items ≡ map (out.Noted l.number) (take l.note-index l.notes)
