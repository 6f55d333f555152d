use Rattle.std.proofs.Common.{All, take}
use Rattle.album_wire.specs.Spellable.{IsSpellableMember}
use Rattle.album_wire.proofs.spellable.members_fit.Given as goal

abbrev pub invariant-loop-member : goal.invariant-loop-member
invariant-loop-member l = All IsSpellableMember (take l.member-index l.members)
