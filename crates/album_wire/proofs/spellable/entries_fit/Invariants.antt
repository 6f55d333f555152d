use Rattle.std.proofs.Common.{All, take}
use Rattle.album_lists.specs.declared.lists.Ace.{Ace}
use Rattle.album_wire.specs.Spellable.{IsSpellableWho}
use Rattle.album_wire.proofs.spellable.entries_fit.Given as goal

abbrev pub invariant-loop-entry : goal.invariant-loop-entry
invariant-loop-entry l = All (λ (e : Ace). IsSpellableWho e.who) (take l.entry-index l.entries)
