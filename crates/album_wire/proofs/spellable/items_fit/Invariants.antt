use Rattle.std.proofs.Common.{All, take}
use Rattle.album_wire.specs.Spellable.{IsSpellableItem}
use Rattle.album_wire.proofs.spellable.items_fit.Given as goal

abbrev pub invariant-loop-item : goal.invariant-loop-item
invariant-loop-item l = All IsSpellableItem (take l.item-index l.items)
