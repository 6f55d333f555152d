use Rattle.std.proofs.Common.{All, take, IsTrue, ℕ}
use Rattle.album_items.specs.declared.values.Value.{Value}
use Rattle.album_wire.specs.Spellable.{IsSpellableWrite, is_spellable_write}
use Rattle.album_wire.proofs.spellable.writes_fit.Given as goal

abbrev pub invariant-loop-write : goal.invariant-loop-write
invariant-loop-write l = All (λ (w : ℕ × Value). IsTrue (is_spellable_write w) → IsSpellableWrite w) (take l.write-index l.writes)
