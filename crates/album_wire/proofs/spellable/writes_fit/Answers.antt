use Rattle.std.proofs.Common.{◌≡◌, ℕ, All, IsTrue, take, subst}
use Rattle.std.proofs.lemmas.List.{take_all}
use Rattle.std.proofs.lemmas.List.Elements.{All-more}
use Rattle.album_items.specs.declared.values.Value.{Value}
use Rattle.album_wire.specs.Spellable.{IsSpellableWrite, is_spellable_write}
use Rattle.album_wire.proofs.spellable.writes_fit.Goals as goal

abbrev Holds : ℕ × Value → Type 0
Holds = λ write. IsTrue (is_spellable_write write) → IsSpellableWrite write

pub loop-write-preserved : goal.loop-write-preserved
loop-write-preserved c =
    All-more Holds c.args.writes.now c.loop-write.write-index c.write-item.result c.loop-write-test.true c.loop-write.invariant
    (subst Holds c.write-item.is c.write_fits.ensures)

pub returns : goal.returns
returns c =
    let whole : take c.loop-write.write-index c.args.writes.now ≡ c.args.writes.now =
    take_all c.loop-write.write-index c.args.writes.now c.loop-write-test.false in
    subst (λ xs. All Holds xs) whole c.loop-write.invariant
