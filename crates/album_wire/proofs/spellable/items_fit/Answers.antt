use Rattle.std.proofs.Common.{◌≡◌, ℕ, All, take, subst}
use Rattle.std.proofs.lemmas.List.{take_all}
use Rattle.std.proofs.lemmas.List.Elements.{All-more}
use Rattle.album_wire.specs.Spellable.{IsSpellableItem}
use Rattle.album_wire.proofs.spellable.items_fit.Goals as goal

abbrev Holds : ℕ → Type 0
Holds = λ item. IsSpellableItem item

pub loop-item-preserved : goal.loop-item-preserved
loop-item-preserved c =
    All-more Holds c.args.items.now c.loop-item.item-index c.item-item.result c.loop-item-test.true c.loop-item.invariant
    (subst Holds c.item-item.is c.item_fits.ensures)

pub returns : goal.returns
returns c =
    let whole : take c.loop-item.item-index c.args.items.now ≡ c.args.items.now =
    take_all c.loop-item.item-index c.args.items.now c.loop-item-test.false in
    subst (λ xs. All Holds xs) whole c.loop-item.invariant
