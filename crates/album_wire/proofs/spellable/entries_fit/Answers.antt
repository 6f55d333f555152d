use Rattle.std.proofs.Common.{◌≡◌, All, take, subst}
use Rattle.std.proofs.lemmas.List.{take_all}
use Rattle.std.proofs.lemmas.List.Elements.{All-more}
use Rattle.album_lists.specs.declared.lists.Ace.{Ace}
use Rattle.album_wire.specs.Spellable.{IsSpellableWho}
use Rattle.album_wire.proofs.spellable.entries_fit.Goals as goal

abbrev Holds : Ace → Type 0
Holds = λ entry. IsSpellableWho entry.who

pub loop-entry-preserved : goal.loop-entry-preserved
loop-entry-preserved c =
    All-more Holds c.args.entries.now c.loop-entry.entry-index c.entry-item.result c.loop-entry-test.true c.loop-entry.invariant
    (subst Holds c.entry-item.is c.who_fits.ensures)

pub returns : goal.returns
returns c =
    let whole : take c.loop-entry.entry-index c.args.entries.now ≡ c.args.entries.now =
    take_all c.loop-entry.entry-index c.args.entries.now c.loop-entry-test.false in
    subst (λ xs. All Holds xs) whole c.loop-entry.invariant
