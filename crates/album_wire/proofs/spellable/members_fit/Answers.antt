use Rattle.std.proofs.Common.{◌≡◌, All, take, subst}
use Rattle.std.proofs.lemmas.List.{take_all}
use Rattle.std.proofs.lemmas.List.Elements.{All-more}
use Rattle.album_lists.specs.declared.whos.Member.{Member}
use Rattle.album_wire.specs.Spellable.{IsSpellableMember}
use Rattle.album_wire.proofs.spellable.members_fit.Goals as goal

abbrev Holds : Member → Type 0
Holds = λ member. IsSpellableMember member

pub loop-member-preserved : goal.loop-member-preserved
loop-member-preserved c =
    All-more Holds c.args.members.now c.loop-member.member-index c.member-item.result c.loop-member-test.true c.loop-member.invariant
    (subst Holds c.member-item.is c.member_fits.ensures)

pub returns : goal.returns
returns c =
    let whole : take c.loop-member.member-index c.args.members.now ≡ c.args.members.now =
    take_all c.loop-member.member-index c.args.members.now c.loop-member-test.false in
    subst (λ xs. All Holds xs) whole c.loop-member.invariant
