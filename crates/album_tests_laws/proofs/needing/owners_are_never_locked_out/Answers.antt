use Rattle.std.proofs.Common.{true, refl, ◌∙◌}
use Rattle.album_views.specs.declared.asks.Ask.TheVariants as ask
use Rattle.album_listing.specs.Masks.{READ_ACL, WRITE_ACL}
use Rattle.album_tests_laws.proofs.NeedsMet.{granted-where, just-met, lists-met, owner-granted, lists-granted, root-owns}
use Rattle.album_tests_laws.proofs.needing.owners_are_never_locked_out.Goals as goal

pub returns-clause-entries : goal.returns-clause-entries
returns-clause-entries c basis object three owned =
    (granted-where basis (ask.GetList object) true
    (just-met basis object READ_ACL ∙ owner-granted basis object READ_ACL refl three owned)).1 refl

pub returns-clause-lists : goal.returns-clause-lists
returns-clause-lists c basis lists three owned =
    (granted-where basis (ask.SetLists lists) true
    (lists-met basis lists ∙ lists-granted basis lists three owned)).1 refl

pub returns-clause-group : goal.returns-clause-group
returns-clause-group c basis into members three owned =
    (granted-where basis (ask.AddGroup into members) true
    (just-met basis into WRITE_ACL ∙ owner-granted basis into WRITE_ACL refl three owned)).1 refl

pub returns-clause-root : goal.returns-clause-root
returns-clause-root c = root-owns
