use Rattle.std.proofs.Common.{◌&&◌}
use Rattle.std.specs.List.{list_all}
use Rattle.album_views.specs.declared.asks.Ask.TheVariants as ask
use Rattle.album_views.specs.declared.asks.NewList.{NewList}
use Rattle.album_views.specs.declared.asks.NewMembership.{NewMembership}
use Rattle.album_listing.specs.Masks.{WRITE_DATA, WRITE_ACL}
use Rattle.album_listing.specs.Reasons.{is_granted_on}
use Rattle.album_tests_laws.proofs.NeedsMet.{granted-where, lists-met, share-met}
use Rattle.album_tests_laws.proofs.needing.a_share_needs_each_right.Goals as goal

pub returns-clause-lists : goal.returns-clause-lists
returns-clause-lists c basis lists =
    granted-where basis (ask.SetLists lists)
    (list_all (λ (new : NewList). is_granted_on basis new.object WRITE_ACL) lists) (lists-met basis lists)

pub returns-clause-share : goal.returns-clause-share
returns-clause-share c basis lists members =
    granted-where basis (ask.Share lists members)
    (list_all (λ (new : NewList). is_granted_on basis new.object WRITE_ACL) lists
    && list_all (λ (new : NewMembership). is_granted_on basis new.object WRITE_DATA) members)
    (share-met basis lists members)
