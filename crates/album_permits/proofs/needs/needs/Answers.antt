use Rattle.std.proofs.Common.{◌++◌, ◌∙◌, List, ap, map, sym}
use Rattle.album_views.specs.Seen.{seen}
use Rattle.album_views.specs.declared.asks.NewList.{NewList}
use Rattle.album_views.specs.declared.asks.NewMembership.{NewMembership}
use Rattle.album_listing.specs.Masks.{WRITE_ACL, WRITE_DATA}
use Rattle.album_listing.specs.declared.reasons.Alternative.{Alternative}
use Rattle.album_permits.specs.Needs.{just, needs_of}
use Rattle.album_permits.proofs.needs.needs.Goals as goal

-- the needs of both slices are those of the share
pub returns-in_ok-add_each_group-in-Share : goal.returns-in_ok-add_each_group-in-Share
returns-in_ok-add_each_group-in-Share c =
    let of_lists : List NewList → List (List Alternative) =
    λ lists. map (λ new. just new.object WRITE_ACL) lists in
    let of_members : List NewMembership → List (List Alternative) =
    λ members. map (λ new. just new.object WRITE_DATA) members in
    c.in_ok-add_each_group-in-Share.ensures
    ∙ ap (λ (needs : List (List Alternative)). needs ++ of_members c.as_slice-in-Share-2.result.now)
    c.in_ok-needs-in-Share.ensures
    ∙ ap (λ (lists : List NewList). of_lists lists ++ of_members c.as_slice-in-Share-2.result.now)
    c.as_slice-in-Share.ensures
    ∙ ap (λ (members : List NewMembership). of_lists c.in-Share.lists ++ of_members members)
    c.as_slice-in-Share-2.ensures
    ∙ sym (ap (needs_of (seen c.args.lookup.now.view.now.rows)) c.in-Share.is)
