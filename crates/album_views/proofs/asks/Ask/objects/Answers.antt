use Rattle.std.proofs.Common.{◌≡◌, ◌++◌, ℕ, List, IfOk, map, sym, subst}
use Rattle.album_views.specs.Asks.{once, objects_of}
use Rattle.album_views.specs.declared.asks.Ask.{Ask}
use Rattle.album_views.specs.declared.asks.NewList.{NewList}
use Rattle.album_views.specs.declared.asks.NewMembership.{NewMembership}
use Rattle.album_views.proofs.asks.Ask.objects.Goals as goal

-- the objects of both slices are those of the share
pub returns-in-Share : goal.returns-in-Share
returns-in-Share c =
    let all : List NewList → List NewMembership → List ℕ =
    λ lists members. once (map (λ new. new.object) lists ++ map (λ new. new.object) members) in
    let Gives : List ℕ → Type 0 = λ items. IfOk c.objects_of_share.result (λ objects. objects.items ≡ items) in
    subst (λ (a : Ask). Gives (objects_of a)) (sym c.in-Share.is)
    (subst (λ (lists : List NewList). Gives (all lists c.in-Share.members)) c.as_slice-in-Share.ensures
    (subst (λ (members : List NewMembership). Gives (all c.as_slice-in-Share.result.now members))
    c.as_slice-in-Share-2.ensures c.objects_of_share.ensures))
