-- An album gets no more children than it may have, for the law of `filling`: all that is written is bounded by what
-- was, but for the album that gets a child, and that has room.
use Rattle.std.proofs.Common.{◌≡◌, ◌<◌, ◌≤◌, ◌++◌, ◌==◌, ℕ, List, [], ◌∷◌, false, not, Contains, length, map, refl, sym, subst, arith}
use Rattle.std.specs.List.{flat_map, count_by}
use Rattle.std.proofs.lemmas.Bool.{leb-false}
use Rattle.std.proofs.lemmas.List.{length-append}
use Rattle.std.proofs.lemmas.List.Sums.{length-filter, count_by-le-length}
use Rattle.album_lists.specs.declared.whos.Member.{Member}
use Rattle.album_eval.specs.declared.facts.Principal.{Principal}
use Rattle.album_items.specs.ItemIds.{picture, album, number_of}
use Rattle.album_items.specs.Values.{children_of, list_of, home_of}
use Rattle.album_items.specs.declared.values.Value.{Value}
use Rattle.album_items.specs.declared.values.Value.TheVariants as value
use Rattle.album_views.specs.Seen.{seen}
use Rattle.album_views.specs.declared.asks.Ask.{Ask}
use Rattle.album_views.specs.declared.asks.Ask.TheVariants as ask
use Rattle.album_views.specs.declared.asks.NewList.{NewList}
use Rattle.album_views.specs.declared.asks.NewMembership.{NewMembership}
use Rattle.album_permits.proofs.Elements.{Each, each-append, each-one, each-mapped, each-fold}
use Rattle.album_permits.specs.Changes.{with_title, with_content, with_home, with_owner, with_members, with_children, without_child, with_child, others}
use Rattle.album_permits.specs.Effects.{Write, list_written, list_dropped, members_written, taken_out, written, merged, effect_of, is_album_full, has_most_others, is_full_for}
use Rattle.album_permits.specs.Permits.{PermitState}

-- no value that is written has more children than 128, where what was there has not
abbrev Keeps : (ℕ → Value) → Write → Type 0
Keeps shown write = length (children_of (shown write.0)) ≤ 128 → length (children_of write.1) ≤ 128

same-many : (v w : Value) → children_of w ≡ children_of v → length (children_of v) ≤ 128 → length (children_of w) ≤ 128
same-many v w same few = subst (λ (xs : List ℕ). length xs ≤ 128) (sym same) few

-- ---- values with one thing changed

title-kept : (title : List ℕ) (v : Value) → children_of (with_title title v) ≡ children_of v
title-kept title value.Missing = refl
title-kept title (value.Picture x) = refl
title-kept title (value.Album x) = refl
title-kept title (value.List x) = refl
title-kept title (value.Group x) = refl

content-kept : (content : List ℕ) (v : Value) → children_of (with_content content v) ≡ children_of v
content-kept content value.Missing = refl
content-kept content (value.Picture x) = refl
content-kept content (value.Album x) = refl
content-kept content (value.List x) = refl
content-kept content (value.Group x) = refl

home-kept : (home : ℕ) (v : Value) → children_of (with_home home v) ≡ children_of v
home-kept home value.Missing = refl
home-kept home (value.Picture x) = refl
home-kept home (value.Album x) = refl
home-kept home (value.List x) = refl
home-kept home (value.Group x) = refl

owner-kept : (owner : List ℕ) (group : ℕ) (v : Value) → children_of (with_owner owner group v) ≡ children_of v
owner-kept owner group value.Missing = refl
owner-kept owner group (value.Picture x) = refl
owner-kept owner group (value.Album x) = refl
owner-kept owner group (value.List x) = refl
owner-kept owner group (value.Group x) = refl

members-kept : (members : List Member) (v : Value) → children_of (with_members members v) ≡ children_of v
members-kept members value.Missing = refl
members-kept members (value.Picture x) = refl
members-kept members (value.Album x) = refl
members-kept members (value.List x) = refl
members-kept members (value.Group x) = refl

-- at most these children, and none of what is no album
few-with : (children : List ℕ) (v : Value) → length children ≤ 128 → length (children_of (with_children children v)) ≤ 128
few-with children value.Missing few = omega arith
few-with children (value.Picture x) few = omega arith
few-with children (value.Album x) few = few
few-with children (value.List x) few = omega arith
few-with children (value.Group x) few = omega arith

few-without : (child : ℕ) (v : Value) → length (children_of v) ≤ 128 → length (children_of (without_child child v)) ≤ 128
few-without child v few =
    few-with (others child (children_of v)) v
    (omega (
      arith,
      few,
      length-filter (λ (other : ℕ). not (child == other)) (children_of v),
      count_by-le-length (λ (other : ℕ). not (child == other)) (children_of v),
    ))

few-child : (child : ℕ) (v : Value) → has_most_others child v ≡ false → length (children_of (with_child child v)) ≤ 128
few-child child v room =
    few-with (others child (children_of v) ++ child ∷ []) v
    (omega (
      arith,
      below,
      length-append (others child (children_of v)) (child ∷ []),
      length-filter (λ (other : ℕ). not (child == other)) (children_of v),
    ))
  where
    below : count_by (λ (other : ℕ). not (child == other)) (children_of v) < 128
    below = leb-false 128 (count_by (λ (other : ℕ). not (child == other)) (children_of v)) room

-- ---- what an ask writes

module _ (shown : ℕ → Value) (p : Principal) (stamp : ℕ) where
  dropped : (object : ℕ) → Each (Keeps shown) (list_dropped shown object)
  dropped object = each-mapped (Keeps shown) (λ item. value.Missing) (list_of (shown object)) (λ item c few. omega arith)

  out : (object : ℕ) → Each (Keeps shown) (taken_out shown object)
  out object =
      each-mapped (Keeps shown) (λ home. without_child object (shown home)) (home_of (shown object))
      (λ home c few. few-without object (shown home) few)

  listed : (lists : List NewList) → Each (Keeps shown) (flat_map (list_written shown) lists)
  listed [] = tt
  listed (new ∷ lists) =
      each-append (Keeps shown) (list_written shown new) (flat_map (list_written shown) lists)
      (each-mapped (Keeps shown) (λ item. value.List new.list) (list_of (shown new.object)) (λ item c few. omega arith))
      (listed lists)

  grouped : (members : List NewMembership) → Each (Keeps shown) (map (members_written shown) members)
  grouped [] = tt
  grouped (new ∷ members) = (
    λ few. same-many (shown new.object) (with_members new.members (shown new.object))
        (members-kept new.members (shown new.object)) few,
    grouped members,
  )

  all-keep : (a : Ask) → is_album_full shown stamp a ≡ false → Each (Keeps shown) (written shown p stamp a)
  all-keep (ask.Read object) room = tt
  all-keep (ask.List object) room = tt
  all-keep (ask.GetList object) room = tt
  all-keep (ask.Head object) room = tt
  all-keep (ask.Children object) room = tt
  all-keep (ask.AddPicture into title content) room =
      (λ few. omega arith, (λ few. omega arith, (λ few. few-child (picture stamp) (shown into) room, tt)))
  all-keep (ask.AddAlbum into title) room =
      (λ few. omega arith, (λ few. omega arith, (λ few. few-child (album stamp) (shown into) room, tt)))
  all-keep (ask.AddGroup into members) room = (λ few. omega arith, (λ few. omega arith, tt))
  all-keep (ask.Retitle object title) room =
      (λ few. same-many (shown object) (with_title title (shown object)) (title-kept title (shown object)) few, tt)
  all-keep (ask.Replace object content) room =
      (λ few. same-many (shown object) (with_content content (shown object)) (content-kept content (shown object)) few, tt)
  all-keep (ask.Delete object) room =
      (λ few. omega arith, each-append (Keeps shown) (list_dropped shown object) (taken_out shown object) (dropped object) (out object))
  all-keep (ask.Move object to) room = (
    λ few. same-many (shown object) (with_home (number_of to) (shown object)) (home-kept (number_of to) (shown object)) few,
    each-append (Keeps shown) (taken_out shown object) ((to, with_child object (shown to)) ∷ []) (out object)
        (λ few. few-child object (shown to) room, tt),
  )
  all-keep (ask.SetLists lists) room = listed lists
  all-keep (ask.SetOwner object owner group) room =
      (λ few. same-many (shown object) (with_owner owner group (shown object)) (owner-kept owner group (shown object)) few, tt)
  all-keep (ask.SetMembers object members) room =
      (λ few. same-many (shown object) (with_members members (shown object)) (members-kept members (shown object)) few, tt)
  all-keep (ask.Share lists members) room =
      each-append (Keeps shown) (flat_map (list_written shown) lists) (map (members_written shown) members) (listed lists)
      (grouped members)

pub kept-to :
    (permit : PermitState) (stamp item : ℕ) (is : Value) → is_full_for permit stamp ≡ false
    → length (children_of (seen permit.view.rows item)) ≤ 128 → Contains (effect_of permit stamp) (item, is)
    → length (children_of is) ≤ 128
kept-to permit stamp item is room few c =
    let shown = seen permit.view.rows in
    let ws : List Write = written shown permit.principal stamp permit.view.ask in
    each-one (Keeps shown) (merged ws) (item, is)
    (each-fold (Keeps shown) [] ws tt (all-keep shown permit.principal stamp permit.view.ask room)) c few
