-- What is written is among what an ask may write (`written-may`, `effect-may`), for the law
-- `what_is_written_is_needed`.
use Rattle.std.proofs.Common.{◌≡◌, ◌<◌, ◌==◌, ℕ, zero, suc, List, [], ◌∷◌, ◌++◌, Bool, true, false, Contains, map, filter, fold, length, refl, sym, ap, subst, ◌∙◌, arith, if◌then◌else◌}
use Rattle.std.specs.List.{flat_map, slice_index_or}
use Rattle.std.proofs.lemmas.List.Elements.{Contains-append_left, Contains-append_right}
use Rattle.album_eval.specs.declared.facts.Principal.{Principal}
use Rattle.album_items.specs.ItemIds.{picture, album, list, group}
use Rattle.album_items.specs.Values.{home_of, list_of}
use Rattle.album_items.specs.declared.values.Value.{Value}
use Rattle.album_items.specs.declared.values.Value.TheVariants as value
use Rattle.album_views.specs.Seen.{seen}
use Rattle.album_views.specs.declared.asks.Ask.{Ask}
use Rattle.album_views.specs.declared.asks.Ask.TheVariants as ask
use Rattle.album_views.specs.declared.asks.NewList.{NewList}
use Rattle.album_views.specs.declared.asks.NewMembership.{NewMembership}
use Rattle.album_listing.specs.Masks.{WRITE_DATA, DELETE_CHILD, ADD_FILE, WRITE_ACL}
use Rattle.album_listing.specs.Reasons.{on}
use Rattle.album_listing.specs.declared.reasons.Alternative.{Alternative}
use Rattle.album_listing.proofs.Judging.{first-of}
use Rattle.album_permits.specs.Changes.{with_child, without_child}
use Rattle.album_permits.specs.Effects.{Write, list_written, members_written, list_dropped, taken_out, written, put, effect_of}
use Rattle.album_permits.specs.Meaning.{is_of_change, objects_changed, MayWrite}
use Rattle.album_permits.specs.Meaning.MayWrite.{New, Object, ListOf}
use Rattle.album_permits.specs.Needs.{just}
use Rattle.album_permits.specs.Permits.{PermitState}

-- each of the writes is of an item that passes
abbrev AllOf : (ℕ → Type 0) → List Write → Type 0
AllOf may [] = Unit {0}
AllOf may (w ∷ ws) = may w.0 × AllOf may ws

append-of : (may : ℕ → Type 0) (ws vs : List Write) → AllOf may ws → AllOf may vs → AllOf may (ws ++ vs)
append-of may [] vs h l = l
append-of may (w ∷ ws) vs h l = (h.0, append-of may ws vs h.1 l)

put-of : (may : ℕ → Type 0) (ws : List Write) (w : Write) → AllOf may ws → may w.0 → AllOf may (put ws w)
put-of may [] w h here = (here, tt)
put-of may (e ∷ ws) w h here = go (e.0 == w.0) (put-of may ws w h.1 here)
  where
    go : (b : Bool) → AllOf may (put ws w) → AllOf may (if b then w ∷ ws else e ∷ put ws w)
    go true rest = (here, h.1)
    go false rest = (h.0, rest)

fold-of : (may : ℕ → Type 0) (so_far ws : List Write) → AllOf may so_far → AllOf may ws → AllOf may (fold put so_far ws)
fold-of may so_far [] h l = h
fold-of may so_far (w ∷ ws) h l = fold-of may (put so_far w) ws (put-of may so_far w h l.0) l.1

one-of : (may : ℕ → Type 0) (ws : List Write) (w : Write) → AllOf may ws → Contains ws w → may w.0
one-of may [] w h c = absurd (omega (arith, c.1))
one-of may (v ∷ ws) w h c = go (λ d. one-of may ws w h.1 d) c.0 c.1 c.2
  where
    go : (Contains ws w → may w.0) → (k : ℕ) → k < length (v ∷ ws) → slice_index_or (v ∷ ws) k w ≡ w → may w.0
    go rest zero below same = subst (λ (x : Write). may x.0) same h.0
    go rest (suc k) below same = rest (k, omega (arith, below), same)

-- the items of a list, each with a value
mapped-of :
    (may : ℕ → Type 0) (f : ℕ → Value) (items : List ℕ) → ((item : ℕ) → Contains items item → may item)
    → AllOf may (map (λ item. (item, f item)) items)
mapped-of may f [] each = tt
mapped-of may f (item ∷ items) each = (
  each item (first-of item items),
  mapped-of may f items (λ x c. each x (suc c.0, omega (arith, c.1), c.2)),
)

-- ---- what is needed

abbrev changed : List Alternative → List ℕ
changed alternatives =
    map (λ (a : Alternative). a.object) (filter (λ (a : Alternative). is_of_change a.mask) alternatives)

-- a home whose child may be deleted
homes-changed :
    (homes : List ℕ) (more : List Alternative) (home : ℕ) → Contains homes home
    → Contains (changed (map (λ h. on h DELETE_CHILD) homes ++ more)) home
homes-changed [] more home c = absurd (omega (arith, c.1))
homes-changed (h ∷ homes) more home c = go (λ d. homes-changed homes more home d) c.0 c.1 c.2
  where
    go :
        (Contains homes home → Contains (changed (map (λ h. on h DELETE_CHILD) homes ++ more)) home)
        → (k : ℕ) → k < length (h ∷ homes) → slice_index_or (h ∷ homes) k home ≡ home
        → Contains (h ∷ changed (map (λ h. on h DELETE_CHILD) homes ++ more)) home
    go rest zero below same = (0, omega arith, same)
    go rest (suc k) below same = let c = rest (k, omega (arith, below), same) in (suc c.0, omega (arith, c.1), c.2)

-- what follows them
behind-homes :
    (homes : List ℕ) (more : List Alternative) (object : ℕ) → Contains (changed more) object
    → Contains (changed (map (λ h. on h DELETE_CHILD) homes ++ more)) object
behind-homes [] more object c = c
behind-homes (h ∷ homes) more object c =
    let d = behind-homes homes more object c in (suc d.0, omega (arith, d.1), d.2)

-- the objects of new lists, and the groups of new members
abbrev acl_needs : List NewList → List (List Alternative)
acl_needs lists = map (λ (new : NewList). just new.object WRITE_ACL) lists

abbrev data_needs : List NewMembership → List (List Alternative)
data_needs members = map (λ (new : NewMembership). just new.object WRITE_DATA) members

abbrev list_objects : List NewList → List ℕ
list_objects lists = map (λ (new : NewList). new.object) lists

abbrev groups : List NewMembership → List ℕ
groups members = map (λ (new : NewMembership). new.object) members

lists-changed :
    (lists : List NewList) (more : List (List Alternative))
    → changed (flat_map (λ (need : List Alternative). need) (acl_needs lists ++ more))
    ≡ list_objects lists ++ changed (flat_map (λ (need : List Alternative). need) more)
lists-changed [] more = refl
lists-changed (new ∷ lists) more = ap (λ (xs : List ℕ). new.object ∷ xs) (lists-changed lists more)

only-lists-changed :
    (lists : List NewList)
    → changed (flat_map (λ (need : List Alternative). need) (acl_needs lists)) ≡ list_objects lists
only-lists-changed [] = refl
only-lists-changed (new ∷ lists) = ap (λ (xs : List ℕ). new.object ∷ xs) (only-lists-changed lists)

groups-changed :
    (members : List NewMembership)
    → changed (flat_map (λ (need : List Alternative). need) (data_needs members)) ≡ groups members
groups-changed [] = refl
groups-changed (new ∷ members) = ap (λ (xs : List ℕ). new.object ∷ xs) (groups-changed members)

share-changed :
    (lists : List NewList) (members : List NewMembership)
    → changed (flat_map (λ (need : List Alternative). need) (acl_needs lists ++ data_needs members))
    ≡ list_objects lists ++ groups members
share-changed lists members =
    lists-changed lists (data_needs members)
    ∙ ap (λ (xs : List ℕ). list_objects lists ++ xs) (groups-changed members)

module _ (lookup : ℕ → Value) (me : Principal) (stamp : ℕ) where
  abbrev May : Ask → ℕ → Type 0
  May asked = MayWrite lookup stamp asked

  lists-may :
      (asked : Ask) (lists : List NewList)
      → ((object : ℕ) → Contains (list_objects lists) object → Contains (objects_changed lookup asked) object)
      → AllOf (May asked) (flat_map (list_written lookup) lists)
  lists-may asked [] each = tt
  lists-may asked (new ∷ lists) each =
      append-of (May asked) (list_written lookup new) (flat_map (list_written lookup) lists)
      (mapped-of (May asked) (λ item. value.List new.list) (list_of (lookup new.object))
      (λ item c. ListOf new.object item (each new.object (first-of new.object (list_objects lists))) c))
      (lists-may asked lists (λ object c. each object (suc c.0, omega (arith, c.1), c.2)))

  members-may :
      (asked : Ask) (members : List NewMembership)
      → ((object : ℕ) → Contains (groups members) object → Contains (objects_changed lookup asked) object)
      → AllOf (May asked) (map (members_written lookup) members)
  members-may asked [] each = tt
  members-may asked (new ∷ members) each = (
    Object new.object (each new.object (first-of new.object (groups members))),
    members-may asked members (λ object c. each object (suc c.0, omega (arith, c.1), c.2)),
  )

  written-may : (asked : Ask) → AllOf (May asked) (written lookup me stamp asked)
  written-may (ask.Read object) = tt
  written-may (ask.List album) = tt
  written-may (ask.GetList object) = tt
  written-may (ask.Head object) = tt
  written-may (ask.Children album) = tt
  written-may (ask.AddPicture into title content) = (
    New (picture stamp) (0, omega arith, refl),
    (New (list stamp) (1, omega arith, refl), (Object into (first-of into []), tt)),
  )
  written-may (ask.AddAlbum into title) = (
    New (album stamp) (0, omega arith, refl),
    (New (list stamp) (1, omega arith, refl), (Object into (first-of into []), tt)),
  )
  written-may (ask.AddGroup into members) =
      (New (group stamp) (0, omega arith, refl), (New (list stamp) (1, omega arith, refl), tt))
  written-may (ask.Retitle object title) = (Object object (first-of object []), tt)
  written-may (ask.Replace object content) = (Object object (first-of object []), tt)
  written-may (ask.Delete object) = (
    Object object (first-of object (changed (map (λ h. on h DELETE_CHILD) (home_of (lookup object)) ++ []))),
    append-of (May (ask.Delete object)) (list_dropped lookup object) (taken_out lookup object)
        (mapped-of (May (ask.Delete object)) (λ item. value.Missing) (list_of (lookup object))
        (λ item c. ListOf object item
        (first-of object (changed (map (λ h. on h DELETE_CHILD) (home_of (lookup object)) ++ []))) c))
        (mapped-of (May (ask.Delete object)) (λ home. without_child object (lookup home)) (home_of (lookup object))
        (λ home c.
        let d = homes-changed (home_of (lookup object)) [] home c in Object home (suc d.0, omega (arith, d.1), d.2))),
  )
  written-may (ask.Move object to) = (
    Object object
        (first-of object (changed (map (λ h. on h DELETE_CHILD) (home_of (lookup object)) ++ on to ADD_FILE ∷ []))),
    append-of (May (ask.Move object to)) (taken_out lookup object) ((to, with_child object (lookup to)) ∷ [])
        (mapped-of (May (ask.Move object to)) (λ home. without_child object (lookup home)) (home_of (lookup object))
        (λ home c.
        let d = homes-changed (home_of (lookup object)) (on to ADD_FILE ∷ []) home c in
        Object home (suc d.0, omega (arith, d.1), d.2))) (
          let d = behind-homes (home_of (lookup object)) (on to ADD_FILE ∷ []) to (first-of to []) in
              Object to (suc d.0, omega (arith, d.1), d.2),
          tt,
        ),
  )
  written-may (ask.SetLists lists) =
      lists-may (ask.SetLists lists) lists
      (λ object c. subst (λ (xs : List ℕ). Contains xs object) (sym (only-lists-changed lists)) c)
  written-may (ask.SetOwner object owner number) = (Object object (first-of object []), tt)
  written-may (ask.SetMembers object members) = (Object object (first-of object []), tt)
  written-may (ask.Share lists members) =
      append-of (May (ask.Share lists members)) (flat_map (list_written lookup) lists)
      (map (members_written lookup) members)
      (lists-may (ask.Share lists members) lists
      (λ object c. subst (λ (xs : List ℕ). Contains xs object) (sym (share-changed lists members))
      (Contains-append_left (list_objects lists) (groups members) object c)))
      (members-may (ask.Share lists members) members
      (λ object c. subst (λ (xs : List ℕ). Contains xs object) (sym (share-changed lists members))
      (Contains-append_right (list_objects lists) (groups members) object c)))

pub effect-may :
    (permit : PermitState) (stamp : ℕ) (write : Write) → Contains (effect_of permit stamp) write
    → MayWrite (seen permit.view.rows) stamp permit.view.ask write.0
effect-may permit stamp write c =
    one-of (MayWrite (seen permit.view.rows) stamp permit.view.ask) (effect_of permit stamp) write
    (fold-of (MayWrite (seen permit.view.rows) stamp permit.view.ask) []
    (written (seen permit.view.rows) permit.principal stamp permit.view.ask) tt
    (written-may (seen permit.view.rows) permit.principal stamp permit.view.ask))
    c
