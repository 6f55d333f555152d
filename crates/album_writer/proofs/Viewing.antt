-- What a write changes is in its permit's view, or new (`shown-or-new`), for the law `checked_writes_name_their_bases`.
use Rattle.std.proofs.Common.{◌≡◌, ◌⊎◌, ◌<◌, ℕ, zero, suc, List, [], ◌∷◌, Contains, map, length, inl, inr, refl, sym, subst, arith}
use Rattle.std.specs.List.{flat_map, slice_index_or}
use Rattle.std.proofs.lemmas.List.Elements.{Contains-append_left}
use Rattle.album_items.specs.Transactions.{items_written}
use Rattle.album_items.specs.Values.{home_of, list_of}
use Rattle.album_items.specs.declared.values.Value.{Value}
use Rattle.album_items.specs.declared.values.Value.TheVariants as value
use Rattle.album_reader.specs.Snapshots.{items_read}
use Rattle.album_views.proofs.Flaws.{objects_lists, list-shared, group-shared}
use Rattle.album_views.specs.Asks.{made_by, objects_of}
use Rattle.album_views.specs.ReadSets.{IsNamed, subjects_of}
use Rattle.album_views.specs.ReadSets.IsNamed.{Subject, ListOf}
use Rattle.album_views.specs.Seen.{seen}
use Rattle.album_views.specs.Views.{IsView}
use Rattle.album_views.specs.declared.asks.Ask.{Ask}
use Rattle.album_views.specs.declared.asks.Ask.TheVariants as ask
use Rattle.album_views.specs.declared.asks.NewList.{NewList}
use Rattle.album_views.specs.declared.asks.NewMembership.{NewMembership}
use Rattle.album_permits.specs.Changes.{with_child, without_child}
use Rattle.album_permits.specs.Effects.{Write, list_written, members_written, list_dropped, taken_out, written, effect_of}
use Rattle.album_permits.specs.Permits.{PermitState}
use Rattle.album_permits.specs.Rights.{IsNew}
use Rattle.album_permits.proofs.Elements.{Each, each-append, each-mapped, each-fold, first, behind}

-- a fact of the item of each write, of one that is written
one-item :
    (P : ℕ → Type 0) (ws : List Write) (item : ℕ) → Each (λ (w : Write). P w.0) ws → Contains (items_written ws) item → P item
one-item P [] item h c = absurd (omega (arith, c.1))
one-item P (w ∷ ws) item h c = go c.0 c.1 c.2 (one-item P ws item h.1)
  where
    go :
        (k : ℕ) → k < suc (length (items_written ws)) → slice_index_or (w.0 ∷ items_written ws) k item ≡ item
        → (Contains (items_written ws) item → P item) → P item
    go zero below same rest = subst P same h.0
    go (suc k) below same rest = rest (k, omega (arith, below), same)

abbrev list_objects : List NewList → List ℕ
list_objects lists = map (λ (new : NewList). new.object) lists

abbrev groups : List NewMembership → List ℕ
groups members = map (λ (new : NewMembership). new.object) members

module _ (permit : PermitState) (stamp : ℕ) where
  abbrev lookup : ℕ → Value
  lookup = seen permit.view.rows

  -- the item is named, or new
  abbrev Known : Ask → ℕ → Type 0
  Known asked item =
      IsNamed lookup permit.view.looker asked item
      ⊎ Contains (made_by asked stamp) item

  abbrev KnownOf : Ask → Write → Type 0
  KnownOf asked write = Known asked write.0

  subject : (asked : Ask) (item : ℕ) → Contains (subjects_of lookup asked) item → Known asked item
  subject asked item c = inl (Subject item c)

  lists-known :
      (asked : Ask) (lists : List NewList)
      → ((object : ℕ) → Contains (list_objects lists) object → Contains (subjects_of lookup asked) object)
      → Each (KnownOf asked) (flat_map (list_written lookup) lists)
  lists-known asked [] each = tt
  lists-known asked (new ∷ lists) each =
      each-append (KnownOf asked) (list_written lookup new) (flat_map (list_written lookup) lists)
      (each-mapped (KnownOf asked) (λ item. value.List new.list) (list_of (lookup new.object))
      (λ item c. inl (ListOf new.object item (each new.object (first new.object (list_objects lists))) c)))
      (lists-known asked lists (λ object c. each object (behind new.object (list_objects lists) object c)))

  members-known :
      (asked : Ask) (members : List NewMembership)
      → ((object : ℕ) → Contains (groups members) object → Contains (subjects_of lookup asked) object)
      → Each (KnownOf asked) (map (members_written lookup) members)
  members-known asked [] each = tt
  members-known asked (new ∷ members) each = (
    subject asked new.object (each new.object (first new.object (groups members))),
    members-known asked members (λ object c. each object (behind new.object (groups members) object c)),
  )

  written-known : (asked : Ask) → Each (KnownOf asked) (written lookup permit.principal stamp asked)
  written-known (ask.Read object) = tt
  written-known (ask.List into) = tt
  written-known (ask.GetList object) = tt
  written-known (ask.Head object) = tt
  written-known (ask.Children into) = tt
  written-known (ask.AddPicture into title content) = (
    inr (0, omega arith, refl),
    (inr (1, omega arith, refl), (subject (ask.AddPicture into title content) into (first into []), tt)),
  )
  written-known (ask.AddAlbum into title) = (
    inr (0, omega arith, refl),
    (inr (1, omega arith, refl), (subject (ask.AddAlbum into title) into (first into []), tt)),
  )
  written-known (ask.AddGroup into members) = (inr (0, omega arith, refl), (inr (1, omega arith, refl), tt))
  written-known (ask.Retitle object title) = (subject (ask.Retitle object title) object (first object []), tt)
  written-known (ask.Replace object content) = (subject (ask.Replace object content) object (first object []), tt)
  written-known (ask.Delete object) =
      let asked : Ask = ask.Delete object in
      let named : Contains (subjects_of lookup asked) object = first object (home_of (lookup object)) in (
        subject asked object named,
        each-append (KnownOf asked) (list_dropped lookup object) (taken_out lookup object)
            (each-mapped (KnownOf asked) (λ item. value.Missing) (list_of (lookup object))
            (λ item c. inl (ListOf object item named c)))
            (each-mapped (KnownOf asked) (λ home. without_child object (lookup home)) (home_of (lookup object))
            (λ home c. subject asked home (behind object (home_of (lookup object)) home c))),
      )
  written-known (ask.Move object to) =
      let asked : Ask = ask.Move object to in (
        subject asked object (first object (to ∷ home_of (lookup object))),
        each-append (KnownOf asked) (taken_out lookup object) ((to, with_child object (lookup to)) ∷ [])
            (each-mapped (KnownOf asked) (λ home. without_child object (lookup home)) (home_of (lookup object))
            (λ home c. subject asked home
            (behind object (to ∷ home_of (lookup object)) home (behind to (home_of (lookup object)) home c))))
            (subject asked to (behind object (to ∷ home_of (lookup object)) to (first to (home_of (lookup object)))), tt),
      )
  written-known (ask.SetLists lists) =
      lists-known (ask.SetLists lists) lists
      (λ object c. Contains-append_left (objects_of (ask.SetLists lists)) [] object
      (subst (λ (xs : List ℕ). Contains xs object) (sym (objects_lists lists)) c))
  written-known (ask.SetOwner object owner number) =
      (subject (ask.SetOwner object owner number) object (first object []), tt)
  written-known (ask.SetMembers object members) =
      (subject (ask.SetMembers object members) object (first object []), tt)
  written-known (ask.Share lists members) =
      let asked : Ask = ask.Share lists members in
      each-append (KnownOf asked) (flat_map (list_written lookup) lists) (map (members_written lookup) members)
      (lists-known asked lists
      (λ object c. Contains-append_left (objects_of asked) [] object (list-shared lists members object c)))
      (members-known asked members
      (λ object c. Contains-append_left (objects_of asked) [] object (group-shared lists members object c)))

  each-known : Each (KnownOf permit.view.ask) (effect_of permit stamp)
  each-known =
      each-fold (KnownOf permit.view.ask) [] (written lookup permit.principal stamp permit.view.ask) tt
      (written-known permit.view.ask)

  pub shown-or-new :
      (item : ℕ) → IsView permit.view → Contains (items_written (effect_of permit stamp)) item
      → Contains (items_read permit.view.rows) item ⊎ IsNew permit stamp item
  shown-or-new item view c = go (one-item (Known permit.view.ask) (effect_of permit stamp) item each-known c)
    where
      go : Known permit.view.ask item → Contains (items_read permit.view.rows) item ⊎ IsNew permit stamp item
      go (inl named) = inl (view.closed item named)
      go (inr new) = inr new
