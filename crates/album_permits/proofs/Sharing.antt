-- A share writes each of its items (`share-writes`), for the law `a_share_writes_each_of_its_items`: what is written is
-- still written once it is merged.
use Rattle.std.proofs.Common.{◌≡◌, ◌==◌, ◌||◌, ℕ, List, [], ◌∷◌, ◌++◌, Bool, true, false, Contains, cond, fold, map, refl, sym, ap, subst, ◌∙◌}
use Rattle.std.specs.List.{flat_map}
use Rattle.std.proofs.lemmas.Bool.{or_left, or_right, eq-eqb, eqb-true}
use Rattle.std.proofs.lemmas.List.{map-append}
use Rattle.album_items.specs.Transactions.{items_written}
use Rattle.album_items.specs.Values.{list_of}
use Rattle.album_items.specs.declared.values.Value.{Value}
use Rattle.album_items.specs.declared.values.Value.TheVariants as value
use Rattle.album_views.proofs.Sets.{has, has-Contains, Contains-has, in-here}
use Rattle.album_views.specs.Seen.{seen}
use Rattle.album_views.specs.declared.asks.Ask.{Ask}
use Rattle.album_views.specs.declared.asks.Ask.TheVariants as ask
use Rattle.album_views.specs.declared.asks.NewList.{NewList}
use Rattle.album_views.specs.declared.asks.NewMembership.{NewMembership}
use Rattle.album_permits.specs.Effects.{Write, list_written, members_written, written, put, merged, effect_of}
use Rattle.album_permits.specs.Meaning.{items_shared}
use Rattle.album_permits.specs.Permits.{PermitState}

-- ---- what is merged

new-put : (vs : List Write) (w : Write) → has (items_written (put vs w)) w.0 ≡ true
new-put [] w = in-here w.0 []
new-put (v ∷ vs) w = go (v.0 == w.0) (new-put vs w)
  where
    go :
        (b : Bool) → has (items_written (put vs w)) w.0 ≡ true
        → has (items_written (cond b (w ∷ vs) (v ∷ put vs w))) w.0 ≡ true
    go true rest = in-here w.0 (items_written vs)
    go false rest = or_right (w.0 == v.0) (has (items_written (put vs w)) w.0) rest

old-put :
    (vs : List Write) (w : Write) (item : ℕ) → has (items_written vs) item ≡ true
    → has (items_written (put vs w)) item ≡ true
old-put [] w item h = absurd (cc)
old-put (v ∷ vs) w item h = go (v.0 == w.0) refl (item == v.0) refl h (old-put vs w item)
  where
    go :
        (b : Bool) → (v.0 == w.0) ≡ b → (c : Bool) → (item == v.0) ≡ c → (c || has (items_written vs) item) ≡ true
        → (has (items_written vs) item ≡ true → has (items_written (put vs w)) item ≡ true)
        → has (items_written (cond b (w ∷ vs) (v ∷ put vs w))) item ≡ true
    go true same true at h rest =
        or_left (item == w.0) (has (items_written vs) item)
        (eq-eqb item w.0 (eqb-true item v.0 at ∙ eqb-true v.0 w.0 same))
    go true same false at h rest = or_right (item == w.0) (has (items_written vs) item) h
    go false same true at h rest = or_left (item == v.0) (has (items_written (put vs w)) item) at
    go false same false at h rest = or_right (item == v.0) (has (items_written (put vs w)) item) (rest h)

old-fold :
    (ws vs : List Write) (item : ℕ) → has (items_written vs) item ≡ true
    → has (items_written (fold put vs ws)) item ≡ true
old-fold [] vs item h = h
old-fold (w ∷ ws) vs item h = old-fold ws (put vs w) item (old-put vs w item h)

new-fold :
    (ws vs : List Write) (item : ℕ) → has (items_written ws) item ≡ true
    → has (items_written (fold put vs ws)) item ≡ true
new-fold [] vs item h = absurd (cc)
new-fold (w ∷ ws) vs item h = go (item == w.0) refl h (new-fold ws (put vs w) item)
  where
    go :
        (b : Bool) → (item == w.0) ≡ b → (b || has (items_written ws) item) ≡ true
        → (has (items_written ws) item ≡ true → has (items_written (fold put (put vs w) ws)) item ≡ true)
        → has (items_written (fold put (put vs w) ws)) item ≡ true
    go true at h rest =
        old-fold ws (put vs w) item
        (subst (λ (i : ℕ). has (items_written (put vs w)) i ≡ true) (sym (eqb-true item w.0 at)) (new-put vs w))
    go false at h rest = rest h

-- ---- a share

items-mapped : (f : ℕ → Value) (items : List ℕ) → items_written (map (λ item. (item, f item)) items) ≡ items
items-mapped f [] = refl
items-mapped f (item ∷ items) = ap (λ (is : List ℕ). item ∷ is) (items-mapped f items)

module _ (lookup : ℕ → Value) where
  lists-items :
      (lists : List NewList)
      → items_written (flat_map (list_written lookup) lists)
      ≡ flat_map (λ (new : NewList). list_of (lookup new.object)) lists
  lists-items [] = refl
  lists-items (new ∷ lists) =
      map-append (λ (write : Write). write.0) (list_written lookup new) (flat_map (list_written lookup) lists)
      ∙ ap (λ (is : List ℕ). is ++ items_written (flat_map (list_written lookup) lists))
      (items-mapped (λ item. value.List new.list) (list_of (lookup new.object)))
      ∙ ap (λ (is : List ℕ). list_of (lookup new.object) ++ is) (lists-items lists)

  groups-items :
      (members : List NewMembership)
      → items_written (map (members_written lookup) members) ≡ map (λ (new : NewMembership). new.object) members
  groups-items [] = refl
  groups-items (new ∷ members) = ap (λ (is : List ℕ). new.object ∷ is) (groups-items members)

  share-items :
      (lists : List NewList) (members : List NewMembership)
      → items_written (flat_map (list_written lookup) lists ++ map (members_written lookup) members)
      ≡ items_shared lookup lists members
  share-items lists members =
      map-append (λ (write : Write). write.0) (flat_map (list_written lookup) lists)
      (map (members_written lookup) members)
      ∙ ap (λ (is : List ℕ). is ++ items_written (map (members_written lookup) members)) (lists-items lists)
      ∙ ap (λ (is : List ℕ). flat_map (λ (new : NewList). list_of (lookup new.object)) lists ++ is)
      (groups-items members)

pub share-writes :
    (permit : PermitState) (stamp : ℕ) (lists : List NewList) (members : List NewMembership) (item : ℕ)
    → permit.view.ask ≡ ask.Share lists members
    → Contains (items_shared (seen permit.view.rows) lists members) item
    → Contains (items_written (effect_of permit stamp)) item
share-writes permit stamp lists members item asked c =
    let lookup = seen permit.view.rows in
    let shared : List Write = flat_map (list_written lookup) lists ++ map (members_written lookup) members in
    let there : has (items_written shared) item ≡ true =
    subst (λ (is : List ℕ). has is item ≡ true) (sym (share-items lookup lists members))
    (Contains-has (items_shared lookup lists members) item c) in
    subst
    (λ (a : Ask). Contains (items_written (merged (written lookup permit.principal stamp a))) item)
    (sym asked)
    (has-Contains (items_written (merged shared)) item (new-fold shared [] item there))
