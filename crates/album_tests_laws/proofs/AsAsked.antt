-- What is written is what is asked, for the laws of `writing`: the lists that are set, the groups of a share, and what
-- root writes.
use Rattle.std.proofs.Common.{◌≡◌, ◌<◌, ◌⊎◌, ◌++◌, ℕ, zero, suc, List, [], ◌∷◌, Contains, length, map, inl, inr, refl, sym, ap, subst, ◌∙◌, arith}
use Rattle.std.specs.List.{flat_map, slice_index_or}
use Rattle.std.proofs.lemmas.List.{append-nil}
use Rattle.std.proofs.lemmas.List.Elements.{Contains-append_left, Contains-append_right}
use Rattle.album_items.specs.Transactions.{items_written}
use Rattle.album_items.specs.Values.{list_of}
use Rattle.album_items.specs.declared.values.Value.{Value}
use Rattle.album_items.specs.declared.values.Value.TheVariants as value
use Rattle.album_views.specs.Seen.{seen}
use Rattle.album_views.specs.declared.asks.Ask.{Ask}
use Rattle.album_views.specs.declared.asks.Ask.TheVariants as ask
use Rattle.album_views.specs.declared.asks.NewList.{NewList}
use Rattle.album_views.specs.declared.asks.NewMembership.{NewMembership}
use Rattle.album_permits.proofs.Elements.{Each, each-append, each-one, each-mapped, each-fold, first, behind}
use Rattle.album_permits.proofs.Sharing.{share-writes}
use Rattle.album_permits.specs.Changes.{with_members}
use Rattle.album_permits.specs.Effects.{Write, list_written, members_written, written, merged, effect_of}
use Rattle.album_permits.specs.Permits.{PermitState}
use Rattle.album_eval.specs.declared.facts.Principal.{Principal}
use Rattle.album_eval.specs.declared.facts.Principal.TheVariants as principal
use Rattle.album_tests_laws.specs.Asked.{IsListAsked, IsMembershipAsked}

-- ---- lists in general

flat-in :
    {X : Type 0} (f : X → List ℕ) (xs : List X) (x : X) (item : ℕ) → Contains xs x → Contains (f x) item
    → Contains (flat_map f xs) item
flat-in f [] x item c here = absurd (omega (arith, c.1))
flat-in {X} f (y ∷ xs) x item c here = go c.0 c.1 c.2 (λ d. flat-in f xs x item d here)
  where
    go :
        (k : ℕ) → k < suc (length xs) → slice_index_or (y ∷ xs) k x ≡ x
        → (Contains xs x → Contains (flat_map f xs) item) → Contains (f y ++ flat_map f xs) item
    go zero below same rest =
        Contains-append_left (f y) (flat_map f xs) item (subst (λ (z : X). Contains (f z) item) (sym same) here)
    go (suc k) below same rest =
        Contains-append_right (f y) (flat_map f xs) item (rest (k, omega (arith, below), same))

each-weaker : {X : Type 0} (P Q : X → Type 0) (xs : List X) → ((x : X) → P x → Q x) → Each P xs → Each Q xs
each-weaker P Q [] weaker all = tt
each-weaker P Q (x ∷ xs) weaker all = (weaker x all.0, each-weaker P Q xs weaker all.1)

-- ---- what is written of each

module _ (shown : ℕ → Value) where
  abbrev IsList : List NewList → Write → Type 0
  IsList lists write = IsListAsked shown lists write.0 write.1

  abbrev IsGroup : List NewMembership → Write → Type 0
  IsGroup members write = IsMembershipAsked shown members write.0 write.1

  lists-each :
      (all lists : List NewList) → ((new : NewList) → Contains lists new → Contains all new)
      → Each (IsList all) (flat_map (list_written shown) lists)
  lists-each all [] within = tt
  lists-each all (new ∷ lists) within =
      each-append (IsList all) (list_written shown new) (flat_map (list_written shown) lists)
      (each-mapped (IsList all) (λ item. value.List new.list) (list_of (shown new.object))
      (λ item whose. record { new = new; named = within new (first new lists); whose = whose; entries = refl }))
      (lists-each all lists (λ other c. within other (behind new lists other c)))

  groups-each :
      (all members : List NewMembership) → ((new : NewMembership) → Contains members new → Contains all new)
      → Each (IsGroup all) (map (members_written shown) members)
  groups-each all [] within = tt
  groups-each all (new ∷ members) within = (
    record {
      new = new;
      named = within new (first new members);
      whose = refl;
      group = λ was same. ap (λ (v : Value). with_members new.members v) same;
    },
    groups-each all members (λ other c. within other (behind new members other c)),
  )

-- ---- the laws

-- what a permit writes, by its ask
by-ask :
    (permit : PermitState) (stamp : ℕ) (a : Ask) → permit.view.ask ≡ a
    → effect_of permit stamp ≡ merged (written (seen permit.view.rows) permit.principal stamp a)
by-ask permit stamp a same = ap (λ (b : Ask). merged (written (seen permit.view.rows) permit.principal stamp b)) same

pub lists-only :
    (permit : PermitState) (stamp item : ℕ) (is : Value) (lists : List NewList)
    → permit.view.ask ≡ ask.SetLists lists → Contains (effect_of permit stamp) (item, is)
    → IsListAsked (seen permit.view.rows) lists item is
lists-only permit stamp item is lists asked c =
    let shown = seen permit.view.rows in
    let ws : List Write = flat_map (list_written shown) lists in
    each-one (IsList shown lists) (merged ws) (item, is)
    (each-fold (IsList shown lists) [] ws tt (lists-each shown lists lists (λ new d. d)))
    (subst (λ (vs : List Write). Contains vs (item, is)) (by-ask permit stamp (ask.SetLists lists) asked) c)

-- a share without groups writes the lists that are set
pub lists-all :
    (permit : PermitState) (stamp item : ℕ) (lists : List NewList) (new : NewList)
    → permit.view.ask ≡ ask.SetLists lists → Contains lists new
    → Contains (list_of (seen permit.view.rows new.object)) item
    → Contains (items_written (effect_of permit stamp)) item
lists-all permit stamp item lists new asked named whose =
    let shown = seen permit.view.rows in
    let ws : List Write = flat_map (list_written shown) lists in
    let shares : PermitState = record permit {
      view = record { looker = permit.view.looker; ask = ask.Share lists []; rows = permit.view.rows };
    }
    in
    let owned : List ℕ = flat_map (λ (n : NewList). list_of (shown n.object)) lists in
    let there : Contains (items_written (merged (ws ++ []))) item =
    share-writes shares stamp lists [] item refl
    (Contains-append_left owned [] item
    (flat-in (λ (n : NewList). list_of (shown n.object)) lists new item named whose))
    in
    subst (λ (vs : List Write). Contains (items_written vs) item) (sym (by-ask permit stamp (ask.SetLists lists) asked))
    (subst (λ (vs : List Write). Contains (items_written (merged vs)) item) (append-nil ws) there)

pub share-only :
    (permit : PermitState) (stamp item : ℕ) (is : Value) (lists : List NewList) (members : List NewMembership)
    → permit.view.ask ≡ ask.Share lists members → Contains (effect_of permit stamp) (item, is)
    → IsListAsked (seen permit.view.rows) lists item is ⊎ IsMembershipAsked (seen permit.view.rows) members item is
share-only permit stamp item is lists members asked c =
    let shown = seen permit.view.rows in
    let ls : List Write = flat_map (list_written shown) lists in
    let ms : List Write = map (members_written shown) members in
    each-one IsOne (merged (ls ++ ms)) (item, is)
    (each-fold IsOne [] (ls ++ ms) tt
    (each-append IsOne ls ms
    (each-weaker (IsList shown lists) IsOne ls (λ w h. inl h) (lists-each shown lists lists (λ new d. d)))
    (each-weaker (IsGroup shown members) IsOne ms (λ w h. inr h) (groups-each shown members members (λ new d. d)))))
    (subst (λ (vs : List Write). Contains vs (item, is)) (by-ask permit stamp (ask.Share lists members) asked) c)
  where
    IsOne : Write → Type 0
    IsOne w = IsList (seen permit.view.rows) lists w ⊎ IsGroup (seen permit.view.rows) members w

-- ---- root

same-written :
    (shown : ℕ → Value) (stamp : ℕ) (user : List ℕ) (a : Ask)
    → written shown (principal.Root user) stamp a ≡ written shown (principal.User user) stamp a
same-written shown stamp user (ask.Read object) = refl
same-written shown stamp user (ask.List album) = refl
same-written shown stamp user (ask.GetList object) = refl
same-written shown stamp user (ask.Head object) = refl
same-written shown stamp user (ask.Children album) = refl
same-written shown stamp user (ask.AddPicture into title content) = refl
same-written shown stamp user (ask.AddAlbum into title) = refl
same-written shown stamp user (ask.AddGroup into members) = refl
same-written shown stamp user (ask.Retitle object title) = refl
same-written shown stamp user (ask.Replace object content) = refl
same-written shown stamp user (ask.Delete object) = refl
same-written shown stamp user (ask.Move object to) = refl
same-written shown stamp user (ask.SetLists lists) = refl
same-written shown stamp user (ask.SetOwner object owner group) = refl
same-written shown stamp user (ask.SetMembers object members) = refl
same-written shown stamp user (ask.Share lists members) = refl

pub root-writes :
    (permit : PermitState) (stamp : ℕ) (user : List ℕ) → permit.principal ≡ principal.Root user
    → effect_of permit stamp ≡ effect_of (record permit { principal = principal.User user }) stamp
root-writes permit stamp user root =
    let shown = seen permit.view.rows in
    ap (λ (p : Principal). merged (written shown p stamp permit.view.ask)) root
    ∙ ap (λ (ws : List Write). merged ws) (same-written shown stamp user permit.view.ask)
