-- What an acknowledged request sets stays until another sets it: the law `acknowledged_settings_stay` cites the lemmas
-- that are `pub`.
use Rattle.std.proofs.Common.{◌≡◌, ◌≢◌, ℕ, suc, ◌<◌, ◌≤◌, ◌==◌, ◌&&◌, ◌||◌, ◌++◌, Bool, true, false, cond, List, [], ◌∷◌, map, fold, Contains, Some, is_none, ◌⊎◌, inl, inr, ⊎_elim, if◌then◌else◌, refl, sym, ap, ◌∙◌, subst, arith, true≢false}
use Rattle.std.specs.List.{list_all}
use Rattle.std.proofs.lemmas.Bool.{and_parts, eqb-true, false≢true}
use Rattle.album_eval.specs.declared.facts.Principal.{Principal}
use Rattle.album_eval.specs.declared.policies.Policy.{Policy}
use Rattle.album_lists.specs.declared.lists.Ace.{Ace}
use Rattle.album_lists.specs.declared.whos.Member.{Member}
use Rattle.album_items.specs.ItemBack.{kind_of-item}
use Rattle.album_items.specs.ItemIds.{list, group, kind_of}
use Rattle.album_items.specs.Openings.{has_own_value}
use Rattle.album_items.specs.Values.{is_of, head_of, home_of, list_of, members_of}
use Rattle.album_items.specs.declared.values.Value.{Value}
use Rattle.album_items.specs.declared.values.Value.TheVariants as value
use Rattle.album_partition.specs.Marks.{value_in}
use Rattle.album_partition.proofs.StateLemmas.{same_stamp}
use Rattle.album_listing.proofs.Judging.{first-of}
use Rattle.album_passes.specs.Cuts.{Cut, Extends}
use Rattle.album_views.proofs.Flaws.{no_flaw}
use Rattle.album_views.specs.Checks.{has_kinds, has_single_objects}
use Rattle.album_views.specs.Seen.{seen}
use Rattle.album_views.specs.declared.asks.Ask.{Ask}
use Rattle.album_views.specs.declared.asks.Ask.TheVariants as ask
use Rattle.album_views.specs.declared.asks.NewList.{NewList}
use Rattle.album_permits.specs.Changes.{with_owner, with_members}
use Rattle.album_permits.specs.Effects.{Write, put, merged, new_head, owners_list, list_dropped, taken_out, effect_of}
use Rattle.album_permits.specs.Permits.{permit_on}
use Rattle.album_world.specs.Staying.{HandsOver, SetsList, SetsMembers}
use Rattle.album_world.proofs.ListLemmas.{in_cases, in_map, in_nil, in_one, within, contains}
use Rattle.album_lasting.specs.Staying.{IsOfCheckedService, IsCommittedAs, IsVersion, IsUndoneBetween, IsAcknowledged, IsOwnedBy}
use Rattle.album_lasting.proofs.AddLemmas.{last_merged, shown_kind}
use Rattle.album_lasting.proofs.AgeLemmas.{changed_there}
use Rattle.album_lasting.proofs.StayLemmas.{list_kind, deleted_kind, list_stays, members_stay, heads_stay, deleted_stays}
use Rattle.album_lasting.proofs.VersionLemmas.{row_version, kept_whole, version_high}

-- ---- what is written

-- a first write that none is put in the place of
first_kept : (i : ℕ) (v : Value) (acc ws : List Write) → ((w : Write) → Contains ws w → w.0 ≢ i) → value_in (fold put ((i, v) ∷ acc) ws) i ≡ Some v
first_kept i v acc [] apart = ap (λ (b : Bool). cond b (Some v) (value_in acc i)) (same_stamp i)
first_kept i v acc (w ∷ ws) apart =
    go (i == w.0) refl (first_kept i v (put acc w) ws (λ x k. apart x (suc k.0, omega (arith, k.1), k.2)))
  where
    go : (b : Bool) → (i == w.0) ≡ b → value_in (fold put ((i, v) ∷ put acc w) ws) i ≡ Some v
        → value_in (fold put (if b then w ∷ acc else (i, v) ∷ put acc w) ws) i ≡ Some v
    go true e rest = absurd (apart w (0, omega arith, refl) (sym (eqb-true i w.0 e)))
    go false e rest = rest

home_kind : (v : Value) (i : ℕ) → Contains (home_of v) i → kind_of i ≡ 1
home_kind value.Missing i c = in_nil (within [] c)
home_kind (value.Picture x) i c = ap kind_of (in_one (within _ c)) ∙ kind_of-item 1 x.home (omega arith)
home_kind (value.Album x) i c = in_nil (within [] c)
home_kind (value.List x) i c = in_nil (within [] c)
home_kind (value.Group x) i c = in_nil (within [] c)

-- with a picture its list and its home are written, and no picture
no_picture : (v : Value) (f : ℕ → Value) (w : Write)
    → Contains (map (λ (l : ℕ). (l, value.Missing)) (list_of v) ++ map (λ (h : ℕ). (h, f h)) (home_of v)) w → kind_of w.0 ≢ 0
no_picture v f w c = λ none. ⊎_elim
    (λ k.
    let m = in_map (λ (l : ℕ). (l, value.Missing)) (list_of v) k in
    let two : kind_of w.0 ≡ 2 = ap (λ (x : Write). kind_of x.0) m.2 ∙ list_kind v m.0 (contains m.1) in
    omega (arith, none, two))
    (λ k.
    let m = in_map (λ (h : ℕ). (h, f h)) (home_of v) k in
    let one : kind_of w.0 ≡ 1 = ap (λ (x : Write). kind_of x.0) m.2 ∙ home_kind v m.0 (contains m.1) in
    omega (arith, none, one))
    (in_cases (map (λ (l : ℕ). (l, value.Missing)) (list_of v)) (map (λ (h : ℕ). (h, f h)) (home_of v)) (within _ c))

owned_head : (owner : List ℕ) (number : ℕ) (v : Value) → is_none (head_of v) ≡ false → IsOwnedBy owner number (with_owner owner number v)
owned_head owner number value.Missing headed = absurd (true≢false headed)
owned_head owner number (value.Picture x) headed = record { head = _; is = refl; owner_is = refl; group_is = refl }
owned_head owner number (value.Album x) headed = record { head = _; is = refl; owner_is = refl; group_is = refl }
owned_head owner number (value.List x) headed = absurd (true≢false headed)
owned_head owner number (value.Group x) headed = record { head = _; is = refl; owner_is = refl; group_is = refl }

members_set : (ms : List Member) (v : Value) → is_none (head_of v) ≡ false → is_of v 3 ≡ true → members_of (with_members ms v) ≡ ms
members_set ms value.Missing headed kind = absurd (true≢false headed)
members_set ms (value.Picture x) headed kind = absurd (false≢true kind)
members_set ms (value.Album x) headed kind = absurd (false≢true kind)
members_set ms (value.List x) headed kind = absurd (true≢false headed)
members_set ms (value.Group x) headed kind = refl

members_there : (ms : List Member) (v : Value) → is_none (head_of v) ≡ false → with_members ms v ≢ value.Missing
members_there ms value.Missing headed e = absurd (true≢false headed)
members_there ms (value.Picture x) headed e = absurd (cc)
members_there ms (value.Album x) headed e = absurd (cc)
members_there ms (value.List x) headed e = absurd (true≢false headed)
members_there ms (value.Group x) headed e = absurd (cc)

only-list : (entries : List Ace) (number i : ℕ) → Contains (list number ∷ []) i
    → value_in (merged ((list number, value.List entries) ∷ [])) i ≡ Some (value.List entries)
only-list entries number i c =
    subst (λ (j : ℕ). value_in (merged ((list number, value.List entries) ∷ [])) j ≡ Some (value.List entries))
    (sym (in_one (within (list number ∷ []) c))) (last_merged [] (list number, value.List entries))

list_set : (entries : List Ace) (v : Value) (i : ℕ) → Contains (list_of v) i
    → value_in (merged (map (λ (l : ℕ). (l, value.List entries)) (list_of v) ++ [])) i ≡ Some (value.List entries)
list_set entries value.Missing i c = in_nil (within [] c)
list_set entries (value.Picture x) i c = only-list entries x.head.list i c
list_set entries (value.Album x) i c = only-list entries x.head.list i c
list_set entries (value.List x) i c = in_nil (within [] c)
list_set entries (value.Group x) i c = only-list entries x.head.list i c

-- ---- kinds of what is asked for

headed_kind : (k : ℕ) → (((0 == k) || ((1 == k) || ((3 == k) || false))) && true) ≡ true → k ≢ 2
headed_kind k e = λ two. false≢true (subst (λ (n : ℕ). (((0 == n) || ((1 == n) || ((3 == n) || false))) && true) ≡ true) two e)

group_kind : (k : ℕ) → (((3 == k) || false) && true) ≡ true → k ≡ 3
group_kind k e = sym (eqb-true 3 k (only (3 == k) (and_parts ((3 == k) || false) true e).0))
  where
    only : (b : Bool) → (b || false) ≡ true → b ≡ true
    only true f = refl
    only false f = f

module _ (policy : Policy) (b o c : Cut) (me : Principal) (h : IsOfCheckedService policy c) (low : 1 ≤ c.parts) (x : Extends o c) (t : ℕ) where
  -- what an acknowledged request writes is a version
  acknowledged : (a : Ask) (on : IsAcknowledged policy b o me a t) (i : ℕ) (v : Value) → value_in (effect_of (permit_on policy me a on.rows) t) i ≡ Some v
      → IsCommittedAs c i t v
  acknowledged a on = kept_whole o c (permit_on policy me a on.rows) t h.sound low x on.holds.1

  asked_kinds : (a : Ask) → IsAcknowledged policy b o me a t → has_kinds a ≡ true
  asked_kinds a on = (and_parts (has_kinds a) (has_single_objects a) (no_flaw a on.view.sound).request).0

  pub deletion_stays : (object last : ℕ) (is : Value) → IsAcknowledged policy b o me (ask.Delete object) t → IsVersion c object last is → t ≤ last → is ≡ value.Missing
  deletion_stays object last is on version order =
      let kind = deleted_kind object (asked_kinds (ask.Delete object) on) in
      let w = acknowledged (ask.Delete object) on object value.Missing
      (first_kept object value.Missing [] (list_dropped (seen on.rows) object ++ taken_out (seen on.rows) object)
      (λ y k same. no_picture (seen on.rows object) _ y k (ap kind_of same ∙ kind))) in
      let high : h.above.greatest < t = version_high c object t value.Missing h.sound h.above w.is in
      deleted_stays policy c object t last value.Missing is h (λ two. omega (arith, two, kind)) (λ zero. omega (arith, zero, high))
      (record { earlier = inr w; later = version; order = order }) refl

  pub owner_stays : (object number last : ℕ) (owner : List ℕ) (is : Value) → IsAcknowledged policy b o me (ask.SetOwner object owner number) t
      → IsVersion c object last is → t ≤ last
      → IsOwnedBy owner number is ⊎ IsUndoneBetween policy c object t last (λ permit. HandsOver object permit.view.ask)
  owner_stays object number last owner is on version order =
      let a : Ask = ask.SetOwner object owner number in
      let v : Value = with_owner owner number (seen on.rows object) in
      let w = acknowledged a on object v (last_merged [] (object, v)) in
      let there = changed_there (permit_on policy me a on.rows) on.holds.0 object (first-of object []) in
      let had = owned_head owner number (seen on.rows object) there in
      ⊎_elim
      (λ (e : head_of is ≡ Some had.head). inl (record { head = had.head; is = e; owner_is = had.owner_is; group_is = had.group_is }))
      inr
      (heads_stay policy c object t last v is had.head h (headed_kind (kind_of object) (asked_kinds a on))
      (record { earlier = inr w; later = version; order = order }) had.is)

  pub members_last : (object last : ℕ) (members : List Member) (is : Value) → list_all has_own_value c.opening ≡ true
      → IsAcknowledged policy b o me (ask.SetMembers object members) t → IsVersion c object last is → t ≤ last
      → (members_of is ≡ members) ⊎ IsUndoneBetween policy c object t last (λ permit. SetsMembers object permit.view.ask)
  members_last object last members is own on version order =
      let a : Ask = ask.SetMembers object members in
      let v : Value = with_members members (seen on.rows object) in
      let w = acknowledged a on object v (last_merged [] (object, v)) in
      let there = changed_there (permit_on policy me a on.rows) on.holds.0 object (first-of object []) in
      let kind = group_kind (kind_of object) (asked_kinds a on) in
      let right = shown_kind policy c h own on.rows object (λ row k. row_version b o c on.rows row h.sound h.above x on.seen k) in
      let set = members_set members (seen on.rows object) there (subst (λ (n : ℕ). is_of (seen on.rows object) n ≡ true) kind right) in
      ⊎_elim (λ (e : members_of is ≡ members_of v). inl (e ∙ set)) inr
      (members_stay policy c h object t last v is (record { earlier = inr w; later = version; order = order }) kind
      (members_there members (seen on.rows object) there))

  -- a group that is made
  pub group_lasts : (into last : ℕ) (members : List Member) (is : Value) → IsAcknowledged policy b o me (ask.AddGroup into members) t
      → IsVersion c (group t) last is → t ≤ last
      → (members_of is ≡ members) ⊎ IsUndoneBetween policy c (group t) t last (λ permit. SetsMembers (group t) permit.view.ask)
  group_lasts into last members is on version order =
      let v : Value = value.Group (record { head = new_head (seen on.rows) me t into; members = members }) in
      let w = acknowledged (ask.AddGroup into members) on (group t) v
      (first_kept (group t) v [] ((list t, value.List owners_list) ∷ [])
      (λ y k same.
      let three : kind_of y.0 ≡ 3 = ap kind_of same ∙ kind_of-item 3 t (omega arith) in
      let two : kind_of y.0 ≡ 2 =
      ap (λ (z : Write). kind_of z.0) (in_one (within ((list t, value.List owners_list) ∷ []) k)) ∙ kind_of-item 2 t (omega arith) in
      omega (arith, three, two))) in
      members_stay policy c h (group t) t last v is (record { earlier = inr w; later = version; order = order })
      (kind_of-item 3 t (omega arith)) (λ e. absurd (cc))

  pub list_lasts : (new : NewList) (item last : ℕ) (is : Value) (on : IsAcknowledged policy b o me (ask.SetLists (new ∷ [])) t)
      → Contains (list_of (seen on.rows new.object)) item → IsVersion c item last is → t ≤ last
      → (is ≡ value.List new.list) ⊎ IsUndoneBetween policy c item t last (λ permit. SetsList (seen permit.view.rows) item permit.view.ask)
  list_lasts new item last is on whose version order =
      let w = acknowledged (ask.SetLists (new ∷ [])) on item (value.List new.list) (list_set new.list (seen on.rows new.object) item whose) in
      list_stays policy c h item t last (value.List new.list) is (record { earlier = inr w; later = version; order = order }) new.list
      (list_kind (seen on.rows new.object) item whose) refl
