-- What is added to an album stays there until a request takes it out (`additions_stay`): each version is of its item's
-- kind (`kinds`), so the album's value is an album.
use Rattle.std.proofs.Common.{◌≡◌, ℕ, zero, suc, ◌<◌, ◌≤◌, ◌==◌, ◌&&◌, ◌||◌, ◌++◌, Bool, true, false, cond, List, [], ◌∷◌, fold, Contains, Option, Some, None, is_none, ◌⊎◌, inl, inr, ⊎_elim, if◌then◌else◌, refl, sym, ap, ◌∙◌, subst, arith, true≢false}
use Rattle.std.specs.List.{list_all}
use Rattle.std.specs.Option.{unwrap_or}
use Rattle.std.proofs.lemmas.Bool.{and_parts, and_from, eqb-true, false≢true}
use Rattle.std.proofs.lemmas.List.Elements.{All-contains, Contains-push}
use Rattle.std.proofs.lemmas.List.Sums.{fold-append}
use Rattle.album_eval.specs.declared.facts.Principal.{Principal}
use Rattle.album_eval.specs.declared.policies.Policy.{Policy}
use Rattle.album_items.specs.ItemIds.{picture, album, kind_of, number_of}
use Rattle.album_items.specs.Openings.{Row, has_own_value}
use Rattle.album_items.specs.Transactions.{has_right_kind}
use Rattle.album_items.specs.Values.{is_of, is_there, head_of, children_of}
use Rattle.album_items.specs.declared.values.Value.{Value}
use Rattle.album_items.specs.declared.values.Value.TheVariants as value
use Rattle.album_partition.specs.Marks.{value_in, first_value}
use Rattle.album_partition.proofs.ListLemmas.{list_all-contains}
use Rattle.album_partition.proofs.StateLemmas.{same_stamp}
use Rattle.album_listing.proofs.Judging.{first-of}
use Rattle.album_passes.specs.Cuts.{Cut, Extends}
use Rattle.album_reader.specs.Answers.{ReadVersion}
use Rattle.album_views.proofs.Flaws.{no_flaw}
use Rattle.album_views.specs.Checks.{has_kinds, has_single_objects}
use Rattle.album_views.specs.Seen.{seen}
use Rattle.album_views.specs.declared.asks.Ask.{Ask}
use Rattle.album_views.specs.declared.asks.Ask.TheVariants as ask
use Rattle.album_permits.proofs.Needing.{effect-may}
use Rattle.album_permits.proofs.Transacting.{effect_kinds}
use Rattle.album_permits.specs.Changes.{with_home, with_child, others}
use Rattle.album_permits.specs.Effects.{Write, taken_out, put, merged, written, effect_of}
use Rattle.album_permits.specs.Kinds.{shows_right_kinds}
use Rattle.album_permits.specs.Meaning.{Finds, MayWrite}
use Rattle.album_permits.specs.Meaning.MayWrite.{New, Object, ListOf}
use Rattle.album_permits.specs.Permits.{permit_on}
use Rattle.album_permits.specs.declared.findings.Finding.TheVariants.{Granted}
use Rattle.album_grounds.specs.Grounds.{IsOnView, IsKept}
use Rattle.album_world.specs.Staying.{TakesOut}
use Rattle.album_world.proofs.AgeLemmas.{pair_in}
use Rattle.album_world.proofs.ListLemmas.{contains, in_all, in_nil, within}
use Rattle.album_world.proofs.ShownLemmas.{IsShownBy, shown_or_missing}
use Rattle.album_lasting.specs.Staying.{IsOfCheckedService, IsCommittedAs, IsVersion, IsUndoneBetween, Adds}
use Rattle.album_lasting.specs.Staying.Adds.{Picture, Album, Moves}
use Rattle.album_lasting.proofs.AgeLemmas.{changed_there}
use Rattle.album_lasting.proofs.StayLemmas.{list_kind, child_stays}
use Rattle.album_lasting.proofs.VersionLemmas.{permit_for, row_version, kept_whole}

-- ---- the kinds of versions

first_kind : (rows : List Row) (i : ℕ) → list_all has_own_value rows ≡ true → is_of (first_value rows i) (kind_of i) ≡ true
first_kind rows i own = go (value_in rows i) refl
  where
    go : (o : Option Value) → value_in rows i ≡ o → is_of (unwrap_or o value.Missing) (kind_of i) ≡ true
    go None e = refl
    go (Some v) e = (and_parts (is_there v) (is_of v (kind_of i)) (in_all has_own_value rows own (pair_in rows i v e))).1

all_right : (rows : List ReadVersion) → ((row : ReadVersion) → Contains rows row → is_of row.value (kind_of row.item) ≡ true) → shows_right_kinds rows ≡ true
all_right [] each = refl
all_right (row ∷ rows) each =
    and_from (is_of row.value (kind_of row.item)) (shows_right_kinds rows) (each row (0, omega arith, refl))
    (all_right rows (λ r k. each r (suc k.0, omega (arith, k.1), k.2)))

module _ (policy : Policy) (c : Cut) (h : IsOfCheckedService policy c) (own : list_all has_own_value c.opening ≡ true) where
  -- of the versions below a bound
  abbrev Kinds : ℕ → Type 0
  Kinds n = (t : ℕ) → t < n → (i : ℕ) (v : Value) → IsCommittedAs c i t v → is_of v (kind_of i) ≡ true

  version_kind : (n : ℕ) → Kinds n → (i t : ℕ) (v : Value) → t < n → IsVersion c i t v → is_of v (kind_of i) ≡ true
  version_kind n rest i t v low (inl f) = subst (λ (w : Value). is_of w (kind_of i) ≡ true) (sym f.1) (first_kind c.opening i own)
  version_kind n rest i t v low (inr w) = rest t low i v w

  kinds : (n : ℕ) → Kinds n
  kinds zero = λ t low i v w. absurd (omega (arith, low))
  kinds (suc n) = step (kinds n)
    where
      step : Kinds n → Kinds (suc n)
      step rest t low i v w =
          let p = permit_for policy c h i t v w.is in
          let right = all_right p.permit.view.rows (λ row k.
          let below : row.stamp < t = All-contains (λ (r : ReadVersion). r.stamp < t) p.permit.view.rows row p.above k in
          version_kind n rest row.item row.stamp row.value (omega (arith, below, low)) (p.read row k)) in
          list_all-contains has_right_kind (effect_of p.permit t) (i, v) (effect_kinds p.permit t right) p.effect.written

  any_kind : (i t : ℕ) (v : Value) → IsVersion c i t v → is_of v (kind_of i) ≡ true
  any_kind i t v is = version_kind (suc t) (kinds (suc t)) i t v (omega arith) is

  -- what is read, and what is missing
  pub shown_kind : (rows : List ReadVersion) (i : ℕ) → ((row : ReadVersion) → Contains rows row → IsVersion c row.item row.stamp row.value)
      → is_of (seen rows i) (kind_of i) ≡ true
  shown_kind rows i each = ⊎_elim
      (λ (shown : IsShownBy rows i).
      subst (λ (x : ℕ × Value). is_of x.1 (kind_of x.0) ≡ true) (λ j. (shown.of j, sym shown.value j))
      (any_kind shown.row.item shown.row.stamp shown.row.value (each shown.row shown.there)))
      (λ (gone : seen rows i ≡ value.Missing). ap (λ (v : Value). is_of v (kind_of i)) gone)
      (shown_or_missing rows i)

-- ---- what is added

-- the last write of an item is what it is written
last_put : (ws : List Write) (w : Write) → value_in (put ws w) w.0 ≡ Some w.1
last_put [] w = ap (λ (b : Bool). cond b (Some w.1) None) (same_stamp w.0)
last_put (e ∷ ws) w = go (e.0 == w.0) refl (last_put ws w)
  where
    go : (b : Bool) → (e.0 == w.0) ≡ b → value_in (put ws w) w.0 ≡ Some w.1 → value_in (if b then w ∷ ws else e ∷ put ws w) w.0 ≡ Some w.1
    go true f rest = ap (λ (b : Bool). cond b (Some w.1) (value_in ws w.0)) (same_stamp w.0)
    go false f rest = ap (λ (b : Bool). cond b (Some e.1) (value_in (put ws w) w.0)) f ∙ rest

pub last_merged : (ws : List Write) (w : Write) → value_in (merged (ws ++ w ∷ [])) w.0 ≡ Some w.1
last_merged ws w = ap (λ (vs : List Write). value_in vs w.0) (fold-append put [] ws (w ∷ [])) ∙ last_put (fold put [] ws) w

added_value : (shown : ℕ → Value) (me : Principal) (t : ℕ) {a : Ask} {into child : ℕ} → Adds t a into child
    → value_in (merged (written shown me t a)) into ≡ Some (with_child child (shown into))
added_value shown me t (Picture into title content) = last_merged (_ ∷ _ ∷ []) (into, with_child (picture t) (shown into))
added_value shown me t (Album into title) = last_merged (_ ∷ _ ∷ []) (into, with_child (album t) (shown into))
added_value shown me t (Moves object to) =
    last_merged ((object, with_home (number_of to) (shown object)) ∷ taken_out shown object) (to, with_child object (shown to))

only : (b : Bool) → (b || false) ≡ true → b ≡ true
only true e = refl
only false e = e

album_kind : (i : ℕ) → ((1 == kind_of i) || false) ≡ true → kind_of i ≡ 1
album_kind i e = sym (eqb-true 1 (kind_of i) (only (1 == kind_of i) e))

-- it is added to an album
added_kind : (t : ℕ) {a : Ask} {into child : ℕ} → Adds t a into child → has_kinds a ≡ true → kind_of into ≡ 1
added_kind t (Picture into title content) e = album_kind into (and_parts (1 == kind_of into || false) true e).0
added_kind t (Album into title) e = album_kind into (and_parts (1 == kind_of into || false) true e).0
added_kind t (Moves object to) e =
    album_kind to (and_parts (1 == kind_of to || false) true (and_parts (0 == kind_of object || false) ((1 == kind_of to || false) && true) e).1).0

-- which is there
added_there : (policy : Policy) (me : Principal) (rows : List ReadVersion) (t : ℕ) {a : Ask} {into child : ℕ} → Adds t a into child
    → Finds (permit_on policy me a rows) Granted → kind_of into ≡ 1 → is_none (head_of (seen rows into)) ≡ false
added_there policy me rows t (Picture into title content) found kind =
    changed_there (permit_on policy me (ask.AddPicture into title content) rows) found into (first-of into [])
added_there policy me rows t (Album into title) found kind =
    changed_there (permit_on policy me (ask.AddAlbum into title) rows) found into (first-of into [])
added_there policy me rows t (Moves object to) found kind =
    go to kind (effect-may (permit_on policy me (ask.Move object to) rows) t (to, with_child object (seen rows to))
    (contains (pair_in (effect_of (permit_on policy me (ask.Move object to) rows) t) to (with_child object (seen rows to))
    (added_value (seen rows) me t (Moves object to)))))
  where
    go : (i : ℕ) → kind_of i ≡ 1 → MayWrite (seen rows) t (ask.Move object to) i → is_none (head_of (seen rows i)) ≡ false
    go i is (New item k) = in_nil (within [] k)
    go i is (Object other k) = changed_there (permit_on policy me (ask.Move object to) rows) found i k
    go i is (ListOf other item k whose) = let two = list_kind (seen rows other) i whose in absurd (omega (arith, is, two))

children_added : (child : ℕ) (v : Value) → is_none (head_of v) ≡ false → is_of v 1 ≡ true → Contains (children_of (with_child child v)) child
children_added child value.Missing headed kind = absurd (true≢false headed)
children_added child (value.Picture x) headed kind = absurd (false≢true kind)
children_added child (value.Album x) headed kind = Contains-push (others child x.children) child
children_added child (value.List x) headed kind = absurd (true≢false headed)
children_added child (value.Group x) headed kind = absurd (false≢true kind)

pub additions_stay : (policy : Policy) (b o c : Cut) (me : Principal) (a : Ask) (t into child last : ℕ) (is : Value) → IsOfCheckedService policy c
    → 1 ≤ c.parts → list_all has_own_value c.opening ≡ true → Extends o c
    → IsOnView b o policy me a (λ permit. Finds permit Granted × IsKept o permit t) → Adds t a into child
    → IsVersion c into last is → t ≤ last
    → Contains (children_of is) child ⊎ IsUndoneBetween policy c into t last (λ permit. TakesOut child permit.view.ask)
additions_stay policy b o c me a t into child last is h low own x on adds version order =
    let v : Value = with_child child (seen on.rows into) in
    let w : IsCommittedAs c into t v = kept_whole o c (permit_on policy me a on.rows) t h.sound low x on.holds.1 into v
    (added_value (seen on.rows) me t adds) in
    let kind = added_kind t adds (and_parts (has_kinds a) (has_single_objects a) (no_flaw a on.view.sound).request).0 in
    let there = added_there policy me on.rows t adds on.holds.0 kind in
    let right = shown_kind policy c h own on.rows into (λ row k. row_version b o c on.rows row h.sound h.above x on.seen k) in
    child_stays policy c h into t last v is (record { earlier = inr w; later = version; order = order }) child kind
    (children_added child (seen on.rows into) there (subst (λ (n : ℕ). is_of (seen on.rows into) n ≡ true) kind right))
