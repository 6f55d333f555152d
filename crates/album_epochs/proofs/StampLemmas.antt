-- The stamps of what was found, item by item: the loop of `stamps_of`.
use Rattle.std.proofs.Common.{◌≡◌, ◌==◌, ◌||◌, ℕ, Bool, true, false, List, [], ◌∷◌, ◌++◌, refl, sym, ap, ◌∙◌, subst, if◌then◌else◌}
use Rattle.std.specs.Set.{is_member}
use Rattle.std.specs.Ordering.{eq_by_cmp, nat_cmp}
use Rattle.std.proofs.lemmas.Bool.Decides.{Decides-eqb}
use Rattle.album_items.specs.FirstStamps.{Stamps, first_stamp, shown}
use Rattle.album_partition.proofs.HistoryLemmas.{key_tells}

-- whether the item is one of these
abbrev pub is_in : List ℕ → ℕ → Bool
is_in items q = is_member (eq_by_cmp nat_cmp) items q

turned : (a b : ℕ) → (a == b) ≡ (b == a)
turned a b = go (a == b) (b == a) refl refl
  where
    go : (s t : Bool) → (a == b) ≡ s → (b == a) ≡ t → s ≡ t
    go true true e f = refl
    go false false e f = refl
    go true false e f = absurd (cc (f, (Decides-eqb b a).1 (sym ((Decides-eqb a b).0 e))))
    go false true e f = absurd (cc (e, (Decides-eqb a b).1 (sym ((Decides-eqb b a).0 f))))

member_push : (items : List ℕ) (item q : ℕ) → is_in (items ++ item ∷ []) q ≡ (is_in items q || (item == q))
member_push [] item q = ap (λ (b : Bool). b || false) (key_tells q item ∙ turned q item) ∙ plain (item == q)
  where
    plain : (b : Bool) → (b || false) ≡ b
    plain true = refl
    plain false = refl
member_push (x ∷ items) item q = go (eq_by_cmp nat_cmp q x) (member_push items item q)
  where
    go : (b : Bool) → is_in (items ++ item ∷ []) q ≡ (is_in items q || (item == q))
        → (b || is_in (items ++ item ∷ []) q) ≡ ((b || is_in items q) || (item == q))
    go true h = refl
    go false h = h

pub left_more : (old new : Stamps) (left : ℕ → ℕ) (items : List ℕ) (item stamp : ℕ)
    → ((q : ℕ) → first_stamp old q ≡ (if is_in items q then left q else 0))
    → stamp ≡ left item
    → ((q : ℕ) → first_stamp new q ≡ (if item == q then shown old item stamp else first_stamp old q))
    → (q : ℕ) → first_stamp new q ≡ (if is_in (items ++ item ∷ []) q then left q else 0)
left_more old new left items item stamp h is up q =
    up q ∙ (go (item == q) refl (is_in items q) refl ∙ sym (ap (λ (b : Bool). if b then left q else 0) (member_push items item q)))
  where
    shown_so : (s : ℕ) (z b : Bool) → (s == 0) ≡ z → s ≡ left item → first_stamp old item ≡ (if b then left item else 0)
        → (if z then first_stamp old item else s) ≡ left item
    shown_so s true true w e f = f
    shown_so s true false w e f = f ∙ (sym ((Decides-eqb s 0).0 w) ∙ e)
    shown_so s false b w e f = e

    go : (t : Bool) → (item == q) ≡ t → (m : Bool) → is_in items q ≡ m
        → (if t then shown old item stamp else first_stamp old q) ≡ (if is_in items q || (item == q) then left q else 0)
    go true e m g =
        let same : item ≡ q = (Decides-eqb item q).0 e in
        subst (λ (i : ℕ). shown old item stamp ≡ left i) same (shown_so stamp (stamp == 0) (is_in items item) refl is (h item))
        ∙ sym (ap (λ (b : Bool). if b then left q else 0) (ap (λ (b : Bool). is_in items q || b) e ∙ or_true (is_in items q)))
      where
        or_true : (b : Bool) → (b || true) ≡ true
        or_true true = refl
        or_true false = refl
    go false e m g =
        h q ∙ sym (ap (λ (b : Bool). if b then left q else 0) (ap (λ (b : Bool). is_in items q || b) e ∙ or_false (is_in items q)))
      where
        or_false : (b : Bool) → (b || false) ≡ b
        or_false true = refl
        or_false false = refl
