-- What is found mark by mark is what is carried, in a sound cut. `fold` needs `stamp_is` and `value_is`.
use Rattle.std.proofs.Common.{◌≡◌, ◌≢◌, ℕ, zero, suc, ◌<◌, ◌≤◌, ◌⊎◌, inl, inr, Bool, true, false, nat_lt, List, [], ◌∷◌, ◌++◌, get_or, Contains, is_some, Some, None, Option, if◌then◌else◌, refl, ap, sym, ◌∙◌, subst, ⊎_elim, arith, lt-ltb, le-ltb, eq-eqb, ne_eqb}
use Rattle.std.specs.List.{list_any, list_all, find}
use Rattle.std.specs.Option.{option_or, unwrap_or, option_map}
use Rattle.std.proofs.lemmas.Bool.{cases_lt, and_parts, and_from}
use Rattle.std.proofs.lemmas.List.Elements.{Contains-push_cases}
use Rattle.std.proofs.lemmas.List.Folds.{find-append}
use Rattle.album_items.specs.ItemIds.{place_of}
use Rattle.album_items.specs.Openings.{Row}
use Rattle.album_items.specs.declared.values.Value.{Value}
use Rattle.album_items.specs.declared.values.Value.TheVariants.{Missing}
use Rattle.album_partition.specs.declared.marks.Mark.{Mark}
use Rattle.album_partition.specs.declared.marks.Mark.TheVariants.{Prepared, Committed, Discarded, Trimmed}
use Rattle.album_partition.specs.Marks.{prepares, state_of, may_follow, is_legal, mark_writes, writes_at, value_in, prepared_stamps, first_value}
use Rattle.album_partition.proofs.LegalLemmas.{along}
use Rattle.album_partition.proofs.ListLemmas.{contains_from_any}
use Rattle.album_partition.proofs.StateLemmas.{same_stamp, unknown_tells, is_unknown_tells, find_push_first}
use Rattle.album_versions.proofs.Greatest.{best_of-unique}
use Rattle.album_passes.specs.Cuts.{Cut, marks_at, prefix_for}
use Rattle.album_passes.specs.Reads.{written_value}
use Rattle.album_passes.proofs.ClosedLemmas.{any_found, items_of_named}
use Rattle.album_passes.proofs.ReadLemmas.{version_parts, version_prepared}
use Rattle.album_epochs.specs.Carried.{IsLeft, is_prepared_for, is_carried, has_carried, carried_stamp, value_carried_at, carried_value}
use Rattle.album_epochs.specs.Folding.{Kept, stamp_kept, first_kept, raised, is_throughout, raised_by, newest, value_kept}
use Rattle.album_epochs.proofs.CarriedLemmas.{throughout, carried_by}
use Rattle.album_epochs.proofs.LeftLemmas.{legal_left, named_left, undiscarded_left}
use Rattle.album_epochs.proofs.EpochLemmas.{prepared_is, there}

-- ---- a stamp is prepared once

Once : List Mark → Type 0
Once ms = (t : ℕ) (ws : List Row) (is : List ℕ) → Contains ms (Prepared t ws is) → find (prepares t) ms ≡ Some (Prepared t ws is)

pub prepared_once : (ms : List Mark) → is_legal ms ≡ true → (t : ℕ) (ws : List Row) (is : List ℕ) → Contains ms (Prepared t ws is) → find (prepares t) ms ≡ Some (Prepared t ws is)
prepared_once ms legal = along (λ (ns : List Mark). (t : ℕ) (ws : List Row) (is : List ℕ) → Contains ns (Prepared t ws is) → find (prepares t) ns ≡ Some (Prepared t ws is))
    more [] ms legal (λ t ws is n. absurd (omega (arith, n.1)))
  where
    more : (ns : List Mark) (m : Mark) → may_follow ns m ≡ true
        → ((t : ℕ) (ws : List Row) (is : List ℕ) → Contains ns (Prepared t ws is) → find (prepares t) ns ≡ Some (Prepared t ws is))
        → (t : ℕ) (ws : List Row) (is : List ℕ) → Contains (ns ++ m ∷ []) (Prepared t ws is) → find (prepares t) (ns ++ m ∷ []) ≡ Some (Prepared t ws is)
    more ns m may h t ws is n = ⊎_elim
        (λ (old : Contains ns (Prepared t ws is)). find-append (prepares t) ns (m ∷ []) ∙ ap (λ (o : Option Mark). option_or o (find (prepares t) (m ∷ []))) (h t ws is old))
        (λ (new : m ≡ Prepared t ws is).
        let may_t : may_follow ns (Prepared t ws is) ≡ true = subst (λ (x : Mark). may_follow ns x ≡ true) new may in
        let none = (unknown_tells _ _ _ (is_unknown_tells (state_of ns t) may_t)).2 in
        subst (λ (x : Mark). find (prepares t) (ns ++ x ∷ []) ≡ Some (Prepared t ws is)) (sym new)
        (find_push_first (prepares t) ns (Prepared t ws is) none (same_stamp t)))
        (Contains-push_cases ns m (Prepared t ws is) n)

-- ---- what is found

-- the mark prepares it, throughout
pub record IsOf (hs : List (List Mark)) (i : ℕ) (m : Mark) (kept : Option Kept) : Type 0 where
  pub t : ℕ
  pub v : Value
  pub ws : List Row
  pub is : List ℕ
  pub mark : m ≡ Prepared t ws is
  pub carried : is_throughout hs t is ≡ true
  pub value : value_in ws i ≡ Some v
  pub kept_is : kept ≡ Some (t, v)
  pub some : 0 < t

-- one of the marks does
pub record IsFrom (hs : List (List Mark)) (i : ℕ) (ms : List Mark) (kept : Option Kept) : Type 0 where
  pub m : Mark
  pub listed : Contains ms m
  pub of : IsOf hs i m kept

module _ (hs : List (List Mark)) (i : ℕ) where
  step_of : (k : Option Kept) (m : Mark) → (raised_by hs i k m ≡ k) ⊎ IsOf hs i m (raised_by hs i k m)
  step_of k (Committed u) = inl refl
  step_of k (Discarded u) = inl refl
  step_of k (Trimmed j) = inl refl
  step_of k (Prepared t ws is) = go (is_throughout hs t is) (value_in ws i) refl refl
    where
      at : (v : Value) → is_throughout hs t is ≡ true → value_in ws i ≡ Some v → (b : Bool) → nat_lt (stamp_kept k) t ≡ b
          → ((if b then Some (t, v) else k) ≡ k) ⊎ IsOf hs i (Prepared t ws is) (if b then Some (t, v) else k)
      at v e f false g = inl refl
      at v e f true g =
          ⊎_elim
          (λ (l : stamp_kept k < t). inr record { t = t; v = v; ws = ws; is = is; mark = refl; carried = e; value = f; kept_is = refl; some = omega arith })
          (λ (l : t ≤ stamp_kept k). absurd (let no = le-ltb (stamp_kept k) t l in cc (no, g)))
          (cases_lt (stamp_kept k) t)

      go : (b : Bool) (o : Option Value) → is_throughout hs t is ≡ b → value_in ws i ≡ o
          → ((if b then raised k t o else k) ≡ k) ⊎ IsOf hs i (Prepared t ws is) (if b then raised k t o else k)
      go false o e f = inl refl
      go true None e f = inl refl
      go true (Some v) e f = at v e f (nat_lt (stamp_kept k) t) refl

  step_rises : (k : Option Kept) (m : Mark) → stamp_kept k ≤ stamp_kept (raised_by hs i k m)
  step_rises k (Committed u) = omega arith
  step_rises k (Discarded u) = omega arith
  step_rises k (Trimmed j) = omega arith
  step_rises k (Prepared t ws is) = go (is_throughout hs t is) (value_in ws i)
    where
      go : (b : Bool) (o : Option Value) → stamp_kept k ≤ stamp_kept (if b then raised k t o else k)
      go false o = omega arith
      go true None = omega arith
      go true (Some v) = ⊎_elim
          (λ (l : stamp_kept k < t). rw (lt-ltb (stamp_kept k) t l) (omega arith))
          (λ (l : t ≤ stamp_kept k). rw (le-ltb (stamp_kept k) t l) (omega arith))
          (cases_lt (stamp_kept k) t)

  step_above : (k : Option Kept) (t : ℕ) (ws : List Row) (is : List ℕ) (v : Value) → is_throughout hs t is ≡ true → value_in ws i ≡ Some v
      → t ≤ stamp_kept (raised_by hs i k (Prepared t ws is))
  step_above k t ws is v e f = rw (e, f) (⊎_elim
      (λ (l : stamp_kept k < t). rw (lt-ltb (stamp_kept k) t l) (omega arith))
      (λ (l : t ≤ stamp_kept k). rw (le-ltb (stamp_kept k) t l) (omega arith))
      (cases_lt (stamp_kept k) t))

  newest_rises : (k : Option Kept) (ms : List Mark) → stamp_kept k ≤ stamp_kept (newest hs i k ms)
  newest_rises k [] = omega arith
  newest_rises k (m ∷ ms) = omega (arith, step_rises k m, newest_rises (raised_by hs i k m) ms)

  pub newest_above : (k : Option Kept) (ms : List Mark) (t : ℕ) (ws : List Row) (is : List ℕ) (v : Value) → Contains ms (Prepared t ws is)
      → is_throughout hs t is ≡ true → value_in ws i ≡ Some v → t ≤ stamp_kept (newest hs i k ms)
  newest_above k [] t ws is v n e f = absurd (omega (arith, n.1))
  newest_above k (m ∷ ms) t ws is v (zero, l, at) e f =
      let here : t ≤ stamp_kept (raised_by hs i k m) = subst (λ (x : Mark). t ≤ stamp_kept (raised_by hs i k x)) (sym at) (step_above k t ws is v e f) in
      omega (arith, here, newest_rises (raised_by hs i k m) ms)
  newest_above k (m ∷ ms) t ws is v (suc j, l, at) e f = newest_above (raised_by hs i k m) ms t ws is v (j, omega arith, at) e f

  pub newest_from : (k : Option Kept) (ms : List Mark) → (newest hs i k ms ≡ k) ⊎ IsFrom hs i ms (newest hs i k ms)
  newest_from k [] = inl refl
  newest_from k (m ∷ ms) = ⊎_elim
      (λ (e : newest hs i (raised_by hs i k m) ms ≡ raised_by hs i k m). ⊎_elim
      (λ (f : raised_by hs i k m ≡ k). inl (e ∙ f))
      (λ (f : IsOf hs i m (raised_by hs i k m)). inr record { m = m; listed = (0, omega arith, refl); of = subst (IsOf hs i m) (sym e) f })
      (step_of k m))
      (λ (f : IsFrom hs i ms (newest hs i (raised_by hs i k m) ms)). inr record { m = f.m; listed = (suc f.listed.0, omega (arith, f.listed.1), f.listed.2); of = f.of })
      (newest_from (raised_by hs i k m) ms)

-- ---- in a sound cut

module _ (c : Cut) (s : IsLeft c) (i : ℕ) where
  throughout_is : (t : ℕ) (is : List ℕ) → is_throughout c.prefixes t is ≡ list_all (is_prepared_for c t) is
  throughout_is t is = ap (λ (n : ℕ). list_all (λ j. list_any (prepares t) (marks_at c.prefixes (place_of n j))) is) s.wide

  is_carried_so : (t : ℕ) (ws : List Row) (is : List ℕ) → Contains (prefix_for c i) (Prepared t ws is) → is_throughout c.prefixes t is ≡ is_carried c t
  is_carried_so t ws is n =
      throughout_is t is ∙ sym (carried_by c t is (items_of_named c t ws is (named_left c s (place_of c.parts i) t ws is n)))

  pub written_so : (t : ℕ) (ws : List Row) (is : List ℕ) → Contains (prefix_for c i) (Prepared t ws is) → is_carried c t ≡ true → written_value c i t ≡ value_in ws i
  written_so t ws is n e =
      ap (λ (b : Bool). if b then None else value_in (writes_at (prefix_for c i) t) i) (undiscarded_left c (place_of c.parts i) t s (throughout c t e))
      ∙ ap (λ (o : Option Mark). value_in (mark_writes o) i) (prepared_once (prefix_for c i) (legal_left c s (place_of c.parts i)) t ws is n)

  abbrev pub found : Option Kept
  found = newest c.prefixes i (first_kept c.opening i) (prefix_for c i)

  pub zero_first : (o : Option Value) → stamp_kept (option_map (λ v. (0, v)) o) ≡ 0
  zero_first None = refl
  zero_first (Some v) = refl

  value_first : (o : Option Value) → value_kept (option_map (λ v. (0, v)) o) ≡ unwrap_or o Missing
  value_first None = refl
  value_first (Some v) = refl

  -- what is found in one of the marks is carried
  record IsCarriedThere (kept : Option Kept) : Type 0 where
    t : ℕ
    v : Value
    some : 0 < t
    is : kept ≡ Some (t, v)
    listed : list_any (prepares t) (prefix_for c i) ≡ true
    carried : is_carried c t ≡ true
    written : written_value c i t ≡ Some v

  from_carried : (kept : Option Kept) → IsFrom c.prefixes i (prefix_for c i) kept → IsCarriedThere kept
  from_carried kept f =
      let n : Contains (prefix_for c i) (Prepared f.of.t f.of.ws f.of.is) = subst (λ (x : Mark). Contains (prefix_for c i) x) f.of.mark f.listed in
      let e : is_carried c f.of.t ≡ true = sym (is_carried_so f.of.t f.of.ws f.of.is n) ∙ f.of.carried in
      record {
        t = f.of.t;
        v = f.of.v;
        some = f.of.some;
        is = f.of.kept_is;
        listed = any_found (prepares f.of.t) (prefix_for c i) (Prepared f.of.t f.of.ws f.of.is) (prepared_once (prefix_for c i) (legal_left c s (place_of c.parts i)) f.of.t f.of.ws f.of.is n);
        carried = e;
        written = written_so f.of.t f.of.ws f.of.is n e ∙ f.of.value;
      }

  found_cases : (found ≡ first_kept c.opening i) ⊎ IsCarriedThere found
  found_cases = ⊎_elim (λ e. inl e) (λ f. inr (from_carried found f)) (newest_from c.prefixes i (first_kept c.opening i) (prefix_for c i))

  greatest : (n : ℕ) → has_carried c i n ≡ true → n ≤ stamp_kept found
  greatest n e =
      let parts = and_parts (is_some (written_value c i n)) (is_carried c n) e in
      let v = there (written_value c i n) parts.0 in
      let w = version_prepared (prefix_for c i) i n v.0 (version_parts (prefix_for c i) i n v.0 v.1).1 in
      newest_above c.prefixes i (first_kept c.opening i) (prefix_for c i) n w.0 w.1 v.0 w.2 (is_carried_so n w.0 w.1 w.2 ∙ parts.1) w.3

  pub stamp_is : carried_stamp c i ≡ stamp_kept found
  stamp_is = best_of-unique (has_carried c i) (prepared_stamps (prefix_for c i)) (stamp_kept found) given passes (λ k d l e. greatest (get_or (prepared_stamps (prefix_for c i)) k d) e)
    where
      at_stamp : (P : ℕ → Type 0) → ((f : IsCarriedThere found) → P f.t) → stamp_kept found ≢ 0 → P (stamp_kept found)
      at_stamp P h some = ⊎_elim
          (λ (e : found ≡ first_kept c.opening i). absurd (some (ap stamp_kept e ∙ zero_first (value_in c.opening i))))
          (λ (f : IsCarriedThere found). subst P (sym (ap stamp_kept f.is)) (h f))
          found_cases

      given : stamp_kept found ≢ 0 → Contains (prepared_stamps (prefix_for c i)) (stamp_kept found)
      given = at_stamp (λ (t : ℕ). Contains (prepared_stamps (prefix_for c i)) t)
          (λ f. contains_from_any (prepared_stamps (prefix_for c i)) f.t (prepared_is (prefix_for c i) f.t ∙ f.listed))

      passes : stamp_kept found ≢ 0 → has_carried c i (stamp_kept found) ≡ true
      passes = at_stamp (λ (t : ℕ). has_carried c i t ≡ true)
          (λ f. and_from (is_some (written_value c i f.t)) (is_carried c f.t) (ap is_some f.written) f.carried)

  by_zero : (t : ℕ) → t ≡ 0 → value_carried_at c i t ≡ first_value c.opening i
  by_zero t e = ap (λ (b : Bool). if b then first_value c.opening i else unwrap_or (written_value c i t) Missing) (eq-eqb t 0 e)

  by_some : (t : ℕ) → t ≢ 0 → value_carried_at c i t ≡ unwrap_or (written_value c i t) Missing
  by_some t e = ap (λ (b : Bool). if b then first_value c.opening i else unwrap_or (written_value c i t) Missing) (ne_eqb t 0 e)

  pub value_is : carried_value c i ≡ value_kept found
  value_is = ap (value_carried_at c i) stamp_is ∙ ⊎_elim
      (λ (e : found ≡ first_kept c.opening i). by_zero (stamp_kept found) (ap stamp_kept e ∙ zero_first (value_in c.opening i))
      ∙ (sym (value_first (value_in c.opening i)) ∙ sym (ap value_kept e)))
      (λ (f : IsCarriedThere found).
      let at : stamp_kept found ≡ f.t = ap stamp_kept f.is in
      let some : 0 < f.t = f.some in
      by_some (stamp_kept found) (λ z. absurd (omega (arith, at, some, z)))
      ∙ (ap (λ (t : ℕ). unwrap_or (written_value c i t) Missing) at
      ∙ (ap (λ (o : Option Value). unwrap_or o Missing) f.written ∙ sym (ap value_kept f.is))))
      found_cases

  -- in the words of `fold`
  pub values_are : value_kept (newest c.prefixes i (first_kept c.opening i) (prefix_for c i)) ≡ carried_value c i
  values_are = sym value_is
