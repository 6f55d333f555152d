-- The greatest stamp of marks: the steps of the loops of `greatest`.
use Rattle.std.proofs.Common.{◌≡◌, ◌≢◌, eq-eqb, ℕ, zero, suc, ◌+◌, ◌<◌, ◌≤◌, Bool, true, false, ◌||◌, max, List, [], ◌∷◌, length, get_or, take, refl, ap, sym, ◌∙◌, subst, ⊎_elim, arith}
use Rattle.std.specs.Borrow.{Bor}
use Rattle.std.specs.List.{list_any}
use Rattle.std.proofs.lemmas.Bool.{cases_lt}
use Rattle.std.proofs.lemmas.Bool.Decides.{Decides-eqb}
use Rattle.std.proofs.lemmas.List.Folds.{list_any_more}
use Rattle.std.proofs.lemmas.List.{take_all}
use Rattle.album_partition.specs.declared.marks.Mark.{Mark}
use Rattle.album_partition.specs.declared.marks.Mark.TheVariants.{Prepared, Committed, Discarded, Trimmed}
use Rattle.album_partition.specs.Marks.{is_mark_of}
use Rattle.album_passes.specs.Cuts.{marks_at}
use Rattle.album_epochs.specs.Folding.{histories_lent, stamp_in, IsGreatestOf}

own_stamp : (m : Mark) (t : ℕ) → is_mark_of t m ≡ true → stamp_in m ≡ t
own_stamp (Prepared u ws is) t e = (Decides-eqb u t).0 e
own_stamp (Committed u) t e = (Decides-eqb u t).0 e
own_stamp (Discarded u) t e = (Decides-eqb u t).0 e
own_stamp (Trimmed i) t e = absurd (cc (e))

of_own : (m : Mark) → stamp_in m ≢ 0 → is_mark_of (stamp_in m) m ≡ true
of_own (Prepared u ws is) nz = eq-eqb u u refl
of_own (Committed u) nz = eq-eqb u u refl
of_own (Discarded u) nz = eq-eqb u u refl
of_own (Trimmed i) nz = absurd (nz refl)

or_right : (a b : Bool) → b ≡ true → a || b ≡ true
or_right true b e = refl
or_right false b e = e

any_next : (t : ℕ) (ms : List Mark) (k : ℕ) (m : Mark) → k < length ms → m ≡ get_or ms k m
    → list_any (is_mark_of t) (take (k + 1) ms) ≡ list_any (is_mark_of t) (take k ms) || is_mark_of t m
any_next t ms k m l at = list_any_more (is_mark_of t) ms k m l ∙ ap (λ (x : Mark). list_any (is_mark_of t) (take k ms) || is_mark_of t x) (sym at)

pub none_yet : (ms : List Mark) (n : ℕ) → n ≡ 0 → IsGreatestOf (take 0 ms) n
none_yet ms n z = record { above = λ t e. absurd (cc (e)); reached = λ nz. absurd (nz z) }

pub greatest_more : (ms : List Mark) (k : ℕ) (m : Mark) (n : ℕ) → k < length ms → m ≡ get_or ms k m → IsGreatestOf (take k ms) n → IsGreatestOf (take (k + 1) ms) (max n (stamp_in m))
greatest_more ms k m n l at h = record { above = above; reached = reached }
  where
    above : (t : ℕ) → list_any (is_mark_of t) (take (k + 1) ms) ≡ true → t ≤ max n (stamp_in m)
    above t e = go (list_any (is_mark_of t) (take k ms)) (is_mark_of t m) refl refl (sym (any_next t ms k m l at) ∙ e)
      where
        go : (a b : Bool) → list_any (is_mark_of t) (take k ms) ≡ a → is_mark_of t m ≡ b → a || b ≡ true → t ≤ max n (stamp_in m)
        go true b f g both = let low : t ≤ n = h.above t f in omega arith
        go false true f g both = let same : stamp_in m ≡ t = own_stamp m t g in omega arith
        go false false f g both = absurd (cc (both))

    reached : max n (stamp_in m) ≢ 0 → list_any (is_mark_of (max n (stamp_in m))) (take (k + 1) ms) ≡ true
    reached nz = ⊎_elim
        (λ (less : n < stamp_in m).
        let top : stamp_in m ≡ max n (stamp_in m) = omega arith in
        subst (λ (t : ℕ). list_any (is_mark_of t) (take (k + 1) ms) ≡ true) top
        (any_next (stamp_in m) ms k m l at
        ∙ or_right (list_any (is_mark_of (stamp_in m)) (take k ms)) (is_mark_of (stamp_in m) m) (of_own m (λ z. nz (sym top ∙ z)))))
        (λ (low : stamp_in m ≤ n).
        let top : n ≡ max n (stamp_in m) = omega arith in
        subst (λ (t : ℕ). list_any (is_mark_of t) (take (k + 1) ms) ≡ true) top
        (any_next n ms k m l at ∙ ap (λ (b : Bool). b || is_mark_of n m) (h.reached (λ z. nz (sym top ∙ z)))))
        (cases_lt n (stamp_in m))

pub all_greatest : (ms : List Mark) (k n : ℕ) → length ms ≤ k → IsGreatestOf (take k ms) n → IsGreatestOf ms n
all_greatest ms k n l h = subst (λ (ns : List Mark). IsGreatestOf ns n) (take_all k ms l) h

-- no mark of the first histories is of a stamp above it, and one is of it, unless it is 0
pub record IsGreatestBefore (lent : List (Bor (List Mark))) (k n : ℕ) : Type 0 where
  pub above : (p t : ℕ) → p < k → list_any (is_mark_of t) (marks_at (histories_lent lent) p) ≡ true → t ≤ n
  pub reached : n ≢ 0 → (p : ℕ) × (list_any (is_mark_of n) (marks_at (histories_lent lent) p) ≡ true)

pub none_before : (lent : List (Bor (List Mark))) (n : ℕ) → n ≡ 0 → IsGreatestBefore lent 0 n
none_before lent n z = record { above = λ p t l e. absurd (omega arith); reached = λ nz. absurd (nz z) }

marks_lent : (lent : List (Bor (List Mark))) (k : ℕ) (x : Bor (List Mark)) → k < length lent → x ≡ get_or lent k x → marks_at (histories_lent lent) k ≡ x.now
marks_lent [] k x l at = absurd (omega arith)
marks_lent (y ∷ lent) zero x l at = ap (λ (z : Bor (List Mark)). z.now) (sym at)
marks_lent (y ∷ lent) (suc k) x l at = marks_lent lent k x (omega arith) at

no_marks : (lent : List (Bor (List Mark))) (p : ℕ) → length lent ≤ p → marks_at (histories_lent lent) p ≡ []
no_marks [] p l = refl
no_marks (y ∷ lent) zero l = absurd (omega arith)
no_marks (y ∷ lent) (suc p) l = no_marks lent p (omega arith)

pub each_more : (lent : List (Bor (List Mark))) (k n o : ℕ) (x : Bor (List Mark)) → k < length lent → x ≡ get_or lent k x
    → IsGreatestBefore lent k n → IsGreatestOf x.now o → IsGreatestBefore lent (k + 1) (max n o)
each_more lent k n o x l at h own = record { above = above; reached = reached }
  where
    here : marks_at (histories_lent lent) k ≡ x.now
    here = marks_lent lent k x l at

    above : (p t : ℕ) → p < k + 1 → list_any (is_mark_of t) (marks_at (histories_lent lent) p) ≡ true → t ≤ max n o
    above p t less e = ⊎_elim
        (λ (before : p < k). (let low : t ≤ n = h.above p t before e in omega arith))
        (λ (now : k ≤ p).
        (let same : p ≡ k = omega arith in
        let low : t ≤ o = own.above t (ap (list_any (is_mark_of t)) (sym (ap (marks_at (histories_lent lent)) same ∙ here)) ∙ e) in omega arith))
        (cases_lt p k)

    reached : max n o ≢ 0 → (p : ℕ) × (list_any (is_mark_of (max n o)) (marks_at (histories_lent lent) p) ≡ true)
    reached nz = ⊎_elim
        (λ (less : n < o).
        let top : o ≡ max n o = omega arith in (
          k,
          subst (λ (t : ℕ). list_any (is_mark_of t) (marks_at (histories_lent lent) k) ≡ true) top
              (ap (list_any (is_mark_of o)) here ∙ own.reached (λ z. nz (sym top ∙ z))),
        ))
        (λ (low : o ≤ n).
        let top : n ≡ max n o = omega arith in
        let r = h.reached (λ z. nz (sym top ∙ z)) in
        (r.0, subst (λ (t : ℕ). list_any (is_mark_of t) (marks_at (histories_lent lent) r.0) ≡ true) top r.1))
        (cases_lt n o)

pub all_each : (lent : List (Bor (List Mark))) (k n : ℕ) → length lent ≤ k → IsGreatestBefore lent k n
    → (p t : ℕ) → list_any (is_mark_of t) (marks_at (histories_lent lent) p) ≡ true → t ≤ n
all_each lent k n l h p t e = ⊎_elim
    (λ (before : p < k). h.above p t before e)
    (λ (after : k ≤ p). absurd (let none = no_marks lent p (omega arith) in let no = ap (list_any (is_mark_of t)) none in cc (no, e)))
    (cases_lt p k)
