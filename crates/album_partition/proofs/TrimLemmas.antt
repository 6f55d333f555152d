-- What a trim changes, and at which stamp an item is read then.
use Rattle.std.proofs.Common.{◌≡◌, ◌≢◌, ℕ, zero, suc, ◌<◌, ◌≤◌, Bool, true, false, not, ◌==◌, ◌&&◌, nat_le, List, [], ◌∷◌, ◌++◌, Option, Some, None, is_some, All, Contains, refl, sym, ap, ◌∙◌, subst, arith, if◌then◌else◌}
use Rattle.std.specs.List.{list_any}
use Rattle.std.proofs.lemmas.Bool.{leb-true, leb-false, le-leb, or_right}
use Rattle.std.proofs.lemmas.Bool.Decides.{Decides-eqb}
use Rattle.std.proofs.lemmas.List.Elements.{All-contains, All-contains_itself}
use Rattle.album_items.specs.declared.values.Value.{Value}
use Rattle.album_versions.specs.Best.{best_of, unless_gone}
use Rattle.album_versions.proofs.Greatest.{best_of-passes, Contains-best_of, All-best_of}
use Rattle.album_partition.specs.declared.marks.Mark.{Mark}
use Rattle.album_partition.specs.declared.marks.Mark.TheVariants.{Trimmed}
use Rattle.album_partition.specs.Marks.{trims, version, has_version, latest, before_trim, floor, kept_version, has_kept_version, is_legal}
use Rattle.album_partition.specs.Partition.{stamp_for, read_at}
use Rattle.album_partition.proofs.GrowthLemmas.{latest_rises}
use Rattle.album_partition.proofs.LegalLemmas.{along_legal}
use Rattle.album_partition.proofs.StateLemmas.{any_push, any_push_no}

-- ---- the marks before the last trim

-- one trim more
before_new : (marks : List Mark) (mark : Mark) (i : ℕ) → trims i mark ≡ true → before_trim i (marks ++ mark ∷ []) ≡ marks
before_new [] mark i e = refl
before_new (m ∷ marks) mark i e =
    let more : list_any (trims i) (marks ++ mark ∷ []) ≡ true = any_push (trims i) marks mark ∙ or_right _ _ e in
    rw more (ap (λ (ms : List Mark). m ∷ ms) (before_new marks mark i e))

-- any other mark
before_old : (marks : List Mark) (mark : Mark) (i : ℕ) → trims i mark ≡ false → before_trim i (marks ++ mark ∷ []) ≡ before_trim i marks
before_old [] mark i e = refl
before_old (m ∷ marks) mark i e = rw (any_push_no (trims i) marks mark e, before_old marks mark i e) refl

-- they are a beginning of all the marks
before_is : (marks : List Mark) (i : ℕ) → (later : List Mark) × (marks ≡ before_trim i marks ++ later)
before_is [] i = ([], refl)
before_is (m ∷ marks) i = go (list_any (trims i) marks) (before_is marks i)
  where
    go : (b : Bool) → (later : List Mark) × (marks ≡ before_trim i marks ++ later)
        → (later : List Mark) × (m ∷ marks ≡ (if b then m ∷ before_trim i marks else []) ++ later)
    go true h = (h.0, ap (λ (ms : List Mark). m ∷ ms) h.1)
    go false h = (m ∷ marks, refl)

-- ---- the floor

pub floor_trimmed : (marks : List Mark) (i : ℕ) → floor (marks ++ Trimmed i ∷ []) i ≡ latest marks i
floor_trimmed marks i = ap (λ (ms : List Mark). latest ms i) (before_new marks (Trimmed i) i ((Decides-eqb i i).1 refl))

pub floor_stays : (marks : List Mark) (mark : Mark) (i : ℕ) → trims i mark ≡ false → floor (marks ++ mark ∷ []) i ≡ floor marks i
floor_stays marks mark i e = ap (λ (ms : List Mark). latest ms i) (before_old marks mark i e)

pub floor_low : (marks : List Mark) (i : ℕ) → is_legal marks ≡ true → floor marks i ≤ latest marks i
floor_low marks i h =
    let b = before_is marks i in
    subst (λ (ms : List Mark). floor marks i ≤ latest ms i) (sym b.1)
    (latest_rises (before_trim i marks) b.0 i (subst (λ (ms : List Mark). is_legal ms ≡ true) b.1 h))

floor_more : (marks : List Mark) (mark : Mark) (i : ℕ) → is_legal marks ≡ true → floor marks i ≤ floor (marks ++ mark ∷ []) i
floor_more marks mark i h = go (trims i mark) refl
  where
    go : (b : Bool) → trims i mark ≡ b → floor marks i ≤ floor (marks ++ mark ∷ []) i
    go true e = subst (λ (ms : List Mark). floor marks i ≤ latest ms i) (sym (before_new marks mark i e)) (floor_low marks i h)
    go false e = let same = floor_stays marks mark i e in omega arith

pub floor_rises : (before later : List Mark) (i : ℕ) → is_legal (before ++ later) ≡ true → floor before i ≤ floor (before ++ later) i
floor_rises before later i h =
    along_legal (λ (ms : List Mark). floor before i ≤ floor ms i)
    (λ ms m legal may e. let more = floor_more ms m i legal in omega arith)
    before later h (omega arith)

-- ---- the versions that are kept

-- one that is kept was written, and is not below the floor
kept_tells : (marks : List Mark) (i t : ℕ) → has_kept_version marks i t ≡ true → (floor marks i ≤ t) × (has_version marks i t ≡ true)
kept_tells marks i t e = go (nat_le (floor marks i) t) refl e
  where
    go : (b : Bool) → nat_le (floor marks i) t ≡ b → is_some (if b then version marks i t else None) ≡ true
        → (floor marks i ≤ t) × (has_version marks i t ≡ true)
    go true f g = (leb-true (floor marks i) t f, g)
    go false f g = absurd (cc)

kept_from : (marks : List Mark) (i t : ℕ) → floor marks i ≤ t → has_version marks i t ≡ true → has_kept_version marks i t ≡ true
kept_from marks i t high e = rw (le-leb (floor marks i) t high) e

pub kept_high : (marks : List Mark) (i t : ℕ) → floor marks i ≤ t → kept_version marks i t ≡ version marks i t
kept_high marks i t high = rw (le-leb (floor marks i) t high) refl

-- ---- at which stamp an item is read

pub never_gone : (marks : List Mark) (i : ℕ) → is_legal marks ≡ true → read_at marks i [] ≡ Some (latest marks i)
never_gone marks i h = rw (le-leb (floor marks i) (latest marks i) (floor_low marks i h)) refl

zero_or : (n : ℕ) → (n ≢ 0 → ⊥) → n ≡ 0
zero_or zero h = refl
zero_or (suc n) h = absurd (h (λ e. omega (arith, e)))

-- by what is written, and by what is kept
module _ (marks : List Mark) (i : ℕ) (ns : List ℕ) where
  abbrev most : ℕ
  most = best_of (has_version marks i) ns

  abbrev kept : ℕ
  kept = best_of (has_kept_version marks i) ns

  low : ℕ
  low = floor marks i

  kept_written : kept ≤ most
  kept_written = go kept refl
    where
      go : (k : ℕ) → kept ≡ k → kept ≤ most
      go zero e = omega (arith, e)
      go (suc k) e =
          let some : kept ≢ 0 = λ z. omega (arith, e, z) in
          let is = best_of-passes (has_kept_version marks i) ns some in
          All-contains (λ n. has_version marks i n ≡ true → n ≤ most) ns kept (All-best_of (has_version marks i) ns)
          (Contains-best_of (has_kept_version marks i) ns some) (kept_tells marks i kept is).1

  kept_above : kept ≢ 0 → floor marks i ≤ kept
  kept_above some = (kept_tells marks i kept (best_of-passes (has_kept_version marks i) ns some)).0

  written_kept : floor marks i ≤ most → most ≤ kept
  written_kept high = go most refl
    where
      go : (m : ℕ) → most ≡ m → most ≤ kept
      go zero e = omega (arith, e)
      go (suc m) e =
          let some : most ≢ 0 = λ z. omega (arith, e, z) in
          let is : has_kept_version marks i most ≡ true = kept_from marks i most high (best_of-passes (has_version marks i) ns some) in
          All-contains (λ n. has_kept_version marks i n ≡ true → n ≤ kept) ns most (All-best_of (has_kept_version marks i) ns)
          (Contains-best_of (has_version marks i) ns some) is

  -- the greatest that is kept; where none is, 0 if the floor is 0
  pub by_kept : (if nat_le (floor marks i) most then Some most else None) ≡ unless_gone kept (floor marks i)
  by_kept = go (nat_le (floor marks i) most) refl
    where
      told : (b : Bool) → b ≡ false → most ≡ kept → (let x : Option ℕ = Some most in x) ≡ (if b then None else Some kept)
      told true e same = absurd (cc)
      told false e same = ap Some same

      gone : (b : Bool) → b ≡ true → (let x : Option ℕ = None in x) ≡ (if b then None else Some kept)
      gone true e = refl
      gone false e = absurd (cc)

      not_gone : (b c : Bool) → (b ≡ true → c ≡ true) → b && not c ≡ false
      not_gone false c h = refl
      not_gone true c h = rw (h refl) refl

      both : (b c : Bool) → b ≡ true → c ≡ false → b && not c ≡ true
      both b c e f = rw (e, f) refl

      not_zero : (n : ℕ) → n ≢ 0 → (n == 0) ≡ false
      not_zero n h = at (n == 0) refl
        where
          at : (b : Bool) → (n == 0) ≡ b → (n == 0) ≡ false
          at true z = absurd (h ((Decides-eqb n 0).0 z))
          at false z = z

      go : (b : Bool) → nat_le (floor marks i) most ≡ b → (if b then Some most else None) ≡ unless_gone kept (floor marks i)
      go true e =
          let high : floor marks i ≤ most = leb-true (floor marks i) most e in
          let below : kept ≤ most = kept_written in
          let up : most ≤ kept = written_kept high in
          told (kept == 0 && not (floor marks i == 0))
          (not_gone (kept == 0) (floor marks i == 0) (λ z. let none : kept ≡ 0 = (Decides-eqb kept 0).0 z in (Decides-eqb (floor marks i) 0).1 (omega (arith, high, up, none))))
          (omega (arith, below, up))
      go false e =
          let less : most < floor marks i = leb-false (floor marks i) most e in
          let below : kept ≤ most = kept_written in
          let none : kept ≡ 0 = zero_or kept (λ some. let high : floor marks i ≤ kept = kept_above some in omega (arith, less, below, high)) in
          gone (kept == 0 && not (floor marks i == 0)) (both (kept == 0) (floor marks i == 0) ((Decides-eqb kept 0).1 none) (not_zero (floor marks i) (λ z. omega (arith, less, z))))

-- with stamps given
pub read_kept : (marks : List Mark) (i n : ℕ) (ns : List ℕ)
    → read_at marks i (n ∷ ns) ≡ unless_gone (best_of (has_kept_version marks i) (n ∷ ns)) (floor marks i)
read_kept marks i n ns = by_kept marks i (n ∷ ns)

-- what is read is not below the floor, and is what would be read were nothing trimmed
pub read_high : (marks : List Mark) (i : ℕ) (ns : List ℕ) (t : ℕ) → read_at marks i ns ≡ Some t → (floor marks i ≤ t) × (t ≡ stamp_for marks i ns)
read_high marks i ns t e = go (nat_le (floor marks i) (stamp_for marks i ns)) refl e
  where
    go : (b : Bool) → nat_le (floor marks i) (stamp_for marks i ns) ≡ b → (if b then Some (stamp_for marks i ns) else None) ≡ Some t
        → (floor marks i ≤ t) × (t ≡ stamp_for marks i ns)
    go true f g =
        let same : stamp_for marks i ns ≡ t = cc in
        (subst (λ (n : ℕ). floor marks i ≤ n) same (leb-true (floor marks i) (stamp_for marks i ns) f), sym same)
    go false f g = absurd (cc)

-- ---- where it is gone

gone_tells : (marks : List Mark) (i : ℕ) (ns : List ℕ) → read_at marks i ns ≡ None → stamp_for marks i ns < floor marks i
gone_tells marks i ns e = go (nat_le (floor marks i) (stamp_for marks i ns)) refl e
  where
    go : (b : Bool) → nat_le (floor marks i) (stamp_for marks i ns) ≡ b → (if b then Some (stamp_for marks i ns) else None) ≡ None
        → stamp_for marks i ns < floor marks i
    go true f g = absurd (cc)
    go false f g = leb-false (floor marks i) (stamp_for marks i ns) f

pub gone_trimmed : (marks : List Mark) (i : ℕ) (ns : List ℕ) → read_at marks i ns ≡ None → 0 < floor marks i
gone_trimmed marks i ns e = let less = gone_tells marks i ns e in omega arith

-- then none of the stamps has a version that is kept
pub gone_unkept : (marks : List Mark) (i : ℕ) (ns : List ℕ) → read_at marks i ns ≡ None → All (λ t. kept_version marks i t ≡ None) ns
gone_unkept marks i [] e = λ k d less. absurd (omega arith)
gone_unkept marks i (n ∷ ns) e = λ k d less. none _ (All-contains_itself (n ∷ ns) k d less)
  where
    none : (t : ℕ) → Contains (n ∷ ns) t → kept_version marks i t ≡ None
    none t c = go (kept_version marks i t) refl
      where
        go : (o : Option Value) → kept_version marks i t ≡ o → o ≡ None
        go None f = refl
        go (Some v) f =
            let k = kept_tells marks i t (ap is_some f) in
            let less = gone_tells marks i (n ∷ ns) e in
            let most : t ≤ best_of (has_version marks i) (n ∷ ns) =
            All-contains (λ m. has_version marks i m ≡ true → m ≤ best_of (has_version marks i) (n ∷ ns)) (n ∷ ns) t
            (All-best_of (has_version marks i) (n ∷ ns)) c k.1 in
            absurd (let high = k.0 in omega arith)

-- and some stamp was given
pub gone_asks : (marks : List Mark) (i : ℕ) (ns : List ℕ) → read_at marks i ns ≡ None → is_legal marks ≡ true → ns ≢ []
gone_asks marks i ns e h none =
    absurd (let there = never_gone marks i h in let gone = subst (λ (ms : List ℕ). read_at marks i ms ≡ None) none e in cc)
