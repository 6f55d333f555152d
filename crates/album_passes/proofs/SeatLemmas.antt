-- What is left to show of all seats where one or two of them change. The proofs of the steps cite these.
use Rattle.std.proofs.Common.{◌≡◌, ◌≢◌, ℕ, zero, suc, ◌⊎◌, inl, inr, ◌==◌, Bool, true, false, List, [], ◌∷◌, ◌++◌, length, set, Option, Some, None, if◌then◌else◌, refl, ap, sym, subst, ⊎_elim, eq-eqb, ne_eqb}
use mathlib.Core.Option.{some, some-ne-none, some-injective}
use lib.ListN.{get_elem?}
use Rattle.atomic_table.proofs.Lists.{at_set}
use Rattle.album_partition.specs.declared.marks.Mark.{Mark}
use Rattle.album_passes.specs.Cuts.{Cut, Announced}
use Rattle.album_passes.specs.Knowledge.{Terms, Knowledge, known}
use Rattle.album_passes.specs.Rule.{Run, IsCutOf, Owns, Holds, Fits, Agree}

-- ---- a list with one element changed, or one more

module _ {A : Type 0} (F : ℕ → A → Type 0) where
  -- at j
  pub set_one : (xs : List A) (by : ℕ) (w : A) (j : ℕ) (u : A) → (j ≢ by → get_elem? xs j ≡ some u → F j u) → F by w
      → get_elem? (set xs by w) j ≡ some u → F j u
  set_one xs by w j u other mine e =
      ⊎_elim
      (λ (x : (j ≡ by) × (w ≡ u)). subst (λ (y : ℕ × A). F y.0 y.1) (λ i. (sym x.0 i, x.1 i)) mine)
      (λ (x : (j ≢ by) × (get_elem? xs j ≡ some u)). other x.0 x.1)
      (at_set xs by j w u e)

  pub set_each : (xs : List A) (by : ℕ) (w : A) → ((j : ℕ) (u : A) → j ≢ by → get_elem? xs j ≡ some u → F j u) → F by w
      → (j : ℕ) (u : A) → get_elem? (set xs by w) j ≡ some u → F j u
  set_each xs by w others mine j u e = set_one xs by w j u (others j u) mine e

-- the last index, or one before it
at_push : {A : Type 0} (l : List A) (a b : A) (j : ℕ) → get_elem? (l ++ a ∷ []) j ≡ some b → (get_elem? l j ≡ some b) ⊎ ((j ≡ length l) × (a ≡ b))
at_push [] a b zero e = inr (refl, some-injective a b e)
at_push [] a b (suc j) e = absurd (some-ne-none b (sym e))
at_push (x ∷ xs) a b zero e = inl e
at_push (x ∷ xs) a b (suc j) e = ⊎_elim (λ t. inl t) (λ t. inr (ap suc t.0, t.1)) (at_push xs a b j e)

module _ {A : Type 0} (F : ℕ → A → Type 0) where
  pub push_each : (xs : List A) (w : A) → ((j : ℕ) (u : A) → get_elem? xs j ≡ some u → F j u) → F (length xs) w
      → (j : ℕ) (u : A) → get_elem? (xs ++ w ∷ []) j ≡ some u → F j u
  push_each xs w old new j u e =
      ⊎_elim
      (λ x. old j u x)
      (λ (x : (j ≡ length xs) × (w ≡ u)). subst (λ (y : ℕ × A). F y.0 y.1) (λ i. (sym x.0 i, x.1 i)) new)
      (at_push xs w u j e)

-- an index of two lists joined is one of the first or of the second
pub at_append : {A : Type 0} (P : A → Type 0) (xs ys : List A) → ((k : ℕ) (c : A) → get_elem? xs k ≡ some c → P c) → ((k : ℕ) (c : A) → get_elem? ys k ≡ some c → P c) → (k : ℕ) (c : A) → get_elem? (xs ++ ys) k ≡ some c → P c
at_append P [] ys f g k c e = g k c e
at_append P (x ∷ xs) ys f g zero c e = f zero c e
at_append P (x ∷ xs) ys f g (suc k) c e = at_append P xs ys (λ i d h. f (suc i) d h) g k c e

pub at_one : {A : Type 0} (P : A → Type 0) (x : A) → P x → (k : ℕ) (c : A) → get_elem? (x ∷ []) k ≡ some c → P c
at_one P x p zero c e = subst P (some-injective x c e) p
at_one P x p (suc k) c e = absurd (some-ne-none c (sym e))

pub at_none : {A : Type 0} (P : A → Type 0) (k : ℕ) (c : A) → get_elem? [] k ≡ some c → P c
at_none P k c e = absurd (some-ne-none c (sym e))

-- ---- a number that another seat holds from now on

-- the holders, where the seat `id` holds the number, if there is one
abbrev pub given : (ℕ → ℕ) → Option ℕ → ℕ → ℕ → ℕ
given holder None id n = holder n
given holder (Some m) id n = if n == m then id else holder n

same_some : (m n : ℕ) → Some m ≡ Some n → m ≡ n
same_some m n e = cc (e)

pub given_here : (holder : ℕ → ℕ) (number : Option ℕ) (id n : ℕ) → number ≡ Some n → given holder number id n ≡ id
given_here holder None id n e = absurd (cc (e))
given_here holder (Some m) id n e = ap (λ (b : Bool). if b then id else holder n) (eq-eqb n m (sym (same_some m n e)))

pub given_else : (holder : ℕ → ℕ) (number : Option ℕ) (id n : ℕ) → ((m : ℕ) → number ≡ Some m → n ≢ m) → given holder number id n ≡ holder n
given_else holder None id n apart = refl
given_else holder (Some m) id n apart = ap (λ (b : Bool). if b then id else holder n) (ne_eqb n m (apart m refl))

pub given_still : (holder : ℕ → ℕ) (number : Option ℕ) (id n : ℕ) → holder n ≡ id → given holder number id n ≡ id
given_still holder None id n e = e
given_still holder (Some m) id n e = either (n == m)
  where
    either : (b : Bool) → (if b then id else holder n) ≡ id
    either true = refl
    either false = e

-- ---- a run where something else has changed

pub same_cut : (key : Terms) (r : Run) (drawn : ℕ) (owner holder : ℕ → ℕ) (c : Cut) → IsCutOf key r c
    → IsCutOf key (record r { drawn = drawn; owner = owner; holder = holder }) c
same_cut key r drawn owner holder c C = record { opening = C.opening; parts = C.parts; checked = C.checked; prefixes = C.prefixes; announced = C.announced; depended = C.depended; sound = C.sound }

pub same_owner : (r : Run) (drawn : ℕ) (lists : ℕ → Option Announced) (holder : ℕ → ℕ) (id : ℕ) (c : Cut) (p : ℕ) → Owns r id c p
    → Owns (record r { drawn = drawn; announced = lists; holder = holder }) id c p
same_owner r drawn lists holder id c p o = record { alone = o.alone; whole = o.whole }

pub same_holder : (r : Run) (histories : List (List Mark)) (owner : ℕ → ℕ) (id : ℕ) (c : Cut) (n : ℕ) → Holds r id c n
    → Holds (record r { histories = histories; owner = owner }) id c n
same_holder r histories owner id c n o = record { alone = o.alone; positive = o.positive; counted = o.counted; heard = o.heard }

-- a seat, where it holds still what it held
pub held_still : (key : Terms) (r : Run) (holder : ℕ → ℕ) (j : ℕ) (u : Knowledge) → ((n : ℕ) → r.holder n ≡ j → holder n ≡ j)
    → Fits key r j u → Fits key (record r { holder = holder }) j u
held_still key r holder j u same f = record {
  cuts = λ k c e. same_cut key r r.drawn r.owner holder c (f.cuts k c e);
  owns = λ p l h. same_owner r r.drawn r.announced holder j (known u) p (f.owns p l h);
  number = λ n e. (let o = f.number n e in record { alone = same n o.alone; positive = o.positive; counted = o.counted; heard = o.heard });
  guest = λ n e. (let o = f.guest n e in record { alone = same n o.alone; positive = o.positive; counted = o.counted; heard = o.heard });
  apart = f.apart;
  seen = f.seen;
}

-- ---- the run is as it was

pub same_run : (key : Terms) (words : List ℕ) (old new : List Knowledge) (k : Agree key words old)
    → ((id : ℕ) (v : Knowledge) → get_elem? new id ≡ some v → Fits key k.run id v) → Agree key words new
same_run key words old new k each = record {
  run = k.run;
  words_are = k.words_are;
  wide = k.wide;
  legal = k.legal;
  chained = k.chained;
  few = k.few;
  most = k.most;
  named = k.named;
  depends = k.depends;
  each = each;
}
