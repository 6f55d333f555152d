-- What is announced of stamps, and what these depend on, looked up: in two lists one after the other, and with one
-- entry more.
use Rattle.std.proofs.Common.{◌≡◌, ◌≢◌, ℕ, Bool, true, false, ◌⊎◌, inl, inr, ◌==◌, cond, List, [], ◌∷◌, ◌++◌, Some, None, Option, is_some, refl, ap, sym, ◌∙◌, subst, eq-eqb, ne_eqb}
use Rattle.std.specs.Map.{lookup}
use Rattle.std.specs.Option.{option_or}
use native.Mathlib.Decide.{ℕ_discrete}
use mathlib.Core.Logic.{dite}

abbrev pub listed : {A : Type 0} → List (ℕ × A) → ℕ → Option A
listed entries t = lookup (λ u. u == t) entries

step : {A : Type 0} (b : Bool) (x y z : Option A) (is : A) → y ≡ option_or x z → cond b (Some is) y ≡ option_or (cond b (Some is) x) z
step true x y z is e = refl
step false x y z is e = e

pub listed-append : {A : Type 0} (xs ys : List (ℕ × A)) (t : ℕ) → listed (xs ++ ys) t ≡ option_or (listed xs t) (listed ys t)
listed-append [] ys t = refl
listed-append (x ∷ xs) ys t = step (x.0 == t) (listed xs t) (listed (xs ++ ys) t) (listed ys t) x.1 (listed-append xs ys t)

-- what holds of each entry of two lists holds of each entry of both, one after the other
pub listed_each : {A : Type 0} (P : ℕ → A → Type 0) (xs ys : List (ℕ × A))
    → ((t : ℕ) (is : A) → listed xs t ≡ Some is → P t is)
    → ((t : ℕ) (is : A) → listed ys t ≡ Some is → P t is)
    → (t : ℕ) (is : A) → listed (xs ++ ys) t ≡ Some is → P t is
listed_each {A} P xs ys f g t is e = go (listed xs t) refl (sym (listed-append xs ys t) ∙ e)
  where
    go : (o : Option A) → listed xs t ≡ o → option_or o (listed ys t) ≡ Some is → P t is
    go (Some js) h k = f t is (h ∙ k)
    go None h k = g t is k

-- an entry of the first list is one of both
pub listed_first : {A : Type 0} (xs ys : List (ℕ × A)) (t : ℕ) (is : A) → listed xs t ≡ Some is → listed (xs ++ ys) t ≡ Some is
listed_first xs ys t is e = listed-append xs ys t ∙ ap (λ o. option_or o (listed ys t)) e

-- an entry of the second is one of both, where all entries are of one map
pub listed_second : {A : Type 0} (map : ℕ → Option A) (xs ys : List (ℕ × A))
    → ((t : ℕ) (is : A) → listed xs t ≡ Some is → map t ≡ Some is)
    → ((t : ℕ) (is : A) → listed ys t ≡ Some is → map t ≡ Some is)
    → (t : ℕ) (is : A) → listed ys t ≡ Some is → listed (xs ++ ys) t ≡ Some is
listed_second {A} map xs ys f g t is e = listed-append xs ys t ∙ go (listed xs t) refl
  where
    go : (o : Option A) → listed xs t ≡ o → option_or o (listed ys t) ≡ Some is
    go (Some js) h = sym (f t js h) ∙ g t is e
    go None h = e

-- ---- two maps that have the same stamps

pub both_some : {A B : Type 0} (a b : Option A) (x y : Option B) → is_some a ≡ is_some x → is_some b ≡ is_some y
    → is_some (option_or a b) ≡ is_some (option_or x y)
both_some (Some a) b (Some x) y e f = refl
both_some None b None y e f = f
both_some (Some a) b None y e f = absurd (cc (e))
both_some None b (Some x) y e f = absurd (cc (e))

pub also_some : {A B : Type 0} (here : Bool) (is : A) (js : B) (x : Option A) (y : Option B) → is_some x ≡ is_some y
    → is_some (cond here (Some is) x) ≡ is_some (cond here (Some js) y)
also_some true is js x y e = refl
also_some false is js x y e = e

pub none_too : {A B : Type 0} (x : Option A) (y : Option B) → is_some x ≡ is_some y → y ≡ None → x ≡ None
none_too None y e f = refl
none_too (Some is) None e f = absurd (cc (e))
none_too (Some is) (Some js) e f = absurd (cc (f))

pub some_too : {A B : Type 0} (x : Option A) (y : Option B) (is : B) → is_some x ≡ is_some y → y ≡ Some is → (js : A) × (x ≡ Some js)
some_too (Some js) y is e f = (js, refl)
some_too None None is e f = absurd (cc (f))
some_too None (Some js) is e f = absurd (cc (e))

-- an option is something, or nothing
pub some_or_none : {A : Type 0} (o : Option A) → ((is : A) × (o ≡ Some is)) ⊎ (o ≡ None)
some_or_none (Some is) = inl (is, refl)
some_or_none None = inr refl

-- what is announced, with this announced for t too
abbrev pub also_announced : {A : Type 0} → (ℕ → Option A) → ℕ → A → ℕ → Option A
also_announced lists t is u = cond (t == u) (Some is) (lists u)

pub announced_here : {A : Type 0} (lists : ℕ → Option A) (t : ℕ) (is : A) (u : ℕ) → u ≡ t → also_announced lists t is u ≡ Some is
announced_here lists t is u e = ap (λ (b : Bool). cond b (Some is) (lists u)) (eq-eqb t u (sym e))

pub announced_else : {A : Type 0} (lists : ℕ → Option A) (t : ℕ) (is : A) (u : ℕ) → u ≢ t → also_announced lists t is u ≡ lists u
announced_else lists t is u n = ap (λ (b : Bool). cond b (Some is) (lists u)) (ne_eqb t u (λ e. n (sym e)))

-- what was announced of a stamp is so still, where nothing was of t
pub announced_more : {A : Type 0} (lists : ℕ → Option A) (t : ℕ) (is : A) → lists t ≡ None
    → (u : ℕ) (js : A) → lists u ≡ Some js → also_announced lists t is u ≡ Some js
announced_more lists t is none u js e = dite (ℕ_discrete u t)
    (λ same. let had : lists t ≡ Some js = subst (λ (x : ℕ). lists x ≡ Some js) same e in absurd (cc (had, none)))
    (λ n. announced_else lists t is u n ∙ e)
