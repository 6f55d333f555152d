-- Prefixes of one history, and the longer of two. Each proof of a step cites these; the main one is `prefix_shorter`.
use Rattle.std.proofs.Common.{◌≡◌, ℕ, ◌≤◌, ◌<◌, ◌⊎◌, inl, inr, Bool, true, ◌||◌, subst, ⊎_elim, le-ltb, lt-ltb, List, [], ◌∷◌, ◌++◌, length, if◌then◌else◌, refl, ap, sym, ◌∙◌, arith, append_assoc, append-nil, length-append}
use Rattle.std.specs.List.{list_any}
use Rattle.std.proofs.lemmas.Bool.{cases_lt}
use Rattle.std.proofs.lemmas.List.Folds.{list_any-append}
use Rattle.album_partition.specs.declared.marks.Mark.{Mark}
use Rattle.album_partition.specs.Marks.{IsPromisedAgainst}
use Rattle.album_partition.proofs.GrowthLemmas.{promised_stays}
use Rattle.album_passes.specs.Cuts.{IsPrefix}
use Rattle.album_passes.specs.Changes.{longer}

-- ---- prefixes

pub prefix_self : (ms : List Mark) → IsPrefix ms ms
prefix_self ms = ([], append-nil ms)

pub prefix_trans : (ms ns os : List Mark) → IsPrefix ms ns → IsPrefix ns os → IsPrefix ms os
prefix_trans ms ns os p q = (p.0 ++ q.0, sym (append_assoc ms p.0 q.0) ∙ (ap (λ (w : List Mark). w ++ q.0) p.1 ∙ q.1))

-- of two prefixes of one history the shorter is one of the longer
pub prefix_shorter : (ms ns os : List Mark) → IsPrefix ms os → IsPrefix ns os → length ms ≤ length ns → IsPrefix ms ns
prefix_shorter [] ns os p q le = (ns, refl)
prefix_shorter (m ∷ ms) [] os p q le = absurd (omega arith)
prefix_shorter (m ∷ ms) (n ∷ ns) [] p q le = absurd (cc (p.1))
prefix_shorter (m ∷ ms) (n ∷ ns) (o ∷ os) p q le =
    let heads : m ≡ n = cc (p.1, q.1) in
    let h = prefix_shorter ms ns os (p.0, cc (p.1)) (q.0, cc (q.1)) (omega arith) in
    (h.0, cc (heads, h.1))

pub prefix_length : (ms ns : List Mark) → IsPrefix ms ns → length ms ≤ length ns
prefix_length ms ns p = omega (arith, sym (ap length p.1) ∙ length-append ms p.0)

-- what a prefix has, the whole has too
pub any_more : (test : Mark → Bool) (ms ns : List Mark) → IsPrefix ms ns → list_any test ms ≡ true → list_any test ns ≡ true
any_more test ms ns p e =
    subst (λ (os : List Mark). list_any test os ≡ true) p.1
    (list_any-append test ms p.0 ∙ ap (λ (b : Bool). b || list_any test p.0) e)

pub promised_more : (t : ℕ) (ms ns : List Mark) → IsPrefix ms ns → IsPromisedAgainst ms t → IsPromisedAgainst ns t
promised_more t ms ns p q = subst (λ (os : List Mark). IsPromisedAgainst os t) p.1 (promised_stays ms p.0 t q)

-- ---- the longer of two

-- it is the second where the first is shorter, and else the first
pub longer_cases : (ms ns : List Mark) → ((length ms < length ns) × (longer ms ns ≡ ns)) ⊎ ((length ns ≤ length ms) × (longer ms ns ≡ ms))
longer_cases ms ns = ⊎_elim
    (λ l. inl (l, ap (λ (b : Bool). if b then ns else ms) (lt-ltb (length ms) (length ns) l)))
    (λ l. inr (l, ap (λ (b : Bool). if b then ns else ms) (le-ltb (length ms) (length ns) l)))
    (cases_lt (length ms) (length ns))
