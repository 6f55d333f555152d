-- Numbers that differ, and that differ from those seen before. For `are_distinct`; `first_new` is a step of its loop.
use Rattle.std.proofs.Common.{◌≡◌, ◌==◌, ◌&&◌, ◌||◌, ◌+◌, ◌<◌, ℕ, suc, List, [], ◌∷◌, length, get_or, drop, map, Bool, true, false, not, cond, Decides, refl, sym, ap, ◌∙◌, add-one, drop-cons}
use Rattle.std.specs.List.{list_any}
use Rattle.std.specs.Ordering.{nat_cmp}
use Rattle.std.specs.BTreeMap.{is_at}
use Rattle.std.specs.Cmp.{Equal-is}
use Rattle.std.proofs.Math.Bool.{and-true}
use Rattle.std.proofs.lemmas.Bool.Decides.{Decides-eqb, same_from_decides}
use Rattle.std.proofs.lemmas.Map.Lookups.{exact_unsigned}
use Rattle.std.proofs.lemmas.Cmp.{nat_cmp_total, eq_by_cmp_equiv}
use Rattle.album_stamps.specs.Distinct.{are_distinct}
use Rattle.album_lines.specs.JudgeShape.{numbers, spelled_group}
use Rattle.album_lines.specs.declared.judge_shape.GroupShape.{GroupShape}

-- they differ, and none of them is seen
abbrev pub are_new : (ℕ → Bool) → List ℕ → Bool
are_new seen ns = are_distinct ns && not (list_any seen ns)

any_same : (f g : ℕ → Bool) → ((n : ℕ) → f n ≡ g n) → (ns : List ℕ) → list_any f ns ≡ list_any g ns
any_same f g same [] = refl
any_same f g same (n ∷ ns) = rw (same n, any_same f g same ns) refl

any_either : (f g : ℕ → Bool) (ns : List ℕ) → list_any (λ n. f n || g n) ns ≡ (list_any f ns || list_any g ns)
any_either f g [] = refl
any_either f g (n ∷ ns) = rw (any_either f g ns) (go (f n) (g n) (list_any f ns) (list_any g ns))
  where
    go : (a b c d : Bool) → (a || b || (c || d)) ≡ (a || c || (b || d))
    go true b c d = refl
    go false true true d = refl
    go false true false d = refl
    go false false c d = refl

pub none_seen : (ns : List ℕ) (f : ℕ → Bool) → ((n : ℕ) → f n ≡ false) → are_new f ns ≡ are_distinct ns
none_seen ns f none = rw (any_same f (λ n. false) none ns, never ns) (and-true (are_distinct ns))
  where
    never : (ms : List ℕ) → list_any (λ n. false) ms ≡ false
    never [] = refl
    never (m ∷ ms) = never ms

-- the order and `==` agree on which keys are the same
pub same_key : (k q : ℕ) → is_at (nat_cmp k) q ≡ (q == k)
same_key k q = same_from_decides (is_at (nat_cmp k) q) (q == k) by_order (Decides-eqb q k)
  where
    by_order : Decides (is_at (nat_cmp k) q) (q ≡ k)
    by_order = (
      λ e. sym (exact_unsigned k q ((Equal-is (nat_cmp k q)).0 e)),
      λ e. rw e ((eq_by_cmp_equiv nat_cmp_total).refl k),
    )

-- `==` is symmetric
same_back : (k q : ℕ) → (q == k) ≡ (k == q)
same_back k q = same_from_decides (q == k) (k == q) (Decides-eqb q k) back
  where
    back : Decides (k == q) (q ≡ k)
    back = (λ e. sym ((Decides-eqb k q).0 e), λ e. (Decides-eqb k q).1 (sym e))

-- the first is new, and the others are where it is seen too
pub first_new : (old new : ℕ → Bool) (k : ℕ) (ns : List ℕ)
    → ((q : ℕ) → new q ≡ cond (is_at (nat_cmp k) q) true (old q))
    → old k ≡ false
    → are_new old (k ∷ ns) ≡ are_new new ns
first_new old new k ns updates unseen =
    rw (any_same new (λ q. (k == q) || old q) (λ q. updates q ∙ rw (same_key k q, same_back k q) (either (k == q) (old q))) ns, any_either (λ q. k == q) old ns, unseen)
    (go (list_any (λ m. k == m) ns) (are_distinct ns) (list_any old ns))
  where
    either : (a b : Bool) → cond a true b ≡ (a || b)
    either true b = refl
    either false b = refl

    go : (a d o : Bool) → (not a && d && not o) ≡ (d && not (a || o))
    go true true o = refl
    go true false o = refl
    go false d o = refl

-- the group at an index, and those after it
pub numbers_from : (gs : List GroupShape) (i : ℕ) (g : GroupShape)
    → i < length gs
    → g ≡ get_or gs i g
    → numbers (map spelled_group (drop i gs)) ≡ g.number ∷ numbers (map spelled_group (drop (i + 1) gs))
numbers_from gs i g below is =
    let first : drop i gs ≡ g ∷ drop (i + 1) gs =
    drop-cons gs i g below ∙ rw (add-one) (ap (λ x. x ∷ drop (suc i) gs) (sym is)) in
    ap (λ xs. numbers (map spelled_group xs)) first

-- what `insert` returns
pub new_from_added : (added seen : Bool) → added ≡ true → added ≡ not seen → seen ≡ false
new_from_added added false yes' is = refl
new_from_added added true yes' is = absurd (cc)
