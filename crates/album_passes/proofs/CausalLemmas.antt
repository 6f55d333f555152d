-- What a cut has of what the authors of its writes had seen. The laws `cuts_are_causal` and
-- `fresh_as_authors_saw` cite these.
use Rattle.std.proofs.Common.{◌≡◌, ℕ, zero, suc, ◌≤◌, Bool, true, false, ◌||◌, List, [], ◌∷◌, take, length, slice_index, Some, refl, sym, subst, arith}
use Rattle.std.specs.List.{list_any}
use Rattle.std.proofs.Math.ListN.{get_or-map}
use Rattle.album_items.specs.ItemIds.{place_of}
use Rattle.album_partition.specs.declared.marks.Mark.{Mark}
use Rattle.album_partition.specs.Marks.{commits}
use Rattle.album_reader.specs.Answers.{ReadVersion}
use Rattle.album_reader.specs.Atomic.{IsFreshFrom}
use Rattle.album_passes.specs.Changes.{lengths_in, announced_cut}
use Rattle.album_passes.specs.Cuts.{Cut, Announced, prefix_at, prefix_for, announced_for, dependencies_of, HasReached, IsSound, IsPrefix, Extends}
use Rattle.album_passes.specs.Reads.{IsCommitted, IsCommittedFor, writes_in_cut, HadSeenCommitted}
use Rattle.album_passes.proofs.AnnouncedLemmas.{some_too, announced_here}
use Rattle.album_passes.proofs.CutLemmas.{prefix_for_more}
use Rattle.album_passes.proofs.ClosedLemmas.{committed_tells, announced_some}

-- what is found among the first marks of a history, is found in a prefix that has as many
any_within : (test : Mark → Bool) (n : ℕ) (ms ns : List Mark) → IsPrefix ms ns → n ≤ length ms
    → list_any test (take n ns) ≡ true → list_any test ms ≡ true
any_within test zero ms ns p le e = absurd (cc (e))
any_within test (suc n) [] ns p le e = absurd (omega arith)
any_within test (suc n) (m ∷ ms) [] p le e = absurd (cc (p.1))
any_within test (suc n) (m ∷ ms) (k ∷ ks) p le e =
    let same : m ≡ k = cc (p.1) in
    go (test m) (any_within test n ms ks (p.0, cc (p.1)) (omega arith))
    (subst (λ (y : Mark). test y || list_any test (take n ks) ≡ true) (sym same) e)
  where
    go : (b : Bool) → (list_any test (take n ks) ≡ true → list_any test ms ≡ true)
        → b || list_any test (take n ks) ≡ true → b || list_any test ms ≡ true
    go true h f = refl
    go false h f = h f

-- what a committed stamp depends on is known, and there
pub depended_on : (c : Cut) (t : ℕ) → IsSound c → IsCommitted c t
    → (ls : List ℕ) × (dependencies_of c t ≡ Some ls) × HasReached ls c
depended_on c t s h =
    let w = committed_tells c h.0 t s.closed h.1 in
    let a = announced_some c t w.items w.announced in
    let d = some_too (dependencies_of c t) (announced_for c t) a.0 (s.depends t) a.1 in
    (d.0, d.1, s.causal t d.0 d.1)

-- a stamp depends on all that its author has seen
pub depended_lengths : (c : Cut) (t p : ℕ) (is : Announced) (ls : List ℕ) → dependencies_of (announced_cut c t is) t ≡ Some ls
    → slice_index ls p ≡ length (prefix_at c p)
depended_lengths c t p is ls e =
    let here : dependencies_of (announced_cut c t is) t ≡ Some (lengths_in c) = announced_here (dependencies_of c) t (lengths_in c) t refl in
    subst (λ (ks : List ℕ). slice_index ks p ≡ length (prefix_at c p)) (same here)
    (get_or-map length c.prefixes p [])
  where
    same : dependencies_of (announced_cut c t is) t ≡ Some (lengths_in c) → lengths_in c ≡ ls
    same h = cc (h, e)

-- what the author had seen committed, the cut has committed
seen_there : (b c : Cut) (t u i : ℕ) → IsSound b → Extends b c → IsCommitted b t → HadSeenCommitted c t u i → IsCommittedFor b u i
seen_there b c t u i s x h a =
    let d = depended_on b t s h in
    let same : d.0 ≡ a.lengths = same_lengths d.0 a.lengths (x.depended t d.0 d.1) a.depended in
    let p : ℕ = place_of b.parts i in
    let there : list_any (commits u) (take (slice_index d.0 p) (prefix_for c i)) ≡ true =
    subst (λ (y : List ℕ × ℕ). list_any (commits u) (take (slice_index y.0 (place_of y.1 i)) (prefix_for c i)) ≡ true)
    (λ j. (sym same j, x.parts j)) a.committed in
    any_within (commits u) (slice_index d.0 p) (prefix_for b i) (prefix_for c i) (prefix_for_more b c x i) (d.2 p) there
  where
    same_lengths : (ks ls : List ℕ) → dependencies_of c t ≡ Some ks → dependencies_of c t ≡ Some ls → ks ≡ ls
    same_lengths ks ls e f = cc (e, f)

pub fresh_by_author : (b c : Cut) (t : ℕ) (xs : List ReadVersion) → IsSound b → Extends b c → IsCommitted b t
    → IsFreshFrom (writes_in_cut c) (IsCommittedFor b) xs → IsFreshFrom (writes_in_cut c) (HadSeenCommitted c t) xs
fresh_by_author b c t xs s x h f = λ y n u wrote seen. f y n u wrote (seen_there b c t u y.item s x h seen)
