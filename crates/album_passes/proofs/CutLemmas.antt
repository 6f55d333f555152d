-- What is sound stays so as a cut grows. The proofs of the steps and of what a seat holds cite `sound_merged`,
-- `sound_marked` and `sound_announced`; the main lemma is `backed_more`, that a mark stays backed.
use Rattle.std.proofs.Common.{◌≡◌, ◌≢◌, ℕ, zero, suc, ◌<◌, ◌≤◌, ◌==◌, true, List, [], ◌∷◌, ◌++◌, length, get_or, set, All, Option, Some, None, is_some, option_map, refl, ap, sym, ◌∙◌, subst, ⊎_elim, arith, length-set, get_or-set_other, get_or-set_same}
use Rattle.std.proofs.lemmas.List.Elements.{All-push}
use Rattle.std.proofs.lemmas.Bool.{cases_lt}
use Rattle.std.proofs.Math.ListN.{get_or-map}
use native.Mathlib.Decide.{ℕ_discrete}
use mathlib.Core.Logic.{dite}
use Rattle.album_items.specs.ItemIds.{place_of}
use Rattle.album_items.specs.Openings.{Row}
use Rattle.album_items.specs.Transactions.{items_written}
use Rattle.album_partition.specs.declared.marks.Mark.{Mark}
use Rattle.album_partition.specs.declared.marks.Mark.TheVariants.{Prepared, Committed, Discarded, Trimmed}
use Rattle.album_partition.specs.Bases.{MayAppend, IsChainedIf, is_chained}
use Rattle.album_partition.specs.Marks.{prepares, is_legal}
use Rattle.album_partition.proofs.BaseLemmas.{is_chained-push}
use Rattle.album_partition.proofs.LegalLemmas.{is_legal-push}
use Rattle.album_passes.specs.Cuts.{Cut, Announced, marks_at, prefix_at, prefix_for, announced_for, items_announced, dependencies_of, HasReached, IsPreparedFor, IsNamed, IsPreparedOver, IsOverItsBase, IsBacked, IsSound, IsPrefix, Extends}
use Rattle.album_passes.specs.Changes.{longer, longer_each, lengths_in, merged, marked_cut, announced_cut}
use Rattle.album_passes.proofs.PrefixLemmas.{prefix_self, prefix_trans, prefix_length, any_more, promised_more, longer_cases}
use Rattle.album_passes.proofs.AnnouncedLemmas.{listed-append, listed_each, both_some, also_some, none_too, announced_here, announced_else, announced_more}

-- ---- a cut that extends another

pub extends_self : (c : Cut) → Extends c c
extends_self c = record { opening = refl; parts = refl; checked = refl; prefixes = λ p. prefix_self (prefix_at c p); announced = λ t is e. e; depended = λ t ls e. e }

pub extends_trans : (c d e : Cut) → Extends c d → Extends d e → Extends c e
extends_trans c d e x y = record {
  opening = y.opening ∙ x.opening;
  parts = y.parts ∙ x.parts;
  checked = y.checked ∙ x.checked;
  prefixes = λ p. prefix_trans (prefix_at c p) (prefix_at d p) (prefix_at e p) (x.prefixes p) (y.prefixes p);
  announced = λ t is h. y.announced t is (x.announced t is h);
  depended = λ t ls h. y.depended t ls (x.depended t ls h);
}

reached_more : (c d : Cut) → Extends c d → (ls : List ℕ) → HasReached ls c → HasReached ls d
reached_more c d x ls r p =
    let a = r p in let b = prefix_length (prefix_at c p) (prefix_at d p) (x.prefixes p) in omega arith

-- at the partition of an item
pub prefix_for_more : (c d : Cut) → Extends c d → (i : ℕ) → IsPrefix (prefix_for c i) (prefix_for d i)
prefix_for_more c d x i = subst (λ (n : ℕ). IsPrefix (prefix_for c i) (prefix_at d (place_of n i))) (sym x.parts) (x.prefixes (place_of c.parts i))

prepared_more : (c d : Cut) → Extends c d → (t i : ℕ) → IsPreparedFor c t i → IsPreparedFor d t i
prepared_more c d x t i e = any_more (prepares t) (prefix_for c i) (prefix_for d i) (prefix_for_more c d x i) e

pub items_more : (c d : Cut) → Extends c d → (t : ℕ) (is : List ℕ) → items_announced c t ≡ Some is → items_announced d t ≡ Some is
items_more c d x t is e = go (announced_for c t) refl e
  where
    items : Option Announced → Option (List ℕ)
    items = option_map (λ (a : Announced). items_written a.writes)

    go : (o : Option Announced) → announced_for c t ≡ o → items o ≡ Some is → items_announced d t ≡ Some is
    go (Some a) f g = ap items (x.announced t a f) ∙ g
    go None f g = absurd (cc (g))

pub named_more : (c d : Cut) → Extends c d → (t : ℕ) (ws : List Row) (is : List ℕ) → IsNamed c t ws is → IsNamed d t ws is
named_more c d x t ws is n = record {
  all = n.all;
  announced = x.announced t n.all n.announced;
  items_are = n.items_are;
  within = n.within;
}

pub over_more : (ms ns : List Mark) → IsPrefix ms ns → (t i b : ℕ) → IsPreparedOver ms t i b → IsPreparedOver ns t i b
over_more ms ns x t i b h = record {
  before = h.before;
  writes = h.writes;
  items = h.items;
  had = prefix_trans (h.before ++ Prepared t h.writes h.items ∷ []) ms ns h.had x;
  wrote = h.wrote;
  latest_is = h.latest_is;
}

pub over_base_more : (c d : Cut) → Extends c d → (t : ℕ) (w : Row) → IsOverItsBase c t w → IsOverItsBase d t w
over_base_more c d x t w h = record {
  all = h.all;
  announced = x.announced t h.all h.announced;
  base = h.base;
  of = h.of;
  over = over_more (prefix_for c w.0) (prefix_for d w.0) (prefix_for_more c d x w.0) t w.0 h.base h.over;
}

pub backed_more : (c d : Cut) → Extends c d → (m : Mark) → IsBacked c m → IsBacked d m
backed_more c d x (Prepared t ws is) b = record {
  named = named_more c d x t ws is b.named;
  based = λ on w k. over_base_more c d x t w (b.based (sym x.checked ∙ on) w k);
}
backed_more c d x (Committed t) b = record {
  items = b.items;
  announced = items_more c d x t b.items b.announced;
  prepared = λ k i l. prepared_more c d x t (get_or b.items k i) (b.prepared k i l);
}
backed_more c d x (Discarded t) b = record {
  items = b.items;
  announced = items_more c d x t b.items b.announced;
  item = b.item;
  listed = b.listed;
  promised = promised_more t (prefix_for c b.item) (prefix_for d b.item) (prefix_for_more c d x b.item) b.promised;
}
backed_more c d x (Trimmed i) b = tt

all_backed : (c d : Cut) → Extends c d → (ms : List Mark) → All (IsBacked c) ms → All (IsBacked d) ms
all_backed c d x ms a k m l = backed_more c d x (get_or ms k m) (a k m l)

-- ---- two cuts merged

-- the longer of two lists of histories, at p
pub longer_at : (hs ks : List (List Mark)) (p : ℕ) → marks_at (longer_each hs ks) p ≡ longer (marks_at hs p) (marks_at ks p)
longer_at [] ks p = ⊎_elim (λ x. sym x.1) (λ x. nothing (marks_at ks p) x.0 ∙ sym x.1) (longer_cases [] (marks_at ks p))
  where
    nothing : (ms : List Mark) → length ms ≤ 0 → ms ≡ []
    nothing [] l = refl
    nothing (m ∷ ms) l = absurd (omega arith)
longer_at (h ∷ hs) [] zero = ⊎_elim (λ x. absurd (omega arith)) (λ x. sym x.1) (longer_cases h [])
longer_at (h ∷ hs) [] (suc p) = ⊎_elim (λ x. absurd (omega arith)) (λ x. sym x.1) (longer_cases (marks_at hs p) [])
longer_at (h ∷ hs) (k ∷ ks) zero = refl
longer_at (h ∷ hs) (k ∷ ks) (suc p) = longer_at hs ks p

length-longer_each : (hs ks : List (List Mark)) → length hs ≡ length ks → length (longer_each hs ks) ≡ length hs
length-longer_each [] ks e = sym e
length-longer_each (h ∷ hs) [] e = refl
length-longer_each (h ∷ hs) (k ∷ ks) e = ap suc (length-longer_each hs ks (omega arith))

-- what holds of both prefixes holds of the longer
longer_has : (P : List Mark → Type 0) (c d : Cut) (p : ℕ) → P (prefix_at c p) → P (prefix_at d p) → P (prefix_at (merged c d) p)
longer_has P c d p x y = subst P (sym (longer_at c.prefixes d.prefixes p)) (⊎_elim (λ z. subst P (sym z.1) y) (λ z. subst P (sym z.1) x) (longer_cases (prefix_at c p) (prefix_at d p)))

pub sound_merged : (c d : Cut) → c.parts ≡ d.parts → IsSound c → IsSound d → Extends c (merged c d) → Extends d (merged c d) → IsSound (merged c d)
sound_merged c d same x y e f = record {
  wide = length-longer_each c.prefixes d.prefixes (x.wide ∙ same ∙ sym y.wide) ∙ x.wide;
  legal = λ p. longer_has (λ (ms : List Mark). is_legal ms ≡ true) c d p (x.legal p) (y.legal p);
  chained = λ p on. longer_has (λ (ms : List Mark). is_chained ms ≡ true) c d p (x.chained p on) (y.chained p (sym f.checked ∙ on));
  closed = λ p. longer_has (All (IsBacked (merged c d))) c d p
      (all_backed c (merged c d) e (prefix_at c p) (x.closed p))
      (all_backed d (merged c d) f (prefix_at d p) (y.closed p));
  depends = λ t. ap is_some (listed-append c.depended d.depended t)
      ∙ both_some (dependencies_of c t) (dependencies_of d t) (announced_for c t) (announced_for d t) (x.depends t) (y.depends t)
      ∙ ap is_some (sym (listed-append c.announced d.announced t));
  causal = listed_each (λ t ls. HasReached ls (merged c d)) c.depended d.depended
      (λ t ls h. reached_more c (merged c d) e ls (x.causal t ls h))
      (λ t ls h. reached_more d (merged c d) f ls (y.causal t ls h));
}

-- ---- one mark more

pub mark_here : (c : Cut) (p : ℕ) (m : Mark) → p < length c.prefixes → prefix_at (marked_cut c p m) p ≡ prefix_at c p ++ m ∷ []
mark_here c p m l = get_or-set_same c.prefixes p (prefix_at c p ++ m ∷ []) [] l

pub mark_else : (c : Cut) (p q : ℕ) (m : Mark) → q ≢ p → prefix_at (marked_cut c p m) q ≡ prefix_at c q
mark_else c p q m n = get_or-set_other c.prefixes p q (prefix_at c p ++ m ∷ []) [] n

pub extends_marked : (c : Cut) (p : ℕ) (m : Mark) → p < length c.prefixes → Extends c (marked_cut c p m)
extends_marked c p m l = record {
  opening = refl;
  parts = refl;
  checked = refl;
  prefixes = λ q. dite (ℕ_discrete q p)
      (λ e. subst (λ (x : ℕ). IsPrefix (prefix_at c x) (prefix_at (marked_cut c p m) x)) (sym e) (m ∷ [], sym (mark_here c p m l)))
      (λ n. subst (λ (ms : List Mark). IsPrefix (prefix_at c q) ms) (sym (mark_else c p q m n)) (prefix_self (prefix_at c q)));
  announced = λ t is e. e;
  depended = λ t ls e. e;
}

pub sound_marked : (c : Cut) (p : ℕ) (m : Mark) → p < length c.prefixes → IsSound c → MayAppend c.checked (prefix_at c p) m → IsBacked (marked_cut c p m) m → IsSound (marked_cut c p m)
sound_marked c p m l x may back = record {
  wide = length-set c.prefixes p (prefix_at c p ++ m ∷ []) ∙ x.wide;
  legal = at_each (λ (ms : List Mark). is_legal ms ≡ true) (is_legal-push (prefix_at c p) m (x.legal p) may.follows) x.legal;
  chained = at_each (IsChainedIf c.checked) (λ on. is_chained-push (prefix_at c p) m (x.chained p on) (may.chains on)) x.chained;
  closed = at_each (All (IsBacked (marked_cut c p m))) (All-push (IsBacked (marked_cut c p m)) (prefix_at c p) m (old p) back) old;
  depends = x.depends;
  causal = λ t ls h. reached_more c (marked_cut c p m) (extends_marked c p m l) ls (x.causal t ls h);
}
  where
    old : (q : ℕ) → All (IsBacked (marked_cut c p m)) (prefix_at c q)
    old q = all_backed c (marked_cut c p m) (extends_marked c p m l) (prefix_at c q) (x.closed q)

    at_each : (P : List Mark → Type 0) → P (prefix_at c p ++ m ∷ []) → ((q : ℕ) → P (prefix_at c q)) → (q : ℕ) → P (prefix_at (marked_cut c p m) q)
    at_each P here others q = dite (ℕ_discrete q p) (λ e. subst (λ (z : ℕ). P (prefix_at (marked_cut c p m) z)) (sym e) (subst P (sym (mark_here c p m l)) here)) (λ n. subst P (sym (mark_else c p q m n)) (others q))

set-past : (hs : List (List Mark)) (p : ℕ) (ms : List Mark) → length hs ≤ p → set hs p ms ≡ hs
set-past [] p ms l = refl
set-past (h ∷ hs) zero ms l = absurd (omega arith)
set-past (h ∷ hs) (suc p) ms l = ap (λ (ks : List (List Mark)). h ∷ ks) (set-past hs p ms (omega arith))

-- at any partition, be it none
pub extends_marked_any : (c : Cut) (p : ℕ) (m : Mark) → Extends c (marked_cut c p m)
extends_marked_any c p m = ⊎_elim
    (λ l. extends_marked c p m l)
    (λ l. subst (λ (hs : List (List Mark)). Extends c (record c { prefixes = hs })) (sym (set-past c.prefixes p (prefix_at c p ++ m ∷ []) l)) (extends_self c))
    (cases_lt p (length c.prefixes))

-- a mark that is backed without itself may be made
pub backed_marked : (c : Cut) (p : ℕ) (m : Mark) → IsBacked c m → IsBacked (marked_cut c p m) m
backed_marked c p m b = backed_more c (marked_cut c p m) (extends_marked_any c p m) m b

-- ---- one announcement more

-- where nothing is announced for a stamp, nothing is known of what it depends on
undepended : (c : Cut) (t : ℕ) → announced_for c t ≡ None → IsSound c → dependencies_of c t ≡ None
undepended c t none x = none_too (dependencies_of c t) (announced_for c t) (x.depends t) none

pub extends_announced : (c : Cut) (t : ℕ) (is : Announced) → announced_for c t ≡ None → IsSound c → Extends c (announced_cut c t is)
extends_announced c t is none x = record {
  opening = refl;
  parts = refl;
  checked = refl;
  prefixes = λ p. prefix_self (prefix_at c p);
  announced = announced_more (announced_for c) t is none;
  depended = announced_more (dependencies_of c) t (lengths_in c) (undepended c t none x);
}

same_listed : (is js : List ℕ) → Some is ≡ Some js → is ≡ js
same_listed is js e = cc (e)

-- a cut has as many marks as it has
reached_self : (c : Cut) → HasReached (lengths_in c) c
reached_self c p = let e = get_or-map length c.prefixes p [] in omega arith

pub sound_announced : (c : Cut) (t : ℕ) (is : Announced) → announced_for c t ≡ None → IsSound c → IsSound (announced_cut c t is)
sound_announced c t is none x = record {
  wide = x.wide;
  legal = x.legal;
  chained = x.chained;
  closed = λ p. all_backed c (announced_cut c t is) (extends_announced c t is none x) (prefix_at c p) (x.closed p);
  depends = λ u. also_some (t == u) (lengths_in c) is (dependencies_of c u) (announced_for c u) (x.depends u);
  causal = λ u ls h. dite (ℕ_discrete u t)
      (λ same. let all : lengths_in c ≡ ls = same_listed (lengths_in c) ls (sym (announced_here (dependencies_of c) t (lengths_in c) u same) ∙ h) in
      subst (λ (ks : List ℕ). HasReached ks c) all (reached_self c))
      (λ apart. x.causal u ls (sym (announced_else (dependencies_of c) t (lengths_in c) u apart) ∙ h));
}
