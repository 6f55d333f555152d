-- A keeper as it begins. `last_keeper` cites `first_keeper`.
use Rattle.std.proofs.Common.{◌≡◌, ℕ, zero, suc, ◌+◌, ◌<◌, List, [], ◌∷◌, ◌++◌, length, length-append, get_or, replicate, Option, Some, option_to_list, refl, sym, ap, ◌∙◌, subst, arith}
use Rattle.std.proofs.lemmas.List.{get_or_push, get_or_append_left}
use Rattle.std.proofs.lemmas.List.Elements.{All-nil}
use Rattle.atomic_table.specs.Seated.{TableId}
use Rattle.album_partition.specs.Partition.{PartitionState, first_partition}
use Rattle.album_partition.specs.declared.marks.Mark.{Mark}
use Rattle.album_passes.specs.Desk.{DeskState, first_owner, AreOwners}
use Rattle.album_passes.specs.Knowledge.{Terms}
use Rattle.album_passes.specs.Owner.{OwnerState}
use Rattle.album_keepers.specs.Keepers.{IsKeeper}
use Rattle.album_keepers.specs.Firsts.{AreFirst, AreFirstOwners}

nothing_at : (n p : ℕ) → get_or {A = List Mark} (replicate n []) p [] ≡ []
nothing_at zero p = refl
nothing_at (suc n) zero = refl
nothing_at (suc n) (suc p) = nothing_at n p

-- the cut of a first owner shows its partition, which has no marks
pub first_keeper : (table : TableId) (terms : Terms) (p : ℕ) (q : PartitionState) (o : OwnerState)
    → q ≡ first_partition terms.checked terms.parts terms.limit terms.opening p
    → o ≡ first_owner (record { table = table; terms = terms }) p → IsKeeper table terms.limit (record { partition = q; owner = o })
first_keeper table terms p q o partition owner =
    subst (λ (y : PartitionState × OwnerState). IsKeeper table terms.limit (record { partition = y.0; owner = y.1 })) (λ i. (sym partition i, sym owner i))
    (record {
      of = refl;
      own = refl;
      shown = record { parts = refl; room = refl; items = refl; marks = sym (nothing_at terms.parts p) };
      voted = All-nil _;
      checked = refl;
    })

-- ---- one after another, from the last

-- what is popped from the first ones is the last of them, and the others are left
pub last_of : {A : Type 0} (first : ℕ → A) (n : ℕ) (xs ys : List A) (o : Option A) (x : A) → length xs ≡ n
    → ((k : ℕ) (d : A) → k < n → get_or xs k d ≡ first k) → xs ≡ ys ++ option_to_list o → o ≡ Some x
    → (length ys + 1 ≡ n) × (x ≡ first (length ys)) × ((k : ℕ) (d : A) → k < length ys → get_or ys k d ≡ first k)
last_of first n xs ys o x count each items is =
    let all : xs ≡ ys ++ x ∷ [] = items ∙ ap (λ z. ys ++ option_to_list z) is in
    let long : length xs ≡ length ys + length (x ∷ []) = ap length all ∙ length-append ys (x ∷ []) in
    let one : length ys + 1 ≡ n = omega arith in (
      one,
      sym (get_or_push ys x x (length ys) refl) ∙ ap (λ zs. get_or zs (length ys) x) (sym all) ∙ each (length ys) x (omega arith),
      λ k d l. sym (get_or_append_left ys (x ∷ []) d k l) ∙ ap (λ zs. get_or zs k d) (sym all) ∙ each k d (omega arith),
    )

-- the owners and the partitions of a desk, by its table and terms
pub owners_first : (d : DeskState) (table : TableId) (terms : Terms) (os : List OwnerState) → d.table ≡ table → d.terms ≡ terms → AreOwners d os
    → AreFirstOwners (record { table = table; terms = terms }) terms.parts os
owners_first d table terms os e f h =
    subst (λ (y : TableId × Terms). AreFirstOwners (record { table = y.0; terms = y.1 }) y.1.parts os) (λ i. (e i, f i))
    (record { count_is = h.count; each = h.each })

pub partitions_first : (old new : Terms) (ps : List PartitionState) → old ≡ new → AreFirst old old.parts ps → AreFirst new new.parts ps
partitions_first old new ps e h = subst (λ (t : Terms). AreFirst t t.parts ps) e h
