-- What is true of a seat that is held, after each of its steps. The methods of `Holding` cite these.
use Rattle.std.proofs.Common.{◌≡◌, ℕ, ◌+◌, ◌<◌, ◌≤◌, max, List, [], ◌∷◌, ◌++◌, length, get_or, set, slice_index, None, refl, ap, sym, ◌∙◌, subst, ⊎_elim, arith, get_or-set_same, get_or-set_other, length-append}
use native.Mathlib.Decide.{ℕ_discrete}
use mathlib.Core.Logic.{dite}
use Rattle.album_stamps.specs.declared.limits.TheConstants.{MAX_PARTS}
use Rattle.album_partition.specs.declared.marks.Mark.{Mark}
use Rattle.album_partition.specs.Bases.{MayAppend}
use Rattle.album_passes.specs.Cuts.{Cut, Announced, prefix_at, announced_for, IsBacked, IsSound}
use Rattle.album_passes.specs.Changes.{merged, marked_cut, announced_cut}
use Rattle.album_passes.specs.Knowledge.{Knowledge, known, last_known, first_of, last_of}
use Rattle.album_passes.specs.Steps.{beside, with_cut, merged_seat, IsMerged}
use Rattle.album_passes.specs.Holding.{AreLengths, IsHeld}
use Rattle.album_passes.proofs.PrefixLemmas.{longer_cases}
use Rattle.album_passes.proofs.CutLemmas.{longer_at, sound_merged, sound_marked, sound_announced, mark_here, mark_else}

-- ---- two seats become one

-- the cuts of two seats that have one each
pub two_cuts : (v w m : Knowledge) → v.cuts ≡ known v ∷ [] → w.cuts ≡ known w ∷ [] → m ≡ beside v w → m.cuts ≡ known m ∷ last_known m ∷ []
two_cuts v w m one two e =
    let all : m.cuts ≡ known v ∷ known w ∷ [] = ap (λ (x : Knowledge). x.cuts) e ∙ (λ i. one i ++ two i) in
    subst (λ (cs : List Cut). cs ≡ first_of cs ∷ last_of cs ∷ []) (sym all) refl

-- what is true of a seat that is held, but that it has no guest
pub record IsHosting (seat : Knowledge) (lengths : List ℕ) : Type 0 where
  pub one : seat.cuts ≡ known seat ∷ []
  pub sound : IsSound (known seat)
  pub few : (known seat).parts ≤ MAX_PARTS
  pub lengths_are : AreLengths lengths (known seat)

-- so it is once the seat has taken in another
pub hosting : (v w z : Knowledge) (ls ks all : List ℕ) → IsHeld v ls → IsHeld w ks → z ≡ merged_seat v w
    → IsMerged (beside v w) (known v) (known w) (known z)
    → ((p : ℕ) → p < 16 → slice_index all p ≡ max (slice_index ls p) (slice_index ks p)) → IsHosting z all
hosting v w z ls ks all h k e told greater =
    let c : Cut = known v in
    let d : Cut = known w in
    let both : IsMerged (beside v w) c d (merged c d) = subst (λ (x : Knowledge). IsMerged (beside v w) c d (known x)) e told in
    subst (λ (x : Knowledge). IsHosting x all) (sym e) record {
      one = refl;
      sound = sound_merged c d both.other_on.parts h.sound k.sound both.one_on both.other_on;
      few = h.few;
      lengths_are = λ p l. (let a = h.lengths_are p l in let b = k.lengths_are p l in let g = greater p l in let e = ap length (longer_at c.prefixes d.prefixes p) in ⊎_elim
          (λ t. (let u = ap length t.1 in omega arith))
          (λ t. (let u = ap length t.1 in omega arith))
          (longer_cases (prefix_at c p) (prefix_at d p)));
    }

-- where the cut is the same, and there is no guest
pub held_of : (z y : Knowledge) (ls : List ℕ) → y.cuts ≡ z.cuts → y.guest ≡ None → IsHosting z ls → IsHeld y ls
held_of z y ls e alone h =
    let q : (y.cuts ≡ known y ∷ []) × IsSound (known y) × ((known y).parts ≤ MAX_PARTS) × AreLengths ls (known y) =
    subst (λ (cs : List Cut). (cs ≡ first_of cs ∷ []) × IsSound (first_of cs) × ((first_of cs).parts ≤ MAX_PARTS) × AreLengths ls (first_of cs)) (sym e)
    (h.one, h.sound, h.few, h.lengths_are) in
    record { one = q.0; alone = alone; sound = q.1; few = q.2; lengths_are = q.3 }

-- ---- one seat's step

-- one mark more, and its length
pub held_marked : (v w : Knowledge) (ls : List ℕ) (p : ℕ) (m : Mark) → w ≡ with_cut v (marked_cut (known v) p m) → IsHeld v ls → length ls ≡ 16
    → p < (known v).parts → MayAppend (known v).checked (prefix_at (known v) p) m → IsBacked (marked_cut (known v) p m) m
    → IsHeld w (set ls p (get_or ls p 0 + 1))
held_marked v w ls p m is h len inside may back =
    let c : Cut = known v in
    let few = h.few in
    let wide = h.sound.wide in
    let at : p < length c.prefixes = omega arith in
    let was = h.lengths_are p (omega arith) in
    subst (λ (x : Knowledge). IsHeld x (set ls p (get_or ls p 0 + 1))) (sym is) record {
      one = refl;
      alone = h.alone;
      sound = sound_marked c p m at h.sound may back;
      few = h.few;
      lengths_are = λ q l. dite (ℕ_discrete q p)
          (λ e. subst (λ (y : ℕ). get_or (set ls p (get_or ls p 0 + 1)) y 0 ≡ length (prefix_at (marked_cut c p m) y)) (sym e)
          (let a = ap length (mark_here c p m at) in let b = length-append (prefix_at c p) (m ∷ []) in let g = get_or-set_same ls p (get_or ls p 0 + 1) 0 (omega arith) in omega arith))
          (λ n. get_or-set_other ls p q (get_or ls p 0 + 1) 0 n ∙ (h.lengths_are q l ∙ ap length (sym (mark_else c p q m n))));
    }

-- one list more
pub held_announced : (v w : Knowledge) (ls : List ℕ) (t : ℕ) (is : Announced) → w ≡ with_cut v (announced_cut (known v) t is) → IsHeld v ls → announced_for (known v) t ≡ None → IsHeld w ls
held_announced v w ls t is e h fresh = subst (λ (x : Knowledge). IsHeld x ls) (sym e) record {
  one = refl;
  alone = h.alone;
  sound = sound_announced (known v) t is fresh h.sound;
  few = h.few;
  lengths_are = h.lengths_are;
}
