-- How a desk begins, and the words with which it ends. `Desk::open` and `Desk::close` cite these.
use Rattle.std.proofs.Common.{Bool, ◌≡◌, ℕ, zero, suc, ◌+◌, ◌<◌, ◌≤◌, true, List, [], ◌∷◌, ◌++◌, map, length, get_or, take, drop, replicate, None, refl, ap, sym, ◌∙◌, subst, arith, add-one}
use Rattle.std.proofs.lemmas.List.{length-replicate, take-replicate}
use mathlib.Core.Option.{some, some-ne-none, some-injective}
use lib.ListN.{get_elem?}
use Rattle.atomic_table.specs.Table.{Final}
use Rattle.std.proofs.lemmas.Grind.{common_steps}
use Rattle.album_items.specs.Openings.{Row, is_base_opening}
use Rattle.album_items.specs.declared.openings.Opening.{Opening}
use Rattle.album_partition.specs.declared.marks.Mark.{Mark}
use Rattle.album_partition.specs.Bases.{is_chained}
use Rattle.album_partition.specs.Marks.{is_legal}
use Rattle.album_passes.specs.Cuts.{marks_at, IsBacked, IsSound}
use Rattle.album_passes.specs.Changes.{empty_cut}
use Rattle.album_passes.specs.Knowledge.{Terms, Knowledge, first_seat, dealt}
use Rattle.album_passes.specs.Rule.{Run, IsCutOf, Fits, Agree, Keeps}
use Rattle.album_passes.specs.Holding.{IsHeld}
use Rattle.album_passes.specs.Desk.{AreWords}
use Rattle.album_passes.proofs.PrefixLemmas.{prefix_self}
use Rattle.album_passes.proofs.SeatLemmas.{push_each, at_one}

-- ---- how it begins

pub few_parts : (o : Opening) → is_base_opening o ≡ true → o.parts ≤ 16
few_parts o e = grind (arith, common_steps)

nothing_at : (n p : ℕ) → marks_at (replicate n []) p ≡ []
nothing_at zero p = refl
nothing_at (suc n) zero = refl
nothing_at (suc n) (suc p) = nothing_at n p

zero_at : (n p : ℕ) → get_or {A = ℕ} (replicate n 0) p 0 ≡ 0
zero_at zero p = refl
zero_at (suc n) zero = refl
zero_at (suc n) (suc p) = zero_at n p

lengths-nothing : (n : ℕ) → map length (replicate {A = List Mark} n []) ≡ replicate n 0
lengths-nothing zero = refl
lengths-nothing (suc n) = ap (λ xs. 0 ∷ xs) (lengths-nothing n)

pub opening_words : (n : ℕ) → n ≤ 16 → take {A = ℕ} (n + 1) (replicate 17 0) ≡ 0 ∷ replicate n 0
opening_words n l = ap (λ k. take {A = ℕ} k (replicate 17 0)) (add-one n) ∙ take-replicate (suc n) 17 0 (omega arith)

sound_empty : (opening : List Row) (n : ℕ) (checked : Bool) → IsSound (empty_cut opening n checked)
sound_empty opening n checked = record {
  wide = length-replicate n [];
  legal = λ p. subst (λ (h : List Mark). is_legal h ≡ true) (sym (nothing_at n p)) refl;
  chained = λ p on. subst (λ (h : List Mark). is_chained h ≡ true) (sym (nothing_at n p)) refl;
  closed = λ p. subst (λ (h : List Mark). (k : ℕ) (m : Mark) → k < length h → IsBacked (empty_cut opening n checked) (get_or h k m)) (sym (nothing_at n p)) (λ k m l. absurd (omega arith));
  depends = λ t. refl;
  causal = λ t ls e. absurd (cc (e));
}

pub held_empty : (key : Terms) (v : Knowledge) (k : ℕ) → v ≡ dealt key k → key.parts ≤ 16 → IsHeld v (replicate 16 0)
held_empty key v k is few = subst (λ (x : Knowledge). IsHeld x (replicate {A = ℕ} 16 0)) (sym is) record {
  one = refl;
  alone = refl;
  sound = sound_empty key.opening key.parts key.checked;
  few = few;
  lengths_are = λ p l. zero_at 16 p ∙ ap length (sym (nothing_at key.parts p));
}

pub begins : (key : Terms) (words : List ℕ) → words ≡ 0 ∷ replicate key.parts 0 → Agree key words (first_seat key ∷ [])
begins key words is =
    let hs : List (List Mark) = replicate key.parts [] in
    let run : Run = record { histories = hs; drawn = 0; announced = λ _. None; depended = λ _. None; owner = λ _. 0; holder = λ _. 0 } in
    let cut : IsCutOf key run (empty_cut key.opening key.parts key.checked) = record {
      opening = refl;
      parts = refl;
      checked = refl;
      prefixes = λ p. prefix_self (marks_at hs p);
      announced = λ t js e. absurd (cc (e));
      depended = λ t ls e. absurd (cc (e));
      sound = sound_empty key.opening key.parts key.checked;
    } in
    let F : ℕ → Knowledge → Type 0 = Fits key run in
    let one : F 0 (first_seat key) = record {
      cuts = at_one (IsCutOf key run) (empty_cut key.opening key.parts key.checked) cut;
      owns = λ p l h. record { alone = refl; whole = refl };
      number = λ n e. absurd (cc (e));
      guest = λ n e. absurd (cc (e));
      apart = λ m n e g same. cc (e);
      seen = omega arith;
    } in
    record {
      run = run;
      words_are = is ∙ ap (λ xs. 0 ∷ xs) (sym (lengths-nothing key.parts));
      wide = length-replicate key.parts [];
      legal = λ p. subst (λ (h : List Mark). is_legal h ≡ true) (sym (nothing_at key.parts p)) refl;
      chained = λ p on. subst (λ (h : List Mark). is_chained h ≡ true) (sym (nothing_at key.parts p)) refl;
      few = λ p. subst (λ (h : List Mark). length h ≤ key.limit) (sym (nothing_at key.parts p)) (omega arith);
      most = omega arith;
      named = λ t js e. absurd (cc (e));
      depends = λ t. refl;
      each = push_each F [] (first_seat key) (λ j u e. absurd (some-ne-none u (sym e))) one;
    }

-- ---- how it ends

-- one word more, after the first
pub take-word : (ws : List ℕ) (k x : ℕ) → get_elem? ws (k + 1) ≡ some x → take k (drop 1 ws) ++ x ∷ [] ≡ take (k + 1) (drop 1 ws)
take-word [] k x e = absurd (some-ne-none x (sym (sym (ap (get_elem? []) (add-one k)) ∙ e)))
take-word (w ∷ ws) k x e = more ws k (sym (ap (get_elem? (w ∷ ws)) (add-one k)) ∙ e) ∙ ap (λ n. take n ws) (sym (add-one k))
  where
    more : (xs : List ℕ) (n : ℕ) → get_elem? xs n ≡ some x → take n xs ++ x ∷ [] ≡ take (suc n) xs
    more [] n h = absurd (some-ne-none x (sym h))
    more (y ∷ ys) zero h = ap (λ z. z ∷ []) (sym (some-injective y x h))
    more (y ∷ ys) (suc n) h = ap (λ zs. y ∷ zs) (more ys n h)

take-all : (xs : List ℕ) (n : ℕ) → length xs ≡ n → take n xs ≡ xs
take-all [] zero e = refl
take-all [] (suc n) e = refl
take-all (x ∷ xs) zero e = absurd (omega arith)
take-all (x ∷ xs) (suc n) e = ap (λ ys. x ∷ ys) (take-all xs n (omega arith))

length-lengths : (hs : List (List Mark)) → length (map length hs) ≡ length hs
length-lengths [] = refl
length-lengths (h ∷ hs) = ap suc (length-lengths hs)

pub last_words : (key : Terms) (ws slots got : List ℕ) → Final {S = ℕ} (Keeps key) ws slots → got ≡ take key.parts (drop 1 ws) → AreWords key got
last_words key ws slots got f is =
    let k = f.1 in record {
      histories = k.run.histories;
      lengths = is ∙ (ap (λ xs. take key.parts (drop 1 xs)) (sym f.2 ∙ k.words_are) ∙ take-all (map length k.run.histories) key.parts (length-lengths k.run.histories ∙ k.wide));
      wide = k.wide;
      legal = k.legal;
      few = k.few;
    }
