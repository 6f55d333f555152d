-- What a loop of writes appends. For `write_text`; `more` is its step, and `cut_short` its exit.
use Rattle.std.proofs.Common.{◌≡◌, ◌≢◌, ℕ, ◌+◌, ◌-◌, ◌≤◌, ◌<◌, List, [], ◌++◌, length, take, drop, Option, sym, subst, ap, arith, take-append-drop, length-drop}
use Rattle.std.proofs.Math.Seq.{take-add}
use Rattle.std.proofs.lemmas.Grind.{common_steps}
use Rattle.std.specs.Io.KnownBytes.{Appends, Keeps}
use Rattle.std.proofs.KnownBytes.{Appends-trans, Appends-kept}
use Rattle.album_judge.specs.Writes.{Writes, IsCutShort}

pub tail_slice : (at : ℕ) (text : List ℕ) → take (length text - at) (drop at text) ≡ drop at text
tail_slice at text = grind (arith, common_steps)

-- n bytes more of the text
pub more : (a b c : Option (List ℕ)) (text : List ℕ) (at n : ℕ)
    → Appends a b (take at text)
    → Appends b c (take n (take (length text - at) (drop at text)))
    → Appends a c (take (at + n) text)
more a b c text at n first next =
    let rest : Appends b c (take n (drop at text)) =
    subst (λ rest. Appends b c (take n rest)) (tail_slice at text) next in
    let two : Appends a c (take at text ++ take n (drop at text)) = Appends-trans a b c _ _ first rest in
    subst (Appends a c) (sym (take-add at n text)) two

-- not all of the text is written
pub cut_short : (a b : Option (List ℕ)) (text : List ℕ) (at : ℕ)
    → at < length text
    → Appends a b (take at text)
    → Writes (IsCutShort (λ whole. whole ≡ text)) a b
cut_short a b text at inside h =
    let rest : drop at text ≢ [] = λ none. absurd (omega (arith, ap length none, length-drop at text, inside)) in
    (take at text, (drop at text, rest, take-append-drop at text), h)

pub cut_kept : (a b c : Option (List ℕ)) (text : List ℕ) (at : ℕ)
    → at < length text
    → Appends a b (take at text)
    → Keeps b c
    → Writes (IsCutShort (λ whole. whole ≡ text)) a c
cut_kept a b c text at inside h k = cut_short a c text at inside (Appends-kept a b c (take at text) h k)

pub within : (text : List ℕ) (at n : ℕ)
    → at ≤ length text
    → n ≤ length (take (length text - at) (drop at text))
    → at + n ≤ length text
within text at n h k = let m = rw (tail_slice at text, length-drop) at k in omega arith
