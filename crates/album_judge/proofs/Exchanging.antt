-- What a reader gave and a writer gained, step by step. For the engine's turns; `exchanges_more` is a turn.
use Rattle.std.proofs.Common.{◌≡◌, ℕ, List, [], ◌++◌, Option, Some, None, IfSome, sym, ap, ◌∙◌, subst, append-nil}
use Rattle.std.specs.Io.KnownBytes.{Consumes, IsAtEnd, Keeps}
use Rattle.std.proofs.KnownBytes.{Appends-kept, Consumes-trans, Consumes-whole, Consumes-kept}
use Rattle.album_judge.specs.Writes.{Writes, Exchanges}
use Rattle.album_judge.proofs.Texts.{writes_weaker, writes_both}

pub exchanges_weaker : (S T : List ℕ → List ℕ → Type 0) → ((given text : List ℕ) → S given text → T given text)
    → (a b c d : Option (List ℕ)) → Exchanges S a b c d → Exchanges T a b c d
exchanges_weaker S T so a b c d h = (h.0, h.1, writes_weaker (S h.0) (T h.0) (so h.0) c d h.2)

-- a read that fails takes nothing
pub exchanges_kept : (S : List ℕ → List ℕ → Type 0) (a b e c d : Option (List ℕ))
    → Exchanges S a b c d → Keeps b e → Exchanges S a e c d
exchanges_kept S a b e c d h k = (h.0, Consumes-kept a b e h.0 h.1 k, h.2)

-- what the writer holds is handed on
pub exchanges_handed_on : (S : List ℕ → List ℕ → Type 0) (a b c d f : Option (List ℕ))
    → Exchanges S a b c d → Keeps d f → Exchanges S a b c f
exchanges_handed_on S a b c d f h k = (h.0, h.1, (h.2.0, h.2.1, Appends-kept c d f h.2.0 h.2.2 k))

-- a piece more is read, and something is written for it
pub exchanges_more : (S : List ℕ → List ℕ → Type 0) (Q : List ℕ → Type 0) (T : List ℕ → List ℕ → Type 0)
    → (piece : List ℕ)
    → ((given x y : List ℕ) → S given x → Q y → T (given ++ piece) (x ++ y))
    → (a b e c d f : Option (List ℕ)) → Exchanges S a b c d → Consumes b e piece → Writes Q d f → Exchanges T a e c f
exchanges_more S Q T piece both a b e c d f h k w =
    (h.0 ++ piece, Consumes-trans a b e h.0 piece h.1 k, writes_both (S h.0) Q (T (h.0 ++ piece)) (both h.0) c d f h.2 w)

-- nothing more is read, and something is written
pub exchanges_last : (S : List ℕ → List ℕ → Type 0) (Q : List ℕ → Type 0) (T : List ℕ → List ℕ → Type 0) (none : List ℕ)
    → none ≡ []
    → ((given x y : List ℕ) → S given x → Q y → T given (x ++ y))
    → (a b e c d f : Option (List ℕ)) → Exchanges S a b c d → Consumes b e none → Writes Q d f → Exchanges T a e c f
exchanges_last S Q T none is both a b e c d f h k w =
    let all : Consumes a e h.0 =
    subst (Consumes a e) (ap (λ t. h.0 ++ t) is ∙ append-nil h.0) (Consumes-trans a b e h.0 none h.1 k) in
    (h.0, all, writes_both (S h.0) Q (T h.0) (both h.0) c d f h.2 w)

with_input : (a b : Option (List ℕ)) (given : List ℕ) (P : List ℕ → Type 0)
    → Consumes a b given → ((later : List ℕ) → P (given ++ later)) → IfSome a P
with_input None b given P h k = tt
with_input (Some x) None given P h k = absurd h
with_input (Some x) (Some later) given P h k = subst P (sym h) (k later)

-- what holds of the bytes given, whatever comes later, holds of the input
pub by_input : (S T : List ℕ → List ℕ → Type 0)
    → ((given later text : List ℕ) → S given text → T (given ++ later) text)
    → (a b c d : Option (List ℕ)) → Exchanges S a b c d → IfSome a (λ input. Writes (T input) c d)
by_input S T so a b c d h =
    with_input a b h.0 (λ input. Writes (T input) c d) h.1
    (λ later. writes_weaker (S h.0) (T (h.0 ++ later)) (so h.0 later) c d h.2)

-- at the end the bytes given are the input
pub by_whole_input : (S : List ℕ → List ℕ → Type 0) (a b c d : Option (List ℕ))
    → IsAtEnd b → Exchanges S a b c d → IfSome a (λ input. Writes (S input) c d)
by_whole_input S a b c d end h = Consumes-whole a b h.0 (λ input. Writes (S input) c d) h.1 end h.2
