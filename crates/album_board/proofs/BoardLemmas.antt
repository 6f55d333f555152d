-- What was published is seen. `Board::publish` and `Listened::has_seen` need it. Main lemma: `published_seen`.
use Rattle.std.proofs.Common.{◌≡◌, ℕ, zero, suc, ◌<◌, List, [], ◌∷◌, ◌++◌, length, get_or, Some, slice_get, refl, ap, sym, ◌∙◌, subst, arith}
use mathlib.Core.List.{IsPrefix}
use Rattle.std.proofs.lemmas.List.Elements.{All-push}
use Rattle.album_passes.specs.Cuts.{Cut, Extends}
use Rattle.album_passes.specs.Pass.{PassState}
use Rattle.album_passes.proofs.CutLemmas.{extends_trans}
use Rattle.album_board.specs.Board.{HasSeen, Stands}
use Rattle.album_board.specs.Writer.{number_of}
use Rattle.album_board.proofs.PrefixLemmas.{prefix_get, prefix_back}

pub seen_more : (c d : Cut) → Extends c d → (published : List PassState) → HasSeen c published → HasSeen d published
seen_more c d x published h = λ k one l. extends_trans (get_or published k one).cut c d (h k one l) x

pub seen_push : (d : Cut) (xs ys : List PassState) (mine : PassState) → ys ≡ xs ++ mine ∷ [] → HasSeen d xs
    → Extends mine.cut d → HasSeen d ys
seen_push d xs ys mine is h x =
    subst (HasSeen d) (sym is) (All-push (λ (one : PassState). Extends one.cut d) xs mine h x)

get_last : (xs : List PassState) (x : PassState) → slice_get (xs ++ x ∷ []) (length xs) ≡ Some x
get_last [] x = refl
get_last (y ∷ xs) x = get_last xs x

pub stands_last : (d : Cut) (mine : PassState) (before after : List PassState) (n : ℕ) → mine.cut ≡ d
    → n ≡ number_of (length before) → after ≡ before ++ mine ∷ [] → Stands n d after
stands_last d mine before after n same at added = record {
  index = length before;
  pass = mine;
  there = ap (λ (ys : List PassState). slice_get ys (length before)) added ∙ get_last before mine;
  same = same;
  number_is = at;
}

has_at : (d : Cut) (xs : List PassState) (k : ℕ) (p : PassState) → HasSeen d xs → slice_get xs k ≡ Some p
    → k < length xs → Extends p.cut d
has_at d xs k p h at l = subst (λ (q : PassState). Extends q.cut d) (get_there xs k p at) (h k p l)
  where
    get_there : (ys : List PassState) (i : ℕ) (q : PassState) → slice_get ys i ≡ Some q → get_or ys i q ≡ q
    get_there [] i q e = refl
    get_there (y ∷ ys) zero q e = cc (e)
    get_there (y ∷ ys) (suc i) q e = get_there ys i q e

-- a number below another one is of fewer
number_less : (i j : ℕ) → number_of i < number_of j → i < j
number_less i j l = omega arith

-- Two beginnings of one list, and a pass in the first, under a number below that of what follows the second. A cut that
-- has seen all of the second extends the pass's cut.
pub published_seen : (n m : ℕ) (c d : Cut) (published listened both : List PassState) → Stands n c published
    → m ≡ number_of (length listened) → HasSeen d listened → IsPrefix published both → IsPrefix listened both → n < m
    → Extends c d
published_seen n m c d published listened both stands is h p q l =
    let k = stands.index in
    let below : n < number_of (length listened) = subst (λ (j : ℕ). n < j) is l in
    let less : k < length listened = number_less k (length listened)
    (subst (λ (i : ℕ). i < number_of (length listened)) stands.number_is below) in
    let at = prefix_get published both k stands.pass p stands.there in
    subst (λ (e : Cut). Extends e d) stands.same
    (has_at d listened k stands.pass h (prefix_back listened both k stands.pass q at less) less)
