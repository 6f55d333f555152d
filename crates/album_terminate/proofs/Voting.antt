-- Who has voted, in the words of lists.
use Rattle.std.proofs.Common.{◌≡◌, ℕ, List, refl}
use Rattle.std.specs.Prelude.{All, Contains, ◌==◌}
use Rattle.std.specs.Bool.{Decides}
use Rattle.std.specs.List.{list_any}
use Rattle.std.proofs.lemmas.Bool.Decides.{Decides-eqb, Decides-by_and, Decides-by_or, Decides-like}
use Rattle.std.proofs.lemmas.List.Elements.{at_from_Contains}
use Rattle.album_terminate.specs.Deciding.{have_voted}

-- a part is found among those that were heard exactly where it is one of them
has_voted-Decides : (heard : List ℕ) (other : ℕ) → Decides (list_any (λ part. part == other) heard) (Contains heard other)
has_voted-Decides heard other = Decides-like _ (λ h. (h.0, h.1, h.2 other)) (at_from_Contains heard other) (Decides-by_or (λ part. part == other) (λ part. part ≡ other) (list_any (λ part. part == other)) (λ part. Decides-eqb part other) refl (λ _ _. refl) heard)

-- so are all of the others
pub have_voted_decides : (heard others : List ℕ) → Decides (have_voted heard others) (All (Contains heard) others)
have_voted_decides heard others = Decides-by_and (λ other. list_any (λ part. part == other) heard) (Contains heard) (have_voted heard) (has_voted-Decides heard) refl (λ _ _. refl) others
