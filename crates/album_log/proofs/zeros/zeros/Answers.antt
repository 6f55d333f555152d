-- What `vec!` makes are zeros.
use Rattle.std.proofs.Common.{◌≡◌, ℕ, List, length, replicate, slice_index, ap, ◌∙◌, arith}
use Rattle.std.proofs.lemmas.List.{get_or-replicate, length-replicate}
use Rattle.album_log.proofs.zeros.zeros.Goals as goal

pub returns-clause-zeros : goal.returns-clause-zeros
returns-clause-zeros c k low =
    let all : c.in_ok-zeros.zeros.items ≡ replicate c.args.n 0 = c.in_ok-zeros.ensures.items_if_clones_equal (λ y h. h) in
    ap (λ (xs : List ℕ). slice_index xs k) all ∙ get_or-replicate c.args.n k 0 0 (omega (arith, ap length all, length-replicate {A = ℕ} c.args.n 0))
