use Rattle.std.proofs.Common.{◌≡◌, ℕ, ◌∷◌, replicate, ap, sym, ◌∙◌, arith}
use Rattle.album_items.specs.declared.openings.Opening.{Opening}
use Rattle.album_passes.specs.Desk.{terms_of}
use Rattle.album_passes.proofs.DeskLemmas.{begins, opening_words, held_empty, few_parts}
use Rattle.album_passes.proofs.desk.Desk.open.Goals as goal

-- the words are as many as the partitions, and one
pub of_words-requires : goal.of_words-requires
of_words-requires c =
    let e : c.of.result.value.parts ≡ c.args.opening.now.parts = ap (λ (o : Opening). o.parts) c.of.ensures in
    begins (terms_of c.of.result.value c.args.sessions) _ (opening_words c.args.opening.now.parts (few_parts c.args.opening.now c.requires.opening) ∙ ap (λ (k : ℕ). 0 ∷ replicate k 0) (sym e))

-- the first seat knows the empty cut
pub first-requires-clause-held : goal.first-requires-clause-held
first-requires-clause-held c =
    let e = c.in_ok-table.ensures {u = tt} in
    let same : c.of.result.value.parts ≡ c.args.opening.now.parts = ap (λ (o : Opening). o.parts) c.of.ensures in
    let few = few_parts c.args.opening.now c.requires.opening in
    held_empty (terms_of c.of.result.value c.args.sessions) _ 0 (ap (λ m. m.0) e.4) (omega arith)
