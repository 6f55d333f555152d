use Rattle.std.proofs.Common.{rules, [], ◌∷◌, ◌++◌, ap, ◌∙◌}
use Rattle.album_passes.proofs.DeskLemmas.{take-word}
use Rattle.album_passes.proofs.desk.Desk.close.Goals as goal

-- one word more is read
pub loop-part-preserved : goal.loop-part-preserved
loop-part-preserved c =
    let i = c.loop-part.invariant in record {
      count = search rules;
      room = c.push_reserved.ensures.capacity ∙ i.room;
      read = c.push_reserved.ensures.items ∙ ap (λ xs. xs ++ c.word.result ∷ []) i.read ∙ take-word _ c.loop-part.part c.word.result c.word.ensures;
    }
