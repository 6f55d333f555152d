use Rattle.std.proofs.Common.{map, ap, ◌∙◌}
use Rattle.std.specs.BTreeSet as set
use Rattle.std.proofs.lemmas.Result.{IfOk-weaker}
use Rattle.album_lines.specs.Output.{line_text}
use Rattle.album_explain.specs.Explanations.{explanation_json, bit_row}
use Rattle.album_explain.proofs.judging.explain_verdict.Goals as goal

pub returns : goal.returns
returns c =
    IfOk-weaker c.write_explanation.result _ _ (λ text is. (
      c.evaluate-verdict.result,
      c.evaluate-verdict.ensures.verdict,
      is ∙ ap (λ rows. line_text (explanation_json c.args.number c.evaluate-verdict.result (set.keys c.args.facts.now.groups.now) rows)) (ap (map bit_row) c.deref.ensures.value ∙ c.in_ok-rows.ensures),
    ))
    c.write_explanation.ensures
