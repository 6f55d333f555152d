use Rattle.album_lines.specs.JudgeLine.{question}
use Rattle.album_explain.proofs.Questions.{explained_on}
use Rattle.album_explain.proofs.judging.explain_question.Goals as goal

pub returns-clause-explained : goal.returns-clause-explained
returns-clause-explained c =
    let done = c.in_ok-text.ensures in
    explained_on c.args.number (question c.args.line) done.0 c.in_ok-found.found _ c.in_ok-found.ensures.exact done.1 done.2
