use Rattle.std.specs.Ordering.{nat_cmp}
use Rattle.std.specs.BTreeSet as set
use Rattle.album_eval.specs.Groups.{listed_in}
use Rattle.album_lines.specs.JudgeLine.{question}
use Rattle.album_judge.proofs.Judging.{judged_on}
use Rattle.album_judge.proofs.engine.verdict.Goals as goal

pub returns-clause-judged : goal.returns-clause-judged
returns-clause-judged c =
    judged_on (question c.args.line) c.evaluate.result (listed_in c.in_ok-by_number.by_number) (set.contains nat_cmp c.in_ok-found.found) c.in_ok-by_number.ensures c.in_ok-found.ensures.exact c.evaluate.ensures.verdict
