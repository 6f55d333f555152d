use Rattle.std.proofs.Common.{map}
use Rattle.std.proofs.lemmas.Result.{IfOk-weaker}
use Rattle.std.specs.Ordering.{nat_cmp}
use Rattle.std.specs.BTreeSet as set
use Rattle.album_eval.specs.Groups.{listed_in}
use Rattle.album_lines.specs.JudgeLine.{listing}
use Rattle.album_judge.specs.Judge.{listed_by}
use Rattle.album_explain.proofs.Questions.{in_same}
use Rattle.album_explain.proofs.judging.groups_of.Goals as goal

pub returns-clause-exact : goal.returns-clause-exact
returns-clause-exact c =
    IfOk-weaker c.members.result _ _ (λ found tied.
    in_same (listed_in c.in_ok-by_number.by_number) (listed_by (map listing c.args.groups.items)) c.args.who.now (set.contains nat_cmp found) c.in_ok-by_number.ensures tied)
    c.members.ensures.exact
