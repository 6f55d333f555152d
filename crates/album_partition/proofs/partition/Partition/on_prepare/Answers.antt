use Rattle.std.proofs.Common.{◌∙◌, sym, subst}
use Rattle.album_partition.specs.Answers.{Does, is_same}
use Rattle.album_partition.proofs.AnswerLemmas.{unknown_prepared}
use Rattle.album_partition.proofs.partition.Partition.on_prepare.Goals as goal

-- whether the same was prepared before does not matter
pub returns-in-Unknown : goal.returns-in-Unknown
returns-in-Unknown c =
    subst (Does c.prepare.result)
    (unknown_prepared c.args.self.now c.args.stamp c.args.writes.now c.args.items.now
    (sym c.is_proper.ensures ∙ c.if-not-is_proper.false) (sym c.state.ensures ∙ c.in-Unknown.is))
    (c.prepare.ensures (is_same c.args.self.now.marks c.args.stamp c.args.writes.now c.args.items.now))
