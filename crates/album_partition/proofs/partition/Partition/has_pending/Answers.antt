use Rattle.std.proofs.Common.{List, length, ap, ◌∙◌, arith}
use Rattle.std.proofs.lemmas.Bool.{ltb-false}
use Rattle.album_partition.specs.Marks.{pending_stamps}
use Rattle.album_partition.specs.Partition.{PartitionState}
use Rattle.album_partition.specs.declared.marks.Mark.{Mark}
use Rattle.album_partition.proofs.LoadLemmas.{pending_some}
use Rattle.album_partition.proofs.partition.Partition.has_pending.Goals as goal

pub returns-clause-none : goal.returns-clause-none
returns-clause-none c = λ none t pending.
    let same = ap (λ (p : PartitionState). p.marks) c.self.view_is in
    let count = c.pending_count.ensures ∙ ap (λ (ms : List Mark). length (pending_stamps ms)) same in
    let some = pending_some c.args.self.now.marks t pending in
    let few = ltb-false _ _ none in
    absurd (omega (arith, count, some, few))
