use Rattle.std.proofs.Common.{rules, ◌≡◌, List, ap, sym, ◌∙◌, subst}
use Rattle.album_partition.specs.Marks.{floor, latest}
use Rattle.album_partition.specs.Partition.{PartitionState}
use Rattle.album_partition.specs.declared.marks.Mark.{Mark}
use Rattle.album_passes.specs.Cuts.{prefix_at}
use Rattle.album_keepers.specs.Controls.{IsUntrimmed}
use Rattle.album_keepers.proofs.SweepLemmas.{trim_tells, trim_refused, trim_next, keeper_trimmed}
use Rattle.album_keepers.proofs.keeper.PartitionKeeper.trim.Goals as goal

pub append_next-requires-clause-next : goal.append_next-requires-clause-next
append_next-requires-clause-next g c =
    trim_next g.J.BoardNames.table g.J.DeskNames.terms.limit _ c.args.item c.trim.new.self c.self.invariant.1 (search rules)

pub invariant_of-self-in-Ok : goal.invariant_of-self-in-Ok
invariant_of-self-in-Ok g c = (
  search rules,
  keeper_trimmed g.J.BoardNames.table g.J.DeskNames.terms.limit _ c.args.item c.trim.new.self c.append_next.new.owner c.self.invariant.1 (search rules)
      c.append_next.ensures.table c.append_next.ensures.part c.append_next.ensures.grown c.append_next.ensures.marks,
)

pub returns-in-Ok-clause-answered : goal.returns-in-Ok-clause-answered
returns-in-Ok-clause-answered g c =
    let t = trim_tells c.self.inside.partition c.trim.new.self c.args.item (search rules) in
    let number : c.self.inside.owner.part ≡ c.trim.new.self.number = c.self.invariant.1.own ∙ sym (ap (λ (y : PartitionState). y.number) t.is) in
    let marks : c.trim.new.self.marks ≡ prefix_at c.append_next.new.owner.cut c.trim.new.self.number = c.append_next.ensures.marks ∙ ap (prefix_at c.append_next.new.owner.cut) number in
    subst (λ (ms : List Mark). floor ms c.args.item ≡ latest ms c.args.item) marks t.raised

pub returns-in-Err-clause-answered : goal.returns-in-Err-clause-answered
returns-in-Err-clause-answered g c = λ other.
    let same : c.trim.new.self ≡ c.self.inside.partition = search rules in
    let refused = trim_refused g.J.DeskNames.terms.limit c.self.inside.owner.cut c.self.inside.partition c.args.item c.in-Err.refusal c.self.invariant.1.shown (search rules) in
    subst (λ (q : PartitionState). IsUntrimmed g.J.DeskNames.terms.limit c.self.inside.owner.cut q.number c.args.item c.in-Err.refusal) (sym same) refused
