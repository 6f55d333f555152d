use Rattle.std.proofs.Common.{◌≡◌, ◌∙◌, true, List, Some, sym, ap, subst}
use Rattle.album_partition.specs.declared.marks.Mark.{Mark}
use Rattle.album_partition.specs.Marks.{is_legal}
use Rattle.album_partition.specs.Partition.{read_at}
use Rattle.album_partition.proofs.StoredLemmas.{read_none, read_some}
use Rattle.album_partition.proofs.stored.Stored.read_at.Goals as goal

-- no stamps are given
pub returns-then-is_empty : goal.returns-then-is_empty
returns-then-is_empty c =
    ap Some c.latest.ensures
    ∙ read_none c.args.self.now c.args.item c.args.stamps.now
    (subst (λ (ms : List Mark). is_legal ms ≡ true) c.self.view_is c.self.invariant.legal) (sym c.is_empty.ensures ∙ c.if-is_empty.true)

-- some are
pub returns-else-is_empty : goal.returns-else-is_empty
returns-else-is_empty c =
    c.best.ensures.best
    ∙ read_some _ c.self.inside.versions c.args.item c.args.stamps.now c.self.invariant (sym c.is_empty.ensures ∙ c.if-is_empty.false)
    ∙ ap (λ (ms : List Mark). read_at ms c.args.item c.args.stamps.now) c.self.view_is
