use Rattle.std.proofs.Common.{rules, ap, sym, ◌∙◌}
use Rattle.album_partition.specs.Marks.{is_legal}
use Rattle.album_keepers.proofs.KeeperLemmas.{next_some, made_follows}
use Rattle.album_keepers.proofs.keeper.append_next.Goals as goal

-- the mark beyond the owner's history is the one that was made
pub append-requires-clause-follows : goal.append-requires-clause-follows
append-requires-clause-follows c =
    let h = c.history-marks.ensures in
    let made = next_some c.args.owner.now.cut c.args.owner.now.part c.args.partition.now.marks c.args.before c.index-marks-before.result
    c.requires.next c.requires.before (search rules) (search rules) in
    made_follows c.args.owner.now.cut c.args.owner.now.part c.args.partition.now.marks c.index-marks-before.result made (ap is_legal (sym h.marks) ∙ h.legal)
