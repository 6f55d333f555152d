use Rattle.std.proofs.Common.{ap, List, length, arith}
use Rattle.album_partition.specs.declared.marks.Mark.{Mark}
use Rattle.album_partition.specs.Marks.{mark_stamp}
use Rattle.album_partition.proofs.HistoryLemmas.{seen, after_prepared, after_committed, after_discarded, count_prepared, count_committed}
use Rattle.album_partition.proofs.history.History.change.Goals as goal

pub overflow_add-result : goal.overflow_add-result
overflow_add-result c = (let fits = (count_prepared c.args.self.now _ _ _ _ _ _ (seen c.self.view_is c.self.invariant) c.requires.room c.requires.follows c.in-Prepared.is).0 in omega arith)

pub overflow_sub-result : goal.overflow_sub-result
overflow_sub-result c = (count_committed _ _ _ _ _ (seen c.self.view_is c.self.invariant) c.requires.follows c.in-Committed.is).0

pub returns-in-Prepared : goal.returns-in-Prepared
returns-in-Prepared c = (
  ap mark_stamp c.in-Prepared.is,
  after_prepared _ _ _ _ _ _ c.requires.follows c.in-Prepared.is (ap (λ (ms : List Mark). length ms) c.marks.ensures.marks),
  (count_prepared _ _ _ _ _ _ _ (seen c.self.view_is c.self.invariant) c.requires.room c.requires.follows c.in-Prepared.is).1,
)

pub returns-in-Committed : goal.returns-in-Committed
returns-in-Committed c = (
  ap mark_stamp c.in-Committed.is,
  after_committed _ _ _ _ c.in-Committed.is c.index.ensures,
  (count_committed _ _ _ _ _ (seen c.self.view_is c.self.invariant) c.requires.follows c.in-Committed.is).1,
)

pub returns-in-Discarded : goal.returns-in-Discarded
returns-in-Discarded c = (
  ap mark_stamp c.in-Discarded.is,
  after_discarded c.args.self.now _ _ c.requires.follows c.in-Discarded.is,
  rw c.in-Discarded.is c.pending_without.ensures,
)
