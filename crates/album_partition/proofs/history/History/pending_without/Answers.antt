use Rattle.std.proofs.Common.{◌∙◌, refl, sym}
use Rattle.album_partition.proofs.HistoryLemmas.{seen, count_discarded, count_refused, not_pending}
use Rattle.album_partition.proofs.history.History.pending_without.Goals as goal

pub overflow_sub-result : goal.overflow_sub-result
overflow_sub-result c = (count_discarded _ _ _ _ _ (seen c.self.view_is c.self.invariant) refl (sym c.in-Pending.ensures)).0

pub returns-in-Pending : goal.returns-in-Pending
returns-in-Pending c = (count_discarded _ _ _ _ _ (seen c.self.view_is c.self.invariant) refl (sym c.in-Pending.ensures)).1

pub returns-in-Unknown : goal.returns-in-Unknown
returns-in-Unknown c =
    count_refused _ _ _ _ _ (seen c.self.view_is c.self.invariant) c.requires refl
    (λ pending. not_pending _ c.in-Unknown.is (c.state.ensures ∙ pending))
