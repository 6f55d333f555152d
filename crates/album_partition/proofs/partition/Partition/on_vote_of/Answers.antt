use Rattle.std.proofs.Common.{◌∙◌, List, sym, ap, subst}
use Rattle.album_partition.specs.Partition.{PartitionState, IsPartition}
use Rattle.album_partition.specs.Votes.{NotedVote, new_vote}
use Rattle.album_partition.proofs.PartitionLemmas.{noted_is_nothing, new_is_noted}
use Rattle.album_partition.proofs.partition.Partition.on_vote_of.Goals as goal

-- it was heard already
pub returns-in_default : goal.returns-in_default
returns-in_default c =
    let votes = c.deref.ensures.value ∙ ap (λ (p : PartitionState). p.votes) c.self.view_is in
    c.nothing.ensures
    ∙ noted_is_nothing c.args.self.now c.args.part c.args.stamp (subst IsPartition c.self.view_is c.self.invariant) c.requires
    (ap (λ (vs : List NotedVote). new_vote vs c.args.stamp c.args.part) (sym votes) ∙ sym c.new_vote.ensures ∙ c.in_default.is)

-- it is new
pub returns : goal.returns
returns c =
    let votes = c.deref.ensures.value ∙ ap (λ (p : PartitionState). p.votes) c.self.view_is in
    new_is_noted c.args.self.now c.args.part c.args.stamp c.in_ok-mark.mark c.in-Some.vote c.in_ok-mark.ensures
    (ap (λ (vs : List NotedVote). new_vote vs c.args.stamp c.args.part) (sym votes) ∙ sym c.new_vote.ensures ∙ c.in-Some.is)
