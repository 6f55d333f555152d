use Rattle.std.proofs.Common.{◌==◌, not, rules}
use Rattle.std.proofs.lemmas.Fn.{filter_same}
use Rattle.album_partition.specs.Votes.{NotedVote}
use Rattle.album_partition.proofs.votes.let_go.Goals as goal

pub returns-in-Some : goal.returns-in-Some
returns-in-Some c =
    rw c.in-Some.is
    (filter_same _ (λ (vote : NotedVote). not (vote.stamp == c.in-Some.stamp)) _ (λ x b f k. search rules) _ _ c.retain.ensures.filtered)
