-- How a partition votes on a stamp, and what it decides by the votes of others.
use Rattle.std.specs.Prelude.{ℕ, Bool, List, ◌==◌, if◌then◌else◌}
use Rattle.std.specs.List.{list_all, list_any}
use Rattle.album_calls.specs.declared.nodes.Vote.{Vote}
use Rattle.album_calls.specs.declared.nodes.Vote.TheVariants as vote
use Rattle.album_terminate.specs.declared.deciding.Decision.{Decision}
use Rattle.album_terminate.specs.declared.deciding.Decision.TheVariants.{Wait, Commit, Discard}
use Rattle.album_terminate.specs.declared.deciding.StampState.{StampState}
use Rattle.album_terminate.specs.declared.deciding.StampState.TheVariants as state

-- the vote of a partition on a stamp in this state
abbrev pub vote_of : StampState → Vote
vote_of state.Unknown = vote.Never
vote_of state.Pending = vote.Prepared
vote_of state.Committed = vote.Committed
vote_of state.Discarded = vote.Never

-- each of the others is among those that were heard
abbrev pub have_voted : List ℕ → List ℕ → Bool
have_voted heard others = list_all (λ other. list_any (λ part. part == other) heard) others

-- a vote Committed commits, a vote Never discards, and Prepared commits once each of the others has voted it
abbrev pub decision_of : Vote → List ℕ → List ℕ → Decision
decision_of vote.Prepared heard others = if have_voted heard others then Commit else Wait
decision_of vote.Committed heard others = Commit
decision_of vote.Never heard others = Discard
