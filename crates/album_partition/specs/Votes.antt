-- The votes Prepared that a partition noted, on stamps that are pending there.
use Rattle.std.specs.Prelude.{◌≡◌, ℕ, Bool, true, false, ◌==◌, ◌&&◌, not, List, map, filter, Option, Some, None, if◌then◌else◌}
use Rattle.std.specs.List.{list_any, list_all}
use Rattle.album_stamps.specs.Distinct.{no_two}
use Rattle.album_terminate.specs.Deciding.{have_voted}
use Rattle.album_terminate.specs.declared.deciding.StampState.TheVariants as state
use Rattle.album_partition.specs.declared.marks.Mark.{Mark}
use Rattle.album_partition.specs.Marks.{state_of, is_pending, items_at}
use Rattle.album_items.specs.Places.{lies_at, others_of}

-- a partition has voted that the stamp is prepared there
pub record NotedVote : Type 0 where
  pub stamp : ℕ
  pub part : ℕ

-- it is the partition's vote on the stamp
abbrev pub is_vote : ℕ → ℕ → NotedVote → Bool
is_vote stamp part vote = vote.stamp == stamp && vote.part == part

-- the partition's vote on the stamp is noted
abbrev pub has_vote : List NotedVote → ℕ → ℕ → Bool
has_vote votes stamp part = list_any (is_vote stamp part) votes

-- the vote, unless it is noted
abbrev pub new_vote : List NotedVote → ℕ → ℕ → Option NotedVote
new_vote votes stamp part =
    if has_vote votes stamp part then None else Some (record { stamp = stamp; part = part })

-- the partitions whose vote on the stamp is noted
abbrev pub heard : List NotedVote → ℕ → List ℕ
heard votes stamp = map (λ vote. vote.part) (filter (λ vote. vote.stamp == stamp) votes)

-- the votes that are left once this stamp is decided, if one is: those on it are let go
abbrev pub votes_left : Option ℕ → List NotedVote → List NotedVote
votes_left None votes = votes
votes_left (Some stamp) votes = filter (λ vote. not (vote.stamp == stamp)) votes

-- ---- what is true of the votes of each partition

-- both are one partition's votes on one stamp
abbrev pub same_vote : NotedVote → NotedVote → Bool
same_vote a b = is_vote b.stamp b.part a

-- the stamp is prepared here, and one of its items is placed at the partition that votes, be it this one
abbrev pub is_due : ℕ → List Mark → NotedVote → Bool
is_due parts marks vote = lies_at vote.part parts (items_at marks vote.stamp)

-- its stamp is pending here
abbrev pub is_on_pending : List Mark → NotedVote → Bool
is_on_pending marks vote = is_pending (state_of marks vote.stamp)

-- No vote occurs twice, each is due and on a pending stamp, and none would have settled its stamp: one of the others
-- was not heard yet. So there is at most one of each partition on each pending stamp.
pub record AreVotes (number parts : ℕ) (marks : List Mark) (votes : List NotedVote) : Type 0 where
  pub once : no_two same_vote votes ≡ true
  pub due : list_all (is_due parts marks) votes ≡ true
  pub pending : list_all (is_on_pending marks) votes ≡ true
  pub open_still : (stamp : ℕ) → state_of marks stamp ≡ state.Pending
      → list_any (λ vote. vote.stamp == stamp) votes ≡ true
      → have_voted (heard votes stamp) (others_of number parts (items_at marks stamp)) ≡ false
