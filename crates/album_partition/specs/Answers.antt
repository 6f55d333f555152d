-- What a partition does with a message: the whole table of its answers.
use Rattle.std.specs.Prelude.{◌≡◌, ℕ, Bool, true, false, ◌==◌, ◌&&◌, ◌||◌, List, ◌∷◌, ◌++◌, is_some, Option, Some, None, Result, Ok, Err, if◌then◌else◌, option_map, option_to_list}
use Rattle.std.specs.Option.{option_map_or}
use Rattle.album_items.specs.Openings.{Row}
use Rattle.album_calls.specs.Nodes.{is_part}
use Rattle.album_calls.specs.Same.{same_rows, same_numbers}
use Rattle.album_calls.specs.declared.messages.Body.{Body}
use Rattle.album_calls.specs.declared.messages.Body.TheVariants as body
use Rattle.album_calls.specs.declared.messages.Message.{Message}
use Rattle.album_calls.specs.declared.nodes.Node.{Node}
use Rattle.album_calls.specs.declared.nodes.Node.TheVariants.{Part, Client}
use Rattle.album_calls.specs.declared.nodes.Vote.{Vote}
use Rattle.album_calls.specs.declared.nodes.Vote.TheVariants as vote
use Rattle.album_calls.specs.declared.requests.Request.{Request}
use Rattle.album_calls.specs.declared.requests.Request.TheVariants.{Prepare, PrepareOn, Commit, Get, Check}
use Rattle.album_calls.specs.declared.replies.Reply.{Reply}
use Rattle.album_calls.specs.declared.replies.Reply.TheVariants as reply
use Rattle.album_terminate.specs.Deciding.{decision_of}
use Rattle.album_terminate.specs.declared.deciding.Decision.{Decision}
use Rattle.album_terminate.specs.declared.deciding.Decision.TheVariants as decision
use Rattle.album_terminate.specs.declared.deciding.StampState.{StampState}
use Rattle.album_terminate.specs.declared.deciding.StampState.TheVariants as state
use Rattle.album_partition.specs.declared.marks.Mark.{Mark}
use Rattle.album_partition.specs.declared.marks.Mark.TheVariants as mark
use Rattle.album_partition.specs.Bases.{are_bases}
use Rattle.album_partition.specs.Marks.{decided, state_of, is_pending, is_full, writes_at, items_at}
use Rattle.album_partition.specs.Partition.{PartitionState, value_at, read_at}
use Rattle.album_items.specs.Places.{is_placed, lies_at, others_of}
use Rattle.album_partition.specs.Proper.{is_proper, is_proper_on}
use Rattle.album_partition.specs.Votes.{NotedVote, new_vote, heard, votes_left}

-- what a message does: the mark that it makes, the vote that is noted, and the reply
pub record Action : Type 0 where
  pub mark : Option Mark
  pub vote : Option NotedVote
  pub reply : Option Reply

abbrev pub nothing : Action
nothing = record { mark = None; vote = None; reply = None }

abbrev pub says : Reply → Action
says reply = record { mark = None; vote = None; reply = Some reply }

abbrev pub marks : Mark → Action
marks mark = record { mark = Some mark; vote = None; reply = None }

abbrev pub marks_and_says : Mark → Reply → Action
marks_and_says mark reply = record { mark = Some mark; vote = None; reply = Some reply }

-- ---- a Prepare

-- these are the writes and the items that are prepared at the stamp
abbrev pub is_same : List Mark → ℕ → List Row → List ℕ → Bool
is_same marks stamp writes items =
    same_rows writes (writes_at marks stamp) && same_numbers items (items_at marks stamp)

-- what a Prepare does, by whether the partition is full, whether it prepared the same already, and the stamp's state
abbrev pub prepare_by : Bool → Bool → StampState → ℕ → List Row → List ℕ → Action
prepare_by full same state.Unknown stamp writes items =
    if full then says (reply.Full stamp)
    else marks_and_says (mark.Prepared stamp writes items) (reply.Prepared stamp)
prepare_by full same state.Pending stamp writes items =
    if same then says (reply.Prepared stamp) else says reply.Clash
prepare_by full same state.Committed stamp writes items =
    if same then says (reply.Prepared stamp) else says reply.Clash
prepare_by full same state.Discarded stamp writes items = says (reply.Discarded stamp)

abbrev pub on_prepare : PartitionState → ℕ → List Row → List ℕ → Action
on_prepare partition stamp writes items =
    if is_proper partition.number partition.parts stamp writes items
    then prepare_by
    (is_full partition.limit partition.marks)
    (is_same partition.marks stamp writes items)
    (state_of partition.marks stamp) stamp writes items
    else says reply.Clash

-- ---- a checked Prepare

-- What it does, by whether the partition is full, whether its bases are the latest versions, and the stamp's state.
-- Where they aren't, the stamp is promised against, as by a Check. It is sent once: a second one clashes.
abbrev pub prepare_on_by : Bool → Bool → StampState → ℕ → List Row → List ℕ → Action
prepare_on_by full based state.Unknown stamp writes items =
    if full then says (reply.Full stamp)
    else if based then marks_and_says (mark.Prepared stamp writes items) (reply.Prepared stamp)
    else marks_and_says (mark.Discarded stamp) (reply.Discarded stamp)
prepare_on_by full based state.Pending stamp writes items = says reply.Clash
prepare_on_by full based state.Committed stamp writes items = says reply.Clash
prepare_on_by full based state.Discarded stamp writes items = says (reply.Discarded stamp)

abbrev pub on_prepare_on : PartitionState → ℕ → List Row → List ℕ → List ℕ → Action
on_prepare_on partition stamp writes items bases =
    if is_proper_on partition.number partition.parts stamp writes items bases
    then prepare_on_by
    (is_full partition.limit partition.marks)
    (are_bases partition.marks stamp writes bases)
    (state_of partition.marks stamp) stamp writes items
    else says reply.Clash

-- ---- a Commit

abbrev pub commit_by : StampState → ℕ → Action
commit_by state.Unknown stamp = says (reply.NotPrepared stamp)
commit_by state.Pending stamp = marks_and_says (mark.Committed stamp) (reply.Committed stamp)
commit_by state.Committed stamp = says (reply.Committed stamp)
commit_by state.Discarded stamp = says (reply.Discarded stamp)

abbrev pub on_commit : PartitionState → ℕ → Action
on_commit partition stamp =
    if stamp == 0 then says reply.Clash else commit_by (state_of partition.marks stamp) stamp

-- ---- a Check

abbrev pub check_by : Bool → StampState → ℕ → Action
check_by full state.Unknown stamp =
    if full then says (reply.Full stamp)
    else marks_and_says (mark.Discarded stamp) (reply.Status stamp vote.Never)
check_by full state.Pending stamp = says (reply.Status stamp vote.Prepared)
check_by full state.Committed stamp = says (reply.Status stamp vote.Committed)
check_by full state.Discarded stamp = says (reply.Status stamp vote.Never)

abbrev pub on_check : PartitionState → ℕ → Action
on_check partition stamp =
    if stamp == 0 then says reply.Clash
    else check_by (is_full partition.limit partition.marks) (state_of partition.marks stamp) stamp

-- ---- a Get

-- the item, as it is read at the stamp
abbrev pub says_version : PartitionState → ℕ → ℕ → Action
says_version partition item stamp = says (reply.Version item stamp (value_at partition item stamp))

-- by the stamp at which it is read: where there is none, it is gone
abbrev pub get_by : PartitionState → ℕ → Option ℕ → Action
get_by partition item None = says (reply.Gone item)
get_by partition item (Some stamp) = says_version partition item stamp

abbrev pub on_get : PartitionState → ℕ → List ℕ → Action
on_get partition item stamps =
    if is_placed partition.number partition.parts item
    then get_by partition item (read_at partition.marks item stamps)
    else says reply.Clash

-- ---- a vote on a stamp that is pending here

-- the mark that decides the stamp: none where the decision is to wait
abbrev pub mark_by : Decision → ℕ → Option Mark
mark_by decision.Wait stamp = None
mark_by decision.Commit stamp = Some (mark.Committed stamp)
mark_by decision.Discard stamp = Some (mark.Discarded stamp)

-- the mark that the partition's vote Prepared makes: where it was the last that was waited for, the stamp is committed
abbrev pub mark_with : PartitionState → ℕ → ℕ → Option Mark
mark_with partition part stamp =
    mark_by
    (decision_of vote.Prepared
    (part ∷ heard partition.votes stamp)
    (others_of partition.number partition.parts (items_at partition.marks stamp)))
    stamp

-- a vote Prepared of one of the partitions of the items
abbrev pub on_vote_of : PartitionState → ℕ → ℕ → Action
on_vote_of partition part stamp =
    record { mark = mark_with partition part stamp; vote = new_vote partition.votes stamp part; reply = None }

abbrev pub on_prepared : PartitionState → Node → ℕ → Action
on_prepared partition (Part part) stamp =
    if lies_at part partition.parts (items_at partition.marks stamp)
    then on_vote_of partition part stamp
    else nothing
on_prepared partition (Client client) stamp = nothing

abbrev pub on_vote : PartitionState → Node → ℕ → Vote → Action
on_vote partition from stamp vote.Prepared = on_prepared partition from stamp
on_vote partition from stamp vote.Committed = marks (mark.Committed stamp)
on_vote partition from stamp vote.Never = marks (mark.Discarded stamp)

-- a vote counts where the stamp is pending
abbrev pub on_status : PartitionState → Node → ℕ → Vote → Action
on_status partition from stamp vote =
    if is_pending (state_of partition.marks stamp) then on_vote partition from stamp vote else nothing

-- ---- a message

abbrev pub on_request : PartitionState → Request → Action
on_request partition (Prepare stamp writes items) =
    if partition.checked then says reply.Clash else on_prepare partition stamp writes items
on_request partition (PrepareOn stamp writes items bases) =
    if partition.checked then on_prepare_on partition stamp writes items bases else says reply.Clash
on_request partition (Commit stamp) = on_commit partition stamp
on_request partition (Get item stamps) = on_get partition item stamps
on_request partition (Check stamp) = on_check partition stamp

abbrev pub on_reply : PartitionState → Node → Reply → Action
on_reply partition from (reply.Status stamp vote) = on_status partition from stamp vote
on_reply partition from (reply.Prepared stamp) = nothing
on_reply partition from (reply.Committed stamp) = nothing
on_reply partition from (reply.Discarded stamp) = nothing
on_reply partition from (reply.Version item stamp value) = nothing
on_reply partition from (reply.NotPrepared stamp) = nothing
on_reply partition from reply.Clash = nothing
on_reply partition from (reply.Full stamp) = nothing
on_reply partition from (reply.Gone item) = nothing

abbrev pub on_body : PartitionState → Node → Body → Action
on_body partition from (body.Request request) = on_request partition request
on_body partition from (body.Reply reply) = on_reply partition from reply

-- what a message does here: nothing where it is another's
abbrev pub action_of : PartitionState → Message → Action
action_of partition message =
    if is_part message.to partition.number then on_body partition message.from message.body else nothing

-- the partition once that is done: the votes on a stamp go as it is decided
abbrev pub with_action : PartitionState → Action → PartitionState
with_action partition action =
    record partition {
      marks = partition.marks ++ option_to_list action.mark;
      votes = votes_left (decided action.mark) (partition.votes ++ option_to_list action.vote);
    }

abbrev pub after : PartitionState → Message → PartitionState
after partition message = with_action partition (action_of partition message)

-- a reply goes to the sender, with the request's tag
abbrev pub reply_to : PartitionState → Message → Reply → Message
reply_to partition message reply =
    record { from = Part partition.number; to = message.from; tag = message.tag; body = body.Reply reply }

abbrev pub answer : PartitionState → Message → Option Message
answer partition message = option_map (reply_to partition message) (action_of partition message).reply

-- ---- what memory is wanted for

-- it is a version, whose value is copied
abbrev pub is_version : Reply → Bool
is_version (reply.Version item stamp value) = true
is_version (reply.Prepared stamp) = false
is_version (reply.Committed stamp) = false
is_version (reply.Discarded stamp) = false
is_version (reply.Status stamp vote) = false
is_version (reply.NotPrepared stamp) = false
is_version reply.Clash = false
is_version (reply.Full stamp) = false
is_version (reply.Gone item) = false

-- something is kept or copied
abbrev pub wants_memory : Action → Bool
wants_memory action = is_some action.mark || is_some action.vote || option_map_or is_version action.reply false

-- the action is this one, unless memory ran out: then something is kept or copied
abbrev pub Does : {E : Type 0} → Result Action E → Action → Type 0
Does (Ok action) is = action ≡ is
Does (Err e) is = wants_memory is ≡ true
