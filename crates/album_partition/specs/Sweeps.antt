-- What a partition sends for a stamp that is pending there.
use Rattle.std.specs.Prelude.{ℕ, List, [], ◌∷◌, map, Result, Ok, Err, if◌then◌else◌}
use Rattle.album_stamps.specs.declared.refusals.Refusal.{Refusal}
use Rattle.album_stamps.specs.declared.refusals.Refusal.TheVariants.{NotPrepared}
use Rattle.album_calls.specs.declared.messages.Body.TheVariants.{Reply}
use Rattle.album_calls.specs.declared.messages.Message.{Message}
use Rattle.album_calls.specs.declared.nodes.Node.TheVariants.{Part}
use Rattle.album_calls.specs.declared.nodes.Vote.TheVariants.{Prepared}
use Rattle.album_calls.specs.declared.replies.Reply.TheVariants.{Status}
use Rattle.album_terminate.specs.Asking.{check_to}
use Rattle.album_partition.specs.Marks.{state_of, is_pending, items_at}
use Rattle.album_partition.specs.Partition.{PartitionState}
use Rattle.album_items.specs.Places.{others_of}

-- the partition votes to itself: the stamp is prepared here
abbrev pub own_vote : ℕ → ℕ → Message
own_vote number stamp =
    record { from = Part number; to = Part number; tag = 0; body = Reply (Status stamp Prepared) }

-- a Check to each of the others, or where there is none its own vote
abbrev pub sent_by : ℕ → ℕ → List ℕ → List Message
sent_by number stamp [] = own_vote number stamp ∷ []
sent_by number stamp (other ∷ others) = map (check_to number stamp) (other ∷ others)

abbrev pub swept : PartitionState → ℕ → Result (List Message) Refusal
swept partition stamp =
    if is_pending (state_of partition.marks stamp)
    then Ok (sent_by partition.number stamp
    (others_of partition.number partition.parts (items_at partition.marks stamp)))
    else Err NotPrepared
