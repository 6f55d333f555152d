-- What an event does to a world, and why it is refused.
use Rattle.std.specs.Prelude.{ℕ, not, List, [], Option, Some, None, Result, Ok, Err, option_to_list, if◌then◌else◌}
use Rattle.std.specs.List.{slice_get}
use Rattle.album_stamps.specs.Outcome.{◌>>=◌}
use Rattle.album_stamps.specs.Stamps.{is_client}
use Rattle.album_stamps.specs.declared.refusals.Refusal.{Refusal}
use Rattle.album_stamps.specs.declared.refusals.Refusal.TheVariants.{BadRequest, NoSuchMessage, ClientBusy, Stopped, NoSuchPart}
use Rattle.album_calls.specs.declared.messages.Message.{Message}
use Rattle.album_calls.specs.declared.nodes.Node.{Node}
use Rattle.album_calls.specs.declared.nodes.Node.TheVariants.{Part, Client as OfClient}
use Rattle.album_eval.specs.declared.facts.Principal.{Principal}
use Rattle.album_partition.specs.Answers.{after, answer}
use Rattle.album_partition.specs.Partition.{PartitionState}
use Rattle.album_partition.specs.Sweeps.{swept}
use Rattle.album_partition.specs.Trims.{trimmed}
use Rattle.album_reader.specs.Rounds.{stepped}
use Rattle.album_views.specs.Asks.{objects_of}
use Rattle.album_views.specs.Checks.{refusal_of}
use Rattle.album_views.specs.declared.asks.Ask.{Ask}
use Rattle.album_writer.specs.Rounds.{prepare_stepped, commit_stepped}
use Rattle.album_client.specs.declared.clients.Phase.{Phase}
use Rattle.album_client.specs.declared.clients.Phase.TheVariants.{Idle, Reads, Prepares, Commits}
use Rattle.album_client.specs.Terms.{Terms}
use Rattle.album_client.specs.Clients.{Client}
use Rattle.album_client.specs.Steps.{TransitionState, read_begins, read_transition, prepare_transition, commit_transition}
use Rattle.album_permits.specs.declared.events.Event.{Event}
use Rattle.album_permits.specs.declared.events.Event.TheVariants as event
use Rattle.album_world.specs.State.{Now, message_of, client_at, is_stopped}

-- what an event changes: nothing; a partition, which sends messages; a client; or which clients are stopped
pub data Change : Type 0 where
  Nothing : Change
  AtPart : ℕ → PartitionState → List Message → Change
  AtClient : ℕ → TransitionState → Change
  Stops : ℕ → Change

-- ---- an ask

-- an ask begins with a read of its objects, unless it is refused before anything is read
abbrev pub asks_unless : Terms → ℕ → Client → ℕ → Principal → Ask → Option Refusal → Result Change Refusal
asks_unless terms number client tag principal ask (Some refusal) = Err refusal
asks_unless terms number client tag principal ask None =
    Ok (AtClient number (read_begins terms client tag
    (record { viewing = record { ask = ask; reads = 0 }; principal = principal }) (objects_of ask)))

-- a client has one ask at a time
abbrev pub asks_by : Terms → ℕ → Client → Principal → Ask → Phase → Result Change Refusal
asks_by terms number client principal ask (Idle tag) =
    asks_unless terms number client tag principal ask (refusal_of ask principal)
asks_by terms number client principal ask (Reads pending_ask round) = Err ClientBusy
asks_by terms number client principal ask (Prepares writing) = Err ClientBusy
asks_by terms number client principal ask (Commits writing) = Err ClientBusy

-- A client that was stopped asks nothing more. (Each number of the type of clients' numbers is a client's, so the code
-- never meets the first test.)
abbrev pub asks : Terms → Now → ℕ → Principal → Ask → Result Change Refusal
asks terms now number principal ask =
    if not (is_client number) then Err BadRequest
    else if is_stopped now number then Err Stopped
    else asks_by terms number (client_at now.clients number) principal ask (client_at now.clients number).phase

-- ---- a message

-- a partition takes the message, and sends its reply, if there is one
abbrev pub part_takes : ℕ → Message → Option PartitionState → Change
part_takes part message None = Nothing
part_takes part message (Some partition) =
    AtPart part (after partition message) (option_to_list (answer partition message))

-- a message changes nothing at an idle client
abbrev pub client_takes_by : Terms → ℕ → Client → Message → Phase → Change
client_takes_by terms number client message (Idle tag) = Nothing
client_takes_by terms number client message (Reads pending_ask round) =
    AtClient number (read_transition terms client round.asker.tag pending_ask (stepped round message))
client_takes_by terms number client message (Prepares writing) =
    AtClient number (prepare_transition client writing.tag (prepare_stepped writing message))
client_takes_by terms number client message (Commits writing) =
    AtClient number (commit_transition client writing.tag (commit_stepped writing message))

-- a message changes nothing at a stopped client
abbrev pub client_takes : Terms → Now → ℕ → Client → Message → Change
client_takes terms now number client message =
    if is_stopped now number then Nothing else client_takes_by terms number client message client.phase

-- the receiver takes the message
abbrev pub arrives : Terms → Now → Message → Node → Change
arrives terms now message (Part part) = part_takes part message (slice_get now.partitions part)
arrives terms now message (OfClient number) = client_takes terms now number (client_at now.clients number) message

-- the message of this number is delivered, if it is there
abbrev pub delivers : Terms → Now → Option Message → Result Change Refusal
delivers terms now None = Err NoSuchMessage
delivers terms now (Some message) = Ok (arrives terms now message message.to)

-- ---- a sweep and a trim

-- the partition as it is, with the messages that it sends
abbrev pub sweeps : ℕ → ℕ → Option PartitionState → Result Change Refusal
sweeps part stamp None = Err NoSuchPart
sweeps part stamp (Some partition) = swept partition stamp >>= λ messages. Ok (AtPart part partition messages)

-- the partition with the mark of the trim, which sends nothing
abbrev pub trims : ℕ → ℕ → Option PartitionState → Result Change Refusal
trims part item None = Err NoSuchPart
trims part item (Some partition) = trimmed partition item >>= λ changed. Ok (AtPart part changed [])

-- ---- a stop

-- a client stops once
abbrev pub stops : Now → ℕ → Result Change Refusal
stops now number = if is_stopped now number then Err Stopped else Ok (Stops number)

-- ---- an event

-- what an event changes in a world with these terms, or the first reason for which it is refused
abbrev pub change_of : Terms → Now → Event → Result Change Refusal
change_of terms now (event.Ask number principal ask) = asks terms now number principal ask
change_of terms now (event.Deliver number) = delivers terms now (message_of now.messages number)
change_of terms now (event.Sweep part stamp) = sweeps part stamp (slice_get now.partitions part)
change_of terms now (event.Stop number) = stops now number
change_of terms now (event.Trim part item) = trims part item (slice_get now.partitions part)
