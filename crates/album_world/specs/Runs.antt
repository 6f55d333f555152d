-- How a world opens, what its events do, and their outputs.
use Rattle.std.specs.Prelude.{ℕ, zero, suc, ◌+◌, List, [], ◌∷◌, ◌++◌, ◌==◌, map, length, Option, Some, None, Result, Ok, Err, option_to_list, option_map, slice_set, if◌then◌else◌}
use Rattle.std.specs.Option.{unwrap_or}
use Rattle.album_stamps.specs.declared.refusals.Refusal.{Refusal}
use Rattle.album_items.specs.declared.openings.Opening.{Opening}
use Rattle.album_calls.specs.declared.messages.Message.{Message}
use Rattle.album_partition.specs.Partition.{first_partitions}
use Rattle.album_eval.specs.declared.facts.Principal.{Principal}
use Rattle.album_permits.specs.declared.notes.Note.{Note}
use Rattle.album_views.specs.declared.asks.Ask.{Ask}
use Rattle.album_client.specs.Terms.{Terms, terms_of}
use Rattle.album_client.specs.Steps.{Ended, TransitionState}
use Rattle.album_permits.specs.declared.events.Event.{Event}
use Rattle.album_permits.specs.declared.events.Event.TheVariants as event
use Rattle.album_permits.specs.declared.answers.Answer.{Answer}
use Rattle.album_permits.specs.declared.outs.Out.{Out}
use Rattle.album_permits.specs.declared.outs.Out.TheVariants as out
use Rattle.album_world.specs.State.{Now, with_client, with_number}
use Rattle.album_world.specs.Past.{Asked, Begun, Read, PastAnswer, Noted, Past, World, last_begun, last_read}
use Rattle.album_world.specs.Changes.{Change, change_of}
use Rattle.album_world.specs.Changes.Change.{Nothing, AtPart, AtClient, Stops}

-- ---- what it keeps

-- what a world keeps after a change
abbrev pub now_after : Now → Change → Now
now_after now Nothing = now
now_after now (AtPart part partition messages) =
    record now { partitions = slice_set now.partitions part partition; messages = now.messages ++ messages }
now_after now (AtClient number transition) =
    record now { messages = now.messages ++ transition.sent; clients = with_client transition.client now.clients }
now_after now (Stops number) = record now { stopped = with_number number now.stopped }

-- ---- what has happened to it

-- a read that is over, with how it began
abbrev pub read_over : Begun → Ended → Read
read_over begun ended =
    record { begun = begun; ask = ended.ask; principal = ended.principal; rows = ended.rows }

-- the reads that are over, after the client's transition
abbrev pub reads_after : Past → ℕ → TransitionState → List Read
reads_after past number transition =
    option_to_list (option_map (read_over (last_begun past.begun number)) transition.over) ++ past.reads

-- the first read of an ask is number 1, and one that follows another counts on
abbrev pub nth_after : Past → ℕ → Option Ended → ℕ
nth_after past number None = 1
nth_after past number (Some ended) = (last_begun past.begun number).nth + 1

-- a read that begins, with the partitions before this event
abbrev pub begun_after : Now → Past → ℕ → TransitionState → List Begun
begun_after now past number transition =
    if transition.reads
    then
    record { client = number; nth = nth_after past number transition.over; partitions = now.partitions } ∷ past.begun
    else past.begun

-- an answer, with the read that the client had made last
abbrev pub past_answer : List Read → ℕ → Answer → PastAnswer
past_answer reads number answer = record { client = number; last = last_read reads number; answer = answer }

-- notes, with the read that the client had made last
abbrev pub noted_of : List Read → ℕ → List Note → Noted
noted_of reads number notes = record { client = number; last = last_read reads number; notes = notes }

-- what a transition adds to the request that it is for
abbrev pub asked_on : Begun → TransitionState → Asked → Asked
asked_on begun transition asked =
    record asked {
      reads = option_to_list (option_map (read_over begun) transition.over) ++ asked.reads;
      writes = asked.writes ++ option_to_list transition.writes;
      notes = asked.notes ++ option_to_list transition.noted;
      answers = asked.answers ++ option_to_list transition.answer;
    }

-- the requests, after the client's transition, which is for its last request
abbrev pub asked_after : Begun → ℕ → TransitionState → List Asked → List Asked
asked_after begun number transition [] = []
asked_after begun number transition (asked ∷ more) =
    if asked.client == number
    then asked_on begun transition asked ∷ more
    else asked ∷ asked_after begun number transition more

-- the past after a change
abbrev pub past_after : Now → Past → Change → Past
past_after now past Nothing = past
past_after now past (AtPart part partition messages) = past
past_after now past (AtClient number transition) =
    record {
      asked = asked_after (last_begun past.begun number) number transition past.asked;
      transactions = past.transactions ++ option_to_list transition.writes;
      begun = begun_after now past number transition;
      reads = reads_after past number transition;
      answers = past.answers
          ++ option_to_list (option_map (past_answer (reads_after past number transition) number) transition.answer);
      noted = past.noted
          ++ option_to_list (option_map (noted_of (reads_after past number transition) number) transition.noted);
    }
past_after now past (Stops number) = past

-- ---- an event

-- a request for which nothing is done yet
abbrev pub new_request : World → ℕ → Principal → Ask → Asked
new_request world client principal ask =
    record {
      client = client;
      principal = principal;
      ask = ask;
      partitions = world.now.partitions;
      reads = [];
      writes = [];
      notes = [];
      answers = [];
    }

-- the request that an event makes, if it makes one
abbrev pub requests_of : World → Event → List Asked
requests_of world (event.Ask client principal ask) = new_request world client principal ask ∷ []
requests_of world (event.Deliver number) = []
requests_of world (event.Sweep part stamp) = []
requests_of world (event.Stop client) = []
requests_of world (event.Trim part item) = []

-- the world with this request in its past
abbrev pub requested : World → Event → World
requested world event =
    record world { past = record world.past { asked = requests_of world event ++ world.past.asked } }

-- the world after the change
abbrev pub changed : World → Change → World
changed world change = record { now = now_after world.now change; past = past_after world.now world.past change }

-- an event that is refused changes nothing, and makes no request
abbrev pub changed_by : World → Event → Result Change Refusal → World
changed_by world event (Ok change) = changed (requested world event) change
changed_by world event (Err refusal) = world

-- the world once the event has happened
abbrev pub happens : Terms → World → Event → World
happens terms world event = changed_by world event (change_of terms world.now event)

-- ---- outputs

-- the numbers of so many messages, where `before` were sent before
abbrev pub numbers_after : ℕ → ℕ → List Out
numbers_after before zero = []
numbers_after before (suc count) = numbers_after before count ++ out.Sent (before + count + 1) ∷ []

-- the numbers of these messages, where `before` were sent before
abbrev pub sent_after : ℕ → List Message → List Out
sent_after before messages = numbers_after before (length messages)

-- the outputs of a client's transition, where `before` messages were sent before: first the notes, then the messages,
-- then the answer
abbrev pub outs_of_transition : ℕ → ℕ → TransitionState → List Out
outs_of_transition before number transition =
    map (out.Noted number) (unwrap_or transition.noted [])
    ++ (sent_after before transition.sent ++ option_to_list (option_map (out.Answered number) transition.answer))

-- the outputs of a change
abbrev pub outs_of : Now → Change → List Out
outs_of now Nothing = []
outs_of now (AtPart part partition messages) = sent_after (length now.messages) messages
outs_of now (AtClient number transition) = outs_of_transition (length now.messages) number transition
outs_of now (Stops number) = []

-- the outputs of what is due: none, where the event is refused
abbrev pub outs_by : Now → Result Change Refusal → List Out
outs_by now (Ok change) = outs_of now change
outs_by now (Err refusal) = []

-- the outputs of an event
abbrev pub event_outputs : Terms → World → Event → List Out
event_outputs terms world event = outs_by world.now (change_of terms world.now event)

-- ---- a run

-- the world as it opens
abbrev pub start : Opening → World
start opening =
    record {
      now = record {
        partitions = first_partitions opening.checked opening.parts opening.limit opening.items;
        messages = [];
        clients = [];
        stopped = [];
      };
      past = record { asked = []; transactions = []; begun = []; reads = []; answers = []; noted = [] };
    }

-- a world once these events have happened, in their order
abbrev pub run : Terms → World → List Event → World
run terms world [] = world
run terms world (event ∷ events) = run terms (happens terms world event) events

-- the world that opened so, once these events have happened
abbrev pub run_of : Opening → List Event → World
run_of opening events = run (terms_of opening) (start opening) events
