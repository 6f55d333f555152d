-- What a client does at one event: it asks, or a message comes to it.
use Rattle.std.specs.Prelude.{◌≡◌, ℕ, ◌+◌, Bool, true, false, not, List, [], ◌∷◌, Option, Some, None, Result, Ok, Err}
use Rattle.album_stamps.specs.Clocks.{ClockState, clock_after_reach, clock_after_see, clock_after_next, next_of}
use Rattle.album_stamps.specs.declared.refusals.Refusal.{Refusal}
use Rattle.album_stamps.specs.declared.refusals.Refusal.TheVariants.{AlbumFull, Full}
use Rattle.album_calls.specs.declared.messages.Message.{Message}
use Rattle.album_eval.specs.declared.facts.Principal.{Principal}
use Rattle.album_reader.specs.Answers.{Asker, ReadVersion}
use Rattle.album_reader.specs.Rounds.{first_round, gets_of, is_end}
use Rattle.album_reader.specs.Rounds.{Step as ReadStep, stepped as read_stepped}
use Rattle.album_reader.specs.Rounds.Step.{Same, Next, Done, Gone}
use Rattle.album_views.specs.ReadSets.{looker_of}
use Rattle.album_views.specs.Steps.{stepped, again}
use Rattle.album_views.specs.Views.{ViewState}
use Rattle.album_views.specs.declared.asks.Ask.{Ask}
use Rattle.album_views.specs.declared.viewing.ViewStep.{ViewStep}
use Rattle.album_views.specs.declared.viewing.ViewStep.TheVariants.{Again, Closed, Busy}
use Rattle.album_listing.specs.Basis.{Basis}
use Rattle.album_listing.specs.GroupsFound.{basis_on}
use Rattle.album_permits.specs.Effects.{Write, effect_of, is_full_for}
use Rattle.album_permits.specs.Findings.{ruling_of}
use Rattle.album_permits.specs.Notes.{notes_of}
use Rattle.album_permits.specs.Permits.{PermitState}
use Rattle.album_permits.specs.declared.findings.Finding.{Finding}
use Rattle.album_permits.specs.declared.findings.Finding.TheVariants as finding
use Rattle.album_permits.specs.declared.notes.Note.{Note}
use Rattle.album_permits.specs.declared.serving.Served.{Served}
use Rattle.album_writer.specs.Rounds.{WriteStep, prepare_stepped, commit_stepped}
use Rattle.album_writer.specs.Rounds.WriteStep.{Waits, Commits as Decides, Ends}
use Rattle.album_writer.specs.Writing.{WritingState, prepare_round, prepares_of}
use Rattle.album_writer.specs.declared.outcomes.Outcome.{Outcome}
use Rattle.album_writer.specs.declared.outcomes.Outcome.TheVariants as outcome
use Rattle.album_client.specs.Terms.{Terms}
use Rattle.album_client.specs.PendingAsks.{PendingAsk}
use Rattle.album_client.specs.Clients.{Client}
use Rattle.album_client.specs.declared.clients.Phase.{Phase}
use Rattle.album_client.specs.declared.clients.Phase.TheVariants.{Idle, Reads, Prepares, Commits}
use Rattle.album_client.specs.Grants.{served_for}
use Rattle.album_permits.specs.declared.answers.Answer.{Answer}
use Rattle.album_permits.specs.declared.answers.Answer.TheVariants as answer

-- a write that a client begins: the client, the tag of its Prepares, its stamp, its permit, and all that it writes
pub record Transaction : Type 0 where
  pub client : ℕ
  pub tag : ℕ
  pub stamp : ℕ
  pub permit : PermitState
  pub writes : List Write

-- a read that is over: its ask and principal, and the versions read, or none where an item was gone
pub record Ended : Type 0 where
  pub ask : Ask
  pub principal : Principal
  pub rows : Option (List ReadVersion)

-- A client's next state, and its outputs: the notes of a ruling, messages, and the answer to its ask. The last three
-- fields are what a world's past records of it: the read that is over, the write that begins, whether a read begins.
pub record TransitionState : Type 0 where
  pub client : Client
  pub noted : Option (List Note)
  pub sent : List Message
  pub answer : Option Answer
  pub over : Option Ended
  pub writes : Option Transaction
  pub reads : Bool

-- ---- the four kinds of transition

-- no output
abbrev pub still : Client → TransitionState
still client =
    record { client = client; noted = None; sent = []; answer = None; over = None; writes = None; reads = false }

-- these messages are sent
abbrev pub sends : Client → List Message → TransitionState
sends client messages = record (still client) { sent = messages }

-- the client asks the partitions under this tag
abbrev pub asker_at : Terms → Client → ℕ → Asker
asker_at terms client tag = record { client = client.number; tag = tag; parts = terms.parts }

-- a read of the items begins, in the round after that of the tag
abbrev pub read_begins : Terms → Client → ℕ → PendingAsk → List ℕ → TransitionState
read_begins terms client tag pending_ask items =
    record (still (record client { phase = Reads pending_ask (first_round (asker_at terms client (tag + 1)) items) })) {
      sent = gets_of (asker_at terms client (tag + 1)) [] items;
      reads = true;
    }

-- the ask is answered
abbrev pub ask_ends : Client → ℕ → Answer → TransitionState
ask_ends client tag answer = record (still (record client { phase = Idle tag })) { answer = Some answer }

-- ---- a write

-- the round of Prepares after that of the tag
abbrev pub round_for : Terms → Client → ℕ → PermitState → ℕ → WritingState
round_for terms client tag permit stamp =
    prepare_round terms.checked permit stamp client.number (tag + 1) terms.parts

-- it begins, and writes the effect of its permit
abbrev pub write_begins : Terms → Client → ℕ → PermitState → ℕ → TransitionState
write_begins terms client tag permit stamp =
    record (still (record client { phase = Prepares (round_for terms client tag permit stamp) })) {
      sent = prepares_of (round_for terms client tag permit stamp);
      writes = Some (record {
        client = client.number;
        tag = tag + 1;
        stamp = stamp;
        permit = permit;
        writes = effect_of permit stamp;
      });
    }

-- unless the album that gets a child is full
abbrev pub writes_unless : Terms → Client → ℕ → PermitState → ℕ → Bool → TransitionState
writes_unless terms client tag permit stamp true = ask_ends client tag (answer.Refused AlbumFull)
writes_unless terms client tag permit stamp false = write_begins terms client tag permit stamp

-- by the stamp that is drawn; a drawn stamp is never drawn again, however the ask ends
abbrev pub draws_by : Terms → Client → ℕ → PermitState → Result ℕ Refusal → TransitionState
draws_by terms client tag permit (Ok stamp) = writes_unless terms client tag permit stamp (is_full_for permit stamp)
draws_by terms client tag permit (Err refusal) = ask_ends client tag (answer.Refused refusal)

-- a stamp is drawn from the client's clock
abbrev pub draws : Terms → Client → ℕ → PermitState → TransitionState
draws terms client tag permit =
    draws_by terms (record client { clock = clock_after_next client.clock }) tag permit (next_of client.clock)

-- ---- a view

-- what is granted is served, or is written
abbrev pub grants : Terms → Client → ℕ → PermitState → Option Served → TransitionState
grants terms client tag permit (Some served) = ask_ends client tag (answer.Served served)
grants terms client tag permit None = draws terms client tag permit

-- by the ruling
abbrev pub rules_by : Terms → Client → ℕ → PermitState → Finding → TransitionState
rules_by terms client tag permit finding.Granted = grants terms client tag permit (served_for permit permit.view.ask)
rules_by terms client tag permit (finding.Denied reasons) = ask_ends client tag (answer.Denied reasons)
rules_by terms client tag permit (finding.Missing object) = ask_ends client tag (answer.Missing object)

-- the ask of the view is ruled on, by the written policy, and the ruling is noted
abbrev pub rules_on : Terms → Client → ℕ → PermitState → Basis → TransitionState
rules_on terms client tag permit basis =
    record (rules_by terms client tag permit (ruling_of basis permit.view.ask)) {
      noted = Some (notes_of basis permit.view.ask);
    }

-- a clock that has seen all stamps of a snapshot
abbrev pub clock_after_rows : ClockState → List ReadVersion → ClockState
clock_after_rows clock [] = clock
clock_after_rows clock (row ∷ rows) = clock_after_rows (clock_after_see clock row.stamp) rows

-- the client's clock reaches the first counter of the terms, and sees the stamps of the view, before the ask is ruled
-- on
abbrev pub rules : Terms → Client → ℕ → Principal → ViewState → TransitionState
rules terms client tag principal view =
    rules_on terms
    (record client { clock = clock_after_rows (clock_after_reach client.clock terms.first) view.rows }) tag
    (record { view = view; principal = principal; policy = terms.policy })
    (basis_on terms.policy principal view.rows)

-- the transition at the end of a read for a view: another read, a ruling, or no view, and then the clock
-- sees nothing
abbrev pub views_by : Terms → Client → ℕ → Principal → ViewStep → TransitionState
views_by terms client tag principal (Again viewing items) =
    read_begins terms client tag (record { viewing = viewing; principal = principal }) items
views_by terms client tag principal (Closed view) = rules terms client tag principal view
views_by terms client tag principal (Busy why) = ask_ends client tag (answer.Busy why)

-- ---- messages

-- a read is over
abbrev pub read_ends : Terms → Client → ℕ → PendingAsk → Option (List ReadVersion) → ViewStep → TransitionState
read_ends terms client tag pending_ask rows step =
    record (views_by terms client tag pending_ask.principal step) {
      over = Some (record { ask = pending_ask.viewing.ask; principal = pending_ask.principal; rows = rows });
    }

-- the transition of a read at a message
abbrev pub read_transition : Terms → Client → ℕ → PendingAsk → ReadStep → TransitionState
read_transition terms client tag pending_ask (Same round) = still (record client { phase = Reads pending_ask round })
read_transition terms client tag pending_ask (Next round messages) =
    sends (record client { phase = Reads pending_ask round }) messages
read_transition terms client tag pending_ask (Done rows) =
    read_ends terms client tag pending_ask (Some rows)
    (stepped (looker_of terms.policy pending_ask.principal) pending_ask.viewing rows)
read_transition terms client tag pending_ask (Gone items) =
    read_ends terms client tag pending_ask None (again pending_ask.viewing items)

-- the answer to an ask whose write is over
abbrev pub answer_of : Outcome → Answer
answer_of (outcome.Committed stamp) = answer.Committed stamp
answer_of (outcome.Aborted stamp) = answer.Aborted stamp
answer_of (outcome.Full stamp) = answer.Unsettled stamp Full

-- the transition of a round of Prepares at a message
abbrev pub prepare_transition : Client → ℕ → WriteStep → TransitionState
prepare_transition client tag (Waits writing) = still (record client { phase = Prepares writing })
prepare_transition client tag (Decides writing messages) = sends (record client { phase = Commits writing }) messages
prepare_transition client tag (Ends outcome) = ask_ends client tag (answer_of outcome)

-- the transition of a round of Commits at a message
abbrev pub commit_transition : Client → ℕ → WriteStep → TransitionState
commit_transition client tag (Waits writing) = still (record client { phase = Commits writing })
commit_transition client tag (Decides writing messages) = sends (record client { phase = Commits writing }) messages
commit_transition client tag (Ends outcome) = ask_ends client tag (answer_of outcome)

-- the transition of a client in this phase at a message; an idle one stays as it is
abbrev pub transition_of : Terms → Client → Message → Phase → TransitionState
transition_of terms client message (Idle tag) = still (record client { phase = Idle tag })
transition_of terms client message (Reads pending_ask round) =
    read_transition terms client round.asker.tag pending_ask (read_stepped round message)
transition_of terms client message (Prepares writing) =
    prepare_transition client writing.tag (prepare_stepped writing message)
transition_of terms client message (Commits writing) =
    commit_transition client writing.tag (commit_stepped writing message)

-- it reads, and the message ends no round of that
abbrev pub is_waiting : Phase → Message → Bool
is_waiting (Idle tag) message = false
is_waiting (Reads pending_ask round) message = not (is_end (read_stepped round message))
is_waiting (Prepares writing) message = false
is_waiting (Commits writing) message = false

-- the message changes nothing but the phase, which is this one afterwards
abbrev pub IsTakenBy : Phase → Message → Phase → Type 0
IsTakenBy old message new =
    (terms : Terms) (client : Client) → transition_of terms client message old ≡ still (record client { phase = new })
