-- What a client does at an event is what the model has of it. What it sends is as much as there is room for
-- (`few_prepared`, `none_committed`). By an ask (`asked_done`) and by a message (`taken_done`) it has had its turn, and
-- it is still the client of its number (`number_turn`).
use Rattle.std.proofs.Common.{◌≡◌, ℕ, ◌≤◌, Bool, true, false, List, [], ◌∷◌, length, map, Option, Some, None, Result, Ok, Err, refl, sym, ap, ◌∙◌, subst, arith, option_map, option_to_list, ◌++◌, IsOkAnd}
use Rattle.album_stamps.specs.Clocks.{clock_after_reach, ClockState, clock_after_next, next_of}
use Rattle.album_stamps.specs.declared.refusals.Refusal.{Refusal}
use Rattle.album_calls.specs.declared.messages.Message.{Message}
use Rattle.album_eval.specs.declared.facts.Principal.{Principal}
use Rattle.album_reader.specs.Rounds.{RoundState, outcome, taken, stepped}
use Rattle.album_reader.specs.Rounds.{Step as ReadStep}
use Rattle.album_reader.specs.Rounds.Step.{Same, Next, Done, Gone}
use Rattle.album_views.specs.Asks.{objects_of}
use Rattle.album_views.specs.Checks.{refusal_of}
use Rattle.album_views.specs.Steps.{again}
use Rattle.album_views.specs.Steps.{stepped as viewed}
use Rattle.album_views.specs.declared.asks.Ask.{Ask}
use Rattle.album_views.specs.declared.viewing.ViewStep.{ViewStep}
use Rattle.album_views.specs.declared.viewing.ViewStep.TheVariants.{Again, Closed, Busy}
use Rattle.album_listing.specs.GroupsFound.{basis_on}
use Rattle.album_permits.specs.Effects.{is_full_for}
use Rattle.album_permits.specs.Findings.{ruling_of}
use Rattle.album_permits.specs.Notes.{notes_of}
use Rattle.album_permits.specs.Permits.{PermitState}
use Rattle.album_permits.specs.declared.findings.Finding.{Finding}
use Rattle.album_permits.specs.declared.findings.Finding.TheVariants as finding
use Rattle.album_permits.specs.declared.serving.Served.{Served}
use Rattle.album_writer.specs.Rounds.{WriteStep, commits_by, commits_left, prepare_stepped, commit_stepped}
use Rattle.album_writer.specs.Rounds.WriteStep.{Waits, Commits as Decides, Ends}
use Rattle.album_writer.specs.Writing.{WritingState, places_in}
use Rattle.album_writer.specs.WriteReplies.{reply_in}
use Rattle.album_writer.specs.declared.write_replies.WriteReply.{WriteReply}
use Rattle.album_writer.specs.declared.write_replies.WriteReply.TheVariants as write_reply
use Rattle.album_client.specs.declared.clients.Phase.{Phase}
use Rattle.album_client.specs.declared.clients.Phase.TheVariants as phase
use Rattle.album_client.specs.declared.transitions.Transition.{Transition}
use Rattle.album_client.specs.Terms.{Terms}
use Rattle.album_client.specs.PendingAsks.{PendingAsk}
use Rattle.album_client.specs.Clients.{Client}
use Rattle.album_client.specs.Grants.{served_for}
use Rattle.album_client.specs.Steps.{transition_of, is_waiting, IsTakenBy, TransitionState, read_begins, writes_unless, draws_by, grants, rules_by, clock_after_rows, views_by, read_transition, prepare_transition, commit_transition}
use Rattle.album_client.specs.Transitions.{IsMoved}
use Rattle.album_client.proofs.MoveLemmas.{just_commits}
use Rattle.album_permits.specs.declared.outs.Out.{Out}
use Rattle.album_permits.specs.declared.outs.Out.TheVariants as out
use Rattle.album_world.specs.Changes.{asks_by, client_takes_by}
use Rattle.album_world.specs.Moves.{IsInstalled, IsChangedBy, idle_tag, is_writing}
use Rattle.album_world.specs.Runs.{numbers_after, outs_of_transition}
use Rattle.album_views.specs.ReadSets.{looker_of}

-- ---- how many messages

pub few_prepared : (x : Client) (tag : ℕ) (writing : WritingState) (message : Message)
    → length (prepare_transition x tag (prepare_stepped writing message)).sent ≤ length (places_in writing)
few_prepared x tag writing message = go (prepare_stepped writing message) refl
  where
    go : (f : WriteStep) → prepare_stepped writing message ≡ f
        → length (prepare_transition x tag f).sent ≤ length (places_in writing)
    go (Waits next) e = omega arith
    go (Decides next messages) e = just_commits writing next message messages e
    go (Ends outcome) e = omega arith

-- a round of Commits sends nothing
pub none_committed : (x : Client) (tag : ℕ) (writing : WritingState) (message : Message)
    → length (commit_transition x tag (commit_stepped writing message)).sent ≤ 0
none_committed x tag writing message = by (reply_in writing message)
  where
    left : (some : WritingState) (outstanding : List ℕ) → length (commit_transition x tag (commits_left some outstanding)).sent ≤ 0
    left some [] = omega arith
    left some (place ∷ places) = omega arith

    by : (f : WriteReply) → length (commit_transition x tag (commits_by writing message.from f)).sent ≤ 0
    by write_reply.Prepared = omega arith
    by write_reply.Committed = left _ _
    by write_reply.Discarded = omega arith
    by write_reply.Full = omega arith
    by write_reply.Nothing = omega arith

-- ---- what a client did doesn't matter to what it does next

module _ (terms : Terms) (x : Client) (d : Phase) where
  abbrev pub idle : Client
  idle = record x { phase = d }

  same_unless : (k : ClockState) (tag : ℕ) (permit : PermitState) (stamp : ℕ) (f : Bool)
      → writes_unless terms (record idle { clock = k }) tag permit stamp f
      ≡ writes_unless terms (record x { clock = k }) tag permit stamp f
  same_unless k tag permit stamp true = refl
  same_unless k tag permit stamp false = refl

  same_draws : (k : ClockState) (tag : ℕ) (permit : PermitState) (f : Result ℕ Refusal)
      → draws_by terms (record idle { clock = k }) tag permit f ≡ draws_by terms (record x { clock = k }) tag permit f
  same_draws k tag permit (Ok stamp) = same_unless k tag permit stamp (is_full_for permit stamp)
  same_draws k tag permit (Err refusal) = refl

  same_grants : (k : ClockState) (tag : ℕ) (permit : PermitState) (f : Option Served)
      → grants terms (record idle { clock = k }) tag permit f ≡ grants terms (record x { clock = k }) tag permit f
  same_grants k tag permit (Some served) = refl
  same_grants k tag permit None = same_draws (clock_after_next k) tag permit (next_of k)

  same_rules : (k : ClockState) (tag : ℕ) (permit : PermitState) (f : Finding)
      → rules_by terms (record idle { clock = k }) tag permit f ≡ rules_by terms (record x { clock = k }) tag permit f
  same_rules k tag permit finding.Granted = same_grants k tag permit (served_for permit permit.view.ask)
  same_rules k tag permit (finding.Denied reasons) = refl
  same_rules k tag permit (finding.Missing object) = refl

  same_views : (tag : ℕ) (who : Principal) (f : ViewStep) → views_by terms idle tag who f ≡ views_by terms x tag who f
  same_views tag who (Again viewing items) = refl
  same_views tag who (Closed view) =
      ap (λ (t : TransitionState). record t { noted = Some (notes_of (basis_on terms.policy who view.rows) view.ask) })
      (same_rules (clock_after_rows (clock_after_reach x.clock terms.first) view.rows) tag _ (ruling_of (basis_on terms.policy who view.rows) view.ask))
  same_views tag who (Busy why) = refl

  same_read : (tag : ℕ) (pending_ask : PendingAsk) (f : ReadStep)
      → read_transition terms idle tag pending_ask f ≡ read_transition terms x tag pending_ask f
  same_read tag pending_ask (Same round) = refl
  same_read tag pending_ask (Next round messages) = refl
  same_read tag pending_ask (Done rows) =
      ap (λ (t : TransitionState). record t {
        over = Some (record { ask = pending_ask.viewing.ask; principal = pending_ask.principal; rows = Some rows });
      }) (same_views tag pending_ask.principal (viewed (looker_of terms.policy pending_ask.principal) pending_ask.viewing rows))
  same_read tag pending_ask (Gone items) =
      ap (λ (t : TransitionState). record t {
        over = Some (record { ask = pending_ask.viewing.ask; principal = pending_ask.principal; rows = None });
      }) (same_views tag pending_ask.principal (again pending_ask.viewing items))

  same_prepare : (tag : ℕ) (f : WriteStep) → prepare_transition idle tag f ≡ prepare_transition x tag f
  same_prepare tag (Waits writing) = refl
  same_prepare tag (Decides writing messages) = refl
  same_prepare tag (Ends outcome) = refl

  same_commit : (tag : ℕ) (f : WriteStep) → commit_transition idle tag f ≡ commit_transition x tag f
  same_commit tag (Waits writing) = refl
  same_commit tag (Decides writing messages) = refl
  same_commit tag (Ends outcome) = refl

  -- nor to what a message does
  pub same_turn : (message : Message) (f : Phase) → transition_of terms idle message f ≡ transition_of terms x message f
  same_turn message (phase.Idle tag) = refl
  same_turn message (phase.Reads pending_ask round) = same_read round.asker.tag pending_ask (stepped round message)
  same_turn message (phase.Prepares writing) = same_prepare writing.tag (prepare_stepped writing message)
  same_turn message (phase.Commits writing) = same_commit writing.tag (commit_stepped writing message)

-- ---- it stays the same client

module _ (terms : Terms) (x : Client) where
  number_unless : (k : ClockState) (tag : ℕ) (permit : PermitState) (stamp : ℕ) (f : Bool)
      → (writes_unless terms (record x { clock = k }) tag permit stamp f).client.number ≡ x.number
  number_unless k tag permit stamp true = refl
  number_unless k tag permit stamp false = refl

  number_draws : (k : ClockState) (tag : ℕ) (permit : PermitState) (f : Result ℕ Refusal)
      → (draws_by terms (record x { clock = k }) tag permit f).client.number ≡ x.number
  number_draws k tag permit (Ok stamp) = number_unless k tag permit stamp (is_full_for permit stamp)
  number_draws k tag permit (Err refusal) = refl

  number_grants : (k : ClockState) (tag : ℕ) (permit : PermitState) (f : Option Served)
      → (grants terms (record x { clock = k }) tag permit f).client.number ≡ x.number
  number_grants k tag permit (Some served) = refl
  number_grants k tag permit None = number_draws (clock_after_next k) tag permit (next_of k)

  number_rules : (k : ClockState) (tag : ℕ) (permit : PermitState) (f : Finding)
      → (rules_by terms (record x { clock = k }) tag permit f).client.number ≡ x.number
  number_rules k tag permit finding.Granted = number_grants k tag permit (served_for permit permit.view.ask)
  number_rules k tag permit (finding.Denied reasons) = refl
  number_rules k tag permit (finding.Missing object) = refl

  number_views : (tag : ℕ) (who : Principal) (f : ViewStep) → (views_by terms x tag who f).client.number ≡ x.number
  number_views tag who (Again viewing items) = refl
  number_views tag who (Closed view) =
      number_rules (clock_after_rows (clock_after_reach x.clock terms.first) view.rows) tag _ (ruling_of (basis_on terms.policy who view.rows) view.ask)
  number_views tag who (Busy why) = refl

  number_read : (tag : ℕ) (pending_ask : PendingAsk) (f : ReadStep)
      → (read_transition terms x tag pending_ask f).client.number ≡ x.number
  number_read tag pending_ask (Same round) = refl
  number_read tag pending_ask (Next round messages) = refl
  number_read tag pending_ask (Done rows) = number_views tag pending_ask.principal (viewed (looker_of terms.policy pending_ask.principal) pending_ask.viewing rows)
  number_read tag pending_ask (Gone items) = number_views tag pending_ask.principal (again pending_ask.viewing items)

number_prepare : (x : Client) (tag : ℕ) (f : WriteStep) → (prepare_transition x tag f).client.number ≡ x.number
number_prepare x tag (Waits writing) = refl
number_prepare x tag (Decides writing messages) = refl
number_prepare x tag (Ends outcome) = refl

number_commit : (x : Client) (tag : ℕ) (f : WriteStep) → (commit_transition x tag f).client.number ≡ x.number
number_commit x tag (Waits writing) = refl
number_commit x tag (Decides writing messages) = refl
number_commit x tag (Ends outcome) = refl

pub number_turn : (terms : Terms) (x : Client) (message : Message) (f : Phase)
    → (transition_of terms x message f).client.number ≡ x.number
number_turn terms x message (phase.Idle tag) = refl
number_turn terms x message (phase.Reads pending_ask round) =
    number_read terms x round.asker.tag pending_ask (stepped round message)
number_turn terms x message (phase.Prepares writing) =
    number_prepare x writing.tag (prepare_stepped writing message)
number_turn terms x message (phase.Commits writing) = number_commit x writing.tag (commit_stepped writing message)

-- ---- outputs

-- all outputs of a transition
pub given_is : (before one number : ℕ) (turn : TransitionState) (transition : Transition) (outs : List Out) → one ≡ number
    → IsMoved turn transition
    → outs
    ≡ map (out.Noted one) transition.notes.items
    ++ (numbers_after before (length transition.sent.items) ++ option_to_list (option_map (out.Answered one) transition.answer))
    → outs ≡ outs_of_transition before number turn
given_is before one number turn transition outs same is e = rw (← same, ← is.noted, ← is.sent, ← is.answer) e

-- a turn in which nothing is noted
pub ungiven_is : (before one : ℕ) (x new : Client) (turn : TransitionState) (transition : Transition) (outs : List Out) → one ≡ x.number
    → turn.noted ≡ None → IsMoved turn transition → new ≡ transition.client
    → outs
    ≡ numbers_after before (length transition.sent.items) ++ option_to_list (option_map (out.Answered one) transition.answer)
    → IsInstalled before x.number turn new transition.sent.items outs
ungiven_is before one x new turn transition outs same none is now e = record {
  client = now ∙ is.client;
  sent_is = is.sent;
  outputs = rw (none, ← same, ← is.sent, ← is.answer) e;
}

-- ---- an ask

idle_is : (f : Phase) (tag : ℕ) → idle_tag f ≡ Some tag → f ≡ phase.Idle tag
idle_is (phase.Idle tag) other e = cc
idle_is (phase.Reads pending_ask round) other e = absurd (cc)
idle_is (phase.Prepares writing) other e = absurd (cc)
idle_is (phase.Commits writing) other e = absurd (cc)

-- it has asked
pub asked_done : (before : ℕ) (terms : Terms) (x new : Client) (who : Principal) (a : Ask) (tag : ℕ)
    (sent : List Message) (outs : List Out) → idle_tag x.phase ≡ Some tag → refusal_of a who ≡ None
    → IsInstalled before x.number
    (read_begins terms x tag (record { viewing = record { ask = a; reads = 0 }; principal = who }) (objects_of a))
    new sent outs
    → IsOkAnd (asks_by terms x.number x who a x.phase) (λ change. IsChangedBy before x change new sent outs)
asked_done before terms x new who a tag sent outs idles taken is =
    rw (idle_is x.phase tag idles, taken) (refl, is)

-- ---- a message

-- nothing is noted in a write
unnoted_prepare : (x : Client) (tag : ℕ) (f : WriteStep) → (prepare_transition x tag f).noted ≡ None
unnoted_prepare x tag (Waits writing) = refl
unnoted_prepare x tag (Decides writing messages) = refl
unnoted_prepare x tag (Ends outcome) = refl

unnoted_commit : (x : Client) (tag : ℕ) (f : WriteStep) → (commit_transition x tag f).noted ≡ None
unnoted_commit x tag (Waits writing) = refl
unnoted_commit x tag (Decides writing messages) = refl
unnoted_commit x tag (Ends outcome) = refl

pub unnoted : (terms : Terms) (x : Client) (message : Message) (f : Phase) → is_writing f ≡ true
    → (transition_of terms x message f).noted ≡ None
unnoted terms x message (phase.Idle tag) w = absurd (cc)
unnoted terms x message (phase.Reads pending_ask round) w = absurd (cc)
unnoted terms x message (phase.Prepares writing) w =
    unnoted_prepare x writing.tag (prepare_stepped writing message)
unnoted terms x message (phase.Commits writing) w = unnoted_commit x writing.tag (commit_stepped writing message)

pub writes_none : (f : Phase) → is_writing f ≡ true → idle_tag f ≡ None
writes_none (phase.Idle tag) w = absurd (cc)
writes_none (phase.Reads pending_ask round) w = absurd (cc)
writes_none (phase.Prepares writing) w = refl
writes_none (phase.Commits writing) w = refl

pub reads_none : (f : Phase) (pending_ask : PendingAsk) (round : RoundState) → phase.Reads pending_ask round ≡ f → idle_tag f ≡ None
reads_none f pending_ask round e = sym (ap idle_tag e)

-- a transition from the phase that was taken out of the client is the client's own
pub moved_so : (terms : Terms) (x y : Client) (d f : Phase) (message : Message) (transition : Transition)
    → y ≡ record x { phase = d } → f ≡ x.phase → IsMoved (transition_of terms y message f) transition
    → IsMoved (transition_of terms x message x.phase) transition
moved_so terms x y d f message transition at same is =
    subst (λ (t : TransitionState). IsMoved t transition) (same_turn terms x d message x.phase) (rw (at, same) at is)

-- it has taken a message, where it wasn't idle
pub taken_done : (before : ℕ) (terms : Terms) (x new : Client) (message : Message) (sent : List Message)
    (outs : List Out) → idle_tag x.phase ≡ None
    → IsInstalled before x.number (transition_of terms x message x.phase) new sent outs
    → IsChangedBy before x (client_takes_by terms x.number x message x.phase) new sent outs
taken_done before terms x new message sent outs busy turned = go x.phase busy turned
  where
    go : (f : Phase) → idle_tag f ≡ None → IsInstalled before x.number (transition_of terms x message f) new sent outs
        → IsChangedBy before x (client_takes_by terms x.number x message f) new sent outs
    go (phase.Idle tag) e is = absurd (cc)
    go (phase.Reads pending_ask round) e is = (refl, is)
    go (phase.Prepares writing) e is = (refl, is)
    go (phase.Commits writing) e is = (refl, is)

-- a message that ends no round, where nothing changes but the client's phase
pub waits_done : (terms : Terms) (before : ℕ) (x : Client) (new : Phase) (message : Message)
    → is_waiting x.phase message ≡ true → IsTakenBy x.phase message new
    → IsChangedBy before x (client_takes_by terms x.number x message x.phase) (record x { phase = new }) [] []
waits_done terms before x new message waiting taken =
    taken_done before terms x (record x { phase = new }) message [] [] (busy x.phase waiting)
    (subst (λ (t : TransitionState). IsInstalled before x.number t (record x { phase = new }) [] []) (sym (taken terms x))
    (record { client = refl; sent_is = refl; outputs = refl }))
  where
    busy : (f : Phase) → is_waiting f message ≡ true → idle_tag f ≡ None
    busy (phase.Idle tag) e = absurd (cc)
    busy (phase.Reads pending_ask round) e = refl
    busy (phase.Prepares writing) e = absurd (cc)
    busy (phase.Commits writing) e = absurd (cc)
