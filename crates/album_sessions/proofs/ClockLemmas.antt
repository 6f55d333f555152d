-- The clock of a session's client. No transition puts it back (`moved_clock`), and it has seen what was read
-- (`rows_seen`). What it draws is the client's own and new (`number_own`, `number_counter`, `number_above`).
use Rattle.std.proofs.Common.{◌≡◌, ℕ, ◌+◌, ◌<◌, ◌≤◌, Bool, true, false, IsTrue, List, [], ◌∷◌, Option, Some, None, Result, Ok, Err, nat_lt, if◌then◌else◌, refl, sym, ap, ◌∙◌, subst, arith, le_refl, le_trans, le_of_eq}
use Rattle.std.proofs.lemmas.Bool.Decides.{nat_tests}
use Rattle.std.proofs.lemmas.List.Elements.{All-nil, All-cons}
use Rattle.album_calls.specs.declared.messages.Message.{Message}
use Rattle.album_client.specs.PendingAsks.{PendingAsk}
use Rattle.album_client.specs.Clients.{Client}
use Rattle.album_client.specs.Grants.{served_for}
use Rattle.album_client.specs.Transitions.{IsMoved}
use Rattle.album_client.specs.Terms.{Terms}
use Rattle.album_client.specs.Steps.{TransitionState, transition_of, writes_unless, draws_by, grants, rules_by, rules, views_by, read_transition, prepare_transition, commit_transition, clock_after_rows}
use Rattle.album_client.specs.declared.clients.Phase.{Phase}
use Rattle.album_client.specs.declared.clients.Phase.TheVariants as phase
use Rattle.album_client.specs.declared.transitions.Transition.{Transition}
use Rattle.album_eval.specs.declared.facts.Principal.{Principal}
use Rattle.album_listing.specs.GroupsFound.{basis_on}
use Rattle.album_permits.specs.Effects.{is_full_for}
use Rattle.album_permits.specs.Findings.{ruling_of}
use Rattle.album_permits.specs.Permits.{PermitState}
use Rattle.album_permits.specs.declared.findings.Finding.{Finding}
use Rattle.album_permits.specs.declared.findings.Finding.TheVariants as finding
use Rattle.album_permits.specs.declared.serving.Served.{Served}
use Rattle.album_reader.specs.Answers.{ReadVersion}
use Rattle.album_reader.specs.Rounds.{Step, stepped}
use Rattle.album_reader.specs.Rounds.Step.{Same, Next, Done, Gone}
use Rattle.album_stamps.specs.Clocks.{ClockState, clock_after_reach, clock_after_see, clock_after_next, next_of}
use Rattle.album_stamps.specs.Stamps.{is_client, client_number, counter_of, stamp_number}
use Rattle.album_stamps.specs.declared.limits.TheConstants.{MAX_COUNTER}
use Rattle.album_stamps.specs.declared.refusals.Refusal.{Refusal}
use Rattle.album_sessions.specs.Asks.{AreSeenBy, counter_after}
use Rattle.album_views.specs.ReadSets.{looker_of}
use Rattle.album_views.specs.Steps.{again}
use Rattle.album_views.specs.Steps.{stepped as viewed}
use Rattle.album_views.specs.Views.{ViewState}
use Rattle.album_views.specs.declared.viewing.ViewStep.{ViewStep}
use Rattle.album_views.specs.declared.viewing.ViewStep.TheVariants.{Again, Closed, Busy}
use Rattle.album_writer.specs.Rounds.{WriteStep, prepare_stepped, commit_stepped}
use Rattle.album_writer.specs.Rounds.WriteStep.{Waits, Commits, Ends}

-- ---- what a clock has seen

pub rows_client : (k : ClockState) (rows : List ReadVersion) → (clock_after_rows k rows).client ≡ k.client
rows_client k [] = refl
rows_client k (row ∷ rows) = rows_client (clock_after_see k row.stamp) rows

pub rows_rise : (k : ClockState) (rows : List ReadVersion) → k.counter ≤ (clock_after_rows k rows).counter
rows_rise k [] = le_refl _
rows_rise k (row ∷ rows) =
    let l : k.counter ≤ (clock_after_see k row.stamp).counter = omega arith in
    le_trans l (rows_rise (clock_after_see k row.stamp) rows)

-- it is at the greatest counter that it had or saw
pub rows_counter : (k : ClockState) (rows : List ReadVersion) → (clock_after_rows k rows).counter ≡ counter_after k.counter rows
rows_counter k [] = refl
rows_counter k (row ∷ rows) = rows_counter (clock_after_see k row.stamp) rows

pub rows_seen : (k : ClockState) (rows : List ReadVersion) → AreSeenBy (clock_after_rows k rows).counter rows
rows_seen k [] = All-nil (λ (row : ReadVersion). counter_of row.stamp ≤ k.counter)
rows_seen k (row ∷ rows) =
    let l : counter_of row.stamp ≤ (clock_after_see k row.stamp).counter = omega arith in
    All-cons (λ (r : ReadVersion). counter_of r.stamp ≤ (clock_after_rows (clock_after_see k row.stamp) rows).counter) row rows
    (le_trans l (rows_rise (clock_after_see k row.stamp) rows)) (rows_seen (clock_after_see k row.stamp) rows)

-- ---- what it draws

pub number_own : (c n : ℕ) → IsTrue (is_client n) → client_number (stamp_number c n) ≡ n
number_own c n is = grind (arith, nat_tests)

pub number_counter : (c n : ℕ) → IsTrue (is_client n) → counter_of (stamp_number c n) ≡ c
number_counter c n is = grind (arith, nat_tests)

pub number_above : (c n t : ℕ) → counter_of t ≤ c → t < stamp_number (c + 1) n
number_above c n t low = omega arith

-- ---- what a transition does to it

-- it is of the same client, and at no lower counter
record IsClockOn (old : ClockState) (turn : TransitionState) : Type 0 where
  own : turn.client.clock.client ≡ old.client
  risen : old.counter ≤ turn.client.clock.counter

module _ (terms : Terms) (x : Client) where
  same_clock : (turn : TransitionState) → turn.client.clock ≡ x.clock → IsClockOn x.clock turn
  same_clock turn is = record {
    own = ap (λ (k : ClockState). k.client) is;
    risen = le_of_eq (ap (λ (k : ClockState). k.counter) (sym is));
  }

  module _ (y : Client) (own : y.clock.client ≡ x.clock.client) (risen : x.clock.counter ≤ y.clock.counter) (tag : ℕ)
      (permit : PermitState) where
    abbrev drawn : Client
    drawn = record y { clock = clock_after_next y.clock }

    drawn_clock : (turn : TransitionState) → turn.client.clock ≡ clock_after_next y.clock → IsClockOn x.clock turn
    drawn_clock turn is = go (nat_lt y.clock.counter MAX_COUNTER) is
      where
        go : (b : Bool) → turn.client.clock ≡ (if b then record y.clock { counter = y.clock.counter + 1 } else y.clock)
            → IsClockOn x.clock turn
        go true e = record {
          own = ap (λ (k : ClockState). k.client) e ∙ own;
          risen = let n : turn.client.clock.counter ≡ y.clock.counter + 1 = ap (λ (k : ClockState). k.counter) e in
              omega (arith, n, risen);
        }
        go false e = record {
          own = ap (λ (k : ClockState). k.client) e ∙ own;
          risen = let n : turn.client.clock.counter ≡ y.clock.counter = ap (λ (k : ClockState). k.counter) e in omega
              (arith, n, risen);
        }

    unless_clock : (stamp : ℕ) (full : Bool) → IsClockOn x.clock (writes_unless terms drawn tag permit stamp full)
    unless_clock stamp true = drawn_clock _ refl
    unless_clock stamp false = drawn_clock _ refl

    draws_clock : (f : Result ℕ Refusal) → IsClockOn x.clock (draws_by terms drawn tag permit f)
    draws_clock (Ok stamp) = unless_clock stamp (is_full_for permit stamp)
    draws_clock (Err why) = drawn_clock _ refl

    grants_clock : (f : Option Served) → IsClockOn x.clock (grants terms y tag permit f)
    grants_clock (Some served) = record { own = own; risen = risen }
    grants_clock None = draws_clock (next_of y.clock)

    rules_clock : (f : Finding) → IsClockOn x.clock (rules_by terms y tag permit f)
    rules_clock finding.Granted = grants_clock (served_for permit permit.view.ask)
    rules_clock (finding.Denied reasons) = record { own = own; risen = risen }
    rules_clock (finding.Missing object) = record { own = own; risen = risen }

  viewed_clock : (tag : ℕ) (who : Principal) (view : ViewState) → IsClockOn x.clock (rules terms x tag who view)
  viewed_clock tag who view =
      let from = clock_after_reach x.clock terms.first in
      let l : x.clock.counter ≤ from.counter = omega arith in
      let c = rules_clock (record x { clock = clock_after_rows from view.rows }) (rows_client from view.rows)
      (le_trans l (rows_rise from view.rows)) tag
      (record { view = view; principal = who; policy = terms.policy })
      (ruling_of (basis_on terms.policy who view.rows) view.ask) in
      record { own = c.own; risen = c.risen }

  views_clock : (tag : ℕ) (who : Principal) (step : ViewStep) → IsClockOn x.clock (views_by terms x tag who step)
  views_clock tag who (Again viewing items) = same_clock _ refl
  views_clock tag who (Closed view) = viewed_clock tag who view
  views_clock tag who (Busy why) = same_clock _ refl

  read_clock : (tag : ℕ) (pending_ask : PendingAsk) (step : Step) → IsClockOn x.clock (read_transition terms x tag pending_ask step)
  read_clock tag pending_ask (Same round) = same_clock _ refl
  read_clock tag pending_ask (Next round messages) = same_clock _ refl
  read_clock tag pending_ask (Done rows) =
      let c = views_clock tag pending_ask.principal (viewed (looker_of terms.policy pending_ask.principal) pending_ask.viewing rows) in record { own = c.own; risen = c.risen }
  read_clock tag pending_ask (Gone items) =
      let c = views_clock tag pending_ask.principal (again pending_ask.viewing items) in record { own = c.own; risen = c.risen }

  prepare_clock : (tag : ℕ) (step : WriteStep) → IsClockOn x.clock (prepare_transition x tag step)
  prepare_clock tag (Waits writing) = same_clock _ refl
  prepare_clock tag (Commits writing messages) = same_clock _ refl
  prepare_clock tag (Ends outcome) = same_clock _ refl

  commit_clock : (tag : ℕ) (step : WriteStep) → IsClockOn x.clock (commit_transition x tag step)
  commit_clock tag (Waits writing) = same_clock _ refl
  commit_clock tag (Commits writing messages) = same_clock _ refl
  commit_clock tag (Ends outcome) = same_clock _ refl

  turn_clock : (m : Message) (d : Phase) → IsClockOn x.clock (transition_of terms x m d)
  turn_clock m (phase.Idle tag) = same_clock _ refl
  turn_clock m (phase.Reads pending_ask round) = read_clock round.asker.tag pending_ask (stepped round m)
  turn_clock m (phase.Prepares writing) = prepare_clock writing.tag (prepare_stepped writing m)
  turn_clock m (phase.Commits writing) = commit_clock writing.tag (commit_stepped writing m)

  pub moved_clock : (m : Message) (d : Phase) (transition : Transition) → IsMoved (transition_of terms x m d) transition
      → (transition.client.clock.client ≡ x.clock.client) × (x.clock.counter ≤ transition.client.clock.counter)
  moved_clock m d transition is =
      let c = turn_clock m d in (
        ap (λ (z : Client). z.clock.client) is.client ∙ c.own,
        subst (λ (z : Client). x.clock.counter ≤ z.clock.counter) (sym is.client) c.risen,
      )
