use Rattle.std.proofs.Common.{◌≡◌, ap, sym, ◌∙◌}
use Rattle.std.proofs.lemmas.Result.{IfOk-weaker}
use Rattle.album_client.specs.declared.clients.Phase.TheVariants as phase
use Rattle.album_client.specs.Clients.{Client}
use Rattle.album_client.specs.Transitions.{client_of}
use Rattle.album_client.specs.Steps.{transition_of}
use Rattle.album_world.proofs.MoveLemmas.{moved_so, number_turn, reads_none, taken_done}
use Rattle.album_world.proofs.RegisterLemmas.{turned_number}
use Rattle.album_world.proofs.client_events.take.Goals as goal

-- the round of its read has ended
pub returns-in_ok-transition-in-Reads-clause-done : goal.returns-in_ok-transition-in-Reads-clause-done
returns-in_ok-transition-in-Reads-clause-done c =
    let x = c.args.client.now in
    let does : phase.Reads c.in-Reads.pending_ask c.in-Reads.reading ≡ x.phase =
    sym c.in-Reads.is ∙ ap (λ (y : Client). y.phase) c.client.view_is in
    let transition = rw c.client_step-client_step.ensures.terms at c.in_ok-transition-in-Reads.ensures.transition in
    let is =
    moved_so c.args.terms x (client_of c.client_step-client_step.result) (phase.Idle 0) (phase.Reads c.in-Reads.pending_ask c.in-Reads.reading) c.args.message.now
    c.in_ok-transition-in-Reads.transition c.client_step-client_step.ensures.client does transition in
    IfOk-weaker c.install.result _ _ (λ r turned.
    taken_done c.args.before c.args.terms x c.install.new.client c.args.message.now r.0.items r.1.items
    (reads_none x.phase c.in-Reads.pending_ask c.in-Reads.reading does) turned)
    (c.install.ensures.installed (transition_of c.args.terms x c.args.message.now x.phase) is)

pub returns-in_ok-transition-in-Reads-clause-number : goal.returns-in_ok-transition-in-Reads-clause-number
returns-in_ok-transition-in-Reads-clause-number c =
    let x = c.args.client.now in
    let does : phase.Reads c.in-Reads.pending_ask c.in-Reads.reading ≡ x.phase =
    sym c.in-Reads.is ∙ ap (λ (y : Client). y.phase) c.client.view_is in
    let transition = rw c.client_step-client_step.ensures.terms at c.in_ok-transition-in-Reads.ensures.transition in
    let is =
    moved_so c.args.terms x (client_of c.client_step-client_step.result) (phase.Idle 0) (phase.Reads c.in-Reads.pending_ask c.in-Reads.reading) c.args.message.now
    c.in_ok-transition-in-Reads.transition c.client_step-client_step.ensures.client does transition in
    turned_number c.install.result x c.install.new.client (transition_of c.args.terms x c.args.message.now x.phase) c.args.before
    (λ r. r.0.items) (λ r. r.1.items) (number_turn c.args.terms x c.args.message.now x.phase)
    (c.install.ensures.installed (transition_of c.args.terms x c.args.message.now x.phase) is) c.install.ensures.unchanged
