use Rattle.std.proofs.Common.{◌≡◌, length, ap, rules, ◌∙◌}
use Rattle.album_client.specs.declared.clients.Phase.TheVariants as phase
use Rattle.album_client.specs.Clients.{Client}
use Rattle.album_client.specs.Transitions.{client_of}
use Rattle.album_client.specs.Steps.{transition_of}
use Rattle.album_world.proofs.MoveLemmas.{moved_so, number_turn, taken_done, unnoted, ungiven_is, writes_none}
use Rattle.album_world.proofs.client_events.continue_write.Goals as goal

-- the client's next state, and all outputs
pub returns-clause-done : goal.returns-clause-done
returns-clause-done c =
    let x = c.args.client.now in
    let does : c.replace-phase.result ≡ x.phase =
    c.replace-phase.ensures.value ∙ ap (λ (y : Client). y.phase) c.client.view_is in
    let transition = rw c.client_step-client_step.ensures.terms at c.write_transition-next.ensures.transition in
    let is =
    moved_so c.args.terms x (client_of c.client_step-client_step.result) (phase.Idle 0) c.replace-phase.result c.args.message.now
    c.write_transition-next.result c.client_step-client_step.ensures.client does transition in
    let count : c.len.result ≡ length c.write_transition-next.result.sent.items = search rules in
    let outs = rw (c.in_ok-outs.ensures.items, count) at c.push_outputs.ensures in
    taken_done c.args.before c.args.terms x c.replace_client.new.client c.args.message.now
    c.write_transition-next.result.sent.items c.push_outputs.new.outs.items (writes_none x.phase c.requires.writing)
    (ungiven_is c.args.before _ x c.replace_client.new.client (transition_of c.args.terms x c.args.message.now x.phase)
    c.write_transition-next.result c.push_outputs.new.outs.items (ap (λ (y : Client). y.number) c.client.view_is)
    (unnoted c.args.terms x c.args.message.now x.phase c.requires.writing) is c.replace_client.ensures outs)

pub returns-clause-number : goal.returns-clause-number
returns-clause-number c =
    let x = c.args.client.now in
    let does : c.replace-phase.result ≡ x.phase =
    c.replace-phase.ensures.value ∙ ap (λ (y : Client). y.phase) c.client.view_is in
    let transition = rw c.client_step-client_step.ensures.terms at c.write_transition-next.ensures.transition in
    let is =
    moved_so c.args.terms x (client_of c.client_step-client_step.result) (phase.Idle 0) c.replace-phase.result c.args.message.now
    c.write_transition-next.result c.client_step-client_step.ensures.client does transition in
    ap (λ (y : Client). y.number) (c.replace_client.ensures ∙ is.client)
    ∙ number_turn c.args.terms x c.args.message.now x.phase
