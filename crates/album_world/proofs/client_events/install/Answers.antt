use Rattle.std.proofs.Common.{◌≡◌, length, ap, rules, ◌∙◌}
use Rattle.album_client.specs.Clients.{Client}
use Rattle.album_world.proofs.MoveLemmas.{given_is}
use Rattle.album_world.proofs.client_events.install.Goals as goal

-- the client's next state, its messages, and the outputs
pub returns-in-Ok-clause-installed : goal.returns-in-Ok-clause-installed
returns-in-Ok-clause-installed c = λ turn is.
    let count : c.len-count.result ≡ length c.args.transition.sent.items = search rules in
    let notes = rw c.deref.ensures.value at c.in-Ok.ensures.notes in
    let outs = rw (notes, count) at c.push_outputs.ensures in
    record {
      client = c.replace_client.ensures ∙ is.client;
      sent_is = is.sent;
      outputs =
          given_is c.args.before _ c.args.client.now.number turn c.args.transition _
          (ap (λ (x : Client). x.number) c.client.view_is) is outs;
    }
