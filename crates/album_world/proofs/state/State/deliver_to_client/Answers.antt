use Rattle.std.proofs.Common.{◌≡◌, ◌++◌, ◌<◌, slice_index_or, false, length, subst, rules}
use Rattle.album_calls.specs.declared.messages.Message.{Message}
use Rattle.album_world.specs.Registers.{AreChangedBy, takes_of}
use Rattle.album_world.specs.State.{Now, client_at, is_stopped}
use Rattle.album_world.specs.Changes.{client_takes}
use Rattle.album_world.specs.Seen.{IsChanged}
use Rattle.album_world.proofs.StateLemmas.{client_changed, message_is}
use Rattle.album_world.proofs.state.State.deliver_to_client.Goals as goal

-- the client takes the message, and what it sends goes after the other messages
pub returns-clause-changed : goal.returns-clause-changed
returns-clause-changed c = λ message there.
    let now : Now = c.args.self.now in
    let new : Now = record { partitions = c.self.inside.partitions.items; messages = c.send.new.messages.items; clients = c.take.new.self; stopped = c.self.inside.stopped } in
    let runs : is_stopped now c.args.client ≡ false = search rules in
    let inside : c.args.index < length now.messages = search rules in
    let stands : c.index.result.now ≡ slice_index_or now.messages c.args.index c.index.result.now = search rules in
    let it = message_is now.messages c.args.index c.index.result.now inside stands in
    let same : c.index.result.now ≡ message = search (rules, it, there) in
    let turned : AreChangedBy (length now.messages) now.clients (takes_of c.args.terms c.args.client (client_at now.clients c.args.client) c.index.result.now) c.take.new.self c.in_ok-sent.sent.items c.in_ok-sent.outs.items = search rules in
    let parts : new.partitions ≡ now.partitions = search rules in
    let sent : new.messages ≡ now.messages ++ c.in_ok-sent.sent.items = search rules in
    let stops : new.stopped ≡ now.stopped = search rules in
    let done = client_changed c.args.terms now new c.args.client c.index.result.now c.in_ok-sent.sent.items c.in_ok-sent.outs.items runs turned parts sent stops in
    subst (λ (m : Message). IsChanged now (client_takes c.args.terms now c.args.client (client_at now.clients c.args.client) m) new c.in_ok-sent.outs.items) same done
