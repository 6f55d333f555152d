use Rattle.std.proofs.Common.{◌≡◌, ◌++◌, ◌<◌, Ok, length, slice_index_or, rules}
use Rattle.album_partition.specs.Sweeps.{swept}
use Rattle.album_world.specs.State.{Now}
use Rattle.album_world.specs.Runs.{sent_after}
use Rattle.album_world.proofs.StateLemmas.{part_is, swept_done}
use Rattle.album_world.proofs.state.State.sweep.Goals as goal

-- what the partition sends goes after the other messages
pub returns-clause-done : goal.returns-clause-done
returns-clause-done c =
    let now : Now = c.args.self.now in
    let new : Now = record { partitions = c.self.inside.partitions.items; messages = c.send_all.new.messages.items; clients = c.self.inside.clients; stopped = c.self.inside.stopped } in
    let inside : c.args.part < length now.partitions = search rules in
    let stands : c.index.result.now ≡ slice_index_or now.partitions c.args.part c.index.result.now = search rules in
    let there = part_is now c.args.part c.index.result.now inside stands in
    let sends : swept c.index.result.now c.args.stamp ≡ Ok c.in_ok-sent.sent.items = search rules in
    let parts : new.partitions ≡ now.partitions = search rules in
    let sent : new.messages ≡ now.messages ++ c.in_ok-sent.sent.items = search rules in
    let clients : new.clients ≡ now.clients = search rules in
    let stops : new.stopped ≡ now.stopped = search rules in
    let given : c.in_ok-outs.outs.items ≡ sent_after (length now.messages) c.in_ok-sent.sent.items = search rules in
    swept_done now new c.args.part c.args.stamp c.index.result.now c.in_ok-sent.sent.items c.in_ok-outs.outs.items
    there sends parts sent clients stops given
