use Rattle.std.proofs.Common.{rules, List, Contains, Some, Option, sym, ap, subst}
use Rattle.std.proofs.lemmas.List.Elements.{All-contains}
use Rattle.album_calls.specs.declared.messages.Message.{Message}
use Rattle.album_passes.specs.Cuts.{Cut}
use Rattle.album_keepers.specs.Replies.{IsReplied}
use Rattle.album_channels.specs.Channels.{ChannelState}
use Rattle.album_channels.specs.Rounds.{AskedState}
use Rattle.album_channels.specs.Sightings.{repeated, IfSighted, IsRepeatedBy}
use Rattle.album_channels.specs.declared.sightings.Sighting.{Sighting}
use Rattle.album_channels.proofs.SightingLemmas.{repeated_replied}
use Rattle.album_channels.proofs.channel.PartitionChannel.known_reply.Goals as goal

-- what it gives is what the partition would reply by what it has replied
pub returns : goal.returns
returns g c =
    let limit = g.J.DeskNames.terms.limit in
    let begun = c.args.asked.now.begun.cut in
    let sent = c.args.asked.now.sent in
    let message = c.index-message.result.now in
    let kept = c.self.inside.sightings.items in
    let among : Contains c.asked.inside.sent.items message = search rules in
    let listed : Contains sent message = subst (λ (ms : List Message). Contains ms message) (ap (λ (a : AskedState). a.sent) c.asked.view_is) among in
    let repeated_by : IsRepeatedBy c.in-Some.sighting begun message =
    subst (λ (a : AskedState). IsRepeatedBy c.in-Some.sighting a.begun.cut message) c.asked.view_is (c.repeats.ensures (search rules)) in
    let there : Contains kept c.index.result.now = search rules in
    let sighted = All-contains (IfSighted limit c.self.inside.pass.cut) kept (Some c.in-Some.sighting) c.self.invariant.2
    (subst (λ (o : Option Sighting). Contains kept o) c.in-Some.is there) in
    subst (λ (m : Message). IsReplied limit begun c.args.self.now.cut sent m) (sym c.in_ok-repeat.ensures)
    (subst (λ (d : Cut). IsReplied limit begun d sent (repeated c.in-Some.sighting message)) (ap (λ (k : ChannelState). k.cut) c.self.view_is)
    (repeated_replied limit c.self.inside.pass.cut begun c.in-Some.sighting message sent sighted repeated_by listed))
