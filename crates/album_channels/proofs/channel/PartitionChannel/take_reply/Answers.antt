use Rattle.std.proofs.Common.{rules, List, get_or, sym, ap, ◌∙◌, subst}
use Rattle.album_calls.specs.declared.messages.Message.{Message}
use Rattle.album_keepers.specs.Replies.{IsReplied}
use Rattle.album_channels.specs.Channels.{ChannelState}
use Rattle.album_channels.proofs.CountLemmas.{counted_replied, counted_current, counted_answered, counted_latest, counted_settled}
use Rattle.album_channels.proofs.SightingLemmas.{current_more, sighted_more}
use Rattle.album_channels.proofs.channel.PartitionChannel.take_reply.Goals as goal

-- by what was sighted the version is new enough
pub returns-then-overtaken-clause-replied : goal.returns-then-overtaken-clause-replied
returns-then-overtaken-clause-replied g c =
    counted_replied g.J.DeskNames.terms.limit c.args.asked.now.begun.cut c.args.asked.now.sent c.args.given c.open-reply.result.0
    c.open-reply.result.1 c.requires c.open-reply.ensures.reply c.open-reply.ensures.pass c.join.new.self.cut c.join.ensures.heard
    (current_more _ _ _ _ c.join.ensures.later.grown (c.is_new_enough.ensures (search rules)))

-- it is the latest one
pub sighting_of-sighting-requires : goal.sighting_of-sighting-requires
sighting_of-sighting-requires g c =
    let limit = g.J.DeskNames.terms.limit in
    let begun = c.args.asked.now.begun.cut in
    let sent = c.args.asked.now.sent in
    let reply = c.open-reply.result.0 in
    let pass = c.open-reply.result.1 in
    let message = c.index-sent-index.result in
    record {
      answered = counted_answered limit begun sent c.args.given reply pass c.requires c.open-reply.ensures.reply c.open-reply.ensures.pass
          c.index-index.result message c.index-index.ensures
          (c.index-sent-index.is ∙ ap (λ (ms : List Message). get_or ms c.index-index.result message) c.sent.ensures);
      latest = counted_latest limit begun sent c.args.given reply pass c.requires c.open-reply.ensures.reply c.open-reply.ensures.pass
          (sym c.is_overtaken-overtaken.ensures ∙ c.if-overtaken.false);
      settled = counted_settled limit begun sent c.args.given reply pass c.requires c.open-reply.ensures.reply c.open-reply.ensures.pass
          c.settled_below-below.result c.settled_below-below.ensures;
    }

pub keep-requires : goal.keep-requires
keep-requires g c = record {
  sighted = sighted_more g.J.DeskNames.terms.limit c.open-reply.result.1.cut c.join-2.new.self.cut
      c.sighting_of-sighting.result c.join-2.ensures.heard c.sighting_of-sighting.ensures;
}

pub returns-clause-replied : goal.returns-clause-replied
returns-clause-replied g c =
    let limit = g.J.DeskNames.terms.limit in
    let begun = c.args.asked.now.begun.cut in
    let sent = c.args.asked.now.sent in
    let reply = c.open-reply.result.0 in
    let pass = c.open-reply.result.1 in
    let new = c.join-2.new.self.cut in
    subst (λ (k : ChannelState). IsReplied limit begun k.cut sent reply) (sym c.keep.ensures.same)
    (counted_replied limit begun sent c.args.given reply pass c.requires c.open-reply.ensures.reply c.open-reply.ensures.pass new
    c.join-2.ensures.heard
    (counted_current limit begun sent c.args.given reply pass c.requires c.open-reply.ensures.reply c.open-reply.ensures.pass new
    c.join-2.ensures.heard (sym c.is_overtaken-overtaken.ensures ∙ c.if-overtaken.false)))
