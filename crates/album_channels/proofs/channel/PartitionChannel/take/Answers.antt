use Rattle.std.proofs.Common.{rules, ℕ, sym, ◌∙◌, subst}
use Rattle.album_keepers.specs.Envelopes.{IsSettledBelow}
use Rattle.album_keepers.specs.Rounds.{Counts}
use Rattle.album_channels.proofs.channel.PartitionChannel.take.Goals as goal

-- the request in the envelope is the message of that index
pub take_reply-requires : goal.take_reply-requires
take_reply-requires g c =
    subst (Counts g.J.DeskNames.terms.limit c.args.asked.now.begun.cut c.args.asked.now.sent) (sym c.new-given.ensures) (record {
      request = c.open-request.result.0;
      at = c.in-Some.ensures;
      replies = record {
        answered = c.open-request.ensures.answered;
        sound = c.is_before.ensures.sound (search rules);
        latest = λ none. c.open-request.ensures.latest (sym c.is_overtaken-overtaken.ensures ∙ none);
        settled = subst (λ (n : ℕ). IsSettledBelow n c.open-request.result.2.cut c.open-request.result.1) (sym c.settled_below-below.ensures)
            c.open-request.ensures.settled;
      };
      late = c.is_before.ensures.late (search rules);
    })
