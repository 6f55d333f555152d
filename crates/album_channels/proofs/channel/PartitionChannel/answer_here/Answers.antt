use Rattle.std.proofs.Common.{List, All, sym, subst}
use Rattle.album_passes.specs.Cuts.{Cut}
use Rattle.album_keepers.specs.Rounds.{RoundReplyState, Counts}
use Rattle.album_channels.proofs.channel.PartitionChannel.answer_here.Goals as goal
use Rattle.album_channels.proofs.channel.PartitionChannel.answer_here.Goals.{in-None, in-Some}

-- the pass has the channel's cut
pub returns-clause-count : goal.returns-clause-count
returns-clause-count g c = λ h.
    let limit = g.J.DeskNames.terms.limit in
    let sent = c.args.messages.now in
    elim c.match-get.branch [
      | in-None w ↦ subst (λ (rs : List RoundReplyState). All (Counts limit c.args.self.now.cut sent) rs) (λ i. (sym w.replies-is i).items) h
      | in-Some w ↦ subst (λ (z : Cut × List RoundReplyState). All (Counts limit z.0 sent) z.1)
          (λ i. (c.split-pass.ensures.cut i, (sym w.replies-is i).items))
          (w.answer_all.ensures.count
          (subst (λ (d : Cut). All (Counts limit d sent) c.args.replies.now.items) (sym c.split-pass.ensures.cut) h))
    ]
