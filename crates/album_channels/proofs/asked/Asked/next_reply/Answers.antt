use Rattle.std.proofs.Common.{All, List, sym, subst}
use Rattle.std.proofs.lemmas.List.Elements.{All-drop}
use Rattle.album_keepers.specs.Rounds.{RoundReplyState, Counts}
use Rattle.album_channels.proofs.asked.Asked.next_reply.Goals as goal

-- the rest count as before
pub invariant_of-self : goal.invariant_of-self
invariant_of-self g c =
    let counts = Counts g.J.DeskNames.terms.limit c.self.inside.begun.cut c.self.inside.sent.items in
    subst (λ (rs : List RoundReplyState). All counts rs) (sym c.pop_front.ensures.rest)
    (All-drop counts 1 c.self.inside.replies.items c.self.invariant)
