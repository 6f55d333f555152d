use Rattle.std.proofs.Common.{sym, ap, ◌∙◌}
use Rattle.album_keepers.specs.Held.{OutgoingState}
use Rattle.album_keepers.proofs.HeldLemmas.{free_added}
use Rattle.album_keepers.proofs.held.Outgoing.add_free.Goals as goal

pub invariant_of-self : goal.invariant_of-self
invariant_of-self g c = λ logged.
    free_added _ c.self.inside.entries.items c.self.inside.replies.items c.push_back.new.self.items c.args.reply
    (c.self.invariant logged) (c.requires (ap (λ (o : OutgoingState). o.logged) (sym c.self.view_is) ∙ logged)) c.push_back.ensures.items

pub invariant_of-self-2 : goal.invariant_of-self-2
invariant_of-self-2 g c = λ logged.
    free_added _ c.self.inside.entries.items c.self.inside.replies.items c.push_back.new.self.items c.args.reply
    (c.self.invariant logged) (c.requires (ap (λ (o : OutgoingState). o.logged) (sym c.self.view_is) ∙ logged)) c.push_back.ensures.items
