use Rattle.std.proofs.Common.{sym, ap, ◌∙◌}
use Rattle.album_keepers.specs.Held.{OutgoingState}
use Rattle.album_keepers.proofs.HeldLemmas.{entry_added, held_added}
use Rattle.album_keepers.proofs.held.Outgoing.add_held.Goals as goal

pub invariant_of-self : goal.invariant_of-self
invariant_of-self g c = λ logged.
    entry_added _ c.self.inside.entries.items c.push.new.self.items c.args.entry c.self.inside.replies.items
    (c.self.invariant logged) c.push.ensures.items

pub invariant_of-self-in_err-push_back : goal.invariant_of-self-in_err-push_back
invariant_of-self-in_err-push_back g c = λ logged.
    held_added _ c.self.inside.entries.items c.push.new.self.items c.args.entry c.self.inside.replies.items c.push_back.new.self.items
    c.args.reply (c.self.invariant logged) c.in_ok-push.ensures.items
    (c.requires (ap (λ (o : OutgoingState). o.logged) (sym c.self.view_is) ∙ logged)) c.push_back.ensures.items

pub invariant_of-self-2 : goal.invariant_of-self-2
invariant_of-self-2 g c = λ logged.
    held_added _ c.self.inside.entries.items c.push.new.self.items c.args.entry c.self.inside.replies.items c.push_back.new.self.items
    c.args.reply (c.self.invariant logged) c.in_ok-push.ensures.items
    (c.requires (ap (λ (o : OutgoingState). o.logged) (sym c.self.view_is) ∙ logged)) c.push_back.ensures.items
