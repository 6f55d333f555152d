use Rattle.std.proofs.Common.{Some, sym, subst, ◌∙◌}
use Rattle.album_grounds.specs.Granted.{IsGrantedFor}
use Rattle.album_grounds.specs.Writes.{announcement_of}
use Rattle.album_passes.specs.Changes.{announced_cut}
use Rattle.album_sessions.specs.Sending.{IsReached}
use Rattle.album_sessions.specs.Sessions.{SessionState}
use Rattle.album_sessions.proofs.GrantedLemmas.{session_announced}
use Rattle.album_sessions.proofs.session.Session.announce_write.Goals as goal

pub invariant_of-self : goal.invariant_of-self
invariant_of-self g c =
    let announcement = announcement_of c.args._writing.now in
    session_announced g.J.ServiceNames.policy c.self.inside.policy c.self.inside.clock c.self.inside.channel
    c.announce.new.self (Some announcement)
    (c.announce.ensures.cut ∙ (λ i. announced_cut c.self.inside.channel.cut (c.requires.stamp i) (c.requires.announced i)))
    c.announce.ensures.client c.announce.ensures.grown
    (subst (λ (s : SessionState). IsGrantedFor g.J.ServiceNames.policy s.cut (Some announcement)) (sym c.self.view_is)
    c.requires.free.granted)
    (subst (λ (s : SessionState). IsReached s.counter (Some announcement)) (sym c.self.view_is) c.requires.free.reached)
    c.self.invariant
