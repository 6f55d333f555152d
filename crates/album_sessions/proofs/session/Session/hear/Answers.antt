use Rattle.album_sessions.proofs.GrantedLemmas.{session_later}
use Rattle.album_sessions.proofs.session.Session.hear.Goals as goal

pub invariant_of-self : goal.invariant_of-self
invariant_of-self g c =
    session_later g.J.ServiceNames.policy c.self.inside.policy c.self.inside.clock c.self.inside.channel
    c.hear-heard.new.self c.hear-heard.ensures.later c.self.invariant
