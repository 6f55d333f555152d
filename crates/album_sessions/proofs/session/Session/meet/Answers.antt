use Rattle.album_sessions.proofs.GrantedLemmas.{session_later}
use Rattle.album_sessions.proofs.session.Session.meet.Goals as goal

pub invariant_of-self : goal.invariant_of-self
invariant_of-self g c =
    session_later g.J.ServiceNames.policy c.self.inside.policy c.self.inside.clock c.self.inside.channel c.meet.new.self
    c.meet.ensures.one c.self.invariant

pub invariant_of-other : goal.invariant_of-other
invariant_of-other g c =
    session_later g.J.ServiceNames.policy c.other.inside.policy c.other.inside.clock c.other.inside.channel
    c.meet.new.other c.meet.ensures.other c.other.invariant
