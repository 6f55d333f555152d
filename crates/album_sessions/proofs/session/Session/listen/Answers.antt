use Rattle.album_sessions.proofs.GrantedLemmas.{session_later}
use Rattle.album_sessions.proofs.InOrderLemmas.{still_later}
use Rattle.album_sessions.proofs.session.Session.listen.Goals as goal

pub invariant_of-self : goal.invariant_of-self
invariant_of-self g c =
    session_later g.J.ServiceNames.policy c.self.inside.policy c.self.inside.clock c.self.inside.channel c.listen.new.self
    c.listen.ensures.later c.self.invariant

pub returns-clause-still : goal.returns-clause-still
returns-clause-still g c =
    still_later c.args.self.now c.self.inside.channel c.listen.new.self c.self.inside.clock.counter c.self.inside.share
    c.self.view_is c.listen.ensures.later c.is_sound.ensures c.listen.ensures.sound
