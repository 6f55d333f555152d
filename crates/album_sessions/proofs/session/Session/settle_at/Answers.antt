use Rattle.album_sessions.proofs.AttemptLemmas.{still_on}
use Rattle.album_sessions.proofs.session.Session.settle_at.Goals as goal

pub returns : goal.returns
returns g c = λ session still.
    still_on session c.args.self.now c.sweep.new.self still c.sweep.ensures.grown c.sweep.ensures.sound c.sweep.ensures.client c.sweep.ensures.adds
