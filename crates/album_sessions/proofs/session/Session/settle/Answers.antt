use Rattle.std.proofs.Common.{subst}
use Rattle.album_passes.specs.Cuts.{IsSound}
use Rattle.album_sessions.specs.Sessions.{SessionState}
use Rattle.album_sessions.proofs.ReadingLemmas.{still_self}
use Rattle.album_sessions.proofs.session.Session.settle.Goals as goal

pub loop-part-init : goal.loop-part-init
loop-part-init g c = λ session still. still

pub loop-part-preserved : goal.loop-part-preserved
loop-part-preserved g c = λ session still. c.settle_at.ensures session (c.loop-part.invariant session still)

pub returns : goal.returns
returns g c =
    c.loop-part.invariant c.args.self.now
    (still_self c.args.self.now (subst (λ (s : SessionState). IsSound s.cut) c.self.view_is c.is_sound.ensures))
