use Rattle.std.proofs.Common.{true, refl, subst}
use Rattle.album_passes.specs.Cuts.{IsSound}
use Rattle.album_sessions.specs.Sessions.{SessionState}
use Rattle.album_sessions.specs.Steps.{client_step_in, terms_in}
use Rattle.album_sessions.proofs.ReadingLemmas.{hint_for, readable_first, reads_begin, shown_first, started_way, still_self}
use Rattle.album_sessions.proofs.session.Session.begin_by_hint.Goals as goal
use Rattle.album_views.specs.ReadSets.{looker_of}

pub start-requires : goal.start-requires
start-requires g c =
    let policy = g.J.ServiceNames.policy in
    let now = c.args.self.now in
    let begun = c.in_ok-transition.ensures in
    record {
      shown = shown_first policy true c.args.principal.now c.args.ask.now now now (terms_in policy now) (client_step_in now) begun.tag begun.items
          c.in_ok-transition.transition begun.is;
    }

pub returns-in-Ok-clause-way : goal.returns-in-Ok-clause-way
returns-in-Ok-clause-way g c =
    let policy = g.J.ServiceNames.policy in
    let now = c.args.self.now in
    let who = c.args.principal.now in
    let ask = c.args.ask.now in
    let transition = c.in_ok-transition.transition in
    let begun = c.in_ok-transition.ensures in
    let sound = subst (λ (s : SessionState). IsSound s.cut) c.self.view_is c.is_sound.ensures in
    started_way policy who ask now true now c.start.new.self now.cut transition c.start.ensures.same refl
    (λ proper.
    reads_begin policy true who ask now now (terms_in policy now) (client_step_in now) begun.tag begun.items transition begun.is proper refl
    c.requires.taken (still_self now sound) sound
    (hint_for now.cut now.cut (looker_of policy who) ask who begun.items c.requires.taken begun.objects
    (readable_first policy true who ask now now (terms_in policy now) (client_step_in now) begun.tag begun.items transition begun.is proper) sound))
    c.in-Ok.started c.in-Ok.ensures.starts
