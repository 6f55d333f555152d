use Rattle.std.proofs.Common.{false, refl, subst, ap}
use Rattle.std.proofs.lemmas.Result.{IfOk-weaker}
use Rattle.album_client.specs.Transitions.{client_of}
use Rattle.album_client.specs.Terms.{Terms}
use Rattle.album_passes.specs.Cuts.{IsSound}
use Rattle.album_sessions.specs.Sessions.{SessionState}
use Rattle.album_sessions.proofs.ReadingLemmas.{plain_for, readable_first, reads_begin, shown_first, started_way}
use Rattle.album_sessions.proofs.session.Session.begin.Goals as goal
use Rattle.album_views.specs.Asks.{objects_of}
use Rattle.album_views.specs.ReadSets.{looker_of}

pub start-requires : goal.start-requires
start-requires g c = record {
  shown = shown_first g.J.ServiceNames.policy false c.args.principal.now c.args.ask.now c.args.self.now c.args.self.now c.client_step.result.terms
      (client_of c.client_step.result) c.self.inside.tag (objects_of c.args.ask.now) c.in_ok-transition.transition
      c.in_ok-transition.ensures.transition;
}

pub returns-clause-way : goal.returns-clause-way
returns-clause-way g c = λ session still.
    let policy = g.J.ServiceNames.policy in
    let now = c.args.self.now in
    let who = c.args.principal.now in
    let ask = c.args.ask.now in
    let transition = c.in_ok-transition.transition in
    let first = c.in_ok-transition.ensures.transition in
    let terms = c.client_step.result.terms in
    let client = client_of c.client_step.result in
    let tag = c.self.inside.tag in
    let taken = c.requires.taken in
    let sound = subst (λ (s : SessionState). IsSound s.cut) c.self.view_is c.is_sound.ensures in
    let parts = ap (λ (t : Terms). t.parts) c.client_step.ensures.terms in
    IfOk-weaker c.start.result _ _ (started_way policy who ask session false now c.start.new.self now.cut transition
    c.start.ensures.same refl (λ proper.
    reads_begin policy false who ask session now terms client tag (objects_of ask) transition first proper parts taken still sound
    (plain_for session.cut now.cut (looker_of policy who) ask who taken
    (readable_first policy false who ask session now terms client tag (objects_of ask) transition first proper)
    still.sound sound still.on.grown)))
    c.start.ensures.starts
