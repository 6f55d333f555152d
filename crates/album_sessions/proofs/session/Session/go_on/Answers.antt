use Rattle.std.proofs.Common.{All, List, sym, subst, ◌∙◌}
use Rattle.std.proofs.lemmas.Bool.{and_parts}
use Rattle.album_calls.specs.declared.messages.Message.{Message}
use Rattle.album_client.specs.declared.clients.Phase.{Phase}
use Rattle.album_keepers.specs.Envelopes.{Shows}
use Rattle.album_sessions.specs.Phases.{IsUnderWay}
use Rattle.album_channels.specs.Sending.{sent_at, sent_last}
use Rattle.album_sessions.specs.Sending.{announced_by, IsFree, IsAnnouncedBy}
use Rattle.album_passes.specs.Cuts.{IsSound}
use Rattle.album_sessions.specs.Sessions.{SessionState, AddsNothing}
use Rattle.album_sessions.specs.Steps.{client_step_in, terms_in, IsReaction}
use Rattle.album_sessions.proofs.ClockLemmas.{moved_clock}
use Rattle.album_sessions.proofs.SessionLemmas.{on_trans}
use Rattle.album_sessions.proofs.TransitionLemmas.{told_rests, free_of, shown_of, goes_of}
use Rattle.album_sessions.proofs.HintLemmas.{asked_readable, given_led, tried_so, view_by}
use Rattle.album_sessions.proofs.StepLemmas.{on_moved, led_on, on_announced, on_refusal, all_led, unbegun_cut, unbegun_noted, unbegun_sent}
use Rattle.album_sessions.proofs.session.Session.go_on.Goals as goal

-- no word comes
pub returns-in-Err-clause-way : goal.returns-in-Err-clause-way
returns-in-Err-clause-way g c = λ outset by w.
    given_led g.J.ServiceNames.policy outset g.J.DeskNames.terms.limit w.before c.args.self.now c.args.asked.begun.cut
    c.args.asked.sent c.args.phase c.in-Err.why c.given_up.result w.way w.heard c.in-Err.ensures.refused c.stamp-stamp.result
    c.stamp-stamp.ensures c.args.course.now.hinted c.is_reading-reads.result c.tries-tries.result c.is_reading-reads.ensures.reads
    c.tries-tries.ensures c.given_up.ensures.tried c.given_up.ensures.overtaken c.given_up.ensures.begun c.given_up.ensures.before

pub returns-in-Err-clause-unbegun : goal.returns-in-Err-clause-unbegun
returns-in-Err-clause-unbegun g c = λ outset by w.
    unbegun_cut g.J.DeskNames.terms.limit g.J.ServiceNames.policy outset w.before c.args.self.now c.args.asked.begun.cut c.args.asked.sent c.args.phase
    c.given_up.result w.way w.heard c.stamp-stamp.result c.stamp-stamp.ensures c.given_up.ensures.unbegun

-- the hint was in vain
pub returns-then-is_in_vain-clause-way : goal.returns-then-is_in_vain-clause-way
returns-then-is_in_vain-clause-way g c = λ outset by w.
    let parts = and_parts _ _ (sym c.is_in_vain.ensures ∙ c.if-is_in_vain.true) in
    let both = and_parts _ _ (sym c.tries-tries.ensures ∙ parts.0) in
    tried_so g.J.ServiceNames.policy outset w.before c.args.self.now c.args.asked.begun.cut c.args.asked.sent c.args.phase w.way w.heard
    (sym c.is_reading-reads.ensures.reads ∙ both.1)

-- what was asked can be asked for again
pub remember-requires : goal.remember-requires
remember-requires g c = record {
  readable = λ reads. let w = c.requires.way.2 in
      asked_readable g.J.ServiceNames.policy c.requires.way.0 w.before c.args.asked.begun.cut c.args.asked.sent c.args.phase w.way
      (sym c.is_reading-reads.ensures.reads ∙ reads);
}

-- a reply comes, and the client's clock goes no way back
pub take_over-requires : goal.take_over-requires
take_over-requires g c =
    let t = c.in-Ok.ensures.taken in
    let transition = moved_clock (terms_in g.J.ServiceNames.policy c.args.self.now) (client_step_in c.args.self.now) t.reply c.args.phase c.in-Ok.transition t.is in
    record { own = transition.0; risen = transition.1 }

-- there is no memory for what is noted of it
pub returns-in_err-answer-clause-unbegun : goal.returns-in_err-answer-clause-unbegun
returns-in_err-answer-clause-unbegun g c = λ outset by w.
    on_refusal c.from_residual.result (AddsNothing outset.session c.take_over.new.self)
    (unbegun_noted g.J.DeskNames.terms.limit g.J.ServiceNames.policy outset w.before c.args.self.now c.take_over.new.self c.args.asked.begun.cut
    c.args.asked.sent c.args.phase c.in-Ok.transition w.way w.heard c.in_err-answer.ensures.kept c.in-Ok.ensures.taken c.in_err-answer.ensures.noted)

-- it answers the ask
pub returns-in-Answers-clause-way : goal.returns-in-Answers-clause-way
returns-in-Answers-clause-way g c = λ outset by w.
    let o = c.in_ok-answer.ensures in
    let turned = subst (IsReaction c.in-Ok.transition.client.phase c.in-Ok.transition.sent.items c.in-Ok.transition.answer) c.in-Answers.is o.reaction in
    told_rests g.J.DeskNames.terms.limit g.J.ServiceNames.policy outset c.take_over.new.self c.args.asked.begun.cut c.args.asked.sent c.in-Ok.transition
    c.in-Answers.answer turned
    (led_on g.J.DeskNames.terms.limit g.J.ServiceNames.policy outset w.before c.args.self.now c.take_over.new.self c.args.asked.begun.cut
    c.args.asked.sent c.args.phase c.in-Ok.transition w.heard c.in-Ok.ensures.taken c.take_over.ensures.client c.take_over.ensures.cut o.counter
    w.way c.in-Ok.ensures.proper o.shared o.spent
    (view_by outset c.args.course.now.hinted c.is_reading-reads.result c.tries-tries.result c.is_in_vain.result c.args.phase
    c.in-Ok.transition by c.is_reading-reads.ensures.reads c.tries-tries.ensures c.is_in_vain.ensures c.if-is_in_vain.false))

pub returns-in-Answers-clause-on : goal.returns-in-Answers-clause-on
returns-in-Answers-clause-on g c =
    let o = c.in_ok-answer.ensures in
    on_moved g.J.DeskNames.terms.limit g.J.ServiceNames.policy c.args.self.now c.take_over.new.self c.args.asked.begun.cut c.args.asked.sent
    c.args.phase c.in-Ok.transition c.in-Ok.ensures.taken c.take_over.ensures.client c.take_over.ensures.cut o.counter
    (subst (λ (s : SessionState). IsSound s.cut) c.self.view_is c.is_sound.ensures)

-- it continues
pub send-requires : goal.send-requires
send-requires g c =
    let w = c.requires.way.2 in
    let o = c.in_ok-answer.ensures in
    let turned = subst (IsReaction c.in-Ok.transition.client.phase c.in-Ok.transition.sent.items c.in-Ok.transition.answer) c.in-Sends.is o.reaction in
    let led = led_on g.J.DeskNames.terms.limit g.J.ServiceNames.policy c.requires.way.0 w.before c.args.self.now c.take_over.new.self c.args.asked.begun.cut
    c.args.asked.sent c.args.phase c.in-Ok.transition w.heard c.in-Ok.ensures.taken c.take_over.ensures.client c.take_over.ensures.cut o.counter
    w.way c.in-Ok.ensures.proper o.shared o.spent
    (view_by c.requires.way.0 c.args.course.now.hinted c.is_reading-reads.result c.tries-tries.result c.is_in_vain.result c.args.phase
    c.in-Ok.transition c.requires.way.1 c.is_reading-reads.ensures.reads c.tries-tries.ensures c.is_in_vain.ensures c.if-is_in_vain.false) in
    record {
      free = subst (λ (z : List Message × Phase). IsFree g.J.ServiceNames.policy c.take_over.new.self z.0 z.1) (λ i. (sym turned.2 i, sym turned.1 i))
          (free_of g.J.DeskNames.terms.limit g.J.ServiceNames.policy c.requires.way.0 c.take_over.new.self c.args.asked.begun.cut c.args.asked.sent c.in-Ok.transition turned.0 led);
      shown = subst (λ (z : List Message × Phase). All (Shows (announced_by c.take_over.new.self.cut z.0 z.1)) z.0) (λ i. (sym turned.2 i, sym turned.1 i))
          (shown_of g.J.DeskNames.terms.limit g.J.ServiceNames.policy c.requires.way.0 c.take_over.new.self c.args.asked.begun.cut c.args.asked.sent c.in-Ok.transition turned.0 led);
    }

pub returns-in-Sends-clause-way : goal.returns-in-Sends-clause-way
returns-in-Sends-clause-way g c = λ outset by w.
    let o = c.in_ok-answer.ensures in
    let turned = subst (IsReaction c.in-Ok.transition.client.phase c.in-Ok.transition.sent.items c.in-Ok.transition.answer) c.in-Sends.is o.reaction in
    let led = led_on g.J.DeskNames.terms.limit g.J.ServiceNames.policy outset w.before c.args.self.now c.take_over.new.self c.args.asked.begun.cut
    c.args.asked.sent c.args.phase c.in-Ok.transition w.heard c.in-Ok.ensures.taken c.take_over.ensures.client c.take_over.ensures.cut o.counter
    w.way c.in-Ok.ensures.proper o.shared o.spent
    (view_by outset c.args.course.now.hinted c.is_reading-reads.result c.tries-tries.result c.is_in_vain.result c.args.phase
    c.in-Ok.transition by c.is_reading-reads.ensures.reads c.tries-tries.ensures c.is_in_vain.ensures c.if-is_in_vain.false) in
    let goes = goes_of g.J.DeskNames.terms.limit g.J.ServiceNames.policy outset c.take_over.new.self c.args.asked.begun.cut c.args.asked.sent c.in-Ok.transition turned.0 led
    c.send.new.self (subst (λ (z : List Message × Phase). IsAnnouncedBy c.take_over.new.self c.send.new.self z.0 z.1) (λ i. (turned.2 i, turned.1 i)) c.send.ensures.announced) in
    all_led g.J.DeskNames.terms.limit g.J.ServiceNames.policy outset c.args.asked c.in-Sends.phase c.in-Sends.sent.items c.send.new.self
    (subst (λ (z : List Message × Phase). IsUnderWay g.J.ServiceNames.policy outset c.send.new.self (sent_at c.args.asked.begun.cut c.send.new.self.cut z.0)
    (sent_last c.args.asked.sent z.0) z.1) (λ i. (sym turned.2 i, sym turned.1 i)) goes)
    c.send.result c.send.ensures.way

pub returns-in-Sends-clause-on : goal.returns-in-Sends-clause-on
returns-in-Sends-clause-on g c =
    let o = c.in_ok-answer.ensures in
    on_trans c.args.self.now c.take_over.new.self c.send.new.self
    (on_moved g.J.DeskNames.terms.limit g.J.ServiceNames.policy c.args.self.now c.take_over.new.self c.args.asked.begun.cut c.args.asked.sent
    c.args.phase c.in-Ok.transition c.in-Ok.ensures.taken c.take_over.ensures.client c.take_over.ensures.cut o.counter
    (subst (λ (s : SessionState). IsSound s.cut) c.self.view_is c.is_sound.ensures))
    (on_announced c.take_over.new.self c.send.new.self c.in-Sends.sent.items c.in-Sends.phase c.send.ensures.announced)

pub returns-in-Sends-clause-unbegun : goal.returns-in-Sends-clause-unbegun
returns-in-Sends-clause-unbegun g c = λ outset by w.
    let o = c.in_ok-answer.ensures in
    let turned = subst (IsReaction c.in-Ok.transition.client.phase c.in-Ok.transition.sent.items c.in-Ok.transition.answer) c.in-Sends.is o.reaction in
    let led = led_on g.J.DeskNames.terms.limit g.J.ServiceNames.policy outset w.before c.args.self.now c.take_over.new.self c.args.asked.begun.cut
    c.args.asked.sent c.args.phase c.in-Ok.transition w.heard c.in-Ok.ensures.taken c.take_over.ensures.client c.take_over.ensures.cut o.counter
    w.way c.in-Ok.ensures.proper o.shared o.spent
    (view_by outset c.args.course.now.hinted c.is_reading-reads.result c.tries-tries.result c.is_in_vain.result c.args.phase
    c.in-Ok.transition by c.is_reading-reads.ensures.reads c.tries-tries.ensures c.is_in_vain.ensures c.if-is_in_vain.false) in
    let goes = goes_of g.J.DeskNames.terms.limit g.J.ServiceNames.policy outset c.take_over.new.self c.args.asked.begun.cut c.args.asked.sent c.in-Ok.transition turned.0 led
    c.send.new.self (subst (λ (z : List Message × Phase). IsAnnouncedBy c.take_over.new.self c.send.new.self z.0 z.1) (λ i. (turned.2 i, turned.1 i)) c.send.ensures.announced) in
    unbegun_sent g.J.DeskNames.terms.limit g.J.ServiceNames.policy outset c.send.new.self
    (sent_at c.args.asked.begun.cut c.send.new.self.cut c.in-Sends.sent.items) (sent_last c.args.asked.sent c.in-Sends.sent.items) c.in-Sends.phase c.send.result
    (subst (λ (z : List Message × Phase). IsUnderWay g.J.ServiceNames.policy outset c.send.new.self (sent_at c.args.asked.begun.cut c.send.new.self.cut z.0)
    (sent_last c.args.asked.sent z.0) z.1) (λ i. (sym turned.2 i, sym turned.1 i)) goes)
    c.send.ensures.unbegun
