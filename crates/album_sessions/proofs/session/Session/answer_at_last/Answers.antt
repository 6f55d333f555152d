use Rattle.std.proofs.Common.{◌∙◌, sym, ap, subst, arith}
use Rattle.album_passes.specs.Cuts.{IsSound}
use Rattle.album_permits.specs.declared.answers.Answer.{Answer}
use Rattle.album_permits.specs.declared.answers.Answer.TheVariants as answer
use Rattle.album_sessions.specs.Sessions.{SessionState}
use Rattle.album_sessions.proofs.AttemptLemmas.{IsAttempted, attempted_first, attempted_again, attempted_refused, attempted_last}
use Rattle.album_sessions.proofs.SessionLemmas.{on_self, on_trans}
use Rattle.album_sessions.proofs.session.Session.answer_at_last.Goals as goal

-- there is one attempt
pub returns-then-not-checked-clause-rests : goal.returns-then-not-checked-clause-rests
returns-then-not-checked-clause-rests g c =
    let old = c.args.self.now in
    attempted_last g.J.DeskNames.terms.limit g.J.ServiceNames.policy c.args.principal.now c.args.ask.now old c.attempt.new.self c.in_ok-answer.answer 1 (omega arith)
    (attempted_first g.J.DeskNames.terms.limit g.J.ServiceNames.policy c.args.principal.now c.args.ask.now old c.attempt.new.self c.in_ok-answer.answer
    (on_self old (subst (λ (s : SessionState). IsSound s.cut) c.self.view_is c.is_sound.ensures)) c.attempt.ensures.on c.in_ok-answer.ensures.rests)

pub loop-made-init : goal.loop-made-init
loop-made-init g c =
    let old = c.args.self.now in
    record {
      attempted = attempted_first g.J.DeskNames.terms.limit g.J.ServiceNames.policy c.args.principal.now c.args.ask.now old c.attempt.new.self c.in_ok-answer.answer
          (on_self old (subst (λ (s : SessionState). IsSound s.cut) c.self.view_is c.is_sound.ensures)) c.attempt.ensures.on c.in_ok-answer.ensures.rests;
      checked = ap (λ (s : SessionState). s.cut.checked) (sym c.self-2.view_is) ∙ (sym c.checked.ensures ∙ c.if-not-checked.false);
      on = c.attempt.ensures.on;
    }

-- the write was aborted, and is attempted again
pub loop-made-preserved : goal.loop-made-preserved
loop-made-preserved g c =
    let old = c.args.self.now in
    let was = c.loop-made.invariant in
    record {
      attempted = attempted_again g.J.DeskNames.terms.limit g.J.ServiceNames.policy c.args.principal.now c.args.ask.now old c.loop-made.self c.attempt-in-loop-made.new.self
          c.in-Aborted.stamp c.in-Ok.next c.loop-made._made
          (subst (λ (a : Answer). IsAttempted g.J.DeskNames.terms.limit g.J.ServiceNames.policy c.args.principal.now c.args.ask.now old c.loop-made.self a c.loop-made._made) c.in-Aborted.is was.attempted)
          was.checked c.attempt-in-loop-made.ensures.on c.in-Ok.ensures.rests;
      checked = c.attempt-in-loop-made.ensures.on.grown.checked ∙ was.checked;
      on = on_trans old c.loop-made.self c.attempt-in-loop-made.new.self was.on c.attempt-in-loop-made.ensures.on;
    }

-- the answer is another one
pub returns-in_default : goal.returns-in_default
returns-in_default g c = record {
  rests = attempted_last g.J.DeskNames.terms.limit g.J.ServiceNames.policy c.args.principal.now c.args.ask.now c.args.self.now c.loop-made.self c.loop-made.answer
      c.loop-made._made (omega (arith, c.loop-made-test.true)) c.loop-made.invariant.attempted;
  refused = tt;
  unbegun = tt;
  on = c.loop-made.invariant.on;
}

-- the next attempt is refused
pub returns-in-Err-clause-rests : goal.returns-in-Err-clause-rests
returns-in-Err-clause-rests g c =
    let old = c.args.self.now in
    let was = c.loop-made.invariant in
    attempted_last g.J.DeskNames.terms.limit g.J.ServiceNames.policy c.args.principal.now c.args.ask.now old c.attempt-in-loop-made.new.self (answer.Aborted c.in-Aborted.stamp)
    c.loop-made._made (omega (arith, c.loop-made-test.true))
    (attempted_refused g.J.DeskNames.terms.limit g.J.ServiceNames.policy c.args.principal.now c.args.ask.now old c.loop-made.self c.attempt-in-loop-made.new.self
    c.in-Aborted.stamp c.loop-made._made
    (subst (λ (a : Answer). IsAttempted g.J.DeskNames.terms.limit g.J.ServiceNames.policy c.args.principal.now c.args.ask.now old c.loop-made.self a c.loop-made._made) c.in-Aborted.is was.attempted)
    (record { sound = was.on.sound; on = c.attempt-in-loop-made.ensures.on; adds = c.in-Err.ensures.unbegun }))

pub returns-in-Err-clause-on : goal.returns-in-Err-clause-on
returns-in-Err-clause-on g c =
    on_trans c.args.self.now c.loop-made.self c.attempt-in-loop-made.new.self c.loop-made.invariant.on c.attempt-in-loop-made.ensures.on

-- all attempts were made
pub returns-clause-rests : goal.returns-clause-rests
returns-clause-rests g c =
    attempted_last g.J.DeskNames.terms.limit g.J.ServiceNames.policy c.args.principal.now c.args.ask.now c.args.self.now c.loop-made.self c.loop-made.answer
    c.loop-made._made (omega (arith, c.loop-made.auto._made-end)) c.loop-made.invariant.attempted

pub returns-clause-on : goal.returns-clause-on
returns-clause-on g c = c.loop-made.invariant.on
