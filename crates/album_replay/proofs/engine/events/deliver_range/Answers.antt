use Rattle.std.proofs.Common.{◌∙◌, refl, arith}
use Rattle.std.proofs.lemmas.Result.{IfErr-weaker, err_from_is_err_and, on_ok_weaker}
use Rattle.album_replay.specs.Replay.{showing}
use Rattle.album_replay.proofs.Happening.{range_begins, range_empty, range_more, range_left, range_so_far, range_whole}
use Rattle.album_replay.proofs.engine.events.deliver_range.Goals as goal

-- the range has no number
pub returns-then-first-last-clause-ok : goal.returns-then-first-last-clause-ok
returns-then-first-last-clause-ok g c past =
    range_empty c.args.world.now.terms (showing c.args.trace c.args.stamps.now) c.args.first c.args.last c.args.world.now
    (g.W.Write.contents c.args.writer.now) past c.if-first-last.true

pub loop-number-init : goal.loop-number-init
loop-number-init g c = record {
  low = omega arith;
  high = c.if-first-last.false;
  terms = refl;
  led = λ o h. h;
  written = range_begins c.args.world.now.terms (showing c.args.trace c.args.stamps.now) c.args.first c.args.world.now (g.W.Write.contents c.args.writer.now);
}

pub loop-number-preserved : goal.loop-number-preserved
loop-number-preserved g c =
    let i = c.loop-number.invariant in
    record {
      low = omega (arith, i.low);
      high = omega (arith, c.loop-number-test.true);
      terms = c.in_ok-deliver.ensures.terms ∙ i.terms;
      led = λ o h. c.in_ok-deliver.ensures.led o (i.led o h);
      written =
          range_more c.args.world.now.terms c.loop-number.world.terms i.terms (showing c.args.trace c.args.stamps.now) c.args.first c.loop-number.number i.low
          c.args.world.now c.loop-number.world _ _ _ i.written c.deliver.new.world c.in_ok-deliver.ensures.ok;
    }

-- a delivery is not printed
pub returns-in_err-deliver-clause-fault : goal.returns-in_err-deliver-clause-fault
returns-in_err-deliver-clause-fault g c =
    let i = c.loop-number.invariant in
    let p = err_from_is_err_and c.from_residual.result c.from_residual.ensures.1 in
    rw (p.1, p.2)
    (range_left c.args.world.now.terms c.loop-number.world.terms i.terms (showing c.args.trace c.args.stamps.now) c.args.first c.loop-number.number i.low
    c.args.world.now c.loop-number.world _ _ _ i.written c.args.last c.in_err-deliver.field-0.0
    (omega (arith, c.loop-number-test.true)) c.in_err-deliver.ensures.fault)

pub returns-in_err-deliver-clause-terms : goal.returns-in_err-deliver-clause-terms
returns-in_err-deliver-clause-terms g c = c.in_err-deliver.ensures.terms ∙ c.loop-number.invariant.terms

-- then comes the last one
pub returns-clause-ok : goal.returns-clause-ok
returns-clause-ok g c =
    let i = c.loop-number.invariant in
    let written =
    range_so_far c.args.world.now.terms (showing c.args.trace c.args.stamps.now) c.args.first c.loop-number.number c.args.last i.high c.loop-number-test.false
    c.args.world.now c.loop-number.world _ _ i.written in
    on_ok_weaker c.deliver-2.result
    (λ w. range_whole c.args.world.now.terms c.loop-number.world.terms i.terms (showing c.args.trace c.args.stamps.now) c.args.first c.args.last
    c.if-first-last.false c.args.world.now c.loop-number.world _ _ _ written c.deliver-2.new.world w)
    c.deliver-2.ensures.ok

pub returns-clause-fault : goal.returns-clause-fault
returns-clause-fault g c =
    let i = c.loop-number.invariant in
    let written =
    range_so_far c.args.world.now.terms (showing c.args.trace c.args.stamps.now) c.args.first c.loop-number.number c.args.last i.high c.loop-number-test.false
    c.args.world.now c.loop-number.world _ _ i.written in
    IfErr-weaker c.deliver-2.result _ _
    (λ fault w. range_left c.args.world.now.terms c.loop-number.world.terms i.terms (showing c.args.trace c.args.stamps.now) c.args.first c.args.last
    c.if-first-last.false c.args.world.now c.loop-number.world _ _ _ written c.args.last fault (omega arith) w)
    c.deliver-2.ensures.fault

pub returns-clause-terms : goal.returns-clause-terms
returns-clause-terms g c = c.deliver-2.ensures.terms ∙ c.loop-number.invariant.terms

pub returns-in_err-deliver-clause-led : goal.returns-in_err-deliver-clause-led
returns-in_err-deliver-clause-led g c = λ o h. c.in_err-deliver.ensures.led o (c.loop-number.invariant.led o h)

pub returns-clause-led : goal.returns-clause-led
returns-clause-led g c = λ o h. c.deliver-2.ensures.led o (c.loop-number.invariant.led o h)
