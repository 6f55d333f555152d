use Rattle.std.proofs.Common.{sym, ◌∙◌}
use Rattle.std.proofs.lemmas.Result.{IfErr-weaker, on_ok_weaker}
use Rattle.std.proofs.KnownBytes.{Appends-nil}
use Rattle.album_replay.specs.Replay.{text_in, showing}
use Rattle.album_replay.proofs.Happening.{event_written, event_left, done_written, outputs_in, refusal_in, nothing_in}
use Rattle.album_replay.proofs.engine.events.run_event.Goals as goal

-- it is done, and its outputs are written
pub returns-in-Ok-clause-ok : goal.returns-in-Ok-clause-ok
returns-in-Ok-clause-ok g c =
    on_ok_weaker c.write_outputs.result
    (λ w past. event_written (text_in c.args.in_range) c.args.world.now.terms (showing c.args.trace c.args.stamps.now) c.args.event.now c.args.world.now c.step.new.self past _
    (done_written (text_in c.args.in_range) (outputs_in c.args.in_range) c.args.world.now.terms (showing c.args.trace c.args.stamps.now) c.args.world.now c.step.new.self c.args.event.now c.in-Ok.outs.items past c.in-Ok.ensures.done)
    _ _ w)
    (rw c.deref.ensures.value at c.write_outputs.ensures.ok)

pub returns-in-Ok-clause-fault : goal.returns-in-Ok-clause-fault
returns-in-Ok-clause-fault g c =
    IfErr-weaker c.write_outputs.result _ _
    (λ fault w past. event_left (text_in c.args.in_range) c.args.world.now.terms (showing c.args.trace c.args.stamps.now) c.args.event.now c.args.world.now c.step.new.self past _
    (done_written (text_in c.args.in_range) (outputs_in c.args.in_range) c.args.world.now.terms (showing c.args.trace c.args.stamps.now) c.args.world.now c.step.new.self c.args.event.now c.in-Ok.outs.items past c.in-Ok.ensures.done)
    fault _ _ w)
    (rw c.deref.ensures.value at c.write_outputs.ensures.fault)

-- it is refused, and that is written
pub returns-then-is_printed-clause-ok : goal.returns-then-is_printed-clause-ok
returns-then-is_printed-clause-ok g c =
    on_ok_weaker c.write_refused.result
    (λ w past. event_written (text_in c.args.in_range) c.args.world.now.terms (showing c.args.trace c.args.stamps.now) c.args.event.now c.args.world.now c.step.new.self past _
    (refusal_in c.args.in_range c.args.world.now.terms (showing c.args.trace c.args.stamps.now) c.args.world.now c.step.new.self c.args.event.now c.in-Err.refusal past (sym c.is_printed.ensures ∙ c.if-is_printed.true) c.in-Err.ensures.refused c.in-Err.ensures.unchanged)
    _ _ w)
    c.write_refused.ensures.ok

pub returns-then-is_printed-clause-fault : goal.returns-then-is_printed-clause-fault
returns-then-is_printed-clause-fault g c =
    IfErr-weaker c.write_refused.result _ _
    (λ fault w past. event_left (text_in c.args.in_range) c.args.world.now.terms (showing c.args.trace c.args.stamps.now) c.args.event.now c.args.world.now c.step.new.self past _
    (refusal_in c.args.in_range c.args.world.now.terms (showing c.args.trace c.args.stamps.now) c.args.world.now c.step.new.self c.args.event.now c.in-Err.refusal past (sym c.is_printed.ensures ∙ c.if-is_printed.true) c.in-Err.ensures.refused c.in-Err.ensures.unchanged)
    fault _ _ w)
    c.write_refused.ensures.fault

-- it is refused, and that is not written
pub returns-else-is_printed-clause-ok : goal.returns-else-is_printed-clause-ok
returns-else-is_printed-clause-ok g c past =
    event_written (text_in c.args.in_range) c.args.world.now.terms (showing c.args.trace c.args.stamps.now) c.args.event.now c.args.world.now c.step.new.self past _
    (nothing_in c.args.in_range c.args.world.now.terms (showing c.args.trace c.args.stamps.now) c.args.world.now c.step.new.self c.args.event.now c.in-Err.refusal past (sym c.is_printed.ensures ∙ c.if-is_printed.false) c.in-Err.ensures.refused c.in-Err.ensures.unchanged)
    _ _ (Appends-nil _)
