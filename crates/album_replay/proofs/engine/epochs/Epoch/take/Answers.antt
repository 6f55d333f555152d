use Rattle.std.proofs.Common.{Ok, sym, ap, ◌∙◌}
use Rattle.std.proofs.lemmas.Result.{IfErr-weaker, on_ok_weaker}
use Rattle.album_world.specs.Past.{Past}
use Rattle.album_lines.specs.Lines.{said}
use Rattle.album_judge.specs.Writes.{Writes, LeavesOf}
use Rattle.album_replay.specs.Epochs.{EpochState, TakesLine, PrintsLine}
use Rattle.album_replay.specs.Replay.{read_in}
use Rattle.album_wire.specs.declared.event_shape.Spelled.TheVariants as spelled
use Rattle.album_replay.proofs.Standing.{spelled_taken, spelled_left, restart_taken, restart_left, refusal_taken, refusal_left}
use Rattle.album_replay.proofs.engine.epochs.Epoch.take.Goals as goal

-- an event by itself
pub returns-in-Ok-One-clause-ok : goal.returns-in-Ok-One-clause-ok
returns-in-Ok-One-clause-ok g c =
    on_ok_weaker c.run_one.result
    (λ w past. spelled_taken _ _ c.self.view_is c.self.invariant past _ (spelled.One c.in-Ok-One.event)
    (c.in-Ok-One.ensures ∙ ap Ok c.in-Ok-One.field-0-is) c.run_one.new.world _ _ (w past))
    c.run_one.ensures.ok

pub returns-in-Ok-One-clause-fault : goal.returns-in-Ok-One-clause-fault
returns-in-Ok-One-clause-fault g c =
    IfErr-weaker c.run_one.result _ _
    (λ fault w past. spelled_left _ _ c.self.view_is c.self.invariant past _ (spelled.One c.in-Ok-One.event)
    (c.in-Ok-One.ensures ∙ ap Ok c.in-Ok-One.field-0-is) fault _ _ (w past))
    c.run_one.ensures.fault

-- a range
pub returns-in-Ok-Range-clause-ok : goal.returns-in-Ok-Range-clause-ok
returns-in-Ok-Range-clause-ok g c =
    on_ok_weaker c.deliver_range.result
    (λ w past. spelled_taken _ _ c.self.view_is c.self.invariant past _ (spelled.Range c.in-Ok-Range.first c.in-Ok-Range.last)
    (c.in-Ok-Range.ensures ∙ ap Ok c.in-Ok-Range.field-0-is) c.deliver_range.new.world _ _ (w past))
    c.deliver_range.ensures.ok

pub returns-in-Ok-Range-clause-fault : goal.returns-in-Ok-Range-clause-fault
returns-in-Ok-Range-clause-fault g c =
    IfErr-weaker c.deliver_range.result _ _
    (λ fault w past. spelled_left _ _ c.self.view_is c.self.invariant past _ (spelled.Range c.in-Ok-Range.first c.in-Ok-Range.last)
    (c.in-Ok-Range.ensures ∙ ap Ok c.in-Ok-Range.field-0-is) fault _ _ (w past))
    c.deliver_range.ensures.fault

-- the line is refused
pub returns-in-Err-clause-ok : goal.returns-in-Err-clause-ok
returns-in-Err-clause-ok g c =
    on_ok_weaker c.write_refused.result
    (λ w past. refusal_taken _ _ c.self.view_is c.self.invariant past _ c.in-Err.refusal c.in-Err.ensures _ _ w)
    c.write_refused.ensures.ok

pub returns-in-Err-clause-fault : goal.returns-in-Err-clause-fault
returns-in-Err-clause-fault g c =
    IfErr-weaker c.write_refused.result _ _
    (λ fault w past. refusal_left _ _ c.self.view_is c.self.invariant past _ c.in-Err.refusal c.in-Err.ensures fault _ _ w)
    c.write_refused.ensures.fault

-- a restart
pub returns-in-Ok-Restart-clause-ok : goal.returns-in-Ok-Restart-clause-ok
returns-in-Ok-Restart-clause-ok g c =
    on_ok_weaker c.restart.result
    (λ w past. restart_taken c.args.self.now past (said c.args.line.now)
    (ap (λ (e : EpochState). read_in e.of (said c.args.line.now)) (sym c.self.view_is) ∙ c.in-Ok-Restart.ensures ∙ ap Ok c.in-Ok-Restart.field-0-is)
    c.restart.new.self _ _ (rw c.self.view_is at w))
    c.restart.ensures.ok

pub returns-in-Ok-Restart-clause-fault : goal.returns-in-Ok-Restart-clause-fault
returns-in-Ok-Restart-clause-fault g c =
    IfErr-weaker c.restart.result _ _
    (λ fault w past. restart_left c.args.self.now past (said c.args.line.now)
    (ap (λ (e : EpochState). read_in e.of (said c.args.line.now)) (sym c.self.view_is) ∙ c.in-Ok-Restart.ensures ∙ ap Ok c.in-Ok-Restart.field-0-is)
    fault _ _ (rw c.self.view_is at w))
    c.restart.ensures.fault
