use Rattle.std.proofs.Common.{sym, ◌∙◌}
use Rattle.std.proofs.lemmas.Result.{IfErr-weaker, on_ok_weaker}
use Rattle.album_lines.specs.Lines.{said}
use Rattle.album_replay.specs.Replay.{Unopened, BeingOpened, first_line, later_line, opened_by, opening_line_read}
use Rattle.album_replay.proofs.Standing.{blank_taken, opening_taken, opening_left, epoch_taken, epoch_left, over_taken}
use Rattle.album_replay.proofs.engine.stages.Stage.take.Goals as goal

-- a blank line
pub returns-then-is_blank-clause-ok : goal.returns-then-is_blank-clause-ok
returns-then-is_blank-clause-ok g c past =
    blank_taken c.args.self.now past (said c.args.line.now) _ (sym c.is_blank.ensures ∙ c.if-is_blank.true)

-- the opening's first line
pub returns-in-Unopened-clause-ok : goal.returns-in-Unopened-clause-ok
returns-in-Unopened-clause-ok g c =
    let line = said c.args.line.now in
    let is = sym c.is_blank.ensures ∙ c.if-is_blank.false in
    let says = opened_by first_line (opening_line_read line) in
    on_ok_weaker c.go_on.result
    (λ w past. rw c.in-Unopened.is (opening_taken Unopened line says (λ step h. h) is c.stage_after-next.result (c.stage_after-next.ensures says c.first_line.ensures)
    c.go_on.new.self _ _ c.go_on.ensures.stage w))
    c.go_on.ensures.ok

pub returns-in-Unopened-clause-fault : goal.returns-in-Unopened-clause-fault
returns-in-Unopened-clause-fault g c =
    let line = said c.args.line.now in
    let is = sym c.is_blank.ensures ∙ c.if-is_blank.false in
    let says = opened_by first_line (opening_line_read line) in
    IfErr-weaker c.go_on.result _ _
    (λ fault w past. rw c.in-Unopened.is (opening_left Unopened line says (λ step h. h) is c.stage_after-next.result (c.stage_after-next.ensures says c.first_line.ensures) fault _ _ w))
    c.go_on.ensures.fault

-- a later line of it
pub returns-in-BeingOpened-clause-ok : goal.returns-in-BeingOpened-clause-ok
returns-in-BeingOpened-clause-ok g c =
    let line = said c.args.line.now in
    let is = sym c.is_blank.ensures ∙ c.if-is_blank.false in
    let old = BeingOpened c.in-BeingOpened.header c.in-BeingOpened.values in
    let goes_on = rw (c.take_out-header.ensures, c.replace-values.ensures.value) at c.later_line.ensures in
    let says = opened_by (later_line c.in-BeingOpened.header c.in-BeingOpened.values) (opening_line_read line) in
    on_ok_weaker c.go_on-in-BeingOpened.result
    (λ w past. rw c.in-BeingOpened.is (opening_taken old line says (λ step h. h) is c.stage_after-next-in-BeingOpened.result (c.stage_after-next-in-BeingOpened.ensures says goes_on)
    c.go_on-in-BeingOpened.new.self _ _ c.go_on-in-BeingOpened.ensures.stage w))
    c.go_on-in-BeingOpened.ensures.ok

pub returns-in-BeingOpened-clause-fault : goal.returns-in-BeingOpened-clause-fault
returns-in-BeingOpened-clause-fault g c =
    let line = said c.args.line.now in
    let is = sym c.is_blank.ensures ∙ c.if-is_blank.false in
    let old = BeingOpened c.in-BeingOpened.header c.in-BeingOpened.values in
    let goes_on = rw (c.take_out-header.ensures, c.replace-values.ensures.value) at c.later_line.ensures in
    let says = opened_by (later_line c.in-BeingOpened.header c.in-BeingOpened.values) (opening_line_read line) in
    IfErr-weaker c.go_on-in-BeingOpened.result _ _
    (λ fault w past. rw c.in-BeingOpened.is (opening_left old line says (λ step h. h) is c.stage_after-next-in-BeingOpened.result (c.stage_after-next-in-BeingOpened.ensures says goes_on) fault _ _ w))
    c.go_on-in-BeingOpened.ensures.fault

-- a line of an epoch
pub returns-in-Running-clause-ok : goal.returns-in-Running-clause-ok
returns-in-Running-clause-ok g c =
    let is = sym c.is_blank.ensures ∙ c.if-is_blank.false in
    on_ok_weaker c.take.result
    (λ w past. rw c.in-Running.is (epoch_taken c.in-Running.epoch past (said c.args.line.now) is c.take.new.self _ _ (w past)))
    c.take.ensures.ok

pub returns-in-Running-clause-fault : goal.returns-in-Running-clause-fault
returns-in-Running-clause-fault g c =
    let is = sym c.is_blank.ensures ∙ c.if-is_blank.false in
    IfErr-weaker c.take.result _ _
    (λ fault w past. rw c.in-Running.is (epoch_left c.in-Running.epoch past (said c.args.line.now) is fault _ _ (w past)))
    c.take.ensures.fault

-- the opening was refused
pub returns-in-Over-clause-ok : goal.returns-in-Over-clause-ok
returns-in-Over-clause-ok g c past =
    rw c.in-Over.is (over_taken past (said c.args.line.now) _ (sym c.is_blank.ensures ∙ c.if-is_blank.false))
