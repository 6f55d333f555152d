use Rattle.std.proofs.Common.{◌≡◌, ◌<◌, length, get_or, rules}
use Rattle.std.proofs.lemmas.List.{take_all}
use Rattle.album_world.proofs.AnsweredLemmas.{answers_are_to_requests}
use Rattle.album_world.proofs.UpdateLemmas.{no_update_is_lost}
use Rattle.album_world.proofs.PromiseLemmas.{rulings_hold, writes_are_granted, views_are_read_atomic, views_are_fresh, outcomes_are_true, busy_has_its_cause}
use Rattle.album_world.proofs.StoryLemmas.{next_stepped, run_extended}
use Rattle.album_world.proofs.world.World.run.Goals as goal

-- one event more
pub loop-event-preserved : goal.loop-event-preserved
loop-event-preserved c =
    let i = c.loop-event.invariant in
    let within : c.loop-event.event-index < length c.args.events.now = search rules in
    let at : c.event-item.result ≡ get_or c.args.events.now c.loop-event.event-index c.event-item.result = search rules in
    let steps = next_stepped (λ outs. outs.items) c.args.self.now.terms c.args.self.now.kept c.loop-event.self c.step.new.self
    c.args.events.now c.loop-event.event-index c.event-item.result c.loop-event.results.items c.step.result
    within at i.terms i.steps c.step.ensures.done c.step.ensures.refused c.step.ensures.memory c.step.ensures.unchanged in
    search (rules, steps)

-- all events
pub returns-clause-extended : goal.returns-clause-extended
returns-clause-extended c =
    let i = c.loop-event.invariant in
    let all = take_all c.loop-event.event-index c.args.events.now c.loop-event-test.false in
    run_extended (λ outs. outs.items) c.args.self.now c.loop-event.self c.args.events.now c.loop-event.results.items
    i.terms (rw all at i.steps)

pub returns-in_err-results-clause-rulings_hold : goal.returns-in_err-results-clause-rulings_hold
returns-in_err-results-clause-rulings_hold c = λ opening events behind. rulings_hold opening events behind.passes

pub returns-clause-rulings_hold : goal.returns-clause-rulings_hold
returns-clause-rulings_hold c = λ opening events behind. rulings_hold opening events behind.passes

pub returns-in_err-results-clause-writes_are_granted : goal.returns-in_err-results-clause-writes_are_granted
returns-in_err-results-clause-writes_are_granted c = λ opening events behind. writes_are_granted opening events behind.passes

pub returns-clause-writes_are_granted : goal.returns-clause-writes_are_granted
returns-clause-writes_are_granted c = λ opening events behind. writes_are_granted opening events behind.passes

pub returns-in_err-results-clause-views_are_read_atomic : goal.returns-in_err-results-clause-views_are_read_atomic
returns-in_err-results-clause-views_are_read_atomic c = λ opening events behind. views_are_read_atomic opening events behind.passes

pub returns-clause-views_are_read_atomic : goal.returns-clause-views_are_read_atomic
returns-clause-views_are_read_atomic c = λ opening events behind. views_are_read_atomic opening events behind.passes

pub returns-in_err-results-clause-views_are_fresh : goal.returns-in_err-results-clause-views_are_fresh
returns-in_err-results-clause-views_are_fresh c = λ opening events behind. views_are_fresh opening events behind.passes

pub returns-clause-views_are_fresh : goal.returns-clause-views_are_fresh
returns-clause-views_are_fresh c = λ opening events behind. views_are_fresh opening events behind.passes

pub returns-in_err-results-clause-outcomes_are_true : goal.returns-in_err-results-clause-outcomes_are_true
returns-in_err-results-clause-outcomes_are_true c = λ opening events behind. outcomes_are_true opening events behind.passes

pub returns-clause-outcomes_are_true : goal.returns-clause-outcomes_are_true
returns-clause-outcomes_are_true c = λ opening events behind. outcomes_are_true opening events behind.passes

pub returns-in_err-results-clause-no_update_is_lost : goal.returns-in_err-results-clause-no_update_is_lost
returns-in_err-results-clause-no_update_is_lost c = λ opening events behind. no_update_is_lost opening events behind.passes

pub returns-clause-no_update_is_lost : goal.returns-clause-no_update_is_lost
returns-clause-no_update_is_lost c = λ opening events behind. no_update_is_lost opening events behind.passes

pub returns-in_err-results-clause-busy_has_its_cause : goal.returns-in_err-results-clause-busy_has_its_cause
returns-in_err-results-clause-busy_has_its_cause c = λ opening events behind. busy_has_its_cause opening events behind.passes

pub returns-clause-busy_has_its_cause : goal.returns-clause-busy_has_its_cause
returns-clause-busy_has_its_cause c = λ opening events behind. busy_has_its_cause opening events behind.passes

pub returns-in_err-results-clause-answers_are_to_requests : goal.returns-in_err-results-clause-answers_are_to_requests
returns-in_err-results-clause-answers_are_to_requests c = λ opening events behind. answers_are_to_requests opening events behind.passes

pub returns-clause-answers_are_to_requests : goal.returns-clause-answers_are_to_requests
returns-clause-answers_are_to_requests c = λ opening events behind. answers_are_to_requests opening events behind.passes
