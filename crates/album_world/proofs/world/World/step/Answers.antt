use Rattle.album_world.proofs.AnsweredLemmas.{answers_are_to_requests}
use Rattle.album_world.proofs.UpdateLemmas.{no_update_is_lost}
use Rattle.album_world.proofs.PromiseLemmas.{rulings_hold, writes_are_granted, views_are_read_atomic, views_are_fresh, outcomes_are_true, busy_has_its_cause}
use Rattle.std.proofs.Common.{◌≡◌, ◌≢◌, Err, IfOk, IfErr, subst, rules}
use Rattle.album_stamps.specs.declared.refusals.Refusal.TheVariants.{OutOfMemory}
use Rattle.album_world.specs.Seen.{IsDone, WorldState}
use Rattle.album_world.specs.Changes.{change_of}
use Rattle.album_world.proofs.StoryLemmas.{reached_if, extended_if}
use Rattle.album_world.proofs.world.World.step.Goals as goal

-- the past is extended by the event, or stays
pub invariant_of-self : goal.invariant_of-self
invariant_of-self c =
    let old : WorldState = record { terms = c.self.inside.terms; kept = c.self.inside.state } in
    reached_if (λ outs. outs.items) old c.args.event.now c.step.new.self c.step.result c.step.ensures.done c.step.ensures.unchanged c.self.invariant

-- what the state says
pub returns-clause-done : goal.returns-clause-done
returns-clause-done c =
    let old : WorldState = record { terms = c.self.inside.terms; kept = c.self.inside.state } in
    let same : old ≡ c.args.self.now = search rules in
    subst (λ (w : WorldState). IfOk c.step.result (λ outs. IsDone w.terms w.kept c.args.event.now c.step.new.self outs.items)) same
    c.step.ensures.done

pub returns-clause-refused : goal.returns-clause-refused
returns-clause-refused c =
    let old : WorldState = record { terms = c.self.inside.terms; kept = c.self.inside.state } in
    let same : old ≡ c.args.self.now = search rules in
    subst (λ (w : WorldState). IfErr c.step.result (λ e. e ≢ OutOfMemory → change_of w.terms w.kept c.args.event.now ≡ Err e)) same
    c.step.ensures.refused

pub returns-clause-extended : goal.returns-clause-extended
returns-clause-extended c =
    let old : WorldState = record { terms = c.self.inside.terms; kept = c.self.inside.state } in
    let on = extended_if (λ outs. outs.items) old c.args.event.now c.step.new.self c.step.result c.step.ensures.done in
    search (rules, on)

pub returns-clause-rulings_hold : goal.returns-clause-rulings_hold
returns-clause-rulings_hold c = λ opening events behind. rulings_hold opening events behind.passes

pub returns-clause-writes_are_granted : goal.returns-clause-writes_are_granted
returns-clause-writes_are_granted c = λ opening events behind. writes_are_granted opening events behind.passes

pub returns-clause-views_are_read_atomic : goal.returns-clause-views_are_read_atomic
returns-clause-views_are_read_atomic c = λ opening events behind. views_are_read_atomic opening events behind.passes

pub returns-clause-views_are_fresh : goal.returns-clause-views_are_fresh
returns-clause-views_are_fresh c = λ opening events behind. views_are_fresh opening events behind.passes

pub returns-clause-outcomes_are_true : goal.returns-clause-outcomes_are_true
returns-clause-outcomes_are_true c = λ opening events behind. outcomes_are_true opening events behind.passes

pub returns-clause-no_update_is_lost : goal.returns-clause-no_update_is_lost
returns-clause-no_update_is_lost c = λ opening events behind. no_update_is_lost opening events behind.passes

pub returns-clause-busy_has_its_cause : goal.returns-clause-busy_has_its_cause
returns-clause-busy_has_its_cause c = λ opening events behind. busy_has_its_cause opening events behind.passes

pub returns-clause-answers_are_to_requests : goal.returns-clause-answers_are_to_requests
returns-clause-answers_are_to_requests c = λ opening events behind. answers_are_to_requests opening events behind.passes
