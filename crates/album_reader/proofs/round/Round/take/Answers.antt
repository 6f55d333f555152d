use Rattle.std.proofs.Common.{◌≡◌, List, Option, None, ap, ◌∙◌, set}
use Rattle.std.proofs.lemmas.Result.{IfOk-weaker}
use Rattle.album_reader.specs.Answers.{ReadVersion}
use Rattle.album_reader.specs.contracts.round.Round.{the_view}
use Rattle.album_reader.proofs.Rounds.{set_back}
use Rattle.album_reader.proofs.Ends.{in_order-fresh, outcome-fresh, on_err_then}
use Rattle.album_reader.proofs.round.Round.take.Goals as goal

-- the answer is at its own item
pub end-last-requires-clause-in_order : goal.end-last-requires-clause-in_order
end-last-requires-clause-in_order c =
    let fresh = rw (c.in-Some.field-0-is, ← c.self.view_is) at c.in-Some.ensures in
    let lasts = rw (← c.self.view_is) at c.requires in
    rw (c.put.ensures, c.in_ok-answer.ensures)
    (in_order-fresh (the_view c.self.inside) c.args.message.now c.in-Some.field-0 lasts fresh)

-- memory ran out, and the answer is taken away again
pub returns-then-is_err-clause-unchanged : goal.returns-then-is_err-clause-unchanged
returns-then-is_err-clause-unchanged c =
    let fresh = rw (c.in-Some.field-0-is, ← c.self.view_is) at c.in-Some.ensures in
    let back : c.take_away.new.self ≡ c.self.inside.answers =
    c.take_away.ensures
    ∙ ap (λ (os : List (Option ReadVersion)). set os c.in-Some.field-0.index None) c.put.ensures
    ∙ set_back _ _ _ fresh.empty in
    rw back (on_err_then c.end-last.result c.self.view_is)

-- the round continues with the answer
pub returns-else-is_err-clause-step : goal.returns-else-is_err-clause-step
returns-else-is_err-clause-step c =
    let fresh = rw (c.in-Some.field-0-is, ← c.self.view_is) at c.in-Some.ensures in
    let lasts = rw (← c.self.view_is) at c.requires in
    let goes_on = outcome-fresh (the_view c.self.inside) c.args.message.now c.in-Some.field-0 lasts fresh in
    IfOk-weaker c.end-last.result _ _ (λ last e.
    e ∙ rw (c.put.ensures, c.in_ok-answer.ensures, ← c.self.view_is) goes_on) c.end-last.ensures
