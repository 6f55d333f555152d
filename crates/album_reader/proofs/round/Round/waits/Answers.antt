use Rattle.std.proofs.Common.{◌≡◌, false, not, sym, ap, ◌∙◌}
use Rattle.album_reader.specs.Rounds.{is_end, taken}
use Rattle.album_reader.specs.contracts.round.Round.{the_view}
use Rattle.album_reader.proofs.Ends.{end-fresh, waits-fresh}
use Rattle.album_reader.proofs.round.Round.waits.Goals as goal

-- it ends the round
pub returns-then-are_there_but-clause-test : goal.returns-then-are_there_but-clause-test
returns-then-are_there_but-clause-test c =
    let fresh = rw (c.in-Some.field-0-is, ← c.self.view_is) at c.in-Some.ensures in
    let lasts = rw (← c.self.view_is) at c.requires in
    let ends = end-fresh (the_view c.self.inside) c.args.message.now c.in-Some.field-0 lasts fresh in
    sym (ap not (rw (← c.self.view_is) ends ∙ sym c.if-are_there_but.ensures))

-- it doesn't
pub returns-clause-test : goal.returns-clause-test
returns-clause-test c =
    let fresh = rw (c.in-Some.field-0-is, ← c.self.view_is) at c.in-Some.ensures in
    let lasts = rw (← c.self.view_is) at c.requires in
    let ends = end-fresh (the_view c.self.inside) c.args.message.now c.in-Some.field-0 lasts fresh in
    sym (ap not (rw (← c.self.view_is) ends ∙ sym c.if-are_there_but.ensures))

pub returns-clause-step : goal.returns-clause-step
returns-clause-step c = λ _.
    let fresh = rw (c.in-Some.field-0-is, ← c.self.view_is) at c.in-Some.ensures in
    let lasts = rw (← c.self.view_is) at c.requires in
    let ends = end-fresh (the_view c.self.inside) c.args.message.now c.in-Some.field-0 lasts fresh in
    let goes : is_end (taken (the_view c.self.inside) c.args.message.now) ≡ false = ends ∙ sym c.if-are_there_but.ensures in
    rw (c.put.ensures, c.in_ok-answer.ensures, ← c.self.view_is)
    (waits-fresh (the_view c.self.inside) c.args.message.now c.in-Some.field-0 lasts fresh goes)
