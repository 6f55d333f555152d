use Rattle.std.proofs.Common.{sym, ◌∙◌}
use Rattle.album_reader.specs.contracts.round.Round.{the_view}
use Rattle.album_reader.proofs.Ends.{end-fresh}
use Rattle.album_reader.proofs.round.Round.is_completed_by.Goals as goal

-- the version is of an item whose answer was lacking
pub are_there_but-requires : goal.are_there_but-requires
are_there_but-requires c =
    let fresh = rw (← c.self.view_is) at c.in-Some.ensures in
    fresh.inside

pub returns-in-Some : goal.returns-in-Some
returns-in-Some c =
    let fresh = rw (← c.self.view_is) at c.in-Some.ensures in
    let lasts = rw (← c.self.view_is) at c.requires in
    rw (← c.self.view_is) (
    c.are_there_but.ensures
    ∙ sym (end-fresh (the_view c.self.inside) c.args.message.now c.in-Some.fresh lasts fresh)
    )
