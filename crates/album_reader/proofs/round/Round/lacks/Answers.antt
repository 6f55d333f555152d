use Rattle.std.proofs.Common.{not, sym, ap, ◌∙◌}
use Rattle.album_reader.specs.contracts.round.Round.{the_view}
use Rattle.album_reader.proofs.Rounds.{index-inside, lacks-absent, lacks-is}
use Rattle.album_reader.proofs.round.Round.lacks.Goals as goal

pub has-requires : goal.has-requires
has-requires c =
    let lasts = rw (← c.self.view_is) at c.requires in
    index-inside (the_view c.self.inside) c.args.item c.in-Some.index lasts
    (rw c.as_slice.ensures at (sym c.in-Some.ensures))

-- an item that was not asked
pub returns-in-None : goal.returns-in-None
returns-in-None c =
    rw (← c.self.view_is) (
    sym (lacks-absent (the_view c.self.inside) c.args.item (rw c.as_slice.ensures at (sym c.in-None.ensures)))
    )

pub returns-in-Some : goal.returns-in-Some
returns-in-Some c =
    let lasts = rw (← c.self.view_is) at c.requires in
    rw (← c.self.view_is) (
    ap not c.has.ensures
    ∙ lacks-is (the_view c.self.inside) c.args.item c.in-Some.index lasts
    (rw c.as_slice.ensures at (sym c.in-Some.ensures))
    )
