use Rattle.std.proofs.lemmas.Result.{err_from_is_err_and}
use Rattle.album_wire.specs.FirstValues.{opening_of}
use Rattle.album_replay.proofs.Standing.{world_opens, world_refused}
use Rattle.album_replay.proofs.engine.stages.begin.Goals as goal

-- it may not be opened
pub returns-in_err-epoch : goal.returns-in_err-epoch
returns-in_err-epoch c =
    let p = err_from_is_err_and c.from_residual.result c.from_residual.ensures.1 in
    rw (p.1, p.2) (λ why. world_refused (opening_of c.args.header c.args.values) c.args.header.trace c.in_err-epoch.field-0.0
    ((rw c.into_opening.ensures at c.in_err-epoch.ensures.0) why))

-- it opens
pub returns : goal.returns
returns c = world_opens (opening_of c.args.header c.args.values) c.args.header.trace c.in_ok-epoch.epoch (rw c.into_opening.ensures at c.in_ok-epoch.ensures)
