use Rattle.std.proofs.Common.{◌≡◌}
use Rattle.album_client.proofs.transitions.ClientStep.follow_ruling.Goals as goal

-- the permit is the one that the model has
pub returns-in-Granted-clause-transition : goal.returns-in-Granted-clause-transition
returns-in-Granted-clause-transition c = λ permit kept.
    let same : c.in-Granted.permit ≡ permit = rw c.in-Granted.is at kept in
    rw (c.in-Granted.is, ← same) c.grant.ensures.transition
