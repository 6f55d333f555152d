use Rattle.std.proofs.Common.{sym, ◌∙◌}
use Rattle.album_client.proofs.MoveLemmas.{served_only}
use Rattle.album_client.proofs.transitions.ClientStep.grant.Goals as goal

-- what is served is what is computed
pub returns-in-Ok-clause-transition : goal.returns-in-Ok-clause-transition
returns-in-Ok-clause-transition c =
    let reads = sym c.writes.ensures ∙ c.if-writes.false in
    rw (served_only c.args.permit c.in-Ok.served c.view-view.ensures.granted reads c.in-Ok.ensures.served) c.end_ask.ensures
