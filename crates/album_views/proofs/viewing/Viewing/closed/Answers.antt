use Rattle.std.proofs.Common.{ap, sym, ◌∙◌}
use Rattle.album_views.specs.Views.{ViewState, ViewingState}
use Rattle.album_views.specs.declared.viewing.ViewStep.TheVariants.{Closed}
use Rattle.album_views.proofs.Closing.{is-closed}
use Rattle.album_views.proofs.Stepping.{step-closed}
use Rattle.album_views.proofs.viewing.Viewing.closed.Goals as goal

-- the snapshot is the view's
pub returns-clause-step : goal.returns-clause-step
returns-clause-step c =
    let closed = is-closed c.args.snapshot c.args.looker c.args.self.ask c.requires in
    ap Closed
    (c.of.ensures
    ∙ ap (λ (v : ViewingState). let w : ViewState = record { looker = c.args.looker; ask = v.ask; rows = c.args.snapshot } in w)
    c.self.view_is)
    ∙ sym (step-closed c.args.looker c.args.self c.args.snapshot closed)
