use Rattle.std.proofs.Common.{◌≡◌, None, true, false, ap, sym, subst, ◌∙◌}
use Rattle.std.specs.List.{list_all}
use Rattle.album_views.specs.Seen.{is_read}
use Rattle.album_views.specs.Checks.{flaw_of}
use Rattle.album_views.specs.ReadSets.{names_of}
use Rattle.album_views.specs.Steps.{unclosed, AsksReadable}
use Rattle.album_views.specs.Views.{ViewState, ViewingState}
use Rattle.album_views.specs.declared.viewing.ViewStep.TheVariants.{Closed}
use Rattle.album_views.proofs.Closing.{closed-is, closed-tested}
use Rattle.album_views.proofs.Stepping.{step-closed, step-unclosed, unclosed-readable}
use Rattle.album_views.proofs.viewing.Viewing.on_names.Goals as goal

-- the snapshot has each name
pub of-requires : goal.of-requires
of-requires c =
    let names = c.requires ∙ ap (λ (v : ViewingState). names_of c.args.snapshot c.args.looker v.ask) (sym c.self.view_is) in
    let test = c.if-has_all.ensures ∙ ap (list_all (is_read c.args.snapshot)) c.deref.ensures.value in
    record {
      sound = c.self.invariant.sound;
      closed =
          closed-is c.args.snapshot c.args.looker c.self.inside.ask
          (closed-tested c.args.snapshot c.args.looker c.self.inside.ask c.args.names.items true names test);
    }

pub returns-then-has_all-clause-step : goal.returns-then-has_all-clause-step
returns-then-has_all-clause-step c =
    let test = c.if-has_all.ensures ∙ ap (list_all (is_read c.args.snapshot)) c.deref.ensures.value in
    let closed = closed-tested c.args.snapshot c.args.looker c.args.self.ask c.args.names.items true c.requires test in
    ap Closed
    (c.of.ensures
    ∙ ap (λ (v : ViewingState). let w : ViewState = record { looker = c.args.looker; ask = v.ask; rows = c.args.snapshot } in w)
    c.self.view_is)
    ∙ sym (step-closed c.args.looker c.args.self c.args.snapshot closed)

-- it lacks one
pub returns-clause-step : goal.returns-clause-step
returns-clause-step c =
    let test = c.if-has_all.ensures ∙ ap (list_all (is_read c.args.snapshot)) c.deref.ensures.value in
    let lacking = closed-tested c.args.snapshot c.args.looker c.args.self.ask c.args.names.items false c.requires test in
    c.unclosed.ensures
    ∙ ap (unclosed c.args.self) c.requires
    ∙ sym (step-unclosed c.args.looker c.args.self c.args.snapshot lacking)

pub returns-clause-readable : goal.returns-clause-readable
returns-clause-readable c =
    let sound : flaw_of c.args.self.ask ≡ None =
    ap (λ (v : ViewingState). flaw_of v.ask) (sym c.self.view_is) ∙ c.self.invariant.sound in
    subst AsksReadable (sym (c.unclosed.ensures ∙ ap (unclosed c.args.self) c.requires))
    (unclosed-readable c.args.looker c.args.self c.args.snapshot sound)
