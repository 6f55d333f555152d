use Rattle.std.proofs.Common.{◌∙◌, List, length, ◌-◌, sym, ap}
use Rattle.std.specs.List.{slice_get}
use Rattle.std.specs.Option.{option_copied}
use Rattle.album_versions.specs.declared.rows.Version.{Version}
use Rattle.album_versions.proofs.RowLemmas.{newest_there, newest_greatest}
use Rattle.album_versions.proofs.rows.Row.newest.Goals as goal

pub returns-in-Some-clause-there : goal.returns-in-Some-clause-there
returns-in-Some-clause-there c =
    let last = ap (λ (xs : List Version). slice_get xs (length xs - 1)) (sym c.deref.ensures.value) ∙ (sym c.last.ensures.value ∙ ap option_copied c.in-Some.is) in
    rw (← c.self.view_is) (λ some. newest_there c.self.inside.versions.items c.in-Some.version.now c.self.invariant.rising last)

pub returns-in-Some-clause-greatest : goal.returns-in-Some-clause-greatest
returns-in-Some-clause-greatest c =
    let last = ap (λ (xs : List Version). slice_get xs (length xs - 1)) (sym c.deref.ensures.value) ∙ (sym c.last.ensures.value ∙ ap option_copied c.in-Some.is) in
    rw (← c.self.view_is) (newest_greatest c.self.inside.versions.items c.in-Some.version.now c.self.invariant.rising last)
