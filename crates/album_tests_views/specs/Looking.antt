-- Who looked at what is read, in a view that is closed.
use Rattle.std.specs.Prelude.{◌≡◌, None}
use Rattle.album_views.specs.declared.viewing.ViewStep.{ViewStep}
use Rattle.album_views.specs.declared.viewing.ViewStep.TheVariants.{Again, Closed, Busy}

-- the step leads to a view that is nobody's in particular, if to any
abbrev pub IsNobodys : ViewStep → Type 0
IsNobodys (Closed view) = view.looker ≡ None
IsNobodys (Again viewing items) = Unit {0}
IsNobodys (Busy why) = Unit {0}
