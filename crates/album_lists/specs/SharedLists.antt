-- What a list holds whose copies may share it.
use Rattle.std.specs.Prelude.{List}
use Rattle.std.specs.Arc.{arc_value}
use Rattle.album_lists.specs.declared.shared_lists.Kept.{Kept}
use Rattle.album_lists.specs.declared.shared_lists.Kept.TheVariants.{Own, Counted}

-- the elements, however they are kept
abbrev pub elements : {T : Type 0} → Kept T → List T
elements (Own list) = list.items
elements (Counted list) = (arc_value list).items
