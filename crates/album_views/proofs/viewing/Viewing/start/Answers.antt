use Rattle.std.proofs.Common.{◌∙◌, sym, subst}
use Rattle.album_views.specs.Steps.{AreReadable}
use Rattle.album_views.proofs.Flaws.{objects_readable}
use Rattle.album_views.proofs.viewing.Viewing.start.Goals as goal

-- the objects of an ask without flaw
pub returns-in-Ok-clause-readable : goal.returns-in-Ok-clause-readable
returns-in-Ok-clause-readable c =
    subst AreReadable (sym (c.of.ensures ∙ c.in-Ok.ensures)) (objects_readable c.args.ask c.requires.sound)
