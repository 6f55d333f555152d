use Rattle.std.proofs.Common.{refl}
use Rattle.album_writer.proofs.Readiness.{begun-ready}
use Rattle.album_writer.proofs.preparing.Preparing.spend.Goals as goal

-- all is there for the round of the Prepares
pub of-requires : goal.of-requires
of-requires c =
    begun-ready c.args.checked c.args.permit c.args.stamp c.args.client c.args.tag c.args.parts c.in_ok-writing.writing
    c.in-Ok.field-0.commits.items c.in-Ok.field-0.later.items c.requires.low c.requires.high_tag
    c.in_ok-writes.ensures.items (rw (c.in_ok-writing.ensures.writing, c.in_ok-writes.ensures.writes) refl)
    (rw c.in-Ok.field-0-is c.in-Ok.ensures.commits) (rw c.in-Ok.field-0-is c.in-Ok.ensures.later)
