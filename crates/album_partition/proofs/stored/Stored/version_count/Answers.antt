use Rattle.std.proofs.Common.{List, subst}
use Rattle.album_partition.specs.Stored.{IsStored}
use Rattle.album_partition.specs.declared.marks.Mark.{Mark}
use Rattle.album_partition.proofs.stored.Stored.version_count.Goals as goal

pub returns : goal.returns
returns c = record {
  kept = c.self.inside.versions;
  stored = subst (λ (ms : List Mark). IsStored ms c.self.inside.versions) c.self.view_is c.self.invariant;
  counted = c.count.ensures;
}
