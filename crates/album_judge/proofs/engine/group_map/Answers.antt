use Rattle.std.proofs.Common.{map}
use Rattle.album_lines.specs.JudgeLine.{listing}
use Rattle.album_judge.proofs.Judging.{groups_begin, groups_step}
use Rattle.album_judge.proofs.engine.group_map.Goals as goal

pub loop-group-init : goal.loop-group-init
loop-group-init c = groups_begin c.new-by_number.result (map listing c.args.groups.items) c.new-by_number.ensures.empty

pub loop-group-preserved : goal.loop-group-preserved
loop-group-preserved c =
    groups_step c.loop-group.by_number c.insert.new.self c.loop-group.groups.items c.pop.new.self.items c.in-Some.group (map listing c.args.groups.items) c.in-Some.ensures.items c.in_ok-insert.ensures.updates.0 c.loop-group.invariant

pub loop-group-preserved-in_ok-insert : goal.loop-group-preserved-in_ok-insert
loop-group-preserved-in_ok-insert c =
    groups_step c.loop-group.by_number c.insert.new.self c.loop-group.groups.items c.pop.new.self.items c.in-Some.group (map listing c.args.groups.items) c.in-Some.ensures.items c.in_ok-insert.ensures.updates.0 c.loop-group.invariant
