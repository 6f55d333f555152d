use Rattle.std.proofs.Common.{◌≡◌, map, true, rules}
use Rattle.album_stamps.specs.Distinct.{are_distinct}
use Rattle.album_lines.specs.JudgeShape.{numbers, spelled_group}
use Rattle.album_lines.proofs.Taking.{some_groups}
use Rattle.album_lines.proofs.judge_tokens.take_groups.Goals as goal

pub returns : goal.returns
returns c =
    let apart : are_distinct (numbers (map spelled_group c.in_ok-groups.groups.items)) ≡ true = search rules in
    some_groups c.args.tokens.now c.take_list.new.tokens c.take_each_group.new.tokens _ c.in_ok-take_list.ensures c.in_ok-groups.ensures apart
