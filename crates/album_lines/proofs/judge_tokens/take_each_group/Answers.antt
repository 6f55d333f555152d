use Rattle.std.proofs.Common.{ap, ◌≡◌, ◌++◌, ◌∷◌, [], refl, arith, rules}
use Rattle.std.proofs.lemmas.List.{map-append}
use Rattle.album_lines.specs.JudgeShape.{spelled_group, group_shape_of}
use Rattle.album_lines.specs.Tokens.{Takes}
use Rattle.json.specs.Token.{end_array}
use Rattle.json.specs.Json.{after_end_array}
use Rattle.album_lines.proofs.Taking.{shorter, one_more, all_there}
use Rattle.album_lines.proofs.judge_tokens.take_each_group.Goals as goal

pub loop-groups-smaller : goal.loop-groups-smaller
loop-groups-smaller c =
    let going : c.take_end.new.self ≡ c.loop-groups.tokens = grind arith in
    let taken : Takes 2 group_shape_of c.loop-groups.tokens (spelled_group c.in_ok-take_group.field-0) c.take_group.new.tokens =
    rw (← going) c.in_ok-take_group.ensures in
    shorter 2 c.loop-groups.tokens c.take_group.new.tokens taken.0 taken.1

pub loop-groups-preserved : goal.loop-groups-preserved
loop-groups-preserved c =
    let going : c.take_end.new.self ≡ c.loop-groups.tokens = grind arith in
    let taken : Takes 2 group_shape_of c.loop-groups.tokens (spelled_group c.in_ok-take_group.field-0) c.take_group.new.tokens =
    rw (← going) c.in_ok-take_group.ensures in
    let pushed : c.push.new.self.items ≡ c.loop-groups.groups.items ++ c.in_ok-take_group.field-0 ∷ [] = search rules in
    one_more 2 group_shape_of c.args.tokens.now c.loop-groups.tokens c.take_group.new.tokens _ _ _ c.loop-groups.invariant (rw (pushed, map-append) refl) taken

pub returns : goal.returns
returns c =
    let closed : c.loop-groups.tokens ≡ end_array ∷ c.take_end.new.self = grind arith in
    all_there 2 group_shape_of c.args.tokens.now c.loop-groups.tokens c.take_end.new.self _ c.loop-groups.invariant (ap after_end_array closed)
