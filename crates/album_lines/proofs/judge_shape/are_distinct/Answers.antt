use Rattle.std.proofs.Common.{◌+◌, List, ℕ, drop, map, refl, sym, ap, ◌∙◌}
use Rattle.std.specs.Ordering.{nat_cmp}
use Rattle.std.specs.BTreeSet as set
use Rattle.album_lines.specs.JudgeShape.{numbers, spelled_group}
use Rattle.album_lines.proofs.Distinct.{none_seen, first_new, numbers_from, are_new, new_from_added}
use Rattle.album_lines.proofs.judge_shape.are_distinct.Goals as goal

pub loop-group-init : goal.loop-group-init
loop-group-init c =
    none_seen (numbers (map spelled_group c.args.groups.now)) (set.contains nat_cmp c.new-seen.result) (λ n. rw c.new-seen.ensures.empty refl)

pub loop-group-preserved : goal.loop-group-preserved
loop-group-preserved c =
    let step =
    numbers_from c.args.groups.now c.loop-group.group-index c.group-item.result c.loop-group-test.true c.group-item.is in
    let later : List ℕ = numbers (map spelled_group (drop (c.loop-group.group-index + 1) c.args.groups.now)) in
    let unseen =
    new_from_added c.in_ok-insert.field-0 (set.contains nat_cmp c.loop-group.seen c.group-item.result.number) c.if-not-branch.false c.in_ok-insert.ensures.added in
    let more =
    first_new (set.contains nat_cmp c.loop-group.seen) (set.contains nat_cmp c.insert.new.self) c.group-item.result.number later c.in_ok-insert.ensures.updates.0 unseen in
    sym more ∙ ap (are_new (set.contains nat_cmp c.loop-group.seen)) (sym step) ∙ c.loop-group.invariant
