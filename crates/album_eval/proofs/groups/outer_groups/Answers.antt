use Rattle.std.proofs.Common.{◌≡◌, Some, refl, length, arith}
use Rattle.std.specs.List.{slice_get}
use Rattle.std.specs.Map.Iter.{deref_pair}
use Rattle.std.proofs.lemmas.Map.Iter.{iter_turn, iter_end}
use Rattle.std.proofs.lemmas.Option.{slice_get_read}
use Rattle.std.proofs.lemmas.List.{length_push}
use Rattle.album_eval.specs.Groups.{outer_in}
use Rattle.album_eval.proofs.Turning.{none_grown, outer_more, outer_same, turned_more, all_turned}
use Rattle.album_eval.proofs.groups.outer_groups.Goals as goal
use Rattle.album_eval.proofs.groups.outer_groups.Goals.{in-Group+in_ok-add_outer-in-Group, in-User}

pub loop-member-init : goal.loop-member-init
loop-member-init c = none_grown _ _ _

pub loop-number-preserved : goal.loop-number-preserved
loop-number-preserved c =
    let turn = iter_turn deref_pair c.args.groups.now.entries c.loop-number.yielded _ _ _ _ c.into_iter-number-iterator.ensures.into_iter_gives.0 c.loop-number.yielded_by (c.in-Some.number, c.in-Some.members) c.in-Some.is c.next.ensures.steps in
    let members : c.as_slice-member-items.result.now ≡ c.in-Some.members.now.items = c.as_slice-member-items.ensures.value in
    rw (length_push c.loop-number.yielded (c.in-Some.number, c.in-Some.members)) (turned_more c.args.groups.now (outer_in c.loop-number.outer) (outer_in c.loop-member.outer) (length c.loop-number.yielded) c.in-Some.number.now c.in-Some.members.now c.loop-member.member-index c.into_iter-number-iterator.ensures.into_iter_gives.5 turn.1 (rw members at c.loop-member-test.false) (rw members at c.loop-member.invariant) c.loop-number.invariant)

pub loop-member-preserved : goal.loop-member-preserved
loop-member-preserved c =
    let at : slice_get c.as_slice-member-items.result.now c.loop-member.member-index ≡ Some c.member-item.result = slice_get_read c.as_slice-member-items.result.now _ _ _ refl c.loop-member-test.true c.member-item.is in
    elim c.match-member.branch [
      | in-Group+in_ok-add_outer-in-Group w ↦ rw w.outer-is (outer_more _ (outer_in c.loop-member.outer) (outer_in w.add_outer.new.outer) _ _ _ w.in-Group.inner (rw w.in-Group.is at at) w.in_ok-add_outer-in-Group.ensures c.loop-member.invariant)
      | in-User w ↦ rw w.outer-is (outer_same _ _ _ _ _ _ (rw w.in-User.is at at) c.loop-member.invariant)
    ]

pub returns : goal.returns
returns c =
    let end = iter_end deref_pair c.args.groups.now.entries c.loop-number.yielded _ _ _ _ c.into_iter-number-iterator.ensures.into_iter_gives.0 c.loop-number.yielded_by c.in-None.is c.next.ensures.steps in
    all_turned c.args.groups.now (outer_in c.loop-number.outer) (length c.loop-number.yielded) (let l = end.1 in omega (arith, l)) c.loop-number.invariant
