use Rattle.std.proofs.Common.{◌≡◌, ◌<◌, ◌+◌, ◌∙◌, ℕ, Some, Contains, length, get_or, List, sym, ap, subst, arith, rules}
use Rattle.std.specs.List.{slice_get}
use Rattle.std.specs.Ordering.{nat_cmp}
use Rattle.std.specs.BTreeSet as set
use Rattle.std.proofs.lemmas.Bool.{eqb-true, not-true, not-false}
use Rattle.std.proofs.lemmas.List.{length_push}
use Rattle.std.proofs.lemmas.List.Elements.{Contains-get_or}
use Rattle.std.proofs.lemmas.Option.{slice_get-get_or}
use Rattle.album_lists.specs.declared.whos.Member.TheVariants.{Group}
use Rattle.album_eval.specs.Groups.{listed_in}
use Rattle.album_eval.proofs.Finding.{inserts_from_updates, none_held, held_more, all_held, all_found, at_start, looks, found_before, found_now, looked_through, missing, missing_le}
use Rattle.album_eval.proofs.Turning.{fewer_missing}
use Rattle.album_eval.proofs.groups.groups_of.Goals as goal
use Rattle.album_eval.proofs.groups.groups_of.Goals.{then-branch+in_ok-push, else-branch}

pub loop-number-init : goal.loop-number-init
loop-number-init c = none_held _ _ (λ q. search rules)

pub loop-number-preserved : goal.loop-number-preserved
loop-number-preserved c =
    let number = get_or c.deref-number-items.result.now c.loop-number.number-index 0 in
    let inserts = inserts_from_updates (set.contains nat_cmp c.loop-number.found) (set.contains nat_cmp c.insert.new.self) number c.in_ok-insert.ensures.updates.0 c.in_ok-insert.ensures.updates.1 in
    held_more _ _ _ _ number (slice_get-get_or _ _ 0 c.loop-number-test.true) inserts c.loop-number.invariant

-- nobody lists the user
pub returns-then-is_empty : goal.returns-then-is_empty
returns-then-is_empty c =
    let none : length c.deref-number-items.result.now ≡ 0 = c.deref-number-items.ensures.len ∙ eqb-true _ 0 (sym c.if-is_empty.ensures) in
    let listing = rw (← c.deref-number-items.ensures.value) at c.in_ok-worklist.ensures in
    let start = at_start (listed_in c.args.groups.now) c.args.user.now _ c.deref-number-items.result.now (λ g. (listing g).0) (λ g. (listing g).1) c.loop-number.invariant.only (all_held _ _ _ c.loop-number-test.false c.loop-number.invariant) in
    all_found _ _ _ _ none start

pub loop-inner-init : goal.loop-inner-init
loop-inner-init c =
    let listing = rw (← c.deref-number-items.ensures.value) at c.in_ok-worklist.ensures in
    rw (← c.deref-number-items.ensures.value) (at_start (listed_in c.args.groups.now) c.args.user.now _ c.deref-number-items.result.now (λ g. (listing g).0) (λ g. (listing g).1) c.loop-number.invariant.only (all_held _ _ _ c.loop-number-test.false c.loop-number.invariant))

pub loop-other-init : goal.loop-other-init
loop-other-init c =
    record {
      looking = looks _ _ _ c.loop-inner.worklist.items c.pop.new.self.items c.in-Some.inner _ c.in-Some.ensures.items c.loop-inner.invariant;
      fewer = omega arith;
    }

pub loop-inner-smaller : goal.loop-inner-smaller
loop-inner-smaller c =
    let fewer = c.loop-other.invariant.fewer in
    let popped : length c.loop-inner.worklist.items ≡ length c.pop.new.self.items + 1 = ap length c.in-Some.ensures.items ∙ length_push c.pop.new.self.items c.in-Some.inner in
    let smaller : missing (set.contains nat_cmp c.loop-other.found) c.args.groups.now.entries + length c.loop-other.worklist.items < missing (set.contains nat_cmp c.loop-inner.found) c.args.groups.now.entries + length c.loop-inner.worklist.items = omega (arith, fewer, popped) in
    smaller

pub loop-inner-preserved : goal.loop-inner-preserved
loop-inner-preserved c = looked_through _ _ _ _ c.in-Some.inner c.outer_of-other-items.result.now _ c.loop-other-test.false (λ g lists. rw c.outer_of-other-items.ensures ((c.in_ok-outer.ensures c.in-Some.inner g).1 lists)) c.loop-other.invariant.looking

pub loop-other-preserved : goal.loop-other-preserved
loop-other-preserved c =
    let other : ℕ = get_or c.outer_of-other-items.result.now c.loop-other.other-index 0 in
    let at : slice_get c.outer_of-other-items.result.now c.loop-other.other-index ≡ Some other = slice_get-get_or _ _ 0 c.loop-other-test.true in
    let inserts = inserts_from_updates (set.contains nat_cmp c.loop-other.found) (set.contains nat_cmp c.insert-in-loop-other.new.self) other c.in_ok-insert-2.ensures.updates.0 c.in_ok-insert-2.ensures.updates.1 in
    let row = subst (λ (row : List ℕ). Contains row other) c.outer_of-other-items.ensures (Contains-get_or c.outer_of-other-items.result.now c.loop-other.other-index 0 c.loop-other-test.true) in
    let lists : Contains (listed_in c.args.groups.now other) (Group c.in-Some.inner) = (c.in_ok-outer.ensures c.in-Some.inner other).0 row in
    let before = c.loop-other.invariant.fewer in
    elim c.if-branch.branch [
      | then-branch+in_ok-push w ↦ (
          let new = not-true _ (sym c.in_ok-insert-2.ensures.added ∙ w.if-branch.true) in
          let fewer = fewer_missing c.args.groups.now _ _ other (Group c.in-Some.inner) lists new inserts in
          let pushed = w.in_ok-push.ensures.items in
          let longer : length w.push.new.self.items ≡ length c.loop-other.worklist.items + 1 = ap length pushed ∙ length_push c.loop-other.worklist.items other in
          rw w.worklist-is (record {
            looking = found_now _ _ _ _ _ _ _ other _ _ inserts lists at pushed c.loop-other.invariant.looking;
            fewer = omega (arith, before, fewer, longer);
          }))
      | else-branch w ↦ (
          let was = not-false _ (sym c.in_ok-insert-2.ensures.added ∙ w.if-branch.false) in
          let fewer = missing_le _ _ inserts.stays c.args.groups.now.entries in
          rw w.worklist-is (record {
            looking = found_before _ _ _ _ _ _ other _ _ inserts lists at was c.loop-other.invariant.looking;
            fewer = omega (arith, before, fewer);
          }))
    ]

pub returns : goal.returns
returns c = all_found _ _ _ _ (let none = c.in_default.ensures.cases.0 in let same = c.loop-inner.worklist.ok.0 in omega (arith, none, same)) c.loop-inner.invariant
