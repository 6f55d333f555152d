use Rattle.std.proofs.Common.{◌≡◌, ◌≤◌, Some, None, inl, inr, length, sym, ap, ◌∙◌, arith}
use Rattle.std.specs.List.{slice_get}
use Rattle.std.proofs.lemmas.Option.{slice_get_within, slice_get_cases, get_or_from_slice_get}
use Rattle.album_views.specs.Seen.{seen}
use Rattle.album_views.proofs.Growing.{looked-first, looked-more, looked-all}
use Rattle.album_views.proofs.Turns.{names-one}
use Rattle.album_views.proofs.read_set.names.Goals as goal
use Rattle.album_views.proofs.read_set.names.Goals.{else-loop-index-test, then-loop-index-test+in_default}

-- no name was looked at yet
pub loop-index-init : goal.loop-index-init
loop-index-init c =
    looked-first (seen c.args.snapshot.now) c.args.looker.now c.args.ask.now c.in_ok-names.names.keys c.in_ok-names.ensures

-- one name more
pub loop-index-preserved : goal.loop-index-preserved
loop-index-preserved c =
    let at : slice_get c.loop-index.names.keys c.loop-index.index ≡ Some c.in-Some.item.now = sym c.in-Some.ensures.key in
    looked-more (seen c.args.snapshot.now) c.args.looker.now c.args.ask.now c.loop-index.index c.loop-index.names.keys
    c.add_groups_in_group.new.names.keys c.in-Some.item.now
    (slice_get_within c.loop-index.names.keys c.loop-index.index c.in-Some.item.now at)
    (sym (get_or_from_slice_get c.loop-index.names.keys c.loop-index.index c.in-Some.item.now c.in-Some.item.now at))
    c.in_ok-add_groups_in_group.ensures c.loop-index.invariant

-- all names
pub returns-clause-names : goal.returns-clause-names
returns-clause-names c =
    let items : c.in_ok-from_slice.field-0.items ≡ c.loop-index.names.keys = c.in_ok-from_slice.ensures.items ∙ c.as_slice.ensures.keys in
    let past : length c.loop-index.names.keys ≤ c.loop-index.index =
    elim c.loop-index-test.branch [
      | else-loop-index-test w ↦ omega (arith, w.loop-index-test, ap length items, c.in_ok-from_slice.field-0.small)
      | then-loop-index-test+in_default w ↦ (let none : slice_get c.loop-index.names.keys c.loop-index.index ≡ None = sym w.in_default.ensures.key in
          elim (slice_get_cases c.loop-index.names.keys c.loop-index.index).1 [
            | inl there ↦ (let some = there.2 in absurd (cc))
            | inr past ↦ past.0
          ])
    ] in
    items
    ∙ names-one c.args.snapshot.now c.args.looker.now c.args.ask.now c.loop-index.names.keys
    (looked-all (seen c.args.snapshot.now) c.args.looker.now c.args.ask.now c.loop-index.index c.loop-index.names.keys past c.loop-index.invariant)
    c.loop-index.invariant.named
