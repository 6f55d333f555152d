use Rattle.std.proofs.Common.{◌≡◌, ◌<◌, List, length, take, ap, sym, ◌∙◌, arith}
use Rattle.std.specs.Borrow.{Bor}
use Rattle.album_items.specs.FirstStamps.{Stamps}
use Rattle.album_items.specs.Openings.{Row}
use Rattle.album_partition.specs.declared.marks.Mark.{Mark}
use Rattle.album_epochs.specs.Folding.{histories_lent, AreFolded, AreFoldedStamps}
use Rattle.album_restarts.specs.Worlds.{histories_of}
use Rattle.album_restarts.proofs.ReopenLemmas.{kept_parts, one_more, there_is, fits, folded}
use Rattle.album_restarts.proofs.reopening.next_rows.Goals as goal
use Rattle.album_restarts.proofs.reopening.next_rows.Goals.{in-Some+in_ok-push-in-Some, in-None}

pub loop-number-preserved : goal.loop-number-preserved
loop-number-preserved c =
    let parts = kept_parts c.args.opening.now c.requires.0 c.args.world.now c.requires.1 in
    let less : c.loop-number.number < length c.args.world.now.kept.partitions = omega (arith, parts, c.loop-number-test.true) in
    elim c.match-partition.branch [
      | in-Some+in_ok-push-in-Some w ↦ one_more c.args.world.now.kept.partitions c.loop-number.number w.in-Some.partition.now c.loop-number.histories.items c.match-partition.histories.items w.history.result
          less (sym w.in-Some.ensures) w.history.ensures.marks (rw w.histories-is w.in_ok-push-in-Some.ensures.items) c.loop-number.invariant
      | in-None w ↦ there_is c.args.world.now.kept.partitions c.loop-number.number less (sym w.in-None.ensures)
    ]

pub fold-requires : goal.fold-requires
fold-requires c =
    let lent : histories_lent c.deref.result.now ≡ take c.loop-number.number (histories_of c.args.world.now.kept.partitions) =
    ap (λ (hs : List (Bor (List Mark))). histories_lent hs) c.deref.ensures.value ∙ c.loop-number.invariant in
    let f = fits c.args.opening.now c.requires.0 c.args.world.now c.loop-number.number c.deref.result.now c.requires.1 c.loop-number-test.false lent in
    record { some = f.some; few = f.few }

pub returns-clause-folded : goal.returns-clause-folded
returns-clause-folded c =
    let lent : histories_lent c.deref.result.now ≡ take c.loop-number.number (histories_of c.args.world.now.kept.partitions) =
    ap (λ (hs : List (Bor (List Mark))). histories_lent hs) c.deref.ensures.value ∙ c.loop-number.invariant in
    folded (λ first histories (fold : List Row × Stamps). AreFolded first histories fold.0) c.args.opening.now c.args.world.now
    c.loop-number.number c.as_slice.result.now c.deref.result.now c.fold.result c.requires
    c.loop-number-test.false lent c.as_slice.ensures c.fold.ensures.folded

pub returns-clause-stamped : goal.returns-clause-stamped
returns-clause-stamped c =
    let lent : histories_lent c.deref.result.now ≡ take c.loop-number.number (histories_of c.args.world.now.kept.partitions) =
    ap (λ (hs : List (Bor (List Mark))). histories_lent hs) c.deref.ensures.value ∙ c.loop-number.invariant in
    folded (λ first histories (fold : List Row × Stamps). AreFoldedStamps c.args.opening.now.stamps first histories fold.1)
    c.args.opening.now c.args.world.now
    c.loop-number.number c.as_slice.result.now c.deref.result.now c.fold.result c.requires
    c.loop-number-test.false lent c.as_slice.ensures c.fold.ensures.stamped
