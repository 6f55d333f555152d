use Rattle.std.proofs.Common.{◌≡◌, ℕ, map, if◌then◌else◌}
use Rattle.std.specs.Set.{is_member}
use Rattle.std.specs.Ordering.{eq_by_cmp, nat_cmp}
use Rattle.album_items.specs.FirstStamps.{first_stamp}
use Rattle.album_epochs.specs.Folding.{stamp_left, kept_in}
use Rattle.album_epochs.proofs.folds.stamps_of.Given as goal

abbrev pub invariant-loop-item : goal.invariant-loop-item
invariant-loop-item l =
    (q : ℕ) → first_stamp l.next q
    ≡ (if is_member (eq_by_cmp nat_cmp) (map (λ item. item.now) l.yielded) q then stamp_left l.stamps q (kept_in l.found q)
    else 0)
