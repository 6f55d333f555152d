use Rattle.std.proofs.Common.{◌≤◌, ◌+◌, length}
use Rattle.std.specs.Ordering.{nat_cmp}
use Rattle.std.specs.BTreeSet as set
use Rattle.album_eval.specs.Groups.{listed_in}
use Rattle.album_eval.proofs.Finding.{Holds, Searched, Looking, missing}
use Rattle.album_eval.proofs.groups.groups_of.Given as goal

-- the groups by name are put into the set
abbrev pub invariant-loop-number : goal.invariant-loop-number
invariant-loop-number l = Holds (set.contains nat_cmp l.found) l.number-items l.number-index

-- the worklist
abbrev pub invariant-loop-inner : goal.invariant-loop-inner
invariant-loop-inner l = Searched (listed_in l.groups) l.user (set.contains nat_cmp l.found) l.worklist.items

abbrev pub decreases-loop-inner : goal.decreases-loop-inner
decreases-loop-inner l = missing (set.contains nat_cmp l.found) l.groups.entries + length l.worklist.items

-- the groups that list one of it
abbrev pub invariant-loop-other : goal.invariant-loop-other
invariant-loop-other l =
    record {
      looking : Looking (listed_in l.groups) l.user (set.contains nat_cmp l.found) l.worklist.items l.inner l.other-items l.other-index;
      fewer : missing (set.contains nat_cmp l.found) l.groups.entries + length l.worklist.items ≤ missing (set.contains nat_cmp l.initial.found) l.groups.entries + length l.initial.worklist.items;
    }
