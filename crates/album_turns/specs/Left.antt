-- What a service leaves to its next epoch.
use Rattle.std.specs.Prelude.{◌≡◌, ℕ, ◌≤◌, ◌<◌, ◌+◌, max, List, length, true}
use Rattle.std.specs.List.{list_any}
use Rattle.album_stamps.specs.Stamps.{counter_of}
use Rattle.album_stamps.specs.declared.limits.TheConstants.{MAX_COUNTER, MAX_PARTS}
use Rattle.album_stamps.specs.declared.refusals.Refusal.{Refusal}
use Rattle.album_stamps.specs.declared.refusals.Refusal.TheVariants.{BadOpening, NoSuchPart, StampsSpent}
use Rattle.album_items.specs.declared.openings.Opening.{Opening}
use Rattle.album_partition.specs.Marks.{is_mark_of}
use Rattle.album_partition.specs.declared.marks.Mark.{Mark}
use Rattle.album_passes.specs.Cuts.{Cut, Extends, IsPrefix, marks_at, prefix_at}
use Rattle.album_epochs.specs.Carried.{IsLeft, AreNextRows, AreNextStamps}
use Rattle.album_epochs.specs.declared.next_opening.TheConstants.{MARGIN}
use Rattle.album_channels.specs.Channels.{IsClosedOrOutOfMemory}

-- each history has what the old cut has of it, and the new cut has it
abbrev pub AreBetween : Cut → Cut → List (List Mark) → Type 0
AreBetween old new histories = (part : ℕ) → part < length histories
    → IsPrefix (prefix_at old part) (marks_at histories part) × IsPrefix (marks_at histories part) (prefix_at new part)

-- The next epoch opens on what is carried of a part of a sound cut. That part has all that this cut has. The counts,
-- the policy and the root stay, and the clocks begin above all that the part has a mark of.
pub record IsLeftTo (cut : Cut) (opening next : Opening) : Type 0 where
  pub left : Cut
  pub is_left : IsLeft left
  pub since : Extends cut left
  pub parts : next.parts ≡ opening.parts
  pub limit : next.limit ≡ opening.limit
  pub policy : next.policy ≡ opening.policy
  pub checked : next.checked ≡ opening.checked
  pub root : next.root ≡ opening.root
  pub first : opening.first ≤ next.first
  pub above : (part stamp : ℕ) → list_any (is_mark_of stamp) (prefix_at left part) ≡ true
      → counter_of stamp ≤ next.first
  pub rows : AreNextRows left next.items
  pub stamps : AreNextStamps left opening.stamps next.stamps

-- What a session that has this cut finds to be left: what has all that it listened to, and all of its own cut. That is
-- so where its service opened on this opening.
abbrev pub IsFoundBy : Cut → Opening → Cut → Opening → Type 0
IsFoundBy old opening listened next = old.opening ≡ opening.items → old.parts ≡ opening.parts
    → IsLeftTo old opening next × IsLeftTo listened opening next

-- 0, or the counter of a stamp of which the cut has a mark
pub data IsCounterIn (cut : Cut) : ℕ → Type 0 where
  Zero : IsCounterIn cut 0
  Of : (part stamp : ℕ) → list_any (is_mark_of stamp) (prefix_at cut part) ≡ true → IsCounterIn cut (counter_of stamp)

-- Why it isn't found what is left, by a session that has this cut then: the opening has no partition, too many, or more
-- than the service; no counter is left above those that were drawn; or no reply comes.
pub data IsUnleft (cut : Cut) (opening : Opening) : Refusal → Type 0 where
  NoParts : opening.parts ≡ 0 → IsUnleft cut opening BadOpening
  ManyParts : MAX_PARTS < opening.parts → IsUnleft cut opening BadOpening
  OtherParts : cut.parts < opening.parts → IsUnleft cut opening NoSuchPart
  Spent : (counter : ℕ) → IsCounterIn cut counter → MAX_COUNTER ≤ max counter opening.first + MARGIN
      → IsUnleft cut opening StampsSpent
  Unheard : (why : Refusal) → IsClosedOrOutOfMemory why → IsUnleft cut opening why
