-- Reads over cuts: the writes that a cut knows, and how a read of two rounds comes by its answers.
use Rattle.std.specs.Prelude.{◌≡◌, ◌≢◌, ◌↔◌, ℕ, true, List, [], map, take, slice_index, All, Contains, Option, Some}
use Rattle.std.specs.List.{list_any}
use Rattle.album_items.specs.ItemIds.{place_of}
use Rattle.album_items.specs.declared.values.Value.{Value}
use Rattle.album_partition.specs.declared.marks.Mark.{Mark}
use Rattle.album_partition.specs.Laws.{IsReadAt}
use Rattle.album_partition.specs.Marks.{commits, first_value, version}
use Rattle.album_reader.specs.Answers.{ReadVersion}
use Rattle.album_reader.specs.Atomic.{KnownWrites}
use Rattle.album_passes.specs.Cuts.{Cut, prefix_at, prefix_for, dependencies_of, IsSound, IsPrefix, Extends}

-- ---- what was written

-- some partition has committed the stamp
abbrev pub IsCommitted : Cut → ℕ → Type 0
IsCommitted cut stamp = (part : ℕ) × (list_any (commits stamp) (prefix_at cut part) ≡ true)

-- what was written to the item at the stamp, as far as the cut has seen
abbrev pub written_value : Cut → ℕ → ℕ → Option Value
written_value cut item stamp = version (prefix_for cut item) item stamp

-- the writes that a cut knows: a transaction is known by its stamp
abbrev pub writes_in_cut : Cut → KnownWrites
writes_in_cut cut = record {
  Transaction = ℕ;
  stamp = λ stamp. stamp;
  value = λ stamp item. written_value cut item stamp;
  IsCommitted = IsCommitted cut;
}

-- the item's partition has committed the stamp
abbrev pub IsCommittedFor : Cut → ℕ → ℕ → Type 0
IsCommittedFor cut stamp item = list_any (commits stamp) (prefix_for cut item) ≡ true

-- ---- what the author of a write had seen

-- The item's partition had committed the stamp by then, as far as the author of another one had seen when it announced
-- that one.
pub record HadSeenCommitted (cut : Cut) (author : ℕ) (stamp item : ℕ) : Type 0 where
  pub lengths : List ℕ
  pub depended : dependencies_of cut author ≡ Some lengths
  pub committed : list_any (commits stamp)
      (take (slice_index lengths (place_of cut.parts item)) (prefix_for cut item)) ≡ true

-- ---- a read of two rounds

-- A Get of the item with these stamps was answered at a history that the old cut's prefix begins, and that begins the
-- new cut's.
pub record IsAnsweredBetween (old new : Cut) (stamps : List ℕ) (answer : ReadVersion) : Type 0 where
  pub marks : List Mark
  pub from : IsPrefix (prefix_for old answer.item) marks
  pub to : IsPrefix marks (prefix_for new answer.item)
  pub read : IsReadAt marks answer.item stamps answer.stamp
  pub written : answer.stamp ≢ 0 → version marks answer.item answer.stamp ≡ Some answer.value
  pub first : answer.stamp ≡ 0 → answer.value ≡ first_value old.opening answer.item

-- The first round was answered without stamps, between the cuts `begun` and `middle`. The second was answered with
-- exactly the stamps of the first round's answers, between `middle` and `ended`. Each item of the second was answered
-- in the first. The three cuts are sound, and each extends the one before.
pub record IsReadInTwoRounds
    (begun middle ended : Cut) (firsts : List ReadVersion) (stamps : List ℕ) (answers : List ReadVersion) : Type 0 where
  pub begun_sound : IsSound begun
  pub middle_sound : IsSound middle
  pub ended_sound : IsSound ended
  pub first_on : Extends begun middle
  pub second_on : Extends middle ended
  pub first_round : All (IsAnsweredBetween begun middle []) firsts
  pub collected : (stamp : ℕ) → Contains stamps stamp ↔ Contains (map (λ first. first.stamp) firsts) stamp
  pub second_round : All (IsAnsweredBetween middle ended stamps) answers
  pub asked_before : All (λ answer. (first : ReadVersion) × Contains firsts first × (first.item ≡ answer.item)) answers
