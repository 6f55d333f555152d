-- What a session reads of the replies that it takes.
use Rattle.std.specs.Prelude.{◌≡◌, ℕ, ◌<◌, List, is_some, true, None, All, Contains}
use Rattle.album_calls.specs.declared.messages.Message.{Message}
use Rattle.album_partition.specs.Marks.{floor, kept_version}
use Rattle.album_partition.specs.declared.marks.Mark.{Mark}
use Rattle.album_passes.specs.Cuts.{Cut, prefix_for, IsPrefix}
use Rattle.album_passes.specs.Reads.{IsAnsweredBetween}
use Rattle.album_reader.specs.Answers.{ReadVersion, answers_there}
use Rattle.album_reader.specs.Rounds.{RoundState, Step, IsOpen, next_asker, second_round, asked_stamps, gets_of}
use Rattle.album_reader.specs.Rounds.Step.{Same, Next, Done, Gone}
use Rattle.album_reader.specs.Snapshots.{items_read}
use Rattle.album_reader.specs.StampSets.{stamps_of}
use Rattle.album_grounds.specs.Grounds.{AreSettled, AreUpToDate, IsSeen, trims_in}

-- ---- a round of a read

-- The round asks the same as it did when it began. Each answer that it has was given between the two cuts, is settled,
-- and was the latest one by the old cut.
pub record IsUnder (old new : Cut) (begun round : RoundState) : Type 0 where
  pub asker : round.asker ≡ begun.asker
  pub items : round.items ≡ begun.items
  pub stamps : round.stamps ≡ begun.stamps
  pub still_open : IsOpen round
  pub between : All (IsAnsweredBetween old new (asked_stamps begun)) (answers_there round.answers)
  pub settled : AreSettled new (answers_there round.answers)
  pub latest : AreUpToDate old (answers_there round.answers)

-- these are the answers of all its items, they are settled, and were the latest ones by the old cut
pub record AreOf (old new : Cut) (begun : RoundState) (answers : List ReadVersion) : Type 0 where
  pub items : items_read answers ≡ begun.items
  pub between : All (IsAnsweredBetween old new (asked_stamps begun)) answers
  pub settled : AreSettled new answers
  pub latest : AreUpToDate old answers

-- the first round is over, and the second asks with exactly the stamps of its answers
pub record IsFirstOver (old new : Cut) (begun next : RoundState) (gets : List Message) : Type 0 where
  pub first : begun.stamps ≡ None
  pub answers : List ReadVersion
  pub are : AreOf old new begun answers
  pub still_open : IsOpen next
  pub next_is : next ≡ second_round begun (stamps_of answers)
  pub gets_are : gets ≡ gets_of (next_asker begun.asker) (stamps_of answers) begun.items

-- One of the items was gone at a history that the old cut's prefix begins, and that begins the new cut's: it was
-- trimmed there, and at none of these stamps a version of it was kept.
pub record IsGoneBetween (old new : Cut) (stamps items : List ℕ) : Type 0 where
  pub item : ℕ
  pub asked : Contains items item
  pub marks : List Mark
  pub from : IsPrefix (prefix_for old item) marks
  pub to : IsPrefix marks (prefix_for new item)
  pub trimmed : 0 < floor marks item
  pub unkept : All (λ stamp. kept_version marks item stamp ≡ None) stamps

-- The second round is over, since one of its items is gone: these are its items.
pub record IsGoneFrom (old new : Cut) (begun : RoundState) (items : List ℕ) : Type 0 where
  pub items_are : items ≡ begun.items
  pub gone : IsGoneBetween old new (asked_stamps begun) begun.items

-- what a step of a round shows
abbrev pub Leads : Cut → Cut → RoundState → Step → Type 0
Leads old new begun (Same round) = IsUnder old new begun round
Leads old new begun (Next next gets) = IsFirstOver old new begun next gets
Leads old new begun (Done answers) = (is_some begun.stamps ≡ true) × AreOf old new begun answers
Leads old new begun (Gone items) = (is_some begun.stamps ≡ true) × IsGoneFrom old new begun items

-- ---- a read

-- what was read is of these items, read atomic, fresh and settled
pub record IsReadOf (begun now : Cut) (items : List ℕ) (rows : List ReadVersion) : Type 0 where
  pub items_are : items_read rows ≡ items
  pub seen : IsSeen begun now rows

-- A trim has let go of what the read of these items asked for. They are handed back, and the cut has gained the trim.
pub record IsTrimmedAway (begun now : Cut) (items all : List ℕ) : Type 0 where
  pub items_are : all ≡ items
  pub trimmed : trims_in begun < trims_in now
