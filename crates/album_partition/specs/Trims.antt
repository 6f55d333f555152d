-- What a trim does at a partition.
use Rattle.std.specs.Prelude.{ℕ, not, ◌==◌, ◌++◌, Option, Some, None, option_to_list, Result, Ok, Err, if◌then◌else◌}
use Rattle.album_stamps.specs.Outcome.{◌>>=◌}
use Rattle.album_stamps.specs.declared.refusals.Refusal.{Refusal}
use Rattle.album_stamps.specs.declared.refusals.Refusal.TheVariants.{Clash, Full}
use Rattle.album_partition.specs.declared.marks.Mark.{Mark}
use Rattle.album_partition.specs.declared.marks.Mark.TheVariants.{Trimmed}
use Rattle.album_partition.specs.Answers.{Action}
use Rattle.album_partition.specs.Marks.{latest, floor, is_full}
use Rattle.album_partition.specs.Partition.{PartitionState}
use Rattle.album_items.specs.Places.{is_placed}

-- the mark that it makes: none where the floor is the latest stamp already
abbrev pub trim_mark : PartitionState → ℕ → Result (Option Mark) Refusal
trim_mark partition item =
    if not (is_placed partition.number partition.parts item) then Err Clash
    else if floor partition.marks item == latest partition.marks item then Ok None
    else if is_full partition.limit partition.marks then Err Full
    else Ok (Some (Trimmed item))

-- what it does with the mark, if there is one: no vote is noted, and nothing is said
abbrev pub by_mark : Option Mark → Action
by_mark mark = record { mark = mark; vote = None; reply = None }

abbrev pub on_trim : PartitionState → ℕ → Result Action Refusal
on_trim partition item = trim_mark partition item >>= λ mark. Ok (by_mark mark)

-- the partition with the mark, if there is one
abbrev pub with_mark : PartitionState → Option Mark → PartitionState
with_mark partition mark = record partition { marks = partition.marks ++ option_to_list mark }

-- the partition once the item is trimmed
abbrev pub trimmed : PartitionState → ℕ → Result PartitionState Refusal
trimmed partition item = trim_mark partition item >>= λ mark. Ok (with_mark partition mark)
