-- What opens: that it has partitions, and that they are the first ones. `Opened::new` cites both.
use Rattle.std.proofs.Common.{◌≡◌, ℕ, ◌+◌, ◌≤◌, true, List, sym, subst, arith}
use Rattle.std.proofs.lemmas.Grind.{common_steps}
use Rattle.std.proofs.lemmas.List.FromFn.{length-map-range_with_len, get_or-map-range_with_len}
use Rattle.album_stamps.specs.declared.limits.TheConstants.{MAX_COUNTER}
use Rattle.album_items.specs.Openings.{is_base_opening}
use Rattle.album_items.specs.declared.openings.Opening.{Opening}
use Rattle.album_partition.specs.Partition.{PartitionState, first_partition, first_partitions}
use Rattle.album_passes.specs.Knowledge.{Terms}
use Rattle.album_keepers.specs.Firsts.{AreFirst}

-- a base has a partition, and its first counter is one that a stamp may have
pub some_parts : (o : Opening) → is_base_opening o ≡ true → 1 ≤ o.parts
some_parts o e = grind (arith, common_steps)

pub low_first : (o : Opening) → is_base_opening o ≡ true → o.first ≤ MAX_COUNTER
low_first o e = grind (arith, common_steps)

zero_plus : (n : ℕ) → 0 + n ≡ n
zero_plus n = omega arith

-- all partitions, in their order
pub all_first : (terms : Terms) (ps : List PartitionState)
    → ps ≡ first_partitions terms.checked terms.parts terms.limit terms.opening → AreFirst terms terms.parts ps
all_first terms ps e =
    let first : ℕ → PartitionState = first_partition terms.checked terms.parts terms.limit terms.opening in
    subst (AreFirst terms terms.parts) (sym e)
    (record {
      count_is = length-map-range_with_len first 0 terms.parts;
      each = λ k d l. get_or-map-range_with_len first 0 terms.parts k k d l (zero_plus k);
    })
