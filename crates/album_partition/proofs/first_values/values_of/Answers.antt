use Rattle.std.proofs.Common.{◌==◌, ap, ◌∙◌}
use Rattle.indexmap.specs.IndexMap.{insert_entry}
use Rattle.album_partition.proofs.FirstValueLemmas.{row_more}
use Rattle.album_partition.proofs.first_values.values_of.Goals as goal

-- one row more
pub loop-row-preserved : goal.loop-row-preserved
loop-row-preserved c =
    c.in_ok-insert.ensures.entries
    ∙ ap (insert_entry (λ i j. i == j) c.loop-row.values.entries c.row-item.result.0) c.in_ok-shared_copy.ensures
    ∙ row_more c.loop-row.values c.args.rows.now c.loop-row.row-index c.row-item.result c.row-item.result
    c.loop-row.invariant c.row-item.is c.requires c.loop-row-test.true
