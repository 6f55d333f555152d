use Rattle.std.proofs.Common.{rules}
use Rattle.std.proofs.lemmas.Result.{on_ok_weaker, on_err_weaker}
use Rattle.album_versions.proofs.VersionLemmas.{none_lent, added_by, unchanged_by}
use Rattle.album_versions.proofs.versions.add_in.Goals as goal

-- the row that is lent is the item's, or the empty one
pub add-requires : goal.add-requires
add-requires c = none_lent c.args.rows.now c.args.item c.args.stamp _ c.or_insert.result.now c.args.row c.requires.new c.in-Ok.ensures.value c.requires.empty c.or_insert.ensures.value

pub returns-in-Ok-clause-added : goal.returns-in-Ok-clause-added
returns-in-Ok-clause-added c =
    on_ok_weaker c.add.result (λ added. added_by c.args.rows.now _ c.args.item c.args.stamp c.args.value _ c.or_insert.result.now c.args.row c.add.new.self (search rules) c.in-Ok.ensures.value c.requires.empty c.or_insert.ensures.value added c.add.ensures.latest c.add.ensures.floor) c.add.ensures.added

pub returns-in-Ok-clause-unchanged : goal.returns-in-Ok-clause-unchanged
returns-in-Ok-clause-unchanged c =
    on_err_weaker c.add.result (λ same. unchanged_by c.args.rows.now _ c.args.item _ c.or_insert.result.now c.args.row c.add.new.self (search rules) c.in-Ok.ensures.value c.requires.empty c.or_insert.ensures.value same) c.add.ensures.unchanged
