use Rattle.std.proofs.Common.{List, false, sym, ap, ◌∙◌}
use Rattle.std.proofs.lemmas.List.{length-replicate, drop_all}
use Rattle.album_items.specs.Openings.{Row}
use Rattle.album_items.proofs.Fitting.{is_told, none_told, all_told, fit_lists}
use Rattle.album_items.proofs.pairs.has_fit_lists.Goals as goal

pub loop-row-init : goal.loop-row-init
loop-row-init c = (length-replicate 65536 false, none_told 65536 c.args.rows.now)

pub loop-row-2-init : goal.loop-row-2-init
loop-row-2-init c =
    let none_left = drop_all c.loop-row.row-index c.args.rows.now c.loop-row-test.false in (
      c.loop-row.invariant.0,
      fit_lists c.loop-row.plain c.args.rows.now c.requires.right (λ n.
          sym (all_told c.loop-row.plain n) ∙ ap (λ (rows : List Row). is_told c.loop-row.plain rows n) (sym none_left) ∙ c.loop-row.invariant.1 n),
    )
