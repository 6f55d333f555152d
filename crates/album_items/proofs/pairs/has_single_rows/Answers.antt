use Rattle.std.proofs.Common.{ℕ, false, get_or, sym, ap, ◌∙◌}
use Rattle.album_items.specs.Openings.{same_item}
use Rattle.album_items.proofs.Marked.{all_new, item_new, item_key}
use Rattle.album_items.proofs.pairs.has_single_rows.Goals as goal

pub loop-row-init : goal.loop-row-init
loop-row-init c = all_new item_key same_item 262144 c.args.rows.now

pub loop-row-preserved : goal.loop-row-preserved
loop-row-preserved c =
    let unmarked = ap (λ (k : ℕ). get_or c.loop-row.met k false) (sym c.code.ensures) ∙ sym c.mark.ensures.before ∙ c.if-mark.false in
    let new = item_new c.loop-row.met c.args.rows.now c.loop-row.row-index c.row-item.result c.requires.right c.loop-row-test.true c.row-item.is c.row-item.array_long unmarked in
    rw (c.mark.ensures.after, c.code.ensures) (new ∙ c.loop-row.invariant)
