use Rattle.std.proofs.Common.{Option, Bor, true, false, length-set, sym, ap, ◌∙◌}
use Rattle.std.proofs.lemmas.List.{length-replicate}
use Rattle.std.specs.Option.{option_map, option_copied}
use Rattle.album_items.specs.Openings.{same_list}
use Rattle.album_items.specs.declared.values.Head.{Head}
use Rattle.album_items.proofs.Marked.{all_new, list_new, list_none, list_key}
use Rattle.album_items.proofs.pairs.has_own_lists.Goals.{in-Some+else-mark, in_default}
use Rattle.album_items.proofs.pairs.has_own_lists.Goals as goal

pub loop-row-init : goal.loop-row-init
loop-row-init c = (length-replicate 65536 false, all_new list_key same_list 65536 c.args.rows.now)

pub loop-row-preserved : goal.loop-row-preserved
loop-row-preserved c = elim c.match-head.branch [
  | in-Some+else-mark w ↦
      let named = ap (option_map (λ (head : Head). head.list)) (sym c.head.ensures ∙ ap (λ (o : Option (Bor Head)). option_copied o) w.in-Some.is) in
      let new = list_new c.loop-row.named c.args.rows.now c.loop-row.row-index c.row-item.result w.in-Some.head.now.list c.requires.right c.loop-row-test.true c.row-item.is c.loop-row.invariant.0 named (sym w.mark.ensures.before ∙ w.if-mark.false) in
      rw (w.named-is, w.mark.ensures.after) (length-set c.loop-row.named w.in-Some.head.now.list true ∙ c.loop-row.invariant.0, new ∙ c.loop-row.invariant.1)
  | in_default w ↦
      let none = ap (option_map (λ (head : Head). head.list)) (sym c.head.ensures ∙ ap (λ (o : Option (Bor Head)). option_copied o) w.in_default.is) in
      rw w.named-is (c.loop-row.invariant.0, list_none c.loop-row.named c.args.rows.now c.loop-row.row-index c.row-item.result c.loop-row-test.true c.row-item.is none ∙ c.loop-row.invariant.1)
]
