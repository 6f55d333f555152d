use Rattle.std.proofs.Common.{rules, ◌≤◌, ap, sym, subst}
use Rattle.album_stamps.specs.declared.limits.TheConstants.{MAX_PARTS}
use Rattle.album_passes.specs.Desk.{terms_of}
use Rattle.album_passes.specs.Knowledge.{Terms}
use Rattle.album_passes.proofs.DeskLemmas.{few_parts}
use Rattle.album_keepers.specs.Firsts.{AreFirst}
use Rattle.album_items.proofs.BaseLemmas.{opening_is_base}
use Rattle.album_threads.proofs.OpenedLemmas.{some_parts, low_first, all_first}
use Rattle.album_threads.proofs.opened.Opened.new.Goals as goal

pub invariant_of-result : goal.invariant_of-result
invariant_of-result c = record {
  parts_are = ap (λ (t : Terms). t.parts) c.in_ok-desk.ensures.terms;
  checked_is = ap (λ (t : Terms). t.checked) c.in_ok-desk.ensures.terms;
  counter_is = ap (λ (t : Terms). t.first) c.in_ok-desk.ensures.terms;
  low_counter = low_first c.args.opening.now (opening_is_base c.args.opening.now (search rules));
  some = subst (λ (t : Terms). 1 ≤ t.parts) (sym c.in_ok-desk.ensures.terms) (some_parts c.args.opening.now (opening_is_base c.args.opening.now (search rules)));
  few = subst (λ (t : Terms). t.parts ≤ MAX_PARTS) (sym c.in_ok-desk.ensures.terms) (few_parts c.args.opening.now (opening_is_base c.args.opening.now (search rules)));
  owned = c.in_ok-desk.ensures.owners;
  opened = subst (λ (t : Terms). AreFirst t t.parts c.in_ok-partitions.partitions.items) (sym c.in_ok-desk.ensures.terms) (all_first (terms_of c.args.opening.now c.args.sessions) c.in_ok-partitions.partitions.items c.in_ok-partitions.ensures.partitions);
  first = c.in_ok-desk.ensures.pass;
}
