use Rattle.std.proofs.Common.{sym, subst, refl}
use Rattle.album_items.specs.declared.openings.Opening.{Opening}
use Rattle.album_world.specs.State.{Now}
use Rattle.album_restarts.specs.Next.{IsNextOpening}
use Rattle.album_restarts.proofs.BaseLemmas.{next_base}
use Rattle.album_restarts.proofs.NextLemmas.{next_is}
use Rattle.album_restarts.proofs.reopening.next_opening.Goals as goal

pub returns-clause-base : goal.returns-clause-base
returns-clause-base c =
    let opening = c.args.opening.now in
    let next : Opening = record {
      parts = opening.parts;
      limit = opening.limit;
      policy = opening.policy;
      checked = opening.checked;
      root = opening.root;
      first = c.max.result;
      items = c.in_ok-items.items;
      stamps = c.in_ok-items.stamps;
    } in
    next_base opening next c.requires.0 c.requires.1.passes
    (subst (λ (now : Now). IsNextOpening opening now next) c.requires.1.kept
    (next_is opening c.args.world.now next c.highest_counter.result refl refl refl refl refl c.max.ensures
    c.highest_counter.ensures.highest c.in_ok-items.ensures.folded c.in_ok-items.ensures.stamped))
