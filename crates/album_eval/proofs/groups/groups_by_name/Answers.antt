use Rattle.std.proofs.Common.{rules, tests}
use Rattle.std.proofs.lemmas.Iterator.{items_from_collect, YieldsList-from_map}
use Rattle.std.proofs.lemmas.Iterator.Consumers.{YieldsList-at, YieldsList-from_rest, YieldsList-from_filter}
use Rattle.album_eval.proofs.Turning.{Entry, lists_user, by_result}
use Rattle.album_eval.proofs.groups.groups_by_name.Goals as goal

pub returns : goal.returns
returns c =
    by_result c.args.groups.now c.args.user.now c.collect.result c.iter.ensures.ordered (items_from_collect _ c.collect.ensures.ran (YieldsList-from_map _ (λ (e : Entry). e.0) (YieldsList-at c.map.ensures.source (YieldsList-from_filter _ (lists_user c.args.user.now) (YieldsList-at c.filter.ensures.source (YieldsList-from_rest c.args.groups.now.entries c.iter.ensures.rest)) c.filter.ensures.closure (λ x b q k. search (rules, tests)))) c.map.ensures.closure (λ x r q k. search (rules, tests))))
