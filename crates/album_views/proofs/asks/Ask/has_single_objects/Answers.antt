use Rattle.std.proofs.Common.{rules}
use Rattle.album_views.proofs.Flaws.{single_lists, count_lists}
use Rattle.album_views.proofs.asks.Ask.has_single_objects.Goals as goal

-- there are new lists
pub returns-then-not-is_empty : goal.returns-then-not-is_empty
returns-then-not-is_empty c = search (rules, single_lists, count_lists)
