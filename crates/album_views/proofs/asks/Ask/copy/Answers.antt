use Rattle.std.proofs.Common.{rules}
use Rattle.std.proofs.lemmas.List.Elements.{same_from_all_zip}
use Rattle.album_views.proofs.asks.Ask.copy.Goals as goal

pub returns-clause-copy : goal.returns-clause-copy
returns-clause-copy c = search (rules, same_from_all_zip)
