use Rattle.album_permits.proofs.Transacting.{effect_items, effect_kinds}
use Rattle.album_permits.proofs.effect_laws.an_effect_is_one_transaction.Goals as goal

pub returns-clause-items : goal.returns-clause-items
returns-clause-items c = effect_items

pub returns-clause-kinds : goal.returns-clause-kinds
returns-clause-kinds c = effect_kinds
