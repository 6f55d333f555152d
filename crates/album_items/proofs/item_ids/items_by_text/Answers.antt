use Rattle.std.proofs.Common.{refl}
use Rattle.album_items.specs.ItemIds.{text_of}
use Rattle.album_items.proofs.ItemTexts.{item_spelled, spelled_item}
use Rattle.album_items.proofs.item_ids.items_by_text.Goals as goal

pub returns-clause-read : goal.returns-clause-read
returns-clause-read c = λ item text. (item_spelled item text, spelled_item item text)

pub returns-clause-back : goal.returns-clause-back
returns-clause-back c = λ item small. spelled_item item (text_of item) (small, refl)
