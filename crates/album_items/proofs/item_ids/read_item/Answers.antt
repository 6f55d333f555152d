use Rattle.std.proofs.Common.{lit<, sym, None}
use Rattle.std.proofs.lemmas.Str.Pattern.{split_once_first}
use Rattle.album_items.proofs.ItemTexts.{no_slash}
use Rattle.album_items.proofs.item_ids.read_item.Goals as goal

pub returns-in_err-word : goal.returns-in_err-word
returns-in_err-word c = rw c.from_residual.ensures (sym (no_slash c.args.text.now (split_once_first 47 c.args.text.now None c.in_err-word.ensures.cases (lit< tt))))
