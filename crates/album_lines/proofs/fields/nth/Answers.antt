use Rattle.std.proofs.Common.{◌∙◌, sym, ap, option_map}
use Rattle.json.specs.Value.{value_view}
use Rattle.album_lines.specs.Trees.{data_in}
use Rattle.album_lines.proofs.Reading.{seen_in, item_in}
use Rattle.album_lines.proofs.fields.nth.Goals as goal

pub returns : goal.returns
returns c =
    seen_in c.at.result ∙ ap (option_map data_in) c.at.ensures ∙ sym (item_in c.args.i (value_view c.args.value.now))
