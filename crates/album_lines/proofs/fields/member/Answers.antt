use Rattle.std.proofs.Common.{◌∙◌, sym, ap, option_map}
use Rattle.json.specs.Value.{value_view}
use Rattle.album_lines.specs.Trees.{data_in}
use Rattle.album_lines.proofs.Reading.{seen_in, member_in}
use Rattle.album_lines.proofs.fields.member.Goals as goal

pub returns : goal.returns
returns c =
    seen_in c.get.result ∙ ap (option_map data_in) c.get.ensures ∙ sym (member_in c.args.name.now (value_view c.args.value.now))
