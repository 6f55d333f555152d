use Rattle.std.proofs.Common.{◌∙◌}
use Rattle.album_lines.proofs.Reading.{all_known}
use Rattle.album_lines.proofs.fields.has_only_names.Goals as goal

pub returns : goal.returns
returns c = c.are_known.ensures ∙ all_known c.args.names.now c.args.members.now
