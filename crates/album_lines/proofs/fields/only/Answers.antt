use Rattle.std.proofs.Common.{rules}
use Rattle.album_lines.proofs.Reading.{other_names}
use Rattle.album_lines.proofs.fields.only.Goals as goal

pub returns-then-not-has_only_names : goal.returns-then-not-has_only_names
returns-then-not-has_only_names c = λ _. other_names _ c.args.value.now c.in-Object.members c.in-Object.is (grind rules)
