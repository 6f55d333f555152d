use Rattle.std.proofs.Common.{rules}
use Rattle.album_lines.proofs.AnswerTexts.{refusal_text}
use Rattle.album_lines.proofs.output.refusal_text.Goals as goal

pub returns : goal.returns
returns c = rw (refusal_text c.args.refusal, ← c.name-name.ensures, ← c.number-number.ensures) (search rules)
