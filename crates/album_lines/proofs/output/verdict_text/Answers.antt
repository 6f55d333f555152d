use Rattle.std.proofs.Common.{rules}
use Rattle.album_lines.proofs.AnswerTexts.{granted_text, denied_text, denied_at_end_text}
use Rattle.album_lines.proofs.output.verdict_text.Goals as goal

pub returns-in-Granted : goal.returns-in-Granted
returns-in-Granted c = rw (c.in-Granted.is, granted_text) c.from_str.ensures.ok

pub returns-in-DeniedBy : goal.returns-in-DeniedBy
returns-in-DeniedBy c = rw (c.in-DeniedBy.is, denied_text c.in-DeniedBy.index) (search rules)

pub returns-in-DeniedAtEnd : goal.returns-in-DeniedAtEnd
returns-in-DeniedAtEnd c = rw (c.in-DeniedAtEnd.is, denied_at_end_text) c.from_str-in-DeniedAtEnd.ensures.ok
