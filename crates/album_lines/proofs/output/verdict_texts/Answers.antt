use Rattle.album_lines.proofs.AnswerTexts.{granted_text, denied_text, denied_at_end_text}
use Rattle.album_lines.proofs.output.verdict_texts.Goals as goal

pub returns-clause-granted : goal.returns-clause-granted
returns-clause-granted c = granted_text

pub returns-clause-denied_by : goal.returns-clause-denied_by
returns-clause-denied_by c = denied_text

pub returns-clause-denied_at_end : goal.returns-clause-denied_at_end
returns-clause-denied_at_end c = denied_at_end_text
