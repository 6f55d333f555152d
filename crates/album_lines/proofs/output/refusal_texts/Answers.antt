use Rattle.album_lines.proofs.AnswerTexts.{refusal_text}
use Rattle.album_lines.proofs.output.refusal_texts.Goals as goal

pub returns : goal.returns
returns c = refusal_text
