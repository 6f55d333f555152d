use Rattle.album_lines.proofs.Questions.{one_question}
use Rattle.album_lines.proofs.judge_line.questions_by_line.Goals as goal

pub returns : goal.returns
returns c = one_question
