use Rattle.album_lines.proofs.Taking.{maybe_text}
use Rattle.album_lines.proofs.judge_tokens.take_text.Goals as goal

pub returns : goal.returns
returns c = maybe_text c.args.tokens.now c.take_text.new.self c.take_text.result c.take_text.ensures
