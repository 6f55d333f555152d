use Rattle.album_lines.proofs.Taking.{maybe_whole}
use Rattle.album_lines.proofs.judge_tokens.take_whole.Goals as goal

pub returns : goal.returns
returns c = maybe_whole c.args.tokens.now c.take_whole.new.self c.take_whole.result c.take_whole.ensures
