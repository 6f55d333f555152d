use Rattle.album_lines.proofs.Fronts.{number_taken}
use Rattle.album_lines.proofs.tokens.Tokens.take_whole.Goals as goal

pub returns : goal.returns
returns c = (
  c.in_ok-n.ensures.0,
  number_taken c.args.self.now c.go_on.new.self c.in_ok-begun.field-0.now c.in_ok-n.more.now _ c.in_ok-begun.ensures c.in_ok-n.ensures.1 c.in_ok-go_on.ensures,
)
