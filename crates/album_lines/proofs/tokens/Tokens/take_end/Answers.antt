use Rattle.album_lines.proofs.Fronts.{list_ended}
use Rattle.album_lines.proofs.tokens.Tokens.take_end.Goals as goal

pub returns : goal.returns
returns c = list_ended c.args.self.now c.go_on.new.self _ c.in-Some.ensures c.in_ok-go_on.ensures
