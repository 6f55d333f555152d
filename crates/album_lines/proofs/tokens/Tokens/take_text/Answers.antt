use Rattle.album_lines.proofs.Fronts.{text_taken}
use Rattle.album_lines.proofs.tokens.Tokens.take_text.Goals as goal

pub returns : goal.returns
returns c =
    text_taken c.args.self.now c.go_on.new.self c.in_ok-begun.field-0.now c.in_ok-text.more.now c.in_ok-text.text.now c.in_ok-begun.ensures c.in_ok-text.ensures c.in_ok-go_on.ensures
