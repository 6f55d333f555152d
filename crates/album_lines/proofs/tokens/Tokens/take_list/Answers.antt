use Rattle.album_lines.proofs.Fronts.{list_taken}
use Rattle.album_lines.proofs.tokens.Tokens.take_list.Goals as goal

pub returns : goal.returns
returns c =
    list_taken c.args.self.now c.in_ok-begun.field-0.now c.in_ok-behind.field-0.now c.unspaced-self-inside.result.now c.in_ok-begun.ensures c.in_ok-behind.ensures c.unspaced-self-inside.ensures
