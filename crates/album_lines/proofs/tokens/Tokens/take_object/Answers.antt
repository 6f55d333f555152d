use Rattle.album_lines.proofs.Fronts.{object_taken}
use Rattle.album_lines.proofs.tokens.Tokens.take_object.Goals as goal

pub returns : goal.returns
returns c =
    object_taken c.args.self.now c.in_ok-begun.field-0.now c.in_ok-behind.field-0.now c.unspaced-self-inside.result.now c.in_ok-begun.ensures c.in_ok-behind.ensures c.unspaced-self-inside.ensures
