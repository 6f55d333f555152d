use Rattle.album_lines.proofs.Fronts.{comma_behind}
use Rattle.album_lines.proofs.tokens.Tokens.go_on.Goals as goal

pub returns-in-Some : goal.returns-in-Some
returns-in-Some c =
    comma_behind c.args.text.now c.unspaced-text.result.now c.in-Some.more.now c.unspaced-self-inside.result.now
    c.unspaced-text.ensures c.in-Some.ensures c.unspaced-self-inside.ensures
