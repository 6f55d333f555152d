use Rattle.std.proofs.Common.{sym, ap, ◌∙◌}
use Rattle.json.specs.Lex.{between, lex}
use Rattle.album_lines.proofs.Fronts.{object_ended, key_taken}
use Rattle.album_lines.proofs.tokens.Tokens.take_key.Goals as goal

pub returns-in-Some : goal.returns-in-Some
returns-in-Some c = object_ended c.args.self.now c.go_on.new.self c.in-Some.more.now c.in-Some.ensures c.in_ok-go_on.ensures

pub returns : goal.returns
returns c =
    key_taken c.args.self.now c.in_ok-begun.field-0.now c.in_ok-name.more.now c.in_ok-behind.field-0.now c.unspaced-self-inside.result.now c.in_ok-name.name.now
    c.in_ok-begun.ensures c.in_ok-name.ensures (ap (lex between) (sym c.in_ok-behind.ensures) ∙ c.unspaced.ensures) c.unspaced-self-inside.ensures
