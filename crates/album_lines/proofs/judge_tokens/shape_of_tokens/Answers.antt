use Rattle.std.proofs.Common.{◌≡◌, [], ap, ◌∙◌, rules}
use Rattle.json.specs.Lex.{tokens}
use Rattle.album_lines.proofs.TakenFields.{line_taken}
use Rattle.album_lines.proofs.judge_tokens.shape_of_tokens.Goals as goal

pub returns : goal.returns
returns c =
    let over : c.take_fields.new.tokens ≡ [] = search rules in
    line_taken c.args.bytes.now _ c.take_object.new.self c.take_fields.new.tokens c.in_ok-fields.fields c.shape_of.result c.in-Ok.ensures.cases.1
    (c.of-tokens.ensures ∙ ap tokens c.in-Ok.ensures.cases.0) c.in_ok-take_object.ensures c.in_ok-fields.ensures over
    c.shape_of.ensures
