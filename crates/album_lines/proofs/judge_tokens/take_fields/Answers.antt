use Rattle.std.proofs.Common.{◌≡◌, Some, refl}
use Rattle.json.specs.Json.{read_key}
use Rattle.album_lines.proofs.TakenFields.{no_fields, name_taken, none_taken, fewer_tokens, one_more_field, all_fields}
use Rattle.album_lines.proofs.judge_tokens.take_fields.Goals as goal

pub loop-fields-init : goal.loop-fields-init
loop-fields-init c = no_fields c.args.tokens.now _ refl

pub loop-fields-smaller : goal.loop-fields-smaller
loop-fields-smaller c =
    let key : read_key c.loop-fields.tokens ≡ Some (Some c.in-Some.key.now, c.take_key.new.self) =
    name_taken c.in_ok-key.field-0 c.in-Some.key c.loop-fields.tokens c.take_key.new.self c.in_ok-key.ensures c.in-Some.is in
    fewer_tokens c.loop-fields.tokens c.take_key.new.self c.take_field.new.tokens c.in-Some.key.now c.loop-fields.fields c.take_field.new.fields key c.in_ok-take_field.ensures

pub loop-fields-preserved : goal.loop-fields-preserved
loop-fields-preserved c =
    let key : read_key c.loop-fields.tokens ≡ Some (Some c.in-Some.key.now, c.take_key.new.self) =
    name_taken c.in_ok-key.field-0 c.in-Some.key c.loop-fields.tokens c.take_key.new.self c.in_ok-key.ensures c.in-Some.is in
    one_more_field c.args.tokens.now c.loop-fields.tokens c.take_key.new.self c.take_field.new.tokens c.in-Some.key.now c.loop-fields.fields c.take_field.new.fields c.loop-fields.invariant key c.in_ok-take_field.ensures

pub returns : goal.returns
returns c =
    all_fields c.args.tokens.now c.loop-fields.tokens c.take_key.new.self c.loop-fields.fields c.loop-fields.invariant
    (none_taken c.in_ok-key.field-0 c.loop-fields.tokens c.take_key.new.self c.in_ok-key.ensures c.in_default.is)
