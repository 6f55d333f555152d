use Rattle.album_lines.proofs.TakenFields.{made_of_fields}
use Rattle.album_lines.proofs.judge_tokens.shape_of.Goals as goal

pub returns : goal.returns
returns c =
    made_of_fields c.args.fields c.in_ok-fields.field-0 c.unwrap_or.result c.in_ok-fields-2.field-0 c.in_ok-fields-5.field-0 c.unwrap_or-2.result c.new.result c.in_ok-fields-3.field-0 c.in_ok-fields-4.field-0 c.unwrap_or-3.result
    c.in_ok-fields.was c.unwrap_or.ensures c.in_ok-fields-2.was c.unwrap_or-2.ensures c.new.ensures.items c.in_ok-fields-3.was c.in_ok-fields-4.was c.in_ok-fields-5.was c.unwrap_or-3.ensures
