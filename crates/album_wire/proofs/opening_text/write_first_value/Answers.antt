use Rattle.album_wire.proofs.Floats.{no_float_if_ok, no_float_in_first_value}
use Rattle.album_wire.proofs.opening_text.write_first_value.Goals as goal

pub json_line-requires : goal.json_line-requires
json_line-requires c =
    no_float_if_ok c.first_value_json-value.result _ (no_float_in_first_value c.args.item c.args.stamp c.args.value.now) c.first_value_json-value.ensures
