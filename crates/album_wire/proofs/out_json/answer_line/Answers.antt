use Rattle.album_wire.proofs.Floats.{no_float_if_ok, no_float_in_reasons}
use Rattle.album_wire.proofs.out_json.answer_line.Goals as goal

pub json_line-requires : goal.json_line-requires
json_line-requires c =
    no_float_if_ok c.denied_json.result _ (no_float_in_reasons c.args.client c.as_slice.result.now) c.denied_json.ensures
