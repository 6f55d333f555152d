use Rattle.album_wire.proofs.Floats.{no_float_if_ok, no_float_in_mark}
use Rattle.album_wire.proofs.mark_line.write_mark.Goals as goal

pub json_line-requires : goal.json_line-requires
json_line-requires c =
    no_float_if_ok c.mark_json-value.result _ (no_float_in_mark c.args.part c.args.stamp c.args.writes.now c.args.items.now)
    c.mark_json-value.ensures
