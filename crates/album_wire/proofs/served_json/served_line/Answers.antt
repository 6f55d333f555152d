use Rattle.album_wire.proofs.Floats.{no_float_if_ok, no_float_in_group, no_float_in_entries}
use Rattle.album_wire.proofs.served_json.served_line.Goals as goal

pub json_line-requires : goal.json_line-requires
json_line-requires c =
    no_float_if_ok c.group_served-served.result _
    (no_float_in_group c.args.client c.in-Group.object c.stamp_shown-stamp.result c.as_slice.result.now)
    c.group_served-served.ensures

pub json_line-requires-in-Entries : goal.json_line-requires-in-Entries
json_line-requires-in-Entries c =
    no_float_if_ok c.entries_served-served.result _
    (no_float_in_entries c.args.client c.in-Entries.object c.stamp_shown-stamp.result c.entries.result.now)
    c.entries_served-served.ensures
