-- What an answer unfolds to compute what a literal line spells, and the line of a literal value. For the worked lines.
use Rattle.std.specs.Prelude.{⊤}
use Rattle.std.specs.Fmt.{digits}
use Rattle.std.specs.Str.{is_utf8, chars}
use Rattle.hex.proofs.OnLiterals.{hex_on_literals}
use Rattle.serde_json.proofs.OnLiterals.{serde_json_on_literals}
use Rattle.album_lists.specs.Whos.{before, user_of, whole_number_of, group_of, member_of, special_of, who_of}
use Rattle.album_lists.specs.Entries.{access_list_of, is_spelled}
use Rattle.album_eval.specs.Matching.{principal_of}
use Rattle.album_items.specs.ItemIds.{code_named, item_of}
use Rattle.album_lines.specs.Fields.{data_of}
use Rattle.album_lines.specs.Shapes.{entry_shape_of}
use Rattle.album_lines.specs.Values.{entry_read, entries_read, members_read}
use Rattle.album_wire.specs.ItemTexts.{bytes_read, content_read}
use Rattle.album_wire.specs.ItemShapes.{child_of, head_shape_of, picture_shape_of, album_shape_of, list_shape_of, group_shape_of}
use Rattle.album_wire.specs.OpeningShape.{header_of, open_shape_of, item_shape_of, begin_shape_of}
use Rattle.album_wire.specs.OpeningLine.{value_read, opening_read, opening_line_of}
use Rattle.album_wire.specs.AskShape.{read_shape_of, head_ask_shape_of, children_shape_of, add_group_shape_of, retitle_shape_of, replace_shape_of, new_list_shape_of, set_lists_shape_of, new_membership_shape_of, share_shape_of}
use Rattle.album_wire.specs.EventShape.{part_named, asked_shape_of, range_of, deliver_shape_of, sweep_of, sweep_shape_of, stop_shape_of, restart_shape_of, trim_of, trim_shape_of}
use Rattle.album_wire.specs.MarkShape.{write_shape_of, mark_shape_of}
use Rattle.album_wire.specs.MarkLine.{write_read, mark_read, mark_line_of, mark_text}
use Rattle.album_wire.specs.OpeningJson.{opening_text}
use Rattle.album_wire.specs.Asks.{new_list_read, new_membership_read, ask_read}
use Rattle.album_wire.specs.EventLine.{event_read, event_line_of}
use Rattle.album_wire.specs.TalkShape.{hello_shape_of, talk_ask_shape_of, pending_shape_of, talk_sweep_shape_of, dump_shape_of, talk_trim_shape_of}
use Rattle.album_wire.specs.TalkLine.{hello_line_of, talk_read, talk_line_of}
use Rattle.album_wire.specs.OutJson.{out_line}
use Rattle.album_wire.specs.TalkJson.{talk_text}

unfoldable pub whos_on_literals : ⊤
unfolding digits before user_of whole_number_of group_of member_of special_of who_of principal_of
whos_on_literals = tt

unfoldable pub lists_on_literals : ⊤
unfolding whos_on_literals entry_shape_of access_list_of is_spelled entry_read entries_read members_read
lists_on_literals = tt

unfoldable pub items_on_literals : ⊤
unfolding lists_on_literals hex_on_literals code_named item_of bytes_read content_read child_of
items_on_literals = tt

unfoldable pub values_on_literals : ⊤
unfolding items_on_literals head_shape_of picture_shape_of album_shape_of list_shape_of group_shape_of value_read
values_on_literals = tt

unfoldable pub openings_on_literals : ⊤
unfolding values_on_literals header_of open_shape_of item_shape_of begin_shape_of opening_read opening_line_of
openings_on_literals = tt

unfoldable pub asks_on_literals : ⊤
unfolding items_on_literals head_ask_shape_of children_shape_of add_group_shape_of retitle_shape_of replace_shape_of new_list_shape_of set_lists_shape_of new_list_read new_membership_shape_of share_shape_of new_membership_read
asks_on_literals = tt

unfoldable pub parts_on_literals : ⊤
unfolding part_named range_of deliver_shape_of sweep_of sweep_shape_of stop_shape_of restart_shape_of trim_of trim_shape_of
parts_on_literals = tt

unfoldable pub events_on_literals : ⊤
unfolding asks_on_literals parts_on_literals asked_shape_of ask_read event_read event_line_of
events_on_literals = tt

unfoldable pub marks_on_literals : ⊤
unfolding part_named write_shape_of mark_shape_of write_read mark_read mark_line_of mark_text opening_text
marks_on_literals = tt

unfoldable pub talks_on_literals : ⊤
unfolding read_shape_of hello_shape_of talk_ask_shape_of pending_shape_of talk_sweep_shape_of dump_shape_of talk_trim_shape_of hello_line_of talk_read talk_line_of talk_text
talks_on_literals = tt

unfoldable pub lines_on_literals : ⊤
unfolding is_utf8 chars serde_json_on_literals data_of openings_on_literals events_on_literals marks_on_literals talks_on_literals out_line
lines_on_literals = tt
