use Rattle.album_lines.proofs.Taking.{maybe_entries}
use Rattle.album_lines.proofs.judge_tokens.take_entries.Goals as goal

pub returns : goal.returns
returns c =
    maybe_entries c.args.tokens.now c.take_list.new.tokens c.take_each_entry.new.tokens c.take_each_entry.result c.in_ok-take_list.ensures c.take_each_entry.ensures
