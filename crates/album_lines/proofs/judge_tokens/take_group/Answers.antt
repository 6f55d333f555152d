use Rattle.album_lines.proofs.Taking.{a_group}
use Rattle.album_lines.proofs.judge_tokens.take_group.Goals as goal

pub returns : goal.returns
returns c =
    a_group c.args.tokens.now c.take_list.new.tokens c.take_whole.new.tokens c.take_list-2.new.tokens c.take_each_text.new.tokens c.take_end.new.tokens _ _
    c.in_ok-take_list.ensures c.in_ok-number.ensures c.in_ok-take_list-2.ensures c.in_ok-members.ensures c.in_ok-take_end.ensures
