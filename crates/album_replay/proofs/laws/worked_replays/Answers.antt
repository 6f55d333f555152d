use Rattle.std.proofs.Common.{refl}
use Rattle.album_lines.specs.Output.{refusal_line}
use Rattle.album_wire.proofs.OnLiterals.{lines_on_literals}
use Rattle.album_replay.specs.Replay.{replay_text}
use Rattle.album_replay.proofs.OnLiterals.{worlds_on_literals}
use Rattle.album_replay.proofs.laws.worked_replays.Goals as goal

pub returns-clause-nothing_at_all : goal.returns-clause-nothing_at_all
unfolding lines_on_literals refusal_line replay_text
returns-clause-nothing_at_all c = refl

pub returns-clause-no_begin : goal.returns-clause-no_begin
unfolding lines_on_literals refusal_line replay_text
returns-clause-no_begin c = refl

pub returns-clause-no_header : goal.returns-clause-no_header
unfolding lines_on_literals refusal_line replay_text
returns-clause-no_header c = refl

pub returns-clause-no_such_message : goal.returns-clause-no_such_message
unfolding lines_on_literals refusal_line replay_text
returns-clause-no_such_message c = refl

pub returns-clause-stopped_twice : goal.returns-clause-stopped_twice
unfolding lines_on_literals refusal_line replay_text
returns-clause-stopped_twice c = refl

pub returns-clause-traced : goal.returns-clause-traced
unfolding lines_on_literals worlds_on_literals refusal_line replay_text
returns-clause-traced c = refl

pub returns-clause-written_and_read : goal.returns-clause-written_and_read
unfolding lines_on_literals worlds_on_literals refusal_line replay_text
returns-clause-written_and_read c = refl

pub returns-clause-rooted : goal.returns-clause-rooted
unfolding lines_on_literals worlds_on_literals refusal_line replay_text
returns-clause-rooted c = refl

pub returns-clause-anonymous_adds : goal.returns-clause-anonymous_adds
unfolding lines_on_literals worlds_on_literals refusal_line replay_text
returns-clause-anonymous_adds c = refl

pub returns-clause-noted : goal.returns-clause-noted
unfolding lines_on_literals worlds_on_literals refusal_line replay_text
returns-clause-noted c = refl
