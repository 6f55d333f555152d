-- What the lines of a connection say: the first names the principal, and each later one says what is asked.
use Rattle.std.specs.Prelude.{ℕ, List, Result, Ok}
use Rattle.std.specs.Option.{ok_or}
use Rattle.album_stamps.specs.declared.refusals.Refusal.{Refusal}
use Rattle.album_stamps.specs.declared.refusals.Refusal.TheVariants.{BadWho}
use Rattle.album_stamps.specs.Outcome.{◌>>=◌}
use Rattle.album_eval.specs.Matching.{principal_of}
use Rattle.album_eval.specs.declared.facts.Principal.{Principal}
use Rattle.album_lines.specs.Fields.{data_of}
use Rattle.album_wire.specs.Asks.{ask_read}
use Rattle.album_wire.specs.TalkShape.{SpelledTalk, Asked, Pending, Swept, Dumped, Trimmed, hello_shape_of, talk_shape_of}
use Rattle.album_wire.specs.declared.talk_line.TalkLine.{TalkLine}
use Rattle.album_wire.specs.declared.talk_line.TalkLine.TheVariants as line

-- the principal, by the bytes of the first line, or the first test that they fail
unfoldable pub hello_line_of : List ℕ → Result Principal Refusal
hello_line_of bytes = do
  who ← data_of bytes >>= hello_shape_of
  ok_or (principal_of who) BadWho

-- the values of the fields
unfoldable pub talk_read : SpelledTalk → Result TalkLine Refusal
talk_read (Asked ask) = do
  ask ← ask_read ask
  Ok (line.Ask ask)
talk_read (Pending part) = Ok (line.Pending part)
talk_read (Swept part stamp) = Ok (line.Sweep part stamp)
talk_read Dumped = Ok line.Dump
talk_read (Trimmed part item) = Ok (line.Trim part item)

-- what the bytes of a later line say, or the first test that they fail
unfoldable pub talk_line_of : List ℕ → Result TalkLine Refusal
talk_line_of bytes = data_of bytes >>= talk_shape_of >>= talk_read
