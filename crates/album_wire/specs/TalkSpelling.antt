-- The lines of a connection, as they are spelled.
use Rattle.std.specs.Prelude.{ℕ, List, codes, true}
use Rattle.serde_json.specs.Data.{Data}
use Rattle.album_eval.specs.declared.facts.Principal.{Principal}
use Rattle.album_lines.specs.Spelling.{IsJson}
use Rattle.album_wire.specs.ObjectSpelling.{HasJust, IsTruth}
use Rattle.album_wire.specs.AskSpelling.{IsAsk}
use Rattle.album_wire.specs.EventSpelling.{IsPrincipal, IsPart, IsSweep, IsTrim}
use Rattle.album_wire.specs.declared.talk_line.TalkLine.{TalkLine}
use Rattle.album_wire.specs.declared.talk_line.TalkLine.TheVariants as line

-- the object of the first line: the principal
abbrev pub IsHello : Principal → Data → Type 0
IsHello who = HasJust (codes "who") (IsPrincipal who)

-- the object of a later line
abbrev pub IsTalk : TalkLine → Data → Type 0
IsTalk (line.Ask ask) = HasJust (codes "ask") (IsAsk ask)
IsTalk (line.Pending part) = HasJust (codes "pending") (IsPart part)
IsTalk (line.Sweep part stamp) = HasJust (codes "sweep") (IsSweep part stamp)
IsTalk line.Dump = HasJust (codes "dump") (IsTruth true)
IsTalk (line.Trim part item) = HasJust (codes "trim") (IsTrim part item)

-- the bytes of a first line that says this
abbrev pub IsHelloLine : Principal → List ℕ → Type 0
IsHelloLine who bytes = (d : Data) × IsJson d bytes × IsHello who d

-- the bytes of a later line that says this
abbrev pub IsTalkLine : TalkLine → List ℕ → Type 0
IsTalkLine line bytes = (d : Data) × IsJson d bytes × IsTalk line d
