-- The line of a service's figures.
use Rattle.std.specs.Prelude.{List, [], ◌∷◌, ℕ, codes, map}
use Rattle.serde_json.specs.Data.{Data}
use Rattle.album_partition.specs.declared.figures.Figures.{Figures}
use Rattle.album_lines.specs.Spelling.{whole_data, list_data}
use Rattle.album_lines.specs.Output.{line_text}
use Rattle.album_wire.specs.ValueJson.{object_data}
use Rattle.album_wire.specs.TalkJson.{counted_json}
use Rattle.album_wire.specs.declared.talk_json.Counted.{Counted}
use Rattle.album_wire.specs.declared.figures_json.ServiceFigures.{ServiceFigures}

-- [those that have a session, those that have had one, those that may have one]
abbrev pub connections_json : ℕ → ℕ → ℕ → Data
connections_json connected begun most =
    list_data (whole_data connected ∷ whole_data begun ∷ whole_data most ∷ [])

-- [the marks that are made, those for which there is room]
abbrev pub marks_json : Figures → Data
marks_json part = list_data (whole_data part.marks ∷ whole_data part.limit ∷ [])

-- of so many connections, of these partitions, and of the notes
abbrev pub figures_of : (connected begun most : ℕ) → List Figures → (audits alarms : Counted) → Data
figures_of connected begun most parts audits alarms = object_data (
    (codes "alarms", counted_json alarms)
    ∷ (codes "audits", counted_json audits)
    ∷ (codes "connections", connections_json connected begun most)
    ∷ (codes "marks", list_data (map marks_json parts))
    ∷ (codes "pending", list_data (map (λ part. whole_data part.pending) parts))
    ∷ (codes "versions", list_data (map (λ part. whole_data part.versions) parts))
    ∷ [])

abbrev pub figures_json : ServiceFigures → Data
figures_json figures =
    figures_of figures.connected figures.begun figures.most figures.parts.items figures.audits figures.alarms

-- the line
unfoldable pub figures_text : ServiceFigures → List ℕ
figures_text figures = line_text (figures_json figures)
