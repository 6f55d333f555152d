-- What it is for a log in a file to keep an entry.
use Rattle.std.specs.Prelude.{ℕ, IsTrue, List}
use Rattle.album_keepers.specs.declared.log_entries.LogEntry.{LogEntry}
use Rattle.album_log.specs.Logs.{LogView, Outcomes}
use Rattle.album_log.specs.Texts.{whole_text}
use Rattle.album_data.specs.Texts.{entry_text, HasLine}

-- Each crash leaves a text that has the entry's line, where the disk leaves of each byte the old one or the one that
-- was written.
abbrev pub Keeps : {D : Type 0} → (D → Outcomes) → LogView D → LogEntry → Type 0
Keeps may_leave log entry =
    IsTrue log.is_mixing → (c : List ℕ) → may_leave log.disk c → HasLine (whole_text c) (entry_text entry)

-- what is to be appended has its line
abbrev pub Adds : List ℕ → LogEntry → Type 0
Adds text entry = HasLine text (entry_text entry)
