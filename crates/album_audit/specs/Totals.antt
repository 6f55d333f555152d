-- How many notes there are of each kind.
use Rattle.std.specs.Prelude.{◌+◌, ℕ, List, map, filter, length, Bool, not, ◌&&◌, count_by}
use Rattle.album_permits.specs.declared.notes.Note.{Note}
use Rattle.album_audit.specs.declared.totals.Record.{Record}
use Rattle.album_audit.specs.declared.totals.Totals.{Totals}

-- an entry that audits took note of what was granted
abbrev pub is_audit_ok : Record → Bool
is_audit_ok of = not of.note.alarm && of.note.success

-- an entry that audits took note of what was refused
abbrev pub is_audit_failed : Record → Bool
is_audit_failed of = not of.note.alarm && not of.note.success

-- an entry that alarms took note of what was granted
abbrev pub is_alarm_ok : Record → Bool
is_alarm_ok of = of.note.alarm && of.note.success

-- an entry that alarms took note of what was refused
abbrev pub is_alarm_failed : Record → Bool
is_alarm_failed of = of.note.alarm && not of.note.success

-- how many of the records there are of each kind
abbrev pub totals_of : List Record → Totals
totals_of records = record {
  audit_ok = count_by is_audit_ok records;
  audit_failed = count_by is_audit_failed records;
  alarm_ok = count_by is_alarm_ok records;
  alarm_failed = count_by is_alarm_failed records;
}

-- the same of notes, which is that of their records, whoever's they are
abbrev pub totals_by_kind : List Note → Totals
totals_by_kind notes = record {
  audit_ok = length (filter (λ note. not note.alarm && note.success) notes);
  audit_failed = length (filter (λ note. not note.alarm && not note.success) notes);
  alarm_ok = length (filter (λ note. note.alarm && note.success) notes);
  alarm_failed = length (filter (λ note. note.alarm && not note.success) notes);
}

-- the records of a client's notes
abbrev pub records_of : ℕ → List Note → List Record
records_of client notes = map (λ note. record { client = client; note = note }) notes

-- no note of any kind
abbrev pub none : Totals
none = record { audit_ok = 0; audit_failed = 0; alarm_ok = 0; alarm_failed = 0 }

-- the sum, kind by kind
abbrev pub plus : Totals → Totals → Totals
plus some more = record {
  audit_ok = some.audit_ok + more.audit_ok;
  audit_failed = some.audit_failed + more.audit_failed;
  alarm_ok = some.alarm_ok + more.alarm_ok;
  alarm_failed = some.alarm_failed + more.alarm_failed;
}
