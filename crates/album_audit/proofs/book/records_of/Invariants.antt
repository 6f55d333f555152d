use Rattle.std.proofs.Common.{◌≡◌, take}
use Rattle.album_audit.specs.Totals.{records_of}
use Rattle.album_audit.proofs.book.records_of.Given as goal

abbrev pub invariant-loop-note : goal.invariant-loop-note
invariant-loop-note l = l.records.items ≡ records_of l.fn.client (take l.note-index l.notes)
