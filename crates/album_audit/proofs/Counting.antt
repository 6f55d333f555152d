-- What totals have of one record, of two lists, and together (`one-of`, `totals-append`, `totals-whole`), for the law
-- `each_record_counts_once`; and of a client's notes (`totals_of_notes`), for `AuditBook::note_all`.
use Rattle.std.proofs.Common.{◌≡◌, ◌+◌, ◌++◌, ◌&&◌, ℕ, suc, List, [], ◌∷◌, Bool, true, false, not, cond, length, filter, map, sum, count_by, refl, sym, ap, ◌∙◌, arith}
use Rattle.std.proofs.lemmas.List.Sums.{sum_by-append, sum-map, length-filter}
use Rattle.std.proofs.lemmas.Simd.{map-map}
use Rattle.album_permits.specs.declared.notes.Note.{Note}
use Rattle.album_audit.specs.Totals.{is_audit_ok, is_audit_failed, is_alarm_ok, is_alarm_failed, totals_of, totals_by_kind, records_of, plus}
use Rattle.album_audit.specs.declared.totals.Record.{Record}
use Rattle.album_audit.specs.declared.totals.Totals.{Totals}

-- the totals of one record, by its kind
abbrev pub counted : Bool → Bool → Totals
counted alarm success = record {
  audit_ok = 0 + cond (not alarm && success) 1 0;
  audit_failed = 0 + cond (not alarm && not success) 1 0;
  alarm_ok = 0 + cond (alarm && success) 1 0;
  alarm_failed = 0 + cond (alarm && not success) 1 0;
}

pub one-of :
    (of : Record) (alarm success : Bool) → of.note.alarm ≡ alarm → of.note.success ≡ success
    → totals_of (of ∷ []) ≡ counted alarm success
one-of of alarm success a s =
    ap (λ (b : Bool). counted b of.note.success) a ∙ ap (counted alarm) s

pub totals-append : (some more : List Record) → totals_of (some ++ more) ≡ plus (totals_of some) (totals_of more)
totals-append some more =
    λ k. record {
      audit_ok = sum_by-append (λ of. cond (is_audit_ok of) 1 0) some more k;
      audit_failed = sum_by-append (λ of. cond (is_audit_failed of) 1 0) some more k;
      alarm_ok = sum_by-append (λ of. cond (is_alarm_ok of) 1 0) some more k;
      alarm_failed = sum_by-append (λ of. cond (is_alarm_failed of) 1 0) some more k;
    }

-- all four together
abbrev all : Totals → ℕ
all totals = totals.audit_ok + totals.audit_failed + totals.alarm_ok + totals.alarm_failed

one-more : (alarm success : Bool) (rest : Totals) (n : ℕ) → all rest ≡ n → all (plus (counted alarm success) rest) ≡ suc n
one-more true true rest n h = omega arith
one-more true false rest n h = omega arith
one-more false true rest n h = omega arith
one-more false false rest n h = omega arith

pub totals-whole : (records : List Record) → all (totals_of records) ≡ length records
totals-whole [] = refl
totals-whole (of ∷ records) =
    ap all (totals-append (of ∷ []) records)
    ∙ one-more of.note.alarm of.note.success (totals_of records) (length records) (totals-whole records)

-- a count over records is one over their notes
count_of_notes : (p : Record → Bool) (client : ℕ) (notes : List Note)
    → count_by (λ note. p (record { client = client; note = note })) notes ≡ count_by p (records_of client notes)
count_of_notes p client notes =
    let one : Record → ℕ = λ of. cond (p of) 1 0 in
    let of : Note → Record = λ note. record { client = client; note = note } in
    sym (sum-map (λ note. one (of note)) notes) ∙ ap sum (sym (map-map one of notes)) ∙ sum-map one (map of notes)

count_kind : (p : Record → Bool) (client : ℕ) (notes : List Note)
    → length (filter (λ note. p (record { client = client; note = note })) notes) ≡ count_by p (records_of client notes)
count_kind p client notes =
    length-filter (λ note. p (record { client = client; note = note })) notes ∙ count_of_notes p client notes

pub totals_of_notes : (client : ℕ) (notes : List Note) → totals_by_kind notes ≡ totals_of (records_of client notes)
totals_of_notes client notes = λ i. record {
  audit_ok = count_kind is_audit_ok client notes i;
  audit_failed = count_kind is_audit_failed client notes i;
  alarm_ok = count_kind is_alarm_ok client notes i;
  alarm_failed = count_kind is_alarm_failed client notes i;
}
