use Rattle.std.proofs.Common.{true, false, refl}
use Rattle.album_audit.proofs.Counting.{one-of, totals-append, totals-whole}
use Rattle.album_audit.proofs.laws.each_record_counts_once.Goals as goal

pub returns : goal.returns
returns c = record {
  nothing = refl;
  audit_granted = λ of a s. one-of of false true a s;
  audit_refused = λ of a s. one-of of false false a s;
  alarm_granted = λ of a s. one-of of true true a s;
  alarm_refused = λ of a s. one-of of true false a s;
  sum = totals-append;
  whole = totals-whole;
}
