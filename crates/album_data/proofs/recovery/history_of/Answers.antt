use Rattle.std.proofs.Common.{◌≡◌, ℕ, ◌+◌, ◌<◌, ◌==◌, Bool, List, [], ◌∷◌, ◌++◌, length, get_or, take, if◌then◌else◌, sym, ap, ◌∙◌}
use Rattle.std.specs.BTreeSet.{contains}
use Rattle.std.specs.List.{list_any}
use Rattle.std.specs.Ordering.{nat_cmp}
use Rattle.std.proofs.lemmas.Bool.{ne_eqb}
use Rattle.std.proofs.lemmas.List.{take_more}
use Rattle.album_partition.specs.Marks.{prepares}
use Rattle.album_partition.proofs.StateLemmas.{same_stamp}
use Rattle.album_partition.specs.declared.marks.Mark.{Mark as Made}
use Rattle.album_keepers.specs.declared.log_entries.LogEntry.{LogEntry as Entry}
use Rattle.album_data.specs.Recovery.{with_mark, marks_after}
use Rattle.album_data.proofs.RecoveryLemmas.{entry_more}
use Rattle.album_data.proofs.recovery.history_of.Goals as goal
use Rattle.album_data.proofs.recovery.history_of.Goals.{then-entry-part+in_ok-take_mark, else-entry-part}

-- the next entry's mark is taken where it is the partition's
step : (part i : ℕ) (es : List Entry) (e : Entry) → i < length es → e ≡ get_or es i e
    → marks_after part [] (take (i + 1) es)
    ≡ (if e.part == part then with_mark (marks_after part [] (take i es)) e.mark else marks_after part [] (take i es))
step part i es e l is =
    ap (marks_after part []) (take_more es i e l ∙ ap (λ (x : Entry). take i es ++ x ∷ []) (sym is))
    ∙ entry_more part [] (take i es) e

pub loop-entry-preserved : goal.loop-entry-preserved
loop-entry-preserved c =
    let part : ℕ = c.args.part in
    let e : Entry = c.entry-item.result in
    let before : List Made = marks_after part [] (take c.loop-entry.entry-index c.args.entries.now) in
    let next = step part c.loop-entry.entry-index c.args.entries.now e c.loop-entry-test.true c.entry-item.is in
    let by : Bool → List Made = λ b. if b then with_mark before e.mark else before in
    elim c.if-entry-part.branch [
      | then-entry-part+in_ok-take_mark w ↦ record {
        marks = ap (λ ms. ms.items) w.marks-is ∙ (w.in_ok-take_mark.ensures.marks
            ∙ (ap (λ (ms : List Made). with_mark ms e.mark) c.loop-entry.invariant.marks
            ∙ (ap by (sym (ap (λ (n : ℕ). n == part) w.if-entry-part.true ∙ same_stamp part)) ∙ sym next)));
        stamps = λ stamp. ap (λ set. contains nat_cmp set stamp) w.stamps-is ∙ (w.in_ok-take_mark.ensures.stamps stamp
            ∙ ap (λ ms. list_any (prepares stamp) ms.items) (sym w.marks-is));
      }
      | else-entry-part w ↦ record {
        marks = ap (λ ms. ms.items) w.marks-is ∙ (c.loop-entry.invariant.marks
            ∙ (ap by (sym (ne_eqb e.part part w.if-entry-part.false)) ∙ sym next));
        stamps = λ stamp. ap (λ set. contains nat_cmp set stamp) w.stamps-is ∙ (c.loop-entry.invariant.stamps stamp
            ∙ ap (λ ms. list_any (prepares stamp) ms.items) (sym w.marks-is));
      }
    ]
