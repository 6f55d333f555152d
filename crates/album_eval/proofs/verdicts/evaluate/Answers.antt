use Rattle.std.proofs.Common.{◌≡◌, ap, sym, Some, refl, inl, inr}
use Rattle.std.specs.List.{slice_get}
use Rattle.std.proofs.lemmas.Option.{slice_get_read}
use Rattle.album_eval.specs.Matching.{case_of}
use Rattle.album_eval.specs.Verdict.{allows_or_denies}
use Rattle.album_eval.proofs.Asking.{bit_of_one}
use Rattle.album_eval.proofs.Computing.{one_verdict, verdict_computed}
use Rattle.album_eval.proofs.Passing.{at_first, skips, allows, unmatched, undecided, unspoken, verdict_denied, verdict_granted, verdict_at_end}
use Rattle.album_eval.proofs.verdicts.evaluate.Goals as goal
use Rattle.album_eval.proofs.verdicts.evaluate.Goals.{then-is_match+in-Allowed, then-is_match+in-Denied+else-intersects, then-is_match+in-Audit, else-is_match}

pub loop-index-init : goal.loop-index-init
loop-index-init c = at_first _ _ _ c.given.result _ c.given.ensures c.without-remaining.ensures

pub loop-index-preserved : goal.loop-index-preserved
loop-index-preserved c =
    let at : slice_get c.args.list.now c.loop-index.index ≡ Some c.entry-item.result = rw c.entries-entry-items.ensures.entries at (slice_get_read c.entries-entry-items.result.now _ _ _ refl c.loop-index-test.true c.entry-item.is) in
    elim c.if-is_match.branch [
      | then-is_match+in-Allowed w ↦ rw w.remaining-is (allows _ _ _ _ c.entry-item.result _ _ at (sym w.if-is_match.ensures) w.in-Allowed.is w.without-remaining-in-Allowed.ensures c.loop-index.invariant)
      | then-is_match+in-Denied+else-intersects w ↦ rw w.remaining-is (skips _ _ _ _ c.entry-item.result _ at (λ bit has. unspoken _ _ bit (bit_of_one c.entry-item.result.mask c.loop-index.remaining (sym (w.if-intersects.ensures tt)) bit has)) c.loop-index.invariant)
      | then-is_match+in-Audit w ↦ rw w.remaining-is (skips _ _ _ _ c.entry-item.result _ at (λ bit has. undecided _ _ bit (elim w.in-Audit.is [ inl is ↦ ap allows_or_denies is | inr is ↦ ap allows_or_denies is ])) c.loop-index.invariant)
      | else-is_match w ↦ rw w.remaining-is (skips _ _ _ _ c.entry-item.result _ at (λ bit has. unmatched _ _ bit (sym w.if-is_match.ensures)) c.loop-index.invariant)
    ]

-- granted on the way
pub returns-then-is_empty : goal.returns-then-is_empty
returns-then-is_empty c =
    let is = verdict_granted (case_of c.args.facts.now) c.args.list.now c.args.mask _ _ (sym (c.if-is_empty.ensures tt)) c.loop-index.invariant in
    record { verdict = is; computed = one_verdict _ _ _ _ _ is (verdict_computed (case_of c.args.facts.now) c.args.list.now c.args.mask) }

-- denied by an entry
pub returns-then-intersects : goal.returns-then-intersects
returns-then-intersects c =
    let at : slice_get c.args.list.now c.loop-index.index ≡ Some c.entry-item.result = rw c.entries-entry-items.ensures.entries at (slice_get_read c.entries-entry-items.result.now _ _ _ refl c.loop-index-test.true c.entry-item.is) in
    let is = verdict_denied (case_of c.args.facts.now) c.args.list.now c.args.mask _ c.entry-item.result _ at (sym c.if-is_match.ensures) c.in-Denied.is (sym (c.if-intersects.ensures tt)) c.loop-index.invariant in
    record { verdict = is; computed = one_verdict _ _ _ _ _ is (verdict_computed (case_of c.args.facts.now) c.args.list.now c.args.mask) }

-- granted at the end
pub returns-then-is_empty-2 : goal.returns-then-is_empty-2
returns-then-is_empty-2 c =
    let is = verdict_granted (case_of c.args.facts.now) c.args.list.now c.args.mask _ _ (sym (c.if-is_empty-2.ensures tt)) c.loop-index.invariant in
    record { verdict = is; computed = one_verdict _ _ _ _ _ is (verdict_computed (case_of c.args.facts.now) c.args.list.now c.args.mask) }

-- denied at the end
pub returns-else-is_empty-2 : goal.returns-else-is_empty-2
returns-else-is_empty-2 c =
    let is = verdict_at_end (case_of c.args.facts.now) c.args.list.now c.args.mask c.loop-index.index _ (rw c.entries-entry-items.ensures.entries at c.loop-index-test.false) (sym (c.if-is_empty-2.ensures tt)) c.loop-index.invariant in
    record { verdict = is; computed = one_verdict _ _ _ _ _ is (verdict_computed (case_of c.args.facts.now) c.args.list.now c.args.mask) }
