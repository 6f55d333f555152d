use Rattle.std.proofs.Common.{◌≡◌, ℕ, ◌≤◌, ◌+◌, ⊎_elim, inl, max, List, map, true, sym, ap, ◌∙◌, subst}
use Rattle.std.specs.List.{list_any}
use Rattle.std.proofs.lemmas.List.{length-map}
use Rattle.std.proofs.lemmas.Result.{err_from_is_err_and}
use Rattle.album_stamps.specs.Stamps.{counter_of}
use Rattle.album_stamps.specs.declared.limits.TheConstants.{MAX_COUNTER}
use Rattle.album_stamps.specs.declared.refusals.Refusal.{Refusal}
use Rattle.album_stamps.specs.declared.refusals.Refusal.TheVariants.{OutOfMemory, StampsSpent}
use Rattle.album_partition.specs.Marks.{is_mark_of}
use Rattle.album_partition.specs.declared.marks.Mark.{Mark}
use Rattle.album_passes.specs.Cuts.{marks_at}
use Rattle.album_epochs.specs.Folding.{histories_lent}
use Rattle.album_epochs.specs.Next.{IsOpeningAfter}
use Rattle.album_epochs.specs.declared.next_opening.TheConstants.{MARGIN}
use Rattle.album_turns.specs.Left.{IsUnleft, IsCounterIn}
use Rattle.album_turns.specs.Left.IsUnleft.{Spent, Unheard}
use Rattle.album_turns.proofs.LeftLemmas.{left_to, counter_in, bad_parts, unheard}
use Rattle.album_turns.proofs.leaving.next_of.Goals as goal

pub returns-in_err-parts-clause-unleft : goal.returns-in_err-parts-clause-unleft
returns-in_err-parts-clause-unleft g c =
    let p = err_from_is_err_and c.from_residual.result c.from_residual.ensures.1 in
    let unleft : Refusal → Type 0 = IsUnleft c.args.session.now.cut c.args.opening.now in
    rw p.1 (subst unleft (sym p.2) (bad_parts c.args.session.now.cut c.args.opening.now _ c.in_err-parts.ensures.refused))

pub returns-in_err-histories-clause-unleft : goal.returns-in_err-histories-clause-unleft
returns-in_err-histories-clause-unleft g c =
    let p = err_from_is_err_and c.from_residual-in_err-histories.result c.from_residual-in_err-histories.ensures.1 in
    let unleft : Refusal → Type 0 = IsUnleft c.histories_of.new.session.cut c.args.opening.now in
    rw p.1 (subst unleft (sym p.2) (unheard c.histories_of.new.session.cut c.args.opening.now c.in_ok-parts.parts _
    c.in_ok-parts.ensures.parts c.in_err-histories.ensures.refused))

pub returns-in_err-lent-clause-unleft : goal.returns-in_err-lent-clause-unleft
returns-in_err-lent-clause-unleft g c =
    let p = err_from_is_err_and c.from_residual-in_err-lent.result c.from_residual-in_err-lent.ensures.1 in
    rw p.1 (Unheard p.0 (inl p.2))

pub returns-in_err-next-clause-unleft : goal.returns-in_err-next-clause-unleft
returns-in_err-next-clause-unleft g c =
    let hs : List (List Mark) = map (λ marks. marks.items) c.in_ok-histories.histories.items in
    let same : histories_lent c.as_slice-lent.result.now ≡ hs =
    ap histories_lent c.as_slice-lent.ensures.value ∙ c.in_ok-lent.ensures ∙ ap (map (λ marks. marks.items)) c.deref.ensures.value in
    let greatest : ℕ = c.greatest_stamp.result in
    let unleft : Refusal → Type 0 = IsUnleft c.histories_of.new.session.cut c.args.opening.now in
    let p = err_from_is_err_and c.from_residual-in_err-next.result c.from_residual-in_err-next.ensures.1 in
    rw p.1 (subst unleft (sym p.2) (⊎_elim
    (λ (memory : c.in_err-next.field-0.0 ≡ OutOfMemory). Unheard _ (inl memory))
    (λ (spent : MAX_COUNTER ≤ max c.counter-counter.result c.args.opening.now.first + MARGIN).
    let why : c.in_err-next.field-0.0 ≡ StampsSpent = cc (c.in_err-next.was, c.opening_after.ensures.spent spent) in
    subst unleft (sym why) (Spent c.counter-counter.result
    (subst (IsCounterIn c.histories_of.new.session.cut) (sym c.counter-counter.ensures.counter)
    (counter_in c.args.session.now.cut c.histories_of.new.session.cut hs greatest c.in_ok-histories.ensures.between
    (λ some. let r = c.greatest_stamp.ensures.reached some in
    (r.0, subst (λ (lent : List (List Mark)). list_any (is_mark_of greatest) (marks_at lent r.0) ≡ true) same r.1))))
    spent))
    c.in_err-next.ensures.refused))

pub returns-clause-left : goal.returns-clause-left
returns-clause-left g c = λ items parts.
    let hs : List (List Mark) = map (λ marks. marks.items) c.in_ok-histories.histories.items in
    let same : histories_lent c.as_slice-lent.result.now ≡ hs =
    ap histories_lent c.as_slice-lent.ensures.value ∙ c.in_ok-lent.ensures ∙ ap (map (λ marks. marks.items)) c.deref.ensures.value in
    let greatest : ℕ = c.greatest_stamp.result in
    left_to c.args.session.now.cut c.histories_of.new.session.cut c.args.opening.now c.in_ok-next.next hs greatest
    c.has_granted_writes.ensures.sound c.histories_of.ensures.still.on.sound c.histories_of.ensures.still.on.grown
    c.in_ok-histories.ensures.between
    (length-map c.in_ok-histories.histories.items (λ marks. marks.items) ∙ c.in_ok-histories.ensures.count ∙ c.in_ok-parts.ensures.parts)
    items parts
    (λ part stamp e. c.greatest_stamp.ensures.above part stamp
    (subst (λ (lent : List (List Mark)). list_any (is_mark_of stamp) (marks_at lent part) ≡ true) (sym same) e))
    (subst (λ (lent : List (List Mark)). IsOpeningAfter (counter_of greatest) c.args.opening.now lent c.in_ok-next.next) same
    (subst (λ (n : ℕ). IsOpeningAfter n c.args.opening.now (histories_lent c.as_slice-lent.result.now) c.in_ok-next.next)
    c.counter-counter.ensures.counter c.in_ok-next.ensures.next))
