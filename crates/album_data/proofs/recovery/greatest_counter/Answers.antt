use Rattle.std.proofs.Common.{◌≤◌, ℕ, List, All, sym, subst, arith}
use Rattle.std.proofs.lemmas.List.{take_all, take_more}
use Rattle.std.proofs.lemmas.List.Elements.{All-push, All-weaker}
use Rattle.album_stamps.specs.Stamps.{counter_of}
use Rattle.album_epochs.specs.Folding.{stamp_in}
use Rattle.album_keepers.specs.declared.log_entries.LogEntry.{LogEntry as Entry}
use Rattle.album_data.proofs.recovery.greatest_counter.Goals as goal

abbrev IsBelow : ℕ → Entry → Type 0
IsBelow top entry = counter_of (stamp_in entry.mark) ≤ top

pub loop-entry-preserved : goal.loop-entry-preserved
loop-entry-preserved c =
    let entries : List Entry = c.args.entries.now in
    let top : ℕ = c.max-greatest.result in
    let before : c.loop-entry.greatest ≤ top = omega (arith, c.max-greatest.ensures) in
    let mine : IsBelow top c.entry-item.result = omega (arith, c.max-greatest.ensures, c.counter_in.ensures) in
    subst (All (IsBelow top)) (sym (take_more entries c.loop-entry.entry-index c.entry-item.result c.loop-entry-test.true))
    (All-push (IsBelow top) _ _
    (All-weaker (IsBelow c.loop-entry.greatest) (IsBelow top) (λ e h. omega (arith, h, before)) _ c.loop-entry.invariant)
    (subst (IsBelow top) c.entry-item.is mine))

pub returns : goal.returns
returns c =
    subst (All (IsBelow c.loop-entry.greatest))
    (take_all c.loop-entry.entry-index c.args.entries.now (omega (arith, c.loop-entry-test.false))) c.loop-entry.invariant
