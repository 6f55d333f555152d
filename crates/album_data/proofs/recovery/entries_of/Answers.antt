use Rattle.std.proofs.Common.{List, [], take, sym, subst, arith}
use Rattle.album_keepers.specs.declared.log_entries.LogEntry.{LogEntry as Entry}
use Rattle.album_data.specs.Recovery.{AreEntryLines}
use Rattle.album_data.specs.Recovery.AreEntryLines.{none}
use Rattle.album_data.proofs.RecoveryLemmas.{line_read}
use Rattle.album_data.proofs.recovery.entries_of.Goals as goal

pub loop-at-init : goal.loop-at-init
loop-at-init c = record {
  within = omega arith;
  read = subst (AreEntryLines []) (sym c.new-entries.ensures.items) none;
}

pub loop-at-preserved : goal.loop-at-preserved
loop-at-preserved c = record {
  within = c.line_end-end.ensures.within;
  read = subst (λ (es : List Entry). AreEntryLines (take c.line_end-end.result c.args.text.now) es) (sym c.in_ok-push.ensures.items)
      (line_read c.args.text.now c.loop-at.at c.line_end-end.result c.loop-at.entries.items c.in_ok-entry.entry
      (omega (arith, c.line_end-end.ensures.some)) c.loop-at.invariant.read c.in_ok-entry.ensures.line c.in_ok-entry.ensures.entry);
}
