use Rattle.std.proofs.Common.{All, List, sym, subst, arith}
use Rattle.std.proofs.lemmas.List.{take_all, take_more}
use Rattle.std.proofs.lemmas.List.Elements.{All-push, All-weaker}
use Rattle.album_keepers.specs.declared.log_entries.LogEntry.{LogEntry as Entry}
use Rattle.album_keepers.proofs.logger.add_all.Goals as goal

-- what was added stays so, and the next entry is added
pub loop-entry-preserved : goal.loop-entry-preserved
loop-entry-preserved g c =
    let adds = g.L.MarkLog.adds in
    let entries : List Entry = c.args.entries.now in
    let i = c.loop-entry.entry-index in
    let entry : Entry = c.entry-item.result in
    let others = c.in_ok-add.ensures.others in
    record {
      added = subst (All (adds c.add.new.self)) (sym (take_more entries i entry c.loop-entry-test.true))
          (All-push (adds c.add.new.self) _ _
          (All-weaker (adds c.loop-entry.log) (adds c.add.new.self) others _ c.loop-entry.invariant.added)
          (subst (adds c.add.new.self) c.entry-item.is c.in_ok-add.ensures.added));
      others = λ other h. others other (c.loop-entry.invariant.others other h);
    }

pub returns-clause-added : goal.returns-clause-added
returns-clause-added g c =
    subst (All (g.L.MarkLog.adds c.loop-entry.log))
    (take_all c.loop-entry.entry-index c.args.entries.now (omega (arith, c.loop-entry-test.false))) c.loop-entry.invariant.added
