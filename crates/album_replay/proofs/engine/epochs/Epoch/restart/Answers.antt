use Rattle.album_replay.proofs.Standing.{restart_cut, restart_unsaid}
use Rattle.album_replay.proofs.engine.epochs.Epoch.restart.Goals as goal

-- the next epoch has opened, and that is not written wholly
pub returns-in-Ok-clause-fault : goal.returns-in-Ok-clause-fault
returns-in-Ok-clause-fault g c =
    restart_cut c.args.self.now c.in-Ok.next c.in-Ok.ensures.next c.in-Ok.text.items c.in-Ok.ensures.text
    c.write_text.result _ _ (rw c.deref.ensures.value at c.write_text.ensures.err) c.write_text.ensures.fault

-- it has not, and that is not written wholly
pub returns-in-Err-clause-fault : goal.returns-in-Err-clause-fault
returns-in-Err-clause-fault g c =
    restart_unsaid c.args.self.now c.in-Err.refusal c.in-Err.ensures.memory c.write_refused.result _ _
    c.write_refused.ensures.fault
