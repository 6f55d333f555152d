-- What holds of an open log holds of its disk.
use Rattle.std.proofs.Common.{List, ℕ, IsTrue, subst, sym, ap}
use Rattle.album_log.specs.Logs.{LogView, IsLog}
use Rattle.album_log.proofs.LogLemmas.{log_of_sound}
use Rattle.album_log.proofs.log.Log.into_disk.Goals as goal

pub returns-clause-log : goal.returns-clause-log
returns-clause-log g c opened clean =
    let view = c.self.view_is in
    let is_open = subst IsTrue (sym (ap (λ (l : LogView _). l.is_open) view)) opened in
    subst (λ (t : List ℕ). IsLog t (g.D.Disk.seen c.self.inside.disk) (g.D.Disk.may_leave c.self.inside.disk)) (ap (λ (l : LogView _). l.text) view)
    (log_of_sound _ _ _ _ _ _ (c.self.invariant.2 is_open) clean)
