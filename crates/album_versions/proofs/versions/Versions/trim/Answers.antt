use Rattle.std.proofs.Common.{sym}
use Rattle.album_versions.proofs.VersionLemmas.{trimmed, trimmed_nowhere}
use Rattle.album_versions.proofs.versions.Versions.trim.Goals as goal
use Rattle.album_versions.proofs.versions.Versions.trim.Goals.{in-Some, in_default}

pub returns : goal.returns
returns c =
    elim c.match-get_mut.branch [
      | in-Some w ↦ rw (w.self-inside-is, ← c.self.view_is) (trimmed c.self.inside.rows (c.get_mut.follows.lender w.trim.new.self) c.args.item w.in-Some.row.now w.trim.new.self (sym w.in-Some.ensures.value) w.trim.ensures (c.get_mut.follows.holds w.trim.new.self))
      | in_default w ↦ rw (w.self-inside-is, c.get_mut.follows.holds-at-none, ← c.self.view_is) (trimmed_nowhere c.self.inside.rows c.args.item (sym w.in_default.ensures.value))
    ]
