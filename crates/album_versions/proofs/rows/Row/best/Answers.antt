use Rattle.std.proofs.Common.{◌≡◌, is_some, arith}
use Rattle.std.proofs.lemmas.Grind.{common_steps}
use Rattle.album_versions.specs.Best.{best_of, unless_gone}
use Rattle.album_versions.specs.Rows.{version_in, IsRow}
use Rattle.album_versions.proofs.RowLemmas.{gone-iff}
use Rattle.album_versions.proofs.rows.Row.best.Goals as goal

pub returns-clause-gone : goal.returns-clause-gone
returns-clause-gone c =
    let told : c.unless_gone.result ≡ unless_gone (best_of (λ t. is_some (version_in c.args.self.now.versions t)) c.args.stamps.now) c.args.self.now.floor = grind (arith, common_steps) in
    let kept : IsRow c.args.self.now = rw (← c.self.view_is) c.self.invariant in
    rw told (gone-iff c.args.self.now c.args.stamps.now kept)
