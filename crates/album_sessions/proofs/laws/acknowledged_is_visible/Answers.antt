use Rattle.std.proofs.Common.{subst}
use Rattle.album_passes.specs.Cuts.{Cut, Extends}
use Rattle.album_passes.proofs.CutLemmas.{extends_trans}
use Rattle.album_sessions.proofs.laws.acknowledged_is_visible.Goals as goal

pub returns : goal.returns
returns g c = record {
  visible = λ who other ask later old ended start new one then less.
      let listened = c.args.second.now.listened.cut in
      extends_trans ended.cut listened then.begun.cut
      (subst (λ (cut : Cut). Extends cut listened) one.published_all (c.what_was_published_is_seen.ensures.seen less))
      then.has_listened;
}
