use Rattle.std.proofs.Common.{◌≡◌, ◌++◌, ℕ, Bool, true, false, List, refl, ap, ◌∙◌}
use Rattle.album_log.specs.Texts.{IsWholeText}
use Rattle.album_data.proofs.LogLemmas.{kept_still, added_kept}
use Rattle.album_data.proofs.file_log.FileLogMarkLog.keep.Goals as goal

pub returns-in-Err-clause-kept : goal.returns-in-Err-clause-kept
returns-in-Err-clause-kept g c other keeps =
    let old = c.args.self.now.log in
    kept_still g.D.Disk.may_leave old c.append.new.self c.deref.result.now c.append.ensures.mixing
    (g.D.Disk.seen old.disk) (g.met.D.Disk.seen_may_stay old.disk) c.append.ensures.still c.append.ensures.kept c.is_at_rest.ensures.only
    other keeps

pub returns-in-Ok-clause-kept : goal.returns-in-Ok-clause-kept
returns-in-Ok-clause-kept g c other keeps =
    let old = c.args.self.now.log in
    kept_still g.D.Disk.may_leave old c.append.new.self c.deref.result.now c.append.ensures.mixing
    (g.D.Disk.seen old.disk) (g.met.D.Disk.seen_may_stay old.disk) c.append.ensures.still c.append.ensures.kept c.is_at_rest.ensures.only
    other keeps

-- the log was open, since the append is Ok
pub returns-in-Ok-clause-added : goal.returns-in-Ok-clause-added
returns-in-Ok-clause-added g c other adds =
    let old = c.args.self.now.log in
    added_kept g.D.Disk.may_leave old c.append.new.self c.args.self.now.added.items c.append.ensures.mixing
    (c.in-Ok.ensures.text ∙ ap (λ (t : List ℕ). c.args.self.now.log.text ++ t) c.deref.ensures.value) c.in-Ok.ensures.durable (whole old.is_open refl) other adds
  where
    whole : (b : Bool) → c.args.self.now.log.is_open ≡ b → IsWholeText c.args.self.now.log.text
    whole true is = c.is_at_rest.ensures.whole is
    whole false is = absurd (cc (c.append.ensures.closed.1 is, c.in-Ok.is))
