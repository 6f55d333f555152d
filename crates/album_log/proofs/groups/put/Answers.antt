-- What was written, and what a crash leaves of it.
use Rattle.std.proofs.Common.{◌++◌, sym, subst, arith}
use Rattle.std.proofs.lemmas.Result.{on_ok_weaker}
use Rattle.album_log.specs.Logs.{HasText}
use Rattle.album_log.proofs.TextLemmas.{has_text_written, leaves_kept_mixed}
use Rattle.album_log.proofs.groups.put.Goals as goal

pub returns-in_err-write_at-clause-crash : goal.returns-in_err-write_at-clause-crash
returns-in_err-write_at-clause-crash g c mixing text size end fits small before =
    let e = c.in_err-write_at.ensures in
    leaves_kept_mixed text _ size c.args.at _ _ end fits c.requires.whole (e.mixed mixing (omega arith)) before

pub returns-clause-crash : goal.returns-clause-crash
returns-clause-crash g c mixing text size end fits small before left may =
    let e = c.in_ok-write_at.ensures in
    leaves_kept_mixed text _ size c.args.at _ _ end fits c.requires.whole (e.mixed mixing (omega arith)) before left (c.sync.ensures.crash left may)

pub returns-clause-text : goal.returns-clause-text
returns-clause-text g c =
    let e = c.in_ok-write_at.ensures in
    on_ok_weaker c.sync.result (λ _ text size end fits before.
    subst (HasText (text ++ c.args.group.now) size) (sym c.sync.ensures.seen)
    (has_text_written text _ size c.args.at _ _ end fits c.requires.whole e.written e.others before))
    c.sync.ensures.durable
