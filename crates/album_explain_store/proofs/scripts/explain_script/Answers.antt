use Rattle.std.proofs.lemmas.Result.{err_from_is_err_and}
use Rattle.album_explain_store.proofs.Ending.{end_explained, end_cut, lines_cut}
use Rattle.album_explain_store.proofs.scripts.explain_script.Goals as goal

-- the lines are not all explained
pub returns-in_err-end-clause-err : goal.returns-in_err-end-clause-err
returns-in_err-end-clause-err g c =
    let p = err_from_is_err_and c.from_residual.result c.from_residual.ensures.1 in
    rw p.1 (lines_cut (g.R.Read.remaining c.args.reader.now) _ _ c.in_err-end.ensures.err)

-- the end is not
pub returns-in_err-explain_end-clause-err : goal.returns-in_err-explain_end-clause-err
returns-in_err-explain_end-clause-err g c =
    let p = err_from_is_err_and c.from_residual-in_err-explain_end.result c.from_residual-in_err-explain_end.ensures.1 in
    rw p.1
    (end_cut c.in_ok-end.end (g.R.Read.remaining c.args.reader.now) _ _ _ c.in_ok-end.ensures.ok c.in_err-explain_end.ensures.err)

-- all are
pub returns-clause-ok : goal.returns-clause-ok
returns-clause-ok g c =
    end_explained c.in_ok-end.end _ (g.R.Read.remaining c.args.reader.now) _ _ _ c.in_ok-end.ensures.ok c.in_ok-explain_end.ensures.ok c.has_missed.ensures
