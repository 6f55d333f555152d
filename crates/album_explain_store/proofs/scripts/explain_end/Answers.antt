use Rattle.std.proofs.lemmas.Result.{on_err_weaker}
use Rattle.album_explain_store.proofs.Ending.{end_not_whole}
use Rattle.album_explain_store.proofs.scripts.explain_end.Goals as goal

pub returns-clause-err : goal.returns-clause-err
returns-clause-err g c =
    on_err_weaker c.write_text.result
    (λ w. end_not_whole c.args.end.now _ _ _ _ c.if-has_begun.ensures c.deref.ensures.value c.in_ok-text.ensures w)
    c.write_text.ensures.err
