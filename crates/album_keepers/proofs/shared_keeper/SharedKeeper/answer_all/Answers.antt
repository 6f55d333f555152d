use Rattle.std.proofs.Common.{All, List, sym, subst}
use Rattle.album_keepers.specs.Rounds.{RoundReplyState, Counts}
use Rattle.album_keepers.proofs.shared_keeper.SharedKeeper.answer_all.Goals as goal

-- more room changes nothing
pub returns-clause-count : goal.returns-clause-count
returns-clause-count g c = λ h. c.answer_all.ensures.count
    (subst (λ (rs : List RoundReplyState). All (Counts g.J.DeskNames.terms.limit c.args.pass.cut c.args.messages.now) rs)
    (sym c.reserve.ensures.items) h)

pub returns-in_err-answer_all-clause-count : goal.returns-in_err-answer_all-clause-count
returns-in_err-answer_all-clause-count g c = λ h. c.answer_all.ensures.count
    (subst (λ (rs : List RoundReplyState). All (Counts g.J.DeskNames.terms.limit c.args.pass.cut c.args.messages.now) rs)
    (sym c.reserve.ensures.items) h)
