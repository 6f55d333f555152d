use Rattle.std.proofs.Common.{◌≡◌, Some, option_map, sym, ap, ◌∙◌, subst}
use Rattle.album_passes.specs.Cuts.{Extends}
use Rattle.album_passes.proofs.CutLemmas.{extends_trans}
use Rattle.album_partition.specs.Answers.{answer}
use Rattle.album_keepers.specs.Rounds.{RoundReplyState, RepliesTo}
use Rattle.album_keepers.specs.Settling.{stamps_in, settled}
use Rattle.album_keepers.proofs.RoundLemmas.{counts_more, none_prepared_more, of_some, read_at}
use Rattle.album_keepers.proofs.shared_keeper.Locked.answer_at.Goals as goal

-- it counts as those before it do
pub returns-in_ok-push_back-in-Some-clause-count : goal.returns-in_ok-push_back-in-Some-clause-count
returns-in_ok-push_back-in-Some-clause-count g c = λ begun heard h.
    let limit = g.J.DeskNames.terms.limit in
    let message = c.index-messages-index.result in
    let o = c.in_ok-answer_at.field-0 in
    let r = c.in-Some.reply in
    let cut = c.answer_at.new.self.owner.cut in
    let point : r.pass.cut ≡ cut = of_some (λ some. some.pass.cut ≡ cut) o r c.in-Some.is c.in_ok-answer_at.ensures.point in
    counts_more limit begun c.args.messages.now _ c.args.replies.now.items c.push_back.new.self.items c.args.index message r
    (read_at c.args.messages.now c.args.index message c.requires.within c.index-messages-index.is)
    (of_some (λ some. some.index ≡ c.args.index) o r c.in-Some.is c.in_ok-answer_at.ensures.index)
    (of_some (RepliesTo limit message) o r c.in-Some.is c.in_ok-answer_at.ensures.replies)
    (subst (Extends begun) (sym point) (extends_trans begun c.args.self.now.keeper.owner.cut cut heard c.answer_at.ensures.grown))
    c.push_back.ensures.items h

-- and says as little of stamps that are prepared
pub returns-in_ok-push_back-in-Some-clause-free : goal.returns-in_ok-push_back-in-Some-clause-free
returns-in_ok-push_back-in-Some-clause-free g c = λ never h.
    let message = c.index-messages-index.result in
    let r = c.in-Some.reply in
    let was = settled c.args.self.now.keeper.partition (stamps_in message.body) in
    let said : answer was message ≡ Some r.reply =
    sym c.in_ok-answer_at.ensures.answered ∙ ap (option_map (λ (some : RoundReplyState). some.reply)) c.in-Some.is in
    none_prepared_more c.args.messages.now _ c.args.replies.now.items c.push_back.new.self.items c.args.index message r was
    (read_at c.args.messages.now c.args.index message c.requires.within c.index-messages-index.is) never said
    c.push_back.ensures.items h
