use Rattle.album_passes.proofs.CutLemmas.{extends_trans}
use Rattle.album_keepers.proofs.RoundLemmas.{all_shown_more, taken_as, AreTaken}
use Rattle.album_keepers.proofs.shared_keeper.Locked.answer_all.Goals as goal
use Rattle.album_keepers.proofs.shared_keeper.Locked.answer_all.Goals.{then-takes+in_ok-answer_at, else-takes}

-- what the pass shows, the keeper's cut shows
pub answer_at-requires-clause-shown : goal.answer_at-requires-clause-shown
answer_at-requires-clause-shown g c =
    all_shown_more c.args.pass.cut c.loop-index.self.keeper.owner.cut c.args.messages.now c.loop-index.invariant.heard c.requires.shown

pub returns-in_err-answer_at-clause-count : goal.returns-in_err-answer_at-clause-count
returns-in_err-answer_at-clause-count g c = λ h.
    c.answer_at.ensures.count c.args.pass.cut c.loop-index.invariant.heard (c.loop-index.invariant.count h)

-- a message more is taken, or left
pub loop-index-preserved : goal.loop-index-preserved
loop-index-preserved g c =
    let limit = g.J.DeskNames.terms.limit in
    let begun = c.args.pass.cut in
    let sent = c.args.messages.now in
    let before = c.args.replies.now.items in
    let at = c.loop-index in
    let taken : AreTaken limit begun sent before c.if-takes.self.keeper.owner c.if-takes.replies.items =
    elim c.if-takes.branch [
      | then-takes+in_ok-answer_at w ↦ taken_as limit begun sent before w.answer_at.new.self.keeper.owner c.if-takes.self.keeper.owner
          w.answer_at.new.replies.items c.if-takes.replies.items (λ i. (w.self-is i).keeper.owner) (λ i. (w.replies-is i).items) (record {
            heard = extends_trans begun at.self.keeper.owner.cut w.answer_at.new.self.keeper.owner.cut at.invariant.heard
                w.answer_at.ensures.grown;
            sound = w.answer_at.ensures.sound;
            inside = w.answer_at.ensures.inside;
            count = λ h. w.answer_at.ensures.count begun at.invariant.heard (at.invariant.count h);
            free = λ never h. w.answer_at.ensures.free never (at.invariant.free never h);
          })
      | else-takes w ↦ taken_as limit begun sent before at.self.keeper.owner c.if-takes.self.keeper.owner at.replies.items
          c.if-takes.replies.items (λ i. (w.self-is i).keeper.owner) (λ i. (w.replies-is i).items) (record {
            heard = at.invariant.heard;
            sound = at.invariant.sound;
            inside = at.invariant.inside;
            count = at.invariant.count;
            free = at.invariant.free;
          })
    ] in
    record { heard = taken.heard; sound = taken.sound; inside = taken.inside; count = taken.count; free = taken.free }
