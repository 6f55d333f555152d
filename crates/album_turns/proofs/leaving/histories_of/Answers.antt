use Rattle.std.proofs.Common.{◌+◌, [], ◌∷◌, map, sym, ap, ◌∙◌, subst}
use Rattle.std.proofs.lemmas.List.{map-append}
use Rattle.album_sessions.proofs.AttemptLemmas.{still_on}
use Rattle.album_turns.proofs.LeftLemmas.{AreFirst, first_more}
use Rattle.album_turns.proofs.leaving.histories_of.Goals as goal

pub returns-in_err-history-clause-still : goal.returns-in_err-history-clause-still
returns-in_err-history-clause-still g c =
    still_on c.args.session.now c.loop-part.session c.history.new.self c.loop-part.invariant.still
    c.history.ensures.grown c.history.ensures.sound c.history.ensures.client c.history.ensures.adds

pub returns-in_err-push-clause-still : goal.returns-in_err-push-clause-still
returns-in_err-push-clause-still g c =
    still_on c.args.session.now c.loop-part.session c.history.new.self c.loop-part.invariant.still
    c.history.ensures.grown c.history.ensures.sound c.history.ensures.client c.history.ensures.adds

-- one partition more has given its history
pub loop-part-preserved : goal.loop-part-preserved
loop-part-preserved g c = record {
  first = subst (AreFirst c.args.session.now.cut c.history.new.self.cut (c.loop-part.part + 1))
      (sym (ap (map (λ marks. marks.items)) c.in_ok-push.ensures.items
      ∙ map-append (λ marks. marks.items) c.loop-part.histories.items (c.in_ok-history.field-0 ∷ [])))
      (first_more c.args.session.now.cut c.loop-part.session.cut c.history.new.self.cut c.loop-part.part
      (map (λ marks. marks.items) c.loop-part.histories.items) c.in_ok-history.field-0.items
      c.loop-part.invariant.first c.history.ensures.grown c.in_ok-history.ensures.history);
  still = still_on c.args.session.now c.loop-part.session c.history.new.self c.loop-part.invariant.still
      c.history.ensures.grown c.history.ensures.sound c.history.ensures.client c.history.ensures.adds;
}
