use Rattle.std.proofs.Common.{ap}
use Rattle.album_reader.specs.Answers.{ReadVersion}
use Rattle.album_reader.proofs.StampSets.{with_stamp-rises}
use Rattle.album_reader.proofs.FirstAnswers.{drop-next}
use Rattle.album_reader.proofs.answers.stamps_there.Goals as goal
use Rattle.album_reader.proofs.answers.stamps_there.Goals.{in-Some+in_ok-add_stamp, in_default}

-- one stamp more, if the answer is there
pub loop-answer-preserved : goal.loop-answer-preserved
loop-answer-preserved c =
    let next =
    drop-next c.args.answers.now c.loop-answer.answer-index c.answer-item.result
    c.loop-answer-test.true c.answer-item.is in
    elim c.match-answer.branch [
      | in-Some+in_ok-add_stamp w ↦ record {
        rising = rw (w.stamps-is, w.in_ok-add_stamp.ensures) (with_stamp-rises _ _ c.loop-answer.invariant.rising);
        rest =
            rw (w.stamps-is, w.in_ok-add_stamp.ensures, ap (λ (a : ReadVersion). a.stamp) w.answer.view_is)
            (rw (next, w.in-Some.is) at c.loop-answer.invariant.rest);
      }
      | in_default w ↦ record {
        rising = rw w.stamps-is c.loop-answer.invariant.rising;
        rest = rw w.stamps-is (rw (next, w.in_default.is) at c.loop-answer.invariant.rest);
      }
    ]
