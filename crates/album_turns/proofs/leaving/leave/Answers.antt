use Rattle.album_turns.proofs.LeftLemmas.{found_by, still_trans}
use Rattle.album_turns.proofs.leaving.leave.Goals as goal

pub returns-in_err-opening-clause-still : goal.returns-in_err-opening-clause-still
returns-in_err-opening-clause-still g c =
    still_trans c.args.session.now c.listen-listened.new.self c.next_of.new.session c.listen-listened.ensures.still c.next_of.ensures.still

pub returns-clause-left : goal.returns-clause-left
returns-clause-left g c =
    found_by c.args.session.now c.listen-listened.new.self c.listen-listened.result.cut c.args.opening.now c.in_ok-opening.opening
    c.listen-listened.ensures.still c.listen-listened.ensures.listened c.in_ok-opening.ensures.left

pub returns-clause-still : goal.returns-clause-still
returns-clause-still g c =
    still_trans c.args.session.now c.listen-listened.new.self c.next_of.new.session c.listen-listened.ensures.still c.next_of.ensures.still
