use Rattle.album_reader.proofs.FirstAnswers.{stepped-after_replies, stepped_all-after_replies}
use Rattle.album_reader.proofs.laws.a_round_depends_on_its_replies.Goals as goal

-- one message more
pub returns-clause-message : goal.returns-clause-message
returns-clause-message c = stepped-after_replies

-- replies one after another
pub returns-clause-together : goal.returns-clause-together
returns-clause-together c = λ round replies more. stepped_all-after_replies round more replies
