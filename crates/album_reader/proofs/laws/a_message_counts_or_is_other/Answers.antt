use Rattle.album_reader.proofs.Others.{new_answer-other, not_gone-other, IsOther-nothing, IsGone-is_gone, is_gone-IsGone}
use Rattle.album_reader.proofs.TwoRounds.{gone-is_gone}
use Rattle.album_reader.proofs.laws.a_message_counts_or_is_other.Goals as goal

pub returns-clause-other : goal.returns-clause-other
returns-clause-other c = λ round message.
    (λ other. (new_answer-other round message other, not_gone-other round message other), λ none. IsOther-nothing round message none.0 none.1)

pub returns-clause-gone : goal.returns-clause-gone
returns-clause-gone c = λ round message. (is_gone-IsGone round message, IsGone-is_gone round message)

pub returns-clause-over : goal.returns-clause-over
returns-clause-over c = λ round message items e.
    let gone = gone-is_gone round message items e in
    (gone.0, IsGone-is_gone round message gone.1)
