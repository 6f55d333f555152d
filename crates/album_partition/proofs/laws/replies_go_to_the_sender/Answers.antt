use Rattle.album_partition.proofs.LawLemmas.{to_the_sender, votes_do_not_matter, replies_are_not_answered, others_do_nothing}
use Rattle.album_partition.proofs.laws.replies_go_to_the_sender.Goals as goal

pub returns-clause-sender : goal.returns-clause-sender
returns-clause-sender c = to_the_sender

pub returns-clause-votes : goal.returns-clause-votes
returns-clause-votes c = votes_do_not_matter

pub returns-clause-requests : goal.returns-clause-requests
returns-clause-requests c = replies_are_not_answered

pub returns-clause-others : goal.returns-clause-others
returns-clause-others c = others_do_nothing
