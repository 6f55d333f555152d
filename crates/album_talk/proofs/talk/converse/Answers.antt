use Rattle.album_talk.proofs.talk.converse.Goals as goal

pub returns-clause-fault : goal.returns-clause-fault
returns-clause-fault g c = rw c.unknown.ensures at c.talk_on.ensures.fault
