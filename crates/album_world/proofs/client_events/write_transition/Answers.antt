use Rattle.album_client.specs.Transitions.{client_of}
use Rattle.album_world.proofs.MoveLemmas.{few_prepared, none_committed}
use Rattle.album_world.proofs.client_events.write_transition.Goals as goal

-- it sends the Commits at most
pub returns-in-Prepares-clause-room : goal.returns-in-Prepares-clause-room
returns-in-Prepares-clause-room c =
    let writing = c.in-Prepares.preparing in
    rw (c.in-Prepares.is, c.prepare.ensures.sent)
    (few_prepared (client_of c.args.client_step) writing.tag writing c.args.message.now)

pub returns-in-Commits-clause-room : goal.returns-in-Commits-clause-room
returns-in-Commits-clause-room c =
    let writing = c.in-Commits.committing in
    rw (c.in-Commits.is, c.commit.ensures.sent)
    (none_committed (client_of c.args.client_step) writing.tag writing c.args.message.now)
