use Rattle.std.proofs.Common.{arith, sym}
use Rattle.album_client.proofs.MoveLemmas.{just_commits}
use Rattle.album_client.proofs.transitions.ClientStep.prepare.Goals as goal

pub with-requires-in-Commit : goal.with-requires-in-Commit
with-requires-in-Commit c =
    let just =
    just_commits c.args.preparing c.in-Commit.committing c.args.message.now c.in-Commit.commits.items
    (sym c.in-Commit.ensures.step) in
    omega (arith, just)
