use Rattle.album_client.proofs.MoveLemmas.{few_prepares, full_refused, memory_refused}
use Rattle.album_client.specs.Steps.{round_for}
use Rattle.album_client.specs.Transitions.{client_of}
use Rattle.album_permits.specs.Effects.{is_full_for}
use Rattle.album_client.proofs.transitions.ClientStep.begin_write.Goals as goal

pub with-requires : goal.with-requires
with-requires c =
    let round = round_for c.args.self.terms (client_of c.args.self) c.args.tag c.args.permit c.args.stamp in
    rw c.in-Ok.ensures.messages (few_prepares round c.begin_round.ensures.few)

-- the album is full
pub returns-in-AlbumFull-clause-transition : goal.returns-in-AlbumFull-clause-transition
returns-in-AlbumFull-clause-transition c =
    let full =
    full_refused (is_full_for c.args.permit c.args.stamp) (rw c.in-AlbumFull.is at c.in-Err.ensures.refusal) in
    rw full (rw c.in-AlbumFull.is at c.end_ask.ensures)

-- memory ran out
pub returns-in_default-clause-memory : goal.returns-in_default-clause-memory
returns-in_default-clause-memory c =
    memory_refused (is_full_for c.args.permit c.args.stamp) c.in-Err.field-0.refusal c.in-Err.ensures.refusal
    c.in_default.not-AlbumFull
