use Rattle.std.proofs.Common.{sym}
use Rattle.album_client.proofs.MoveLemmas.{few_next, readable_gone}
use Rattle.album_client.proofs.transitions.ClientStep.read.Goals as goal

-- the second round has as many messages as the first
pub with-requires-in-Next : goal.with-requires-in-Next
with-requires-in-Next c =
    let step = rw c.in-Next.is at c.in_ok-reading.ensures.step in
    few_next c.args.reading c.in-Next.reading c.args.message.now c.in-Next.gets.items c.tag-tag.ensures.open (sym step)

-- what was read can be read again
pub end_read-requires-clause-readable : goal.end_read-requires-clause-readable
end_read-requires-clause-readable c =
    let step = rw c.in-Gone.is at c.in_ok-reading.ensures.step in
    rw c.on_gone.ensures
    (readable_gone c.into_parts-viewing.result.0 c.args.reading c.args.message.now c.in-Gone.items
    c.tag-tag.ensures.open (sym step))
