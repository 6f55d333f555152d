use Rattle.album_keepers.proofs.EnvelopeLemmas.{answer_shows}
use Rattle.album_keepers.proofs.envelopes.ReplyEnvelope.into_envelope.Goals as goal

pub new-requires-clause-shown : goal.new-requires-clause-shown
new-requires-clause-shown g c =
    answer_shows g.J.DeskNames.terms.limit c.open-request.result.2.cut c.open-request.result.0 c.open-request.result.1 c.open-request.ensures.answered
