use Rattle.std.proofs.Common.{ℕ, ◌<◌, sym, ap, ◌∙◌, subst}
use Rattle.album_keepers.specs.Envelopes.{ReplyEnvelopeState}
use Rattle.album_keepers.proofs.envelopes.ReplyEnvelope.open.Goals as goal

-- so it is of what the envelope holds
pub returns-clause-latest : goal.returns-clause-latest
returns-clause-latest g c = λ e. c.self.invariant.latest (ap (λ (s : ReplyEnvelopeState). s.overtaken) c.self.view_is ∙ e)

pub returns-clause-settled : goal.returns-clause-settled
returns-clause-settled g c = λ part from stamp low.
    c.self.invariant.settled part from stamp
    (subst (λ (n : ℕ). stamp < n) (sym (ap (λ (s : ReplyEnvelopeState). s.settled_below) c.self.view_is)) low)
