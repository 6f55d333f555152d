use Rattle.std.proofs.Common.{ℕ, sym, ◌∙◌, subst}
use Rattle.album_calls.specs.declared.messages.Message.{Message}
use Rattle.album_passes.specs.Pass.{PassState}
use Rattle.album_keepers.specs.Envelopes.{IsSettledBelow, IsUpToDate}
use Rattle.album_keepers.proofs.keeper.envelope_of.Goals as goal

-- what is so of the reply is so of the envelope
pub new-requires-clause-latest : goal.new-requires-clause-latest
new-requires-clause-latest g c = λ none.
    subst (λ (z : Message × PassState). IsUpToDate z.1.cut z.0) (λ i. (sym c.open-reply.ensures.reply i, sym c.open-reply.ensures.pass i))
    (c.requires.latest (sym c.is_overtaken-overtaken.ensures ∙ none))

pub new-requires-clause-settled : goal.new-requires-clause-settled
new-requires-clause-settled g c =
    subst (λ (z : ℕ × Message × PassState). IsSettledBelow z.0 z.2.cut z.1)
    (λ i. (sym c.settled_below-below.ensures i, sym c.open-reply.ensures.reply i, sym c.open-reply.ensures.pass i)) c.requires.settled
