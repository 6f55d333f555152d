use Rattle.std.proofs.Common.{◌≡◌, map, take}
use Rattle.album_keepers.specs.Envelopes.{RequestEnvelopeState}
use Rattle.album_keepers.proofs.keeper.envelopes_of.Given as goal

abbrev pub invariant-loop-message : goal.invariant-loop-message
invariant-loop-message g l = record {
  same : l.owner ≡ l.initial.owner;
  made : map (λ (envelope : RequestEnvelopeState). envelope.message) l.envelopes.items ≡ take l.message-index l.messages;
}
