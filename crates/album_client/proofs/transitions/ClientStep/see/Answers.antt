use Rattle.std.proofs.Common.{◌∙◌, ap}
use Rattle.album_eval.specs.declared.policies.Policy.{Policy}
use Rattle.album_views.specs.ReadSets.{looker_of}
use Rattle.album_client.proofs.MoveLemmas.{taken_stepped}
use Rattle.album_client.proofs.transitions.ClientStep.see.Goals as goal

-- the same is asked of the same, and whoever asks looks
pub end_read-requires-clause-taken : goal.end_read-requires-clause-taken
end_read-requires-clause-taken c =
    let parts = c.into_parts-viewing in
    let looks = c.in_ok-looker.ensures.looker ∙ ap (λ (p : Policy). looker_of p parts.result.1) c.policy.ensures in
    rw (c.in_ok-step.ensures.step, looks)
    (taken_stepped parts.result.0 c.args.self.terms.policy parts.result.1 c.args.snapshot
    (rw (parts.ensures.viewing, parts.ensures.principal) parts.ensures.taken))
