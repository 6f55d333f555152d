use Rattle.std.proofs.lemmas.Result.{IfOk-weaker}
use Rattle.album_permits.specs.Permits.{PermitState}
use Rattle.album_client.specs.Transitions.{client_of}
use Rattle.album_client.proofs.MoveLemmas.{rules_done}
use Rattle.album_client.proofs.transitions.ClientStep.rule.Goals as goal

-- a ruling is the one that is computed
pub returns-clause-transition : goal.returns-clause-transition
returns-clause-transition c =
    let case : PermitState = record {
      view = c.args.view;
      principal = c.args.principal.now;
      policy = c.args.self.terms.policy;
    } in
    let ruled = rw c.policy-policy.ensures at c.in_ok-ruled.ensures.ruled in
    IfOk-weaker c.note_ruling.result _ _ (λ transition is.
    rules_done c.args.self.terms (client_of c.args.self) (client_of c.after-client_step.result) c.args.tag
    c.args.principal.now c.args.view c.in_ok-ruled.ruled transition ruled c.after-client_step.ensures.client (rw c.after-client_step.ensures.terms at is))
    (c.note_ruling.ensures.transition case ruled.kept)
