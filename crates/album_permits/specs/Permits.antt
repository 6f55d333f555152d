-- What a permit holds.
use Rattle.std.specs.Prelude.{◌≡◌, None, List}
use Rattle.album_eval.specs.declared.facts.Principal.{Principal}
use Rattle.album_eval.specs.declared.policies.Policy.{Policy}
use Rattle.album_reader.specs.Answers.{ReadVersion}
use Rattle.album_views.specs.Checks.{refusal_of}
use Rattle.album_views.specs.ReadSets.{looker_of}
use Rattle.album_views.specs.Views.{ViewState}
use Rattle.album_views.specs.declared.asks.Ask.{Ask}
use Rattle.album_listing.specs.Basis.{Basis, IsBasis}
use Rattle.album_permits.specs.Findings.{ruling_of}
use Rattle.album_permits.specs.declared.findings.Finding.TheVariants.{Granted}

-- a view, the principal for whom its ask is granted, and the policy that grants it
pub record PermitState : Type 0 where
  pub view : ViewState
  pub principal : Principal
  pub policy : Policy

-- the permit for an ask on a snapshot
abbrev pub permit_on : Policy → Principal → Ask → List ReadVersion → PermitState
permit_on policy principal ask rows =
    record {
      view = record { looker = looker_of policy principal; ask = ask; rows = rows };
      principal = principal;
      policy = policy;
    }

-- What is true of each permit: its ask is one that the principal may ask, its view has what a ruling for the principal
-- looks at, and it is granted on its view.
pub record IsPermit (permit : PermitState) : Type 0 where
  pub taken : refusal_of permit.view.ask permit.principal ≡ None
  pub looks : permit.view.looker ≡ looker_of permit.policy permit.principal
  pub basis : Basis
  pub based : IsBasis permit.policy permit.principal permit.view.rows basis
  pub granted : ruling_of basis permit.view.ask ≡ Granted
