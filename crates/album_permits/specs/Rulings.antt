-- What is ruled on a view, with what went in.
use Rattle.std.specs.Prelude.{◌≡◌}
use Rattle.album_eval.specs.declared.facts.Principal.{Principal}
use Rattle.album_eval.specs.declared.policies.Policy.{Policy}
use Rattle.album_views.specs.Views.{ViewState}
use Rattle.album_listing.specs.Basis.{Basis, IsBasis}
use Rattle.album_permits.specs.Findings.{ruling_of}
use Rattle.album_permits.specs.Notes.{notes_of}
use Rattle.album_permits.specs.declared.findings.Finding.{Finding}
use Rattle.album_permits.specs.declared.findings.Finding.TheVariants as finding
use Rattle.album_permits.specs.declared.findings.Found.{Found}
use Rattle.album_permits.specs.declared.rulings.Ruled.{Ruled}
use Rattle.album_permits.specs.declared.rulings.Ruling.{Ruling}
use Rattle.album_permits.specs.declared.rulings.Ruling.TheVariants as ruling

-- what is found of the ask of a view, and what is noted of it
pub record IsFound (policy : Policy) (principal : Principal) (view : ViewState) (found : Found) : Type 0 where
  pub basis : Basis
  pub based : IsBasis policy principal view.rows basis
  pub finding : found.finding ≡ ruling_of basis view.ask
  pub noted : found.notes.items ≡ notes_of basis view.ask

-- what a ruling found
abbrev pub finding_in : Ruling → Finding
finding_in (ruling.Granted permit) = finding.Granted
finding_in (ruling.Denied denial view) = finding.Denied denial
finding_in (ruling.Missing object view) = finding.Missing object

-- what went in is in the ruling: all of it in the permit, or the view next to the finding
abbrev pub Keeps : Policy → Principal → ViewState → Ruling → Type 0
Keeps policy principal view (ruling.Granted permit) =
    permit ≡ record { view = view; principal = principal; policy = policy }
Keeps policy principal view (ruling.Denied denial back) = back ≡ view
Keeps policy principal view (ruling.Missing object back) = back ≡ view

-- the ruling on the ask of a view, and its notes
pub record IsRuled (policy : Policy) (principal : Principal) (view : ViewState) (ruled : Ruled) : Type 0 where
  pub basis : Basis
  pub based : IsBasis policy principal view.rows basis
  pub finding : finding_in ruled.ruling ≡ ruling_of basis view.ask
  pub noted : ruled.notes.items ≡ notes_of basis view.ask
  pub kept : Keeps policy principal view ruled.ruling
