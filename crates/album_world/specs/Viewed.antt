-- On which view an ask was ruled.
use Rattle.std.specs.Prelude.{◌≡◌, ℕ, List, Option, Some, Contains}
use Rattle.album_reader.specs.Answers.{ReadVersion}
use Rattle.album_views.specs.ReadSets.{looker_of}
use Rattle.album_views.specs.Views.{IsView}
use Rattle.album_permits.specs.Permits.{PermitState, permit_on}
use Rattle.album_client.specs.Terms.{Terms}
use Rattle.album_world.specs.Past.{Read, PastAnswer, World}

-- The client's last read is closed: a view of its ask. A permit of this view, the principal and the policy would have
-- the property.
pub record IsOnView
    (terms : Terms) (world : World) (client : ℕ) (last : Option Read) (Holds : PermitState → Type 0) : Type 0 where
  pub read : Read
  pub rows : List ReadVersion
  pub last_is : last ≡ Some read
  pub made : Contains world.past.reads read
  pub own : read.begun.client ≡ client
  pub shown : read.rows ≡ Some rows
  pub view : IsView (record { looker = looker_of terms.policy read.principal; ask = read.ask; rows = rows })
  pub holds : Holds (permit_on terms.policy read.principal read.ask rows)

-- the answer rests on a view that has the property
abbrev pub IsAnsweredOnView : Terms → World → PastAnswer → (PermitState → Type 0) → Type 0
IsAnsweredOnView terms world given Holds = IsOnView terms world given.client given.last Holds
