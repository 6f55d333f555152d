-- What is noted, and how notes go with a ruling.
use Rattle.std.specs.Prelude.{List, IsTrue, Contains}
use Rattle.album_listing.specs.Basis.{Basis}
use Rattle.album_listing.specs.Reasons.{is_granted_on}
use Rattle.album_listing.specs.declared.reasons.Alternative.{Alternative}

-- an alternative of one of the needs
pub record IsNeeded (needs : List (List Alternative)) (alternative : Alternative) : Type 0 where
  pub need : List Alternative
  pub among : Contains needs need
  pub one : Contains need alternative

-- an alternative of one of the needs, where another alternative of that need is granted
pub record IsSpared (basis : Basis) (needs : List (List Alternative)) (alternative : Alternative) : Type 0 where
  pub need : List Alternative
  pub among : Contains needs need
  pub one : Contains need alternative
  pub other : Alternative
  pub also : Contains need other
  pub granted : IsTrue (is_granted_on basis other.object other.mask)
