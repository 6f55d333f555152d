-- What may be shown of an album, said of one row.
use Rattle.std.specs.Prelude.{◌≡◌, ℕ, List, Some, IsTrue, Contains}
use Rattle.album_items.specs.ItemIds.{number_of}
use Rattle.album_items.specs.Values.{children_of}
use Rattle.album_items.specs.declared.values.Value.{Value}
use Rattle.album_items.specs.declared.values.Value.TheVariants as value
use Rattle.album_listing.specs.Basis.{Basis}
use Rattle.album_listing.specs.Masks.{READ_ATTRIBUTES}
use Rattle.album_listing.specs.Reasons.{is_granted_on}
use Rattle.album_listing.specs.declared.rows.Row.{Row}

-- a picture or an album that has this title, and the album of this number as its home
abbrev pub IsTitledIn : ℕ → List ℕ → Value → Type 0
IsTitledIn home title value.Missing = ⊥
IsTitledIn home title (value.Picture picture) = (picture.home ≡ home) × (picture.title ≡ title)
IsTitledIn home title (value.Album album) = (album.home ≡ Some home) × (album.title ≡ title)
IsTitledIn home title (value.List entries) = ⊥
IsTitledIn home title (value.Group group) = ⊥

-- The row may be shown of the album: it is of one of the children, READ_ATTRIBUTES is granted on that child, and the
-- title is the child's, which has the album as its home.
pub record MayBeShown (basis : Basis) (album : ℕ) (row : Row) : Type 0 where
  pub child : Contains (children_of (basis.seen album)) row.item
  pub granted : IsTrue (is_granted_on basis row.item READ_ATTRIBUTES)
  pub titled : IsTitledIn (number_of album) row.title (basis.seen row.item)
