-- What a granted ask is served that writes nothing.
use Rattle.std.specs.Prelude.{◌≡◌, ℕ, List}
use Rattle.album_items.specs.Values.{children_of, members_of}
use Rattle.album_items.specs.declared.values.Value.{Value}
use Rattle.album_items.specs.declared.values.Value.TheVariants as value
use Rattle.album_views.specs.Seen.{seen}
use Rattle.album_views.specs.declared.asks.Ask.{Ask}
use Rattle.album_views.specs.declared.asks.Ask.TheVariants as ask
use Rattle.album_listing.specs.Listing.{IsListing}
use Rattle.album_listing.specs.ViewLookups.{stamp_seen, stamp_named, list_named, entries_named}
use Rattle.album_listing.specs.declared.rows.Row.{Row}
use Rattle.album_permits.specs.Attributes.{attributes_of}
use Rattle.album_permits.specs.Permits.{PermitState}
use Rattle.album_permits.specs.declared.serving.Served.{Served}
use Rattle.album_permits.specs.declared.serving.Served.TheVariants as served

-- the title and the content of a picture, or the members of a group: none of what is neither
abbrev pub read_of : ℕ → ℕ → Value → Served
read_of object stamp value.Missing = served.Group object stamp (members_of value.Missing)
read_of object stamp (value.Picture picture) = served.Picture object stamp picture.title picture.content
read_of object stamp (value.Album album) = served.Group object stamp (members_of (value.Album album))
read_of object stamp (value.List entries) = served.Group object stamp (members_of (value.List entries))
read_of object stamp (value.Group group) = served.Group object stamp (members_of (value.Group group))

-- the rows of the album, at its stamp
pub record AreServedRows (permit : PermitState) (album : ℕ) (given : Served) : Type 0 where
  pub rows : List Row
  pub listing : IsListing permit.view permit.principal rows
  pub given_is : given ≡ served.Listed album (stamp_seen permit.view.rows album) rows

-- what an ask is served: with the stamp of its object, or of the object's list where that is asked for
abbrev pub IsServedFor : PermitState → Served → Ask → Type 0
IsServedFor permit given (ask.Read object) =
    given ≡ read_of object (stamp_seen permit.view.rows object) (seen permit.view.rows object)
IsServedFor permit given (ask.List album) = AreServedRows permit album given
IsServedFor permit given (ask.GetList object) =
    given
    ≡ served.Entries object (list_named (seen permit.view.rows) object) (stamp_named permit.view.rows object)
    (entries_named (seen permit.view.rows) object)
IsServedFor permit given (ask.Head object) =
    given ≡ served.Head object (stamp_seen permit.view.rows object) (attributes_of (seen permit.view.rows object))
IsServedFor permit given (ask.Children album) =
    given ≡ served.Children album (stamp_seen permit.view.rows album) (children_of (seen permit.view.rows album))
IsServedFor permit given (ask.AddPicture album title content) = ⊥
IsServedFor permit given (ask.AddAlbum album title) = ⊥
IsServedFor permit given (ask.AddGroup album members) = ⊥
IsServedFor permit given (ask.Retitle object title) = ⊥
IsServedFor permit given (ask.Replace object content) = ⊥
IsServedFor permit given (ask.Delete object) = ⊥
IsServedFor permit given (ask.Move object to) = ⊥
IsServedFor permit given (ask.SetLists lists) = ⊥
IsServedFor permit given (ask.SetOwner object owner group) = ⊥
IsServedFor permit given (ask.SetMembers object members) = ⊥
IsServedFor permit given (ask.Share lists members) = ⊥

-- the ask of the permit is served
abbrev pub IsServed : PermitState → Served → Type 0
IsServed permit given = IsServedFor permit given permit.view.ask
