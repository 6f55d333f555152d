-- What an object is by its attributes: nothing of what it holds.
use Rattle.std.specs.Prelude.{length}
use Rattle.album_items.specs.declared.values.Value.{Value}
use Rattle.album_items.specs.declared.values.Value.TheVariants as value
use Rattle.album_permits.specs.declared.attributes.Attributes.{Attributes}
use Rattle.album_permits.specs.declared.attributes.Attributes.TheVariants as attributes

-- whose it is, what it is called, where it is, and how many children or members it has
abbrev pub attributes_of : Value → Attributes
attributes_of value.Missing = attributes.Nothing
attributes_of (value.Picture picture) = attributes.Picture picture.head picture.title picture.home
attributes_of (value.Album album) = attributes.Album album.head album.title album.home (length album.children)
attributes_of (value.List entries) = attributes.Nothing
attributes_of (value.Group group) = attributes.Group group.head (length group.members)
