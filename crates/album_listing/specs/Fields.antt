-- The fields of a value: none, where it is of a kind that does not have it.
use Rattle.std.specs.Prelude.{ℕ, List, Option, Some, None}
use Rattle.album_lists.specs.declared.whos.Member.{Member}
use Rattle.album_items.specs.declared.values.Value.{Value}
use Rattle.album_items.specs.declared.values.Value.TheVariants as value

-- the title of a picture or an album
abbrev pub title_field : Value → Option (List ℕ)
title_field value.Missing = None
title_field (value.Picture picture) = Some picture.title
title_field (value.Album album) = Some album.title
title_field (value.List entries) = None
title_field (value.Group group) = None

-- the content of a picture
abbrev pub content_field : Value → Option (List ℕ)
content_field value.Missing = None
content_field (value.Picture picture) = Some picture.content
content_field (value.Album album) = None
content_field (value.List entries) = None
content_field (value.Group group) = None

-- the members of what is a group
abbrev pub members_field : Value → Option (List Member)
members_field value.Missing = None
members_field (value.Picture picture) = None
members_field (value.Album album) = None
members_field (value.List entries) = None
members_field (value.Group group) = Some group.members

-- the number of the album that an album's home is, where it has one
abbrev pub album_home_field : Value → Option (Option ℕ)
album_home_field value.Missing = None
album_home_field (value.Picture picture) = None
album_home_field (value.Album album) = Some album.home
album_home_field (value.List entries) = None
album_home_field (value.Group group) = None
