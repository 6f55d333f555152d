-- As what a part of a line is explained.
use Rattle.std.specs.Prelude.{codes, if◌then◌else◌}
use Rattle.serde_json.specs.Data.{Data}
use Rattle.album_items.specs.declared.item_ids.Kind.{Kind}
use Rattle.album_items.specs.declared.item_ids.Kind.TheVariants as kind
use Rattle.album_lines.specs.Fields.{has}

-- As which kind a value is explained: by a name that its reader knows it by, or else as its item's kind.
abbrev pub kind_explained : Kind → Data → Kind
kind_explained item value =
    if has (codes "entries") value then kind.List
    else if has (codes "members") value then kind.Group
    else if has (codes "children") value then kind.Album
    else if has (codes "content") value then kind.Picture
    else item
