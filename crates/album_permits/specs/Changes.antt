-- Values with one thing changed. What does not have it stays as it is.
use Rattle.std.specs.Prelude.{ℕ, List, [], ◌∷◌, ◌++◌, ◌==◌, not, filter}
use Rattle.album_lists.specs.declared.whos.Member.{Member}
use Rattle.album_items.specs.Values.{children_of}
use Rattle.album_items.specs.declared.values.Head.{Head}
use Rattle.album_items.specs.declared.values.Value.{Value}
use Rattle.album_items.specs.declared.values.Value.TheVariants as value

-- another title of a picture or an album
abbrev pub with_title : List ℕ → Value → Value
with_title title value.Missing = value.Missing
with_title title (value.Picture picture) = value.Picture (record picture { title = title })
with_title title (value.Album album) = value.Album (record album { title = title })
with_title title (value.List entries) = value.List entries
with_title title (value.Group group) = value.Group group

-- another content of a picture
abbrev pub with_content : List ℕ → Value → Value
with_content content value.Missing = value.Missing
with_content content (value.Picture picture) = value.Picture (record picture { content = content })
with_content content (value.Album album) = value.Album album
with_content content (value.List entries) = value.List entries
with_content content (value.Group group) = value.Group group

-- another home of a picture
abbrev pub with_home : ℕ → Value → Value
with_home home value.Missing = value.Missing
with_home home (value.Picture picture) = value.Picture (record picture { home = home })
with_home home (value.Album album) = value.Album album
with_home home (value.List entries) = value.List entries
with_home home (value.Group group) = value.Group group

-- another owner and another head group
abbrev pub owned : List ℕ → ℕ → Head → Head
owned owner number head = record head { owner = owner; group = number }

abbrev pub with_owner : List ℕ → ℕ → Value → Value
with_owner owner number value.Missing = value.Missing
with_owner owner number (value.Picture picture) =
    value.Picture (record picture { head = owned owner number picture.head })
with_owner owner number (value.Album album) =
    value.Album (record album { head = owned owner number album.head })
with_owner owner number (value.List entries) = value.List entries
with_owner owner number (value.Group group) =
    value.Group (record group { head = owned owner number group.head })

-- other members of a group
abbrev pub with_members : List Member → Value → Value
with_members members value.Missing = value.Missing
with_members members (value.Picture picture) = value.Picture picture
with_members members (value.Album album) = value.Album album
with_members members (value.List entries) = value.List entries
with_members members (value.Group group) = value.Group (record group { members = members })

-- other children of an album
abbrev pub with_children : List ℕ → Value → Value
with_children children value.Missing = value.Missing
with_children children (value.Picture picture) = value.Picture picture
with_children children (value.Album album) = value.Album (record album { children = children })
with_children children (value.List entries) = value.List entries
with_children children (value.Group group) = value.Group group

-- the children but this one
abbrev pub others : ℕ → List ℕ → List ℕ
others child children = filter (λ other. not (child == other)) children

-- an album without this child
abbrev pub without_child : ℕ → Value → Value
without_child child value = with_children (others child (children_of value)) value

-- an album with this child, as its last
abbrev pub with_child : ℕ → Value → Value
with_child child value = with_children (others child (children_of value) ++ child ∷ []) value
