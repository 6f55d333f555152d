-- What is served, as JSON: {answer, client, object, stamp}, and beside these what was asked for.
use Rattle.std.specs.Prelude.{ℕ, List, [], ◌∷◌, codes, map, Option}
use Rattle.serde_json.specs.Data.{Data, string}
use Rattle.album_lists.specs.declared.lists.Ace.{Ace}
use Rattle.album_lists.specs.declared.whos.Member.{Member}
use Rattle.album_items.specs.declared.values.Head.{Head}
use Rattle.album_listing.specs.declared.rows.Row.{Row}
use Rattle.album_permits.specs.declared.attributes.Attributes.{Attributes}
use Rattle.album_permits.specs.declared.attributes.Attributes.TheVariants as attributes
use Rattle.album_permits.specs.declared.serving.Served.{Served}
use Rattle.album_permits.specs.declared.serving.Served.TheVariants as served
use Rattle.album_lines.specs.Spelling.{whole_data, list_data}
use Rattle.album_wire.specs.ValueJson.{object_data, owner_text, item_json, item_list_json, entries_json, members_json, content_json, home_json}

-- the word that says which answer it is, and to which client
abbrev pub answer_fields : List ℕ → ℕ → List (List ℕ × Data)
answer_fields word client = (codes "answer", string word) ∷ (codes "client", whole_data client) ∷ []

-- the same, of this object, as of this stamp
abbrev pub answer_about : List ℕ → ℕ → ℕ → ℕ → List (List ℕ × Data)
answer_about word client item stamp =
    (codes "answer", string word)
    ∷ (codes "client", whole_data client)
    ∷ (codes "object", item_json item)
    ∷ (codes "stamp", whole_data stamp)
    ∷ []

-- [item, title]
abbrev pub row_json : Row → Data
row_json row = list_data (item_json row.item ∷ string row.title ∷ [])

abbrev pub rows_json : List Row → Data
rows_json rows = list_data (map row_json rows)

-- a picture that is served
abbrev pub picture_served : ℕ → ℕ → ℕ → List ℕ → List ℕ → Data
picture_served client object stamp title content = object_data (
    (codes "answer", string (codes "served"))
    ∷ (codes "client", whole_data client)
    ∷ (codes "content", content_json content)
    ∷ (codes "object", item_json object)
    ∷ (codes "stamp", whole_data stamp)
    ∷ (codes "title", string title)
    ∷ [])

-- a group
abbrev pub group_served : ℕ → ℕ → ℕ → List Member → Data
group_served client object stamp members = object_data (
    (codes "answer", string (codes "served"))
    ∷ (codes "client", whole_data client)
    ∷ (codes "members", members_json members)
    ∷ (codes "object", item_json object)
    ∷ (codes "stamp", whole_data stamp)
    ∷ [])

-- the entries of the object's list, with the stamp of the list
abbrev pub entries_served : ℕ → ℕ → ℕ → List Ace → Data
entries_served client object stamp entries = object_data (
    (codes "answer", string (codes "served"))
    ∷ (codes "client", whole_data client)
    ∷ (codes "entries", entries_json entries)
    ∷ (codes "object", item_json object)
    ∷ (codes "stamp", whole_data stamp)
    ∷ [])

-- an album that is listed
abbrev pub listed_json : ℕ → ℕ → ℕ → List Row → Data
listed_json client album stamp rows = object_data (
    (codes "answer", string (codes "listed"))
    ∷ (codes "client", whole_data client)
    ∷ (codes "object", item_json album)
    ∷ (codes "rows", rows_json rows)
    ∷ (codes "stamp", whole_data stamp)
    ∷ [])

-- the head of a picture
abbrev pub picture_head : ℕ → ℕ → ℕ → Head → (title : List ℕ) → (home : ℕ) → Data
picture_head client object stamp head title home = object_data (
    (codes "answer", string (codes "served"))
    ∷ (codes "client", whole_data client)
    ∷ (codes "group", whole_data head.group)
    ∷ (codes "home", whole_data home)
    ∷ (codes "list", whole_data head.list)
    ∷ (codes "object", item_json object)
    ∷ (codes "owner", string (owner_text head.owner))
    ∷ (codes "stamp", whole_data stamp)
    ∷ (codes "title", string title)
    ∷ [])

-- the head of an album, with the count of its children
abbrev pub album_head : ℕ → ℕ → ℕ → Head → (title : List ℕ) → (home : Option ℕ) → (count : ℕ) → Data
album_head client object stamp head title home count = object_data (
    (codes "answer", string (codes "served"))
    ∷ (codes "client", whole_data client)
    ∷ (codes "count", whole_data count)
    ∷ (codes "group", whole_data head.group)
    ∷ (codes "home", home_json home)
    ∷ (codes "list", whole_data head.list)
    ∷ (codes "object", item_json object)
    ∷ (codes "owner", string (owner_text head.owner))
    ∷ (codes "stamp", whole_data stamp)
    ∷ (codes "title", string title)
    ∷ [])

-- the head of a group, with the count of its members
abbrev pub group_head : ℕ → ℕ → ℕ → Head → (count : ℕ) → Data
group_head client object stamp head count = object_data (
    (codes "answer", string (codes "served"))
    ∷ (codes "client", whole_data client)
    ∷ (codes "count", whole_data count)
    ∷ (codes "group", whole_data head.group)
    ∷ (codes "list", whole_data head.list)
    ∷ (codes "object", item_json object)
    ∷ (codes "owner", string (owner_text head.owner))
    ∷ (codes "stamp", whole_data stamp)
    ∷ [])

-- what an object is by its attributes
abbrev pub head_json : ℕ → ℕ → ℕ → Attributes → Data
head_json client object stamp attributes.Nothing = object_data (answer_about (codes "served") client object stamp)
head_json client object stamp (attributes.Picture head title home) = picture_head client object stamp head title home
head_json client object stamp (attributes.Album head title home count) =
    album_head client object stamp head title home count
head_json client object stamp (attributes.Group head count) = group_head client object stamp head count

-- the children of an album
abbrev pub children_json : ℕ → ℕ → ℕ → List ℕ → Data
children_json client album stamp children = object_data (
    (codes "answer", string (codes "served"))
    ∷ (codes "children", item_list_json children)
    ∷ (codes "client", whole_data client)
    ∷ (codes "object", item_json album)
    ∷ (codes "stamp", whole_data stamp)
    ∷ [])

abbrev pub served_json : ℕ → Served → Data
served_json client (served.Picture object stamp title content) = picture_served client object stamp title content
served_json client (served.Group object stamp members) = group_served client object stamp members
served_json client (served.Entries object of stamp entries) = entries_served client object stamp entries
served_json client (served.Listed album stamp rows) = listed_json client album stamp rows
served_json client (served.Head object stamp attributes) = head_json client object stamp attributes
served_json client (served.Children album stamp children) = children_json client album stamp children
