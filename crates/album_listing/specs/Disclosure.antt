-- Snapshots that are alike for a principal: what they show otherwise is not for it to read.
use Rattle.std.specs.Prelude.{◌≡◌, ℕ, List, [], length, Option, option_map, IsTrue}
use Rattle.album_eval.specs.declared.facts.Principal.{Principal}
use Rattle.album_eval.specs.declared.policies.Policy.{Policy}
use Rattle.album_items.specs.Values.{children_of}
use Rattle.album_items.specs.declared.values.Value.{Value}
use Rattle.album_items.specs.declared.values.Value.TheVariants as value
use Rattle.album_reader.specs.Answers.{ReadVersion}
use Rattle.album_reader.specs.Snapshots.{version_read}
use Rattle.album_views.specs.ReadSets.{looker_of, IsNamed}
use Rattle.album_views.specs.Seen.{seen}
use Rattle.album_views.specs.declared.asks.Ask.{Ask}
use Rattle.album_views.specs.declared.asks.Ask.TheVariants as ask
use Rattle.album_listing.specs.GroupsFound.{basis_on}
use Rattle.album_listing.specs.Masks.{READ_DATA, READ_ATTRIBUTES, READ_ACL}
use Rattle.album_listing.specs.Reasons.{is_granted_on}
use Rattle.album_listing.specs.ViewLookups.{stamp_seen, stamp_named}
use Rattle.album_listing.specs.Fields.{title_field}

-- what a ruling looks at in a value: all of it but title, content and children
abbrev pub bare : Value → Value
bare value.Missing = value.Missing
bare (value.Picture picture) = value.Picture (record picture { title = []; content = [] })
bare (value.Album album) = value.Album (record album { title = []; children = [] })
bare (value.List entries) = value.List entries
bare (value.Group group) = value.Group group

-- the same of an item, if it was read
abbrev pub bare_read : List ReadVersion → ℕ → Option Value
bare_read rows item = option_map (λ version. bare version.1) (version_read rows item)

-- Of each item that is named by the one, both show what a ruling looks at alike, or show nothing.
pub record AreRuledAlike (looker : Option Principal) (ask : Ask) (one other : List ReadVersion) : Type 0 where
  pub bared : (item : ℕ) → IsNamed (seen one) looker ask item → bare_read one item ≡ bare_read other item

-- The two are alike in all that the principal may read. What is not named may differ in any way. What is named may
-- differ only in its stamp, its title, its content and its children, wherever these are not granted.
pub record AreAlikeFor
    (policy : Policy) (principal : Principal) (asked : Ask) (one other : List ReadVersion)
    : Type 0 where
  pub ruled : AreRuledAlike (looker_of policy principal) asked one other
  -- what it may read, or list, is the same with its stamp
  pub read :
      (item : ℕ) → IsNamed (seen one) (looker_of policy principal) asked item
      → IsTrue (is_granted_on (basis_on policy principal one) item READ_DATA)
      → version_read one item ≡ version_read other item
  -- what it may know the title of has the same title
  pub titled :
      (item : ℕ) → IsNamed (seen one) (looker_of policy principal) asked item
      → IsTrue (is_granted_on (basis_on policy principal one) item READ_ATTRIBUTES)
      → title_field (seen one item) ≡ title_field (seen other item)
  -- where it may read the list of an item, that has the same stamp
  pub listed :
      (item : ℕ) → IsNamed (seen one) (looker_of policy principal) asked item
      → IsTrue (is_granted_on (basis_on policy principal one) item READ_ACL)
      → stamp_named one item ≡ stamp_named other item
  -- where it asks for the head of an item and may know its attributes, that has the same stamp, and as many children
  pub headed :
      (item : ℕ) → asked ≡ ask.Head item
      → IsTrue (is_granted_on (basis_on policy principal one) item READ_ATTRIBUTES)
      → (stamp_seen one item ≡ stamp_seen other item)
      × (length (children_of (seen one item)) ≡ length (children_of (seen other item)))
