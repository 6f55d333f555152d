-- What an ask needs.
use Rattle.std.specs.Prelude.{ℕ, List, [], ◌∷◌, ◌++◌, map}
use Rattle.album_access.specs.declared.masks.Mask.{Mask}
use Rattle.album_items.specs.Values.{home_of}
use Rattle.album_items.specs.declared.values.Value.{Value}
use Rattle.album_views.specs.declared.asks.Ask.{Ask}
use Rattle.album_views.specs.declared.asks.Ask.TheVariants as ask
use Rattle.album_views.specs.declared.asks.NewList.{NewList}
use Rattle.album_views.specs.declared.asks.NewMembership.{NewMembership}
use Rattle.album_listing.specs.Masks.{READ_DATA, WRITE_DATA, LIST_DIRECTORY, ADD_FILE, ADD_SUBDIRECTORY, DELETE_CHILD, READ_ATTRIBUTES, WRITE_ATTRIBUTES, DELETE, READ_ACL, WRITE_ACL, WRITE_OWNER}
use Rattle.album_listing.specs.Reasons.{on}
use Rattle.album_listing.specs.declared.reasons.Alternative.{Alternative}

-- a need that has one alternative: the mask on the object
abbrev pub just : ℕ → Mask → List Alternative
just object mask = on object mask ∷ []

-- DELETE on the picture, or DELETE_CHILD on its home; a picture that is missing has none
abbrev pub deletion : (ℕ → Value) → ℕ → List Alternative
deletion seen picture = on picture DELETE ∷ map (λ home. on home DELETE_CHILD) (home_of (seen picture))

-- the needs of an ask, in order; of the alternatives of a need one has to be granted
abbrev pub needs_of : (ℕ → Value) → Ask → List (List Alternative)
needs_of seen (ask.Read object) = just object READ_DATA ∷ []
needs_of seen (ask.List album) = just album LIST_DIRECTORY ∷ []
needs_of seen (ask.GetList object) = just object READ_ACL ∷ []
needs_of seen (ask.Head object) = just object READ_ATTRIBUTES ∷ []
needs_of seen (ask.Children album) = just album LIST_DIRECTORY ∷ []
needs_of seen (ask.AddPicture album title content) = just album ADD_FILE ∷ []
needs_of seen (ask.AddAlbum album title) = just album ADD_SUBDIRECTORY ∷ []
needs_of seen (ask.AddGroup album members) = just album WRITE_ACL ∷ []
needs_of seen (ask.Retitle object title) = just object WRITE_ATTRIBUTES ∷ []
needs_of seen (ask.Replace object content) = just object WRITE_DATA ∷ []
needs_of seen (ask.Delete object) = deletion seen object ∷ []
needs_of seen (ask.Move object to) = deletion seen object ∷ just to ADD_FILE ∷ []
needs_of seen (ask.SetLists lists) = map (λ (new : NewList). just new.object WRITE_ACL) lists
needs_of seen (ask.SetOwner object owner group) = just object WRITE_OWNER ∷ []
needs_of seen (ask.SetMembers object members) = just object WRITE_DATA ∷ []
needs_of seen (ask.Share lists members) =
    map (λ (new : NewList). just new.object WRITE_ACL) lists
    ++ map (λ (new : NewMembership). just new.object WRITE_DATA) members
