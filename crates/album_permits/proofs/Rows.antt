-- Rows of the tables, computed: what is needed, written and full in a few cases.
use Rattle.std.proofs.Common.{◌≡◌, ◌==◌, ℕ, List, [], ◌∷◌, true, false, None, Some, replicate, refl, if◌then◌else◌}
use Rattle.album_eval.specs.declared.facts.Principal.{Principal}
use Rattle.album_eval.specs.declared.facts.Principal.TheVariants as principal
use Rattle.album_items.specs.ItemIds.{picture, album, list}
use Rattle.album_items.specs.declared.values.Head.{Head}
use Rattle.album_items.specs.declared.values.Value.{Value}
use Rattle.album_items.specs.declared.values.Value.TheVariants as value
use Rattle.album_views.specs.declared.asks.Ask.TheVariants as ask
use Rattle.album_listing.specs.Masks.{DELETE, DELETE_CHILD}
use Rattle.album_listing.specs.Reasons.{on}
use Rattle.album_permits.specs.Needs.{needs_of}
use Rattle.album_permits.specs.Effects.{merged, written, is_album_full}

-- picture 0 in album 0, whose children are given; both are of user 1, with lists 0 and 1
abbrev head_with : ℕ → Head
head_with number = record { owner = 1 ∷ []; group = 7; list = number }

abbrev sea : ℕ → Value
sea home = value.Picture (record { title = 83 ∷ []; content = []; head = head_with 0; home = home })

abbrev trip : List ℕ → Value
trip children = value.Album (record { title = []; head = head_with 1; home = None; children = children })

abbrev world : List ℕ → ℕ → Value
world children item =
    if item == picture 0 then sea 0 else if item == album 0 then trip children else value.Missing

abbrev amy : Principal
amy = principal.User (1 ∷ [])

delete_needs : needs_of (world []) (ask.Delete (picture 0)) ≡ (on (picture 0) DELETE ∷ on (album 0) DELETE_CHILD ∷ []) ∷ []
delete_needs = refl

missing_picture_has_no_home : needs_of (world []) (ask.Delete (picture 5)) ≡ (on (picture 5) DELETE ∷ []) ∷ []
missing_picture_has_no_home = refl

moved_within :
    merged (written (world (picture 0 ∷ picture 1 ∷ [])) amy 65537 (ask.Move (picture 0) (album 0)))
    ≡ (picture 0, sea 0) ∷ (album 0, trip (picture 1 ∷ picture 0 ∷ [])) ∷ []
moved_within = refl

deleted :
    merged (written (world (picture 0 ∷ picture 1 ∷ [])) amy 65537 (ask.Delete (picture 0)))
    ≡ (picture 0, value.Missing) ∷ (list 0, value.Missing) ∷ (album 0, trip (picture 1 ∷ [])) ∷ []
deleted = refl

album_in_album :
    merged (written (world (picture 0 ∷ [])) amy 65537 (ask.AddAlbum (album 0) []))
    ≡ (
      album 65537,
      value.Album (record {
        title = [];
        head = record { owner = 1 ∷ []; group = 7; list = 65537 };
        home = Some 0;
        children = [];
      }),
    )
    ∷ (list 65537, value.List [])
    ∷ (album 0, trip (picture 0 ∷ album 65537 ∷ []))
    ∷ []
album_in_album = refl

full_of_others : is_album_full (world (replicate 128 (picture 1))) 65537 (ask.Move (picture 0) (album 0)) ≡ true
full_of_others = refl

room_for_one : is_album_full (world (replicate 127 (picture 1))) 65537 (ask.Move (picture 0) (album 0)) ≡ false
room_for_one = refl

room_for_itself :
    is_album_full (world (picture 0 ∷ replicate 127 (picture 1))) 65537 (ask.Move (picture 0) (album 0)) ≡ false
room_for_itself = refl
