-- What is read of an ask is what spells it. For the laws of lines; `ask_spelled` and `ask_parts` are of whole asks.
use Rattle.std.proofs.Common.{◌≡◌, ℕ, List, [], ◌∷◌, codes, true, bytes_eq, Some, Ok, refl, sym, ap, ◌∙◌, subst}
use Rattle.std.proofs.lemmas.Slice.Eq.{bytes_eq-Decides}
use Rattle.serde_json.specs.Data.{Data, string, array}
use Rattle.serde_json.specs.Find.{get}
use Rattle.album_stamps.specs.declared.refusals.Refusal.TheVariants.{BadRequest}
use Rattle.album_stamps.specs.Outcome.{◌>>=◌}
use Rattle.album_lists.specs.declared.whos.Member.{Member}
use Rattle.album_views.specs.declared.asks.Ask.{Ask}
use Rattle.album_views.specs.declared.asks.Ask.TheVariants as ask
use Rattle.album_views.specs.declared.asks.NewList.{NewList}
use Rattle.album_views.specs.declared.asks.NewMembership.{NewMembership}
use Rattle.album_lines.specs.Fields.{sized, only_of, field_of, text_of}
use Rattle.album_lines.specs.Shapes.{entry_shapes_of, texts_of}
use Rattle.album_lines.specs.Values.{each_of, entries_read, members_read}
use Rattle.album_wire.specs.ItemTexts.{owner_read, title_read, content_read}
use Rattle.album_lines.specs.Spelling.{HasOnly, IsList, AreMembers, list_data}
use Rattle.album_wire.specs.ItemShapes.{item_named}
use Rattle.album_wire.specs.AskShape.{SpelledNewList, SpelledNewMembership, SpelledAsk, Read, ListAlbum, GetList, Head, Children, AddPicture, AddAlbum, AddGroup, Retitle, Replace, Delete, Move, SetLists, SetOwner, SetMembers, Share, read_shape_of, list_shape_of, get_list_shape_of, head_ask_shape_of, children_shape_of, add_picture_shape_of, add_album_shape_of, add_group_shape_of, retitle_shape_of, replace_shape_of, delete_shape_of, move_shape_of, new_list_shape_of, set_lists_shape_of, set_owner_shape_of, set_members_shape_of, new_membership_shape_of, share_shape_of, shape_by_word, ask_shape_of}
use Rattle.album_wire.specs.Asks.{new_list_read, new_membership_read, ask_read}
use Rattle.album_wire.specs.ObjectSpelling.{HasMember}
use Rattle.album_wire.specs.ItemSpelling.{IsItem, IsOwner, IsTitle, IsContent}
use Rattle.album_wire.specs.AskSpelling.{IsNewList, IsNewMembership, IsAsk}
use Rattle.album_lines.proofs.Steps.{step_taken, same_value, value_there, taken, there, each_of_read, read_each_of, zip_through, zip_between}
use Rattle.album_lines.proofs.Json.{two, sized_read}
use Rattle.album_lines.proofs.Entries.{members_spelled, members_parts}
use Rattle.album_wire.proofs.Forms.{step_then, on_test, IsString, string_form, names_taken, names_then, member_as, member_parts, list_taken, list_then, known_taken, known_then, string_taken, whole_taken, whole_then}
use Rattle.album_wire.proofs.ItemSpelling.{ReadsItems, owner_form, owner_parts, title_form, title_then, title_valid, content_form, content_parts, entries_form, entries_parts, item_form, read_item, item_taken, item_then}

-- the word under `do`, found by a test
said : (word does : List ℕ) (d : Data)
    → get (codes "do") d ≡ Some (string word)
    → bytes_eq word does ≡ true
    → get (codes "do") d ≡ Some (string does)
said word does d at e = at ∙ ap (λ (t : List ℕ). Some (string t)) ((bytes_eq-Decides word does).0 e)

-- the shape of the ask that a word names
by_word : (does : List ℕ) (s : SpelledAsk) (d : Data)
    → get (codes "do") d ≡ Some (string does)
    → shape_by_word does d ≡ Ok s
    → ask_shape_of d ≡ Ok s
by_word does s d at h =
    step_then (field_of (codes "do") d >>= text_of) (λ word. shape_by_word word d) does s (rw at refl) h

same_ask : (b a : Ask) (d : Data) → b ≡ a → IsAsk b d → IsAsk a d
same_ask b a d same is = subst (λ c. IsAsk c d) same is

module _ (reads : ReadsItems) where
  -- ---- asks of an item, of two, and of an item and a text

  of_item : (name : List ℕ) (d : Data) (make : ℕ → SpelledAsk) (s : SpelledAsk)
      → (only_of (codes "do" ∷ name ∷ []) d
      >>= λ _. field_of name d >>= item_named >>= λ i. Ok (make i)) ≡ Ok s
      → (i : ℕ) × HasOnly (codes "do" ∷ name ∷ []) d × HasMember name (IsItem i) d × (make i ≡ s)
  of_item name d make s h =
      let names = names_taken (codes "do" ∷ name ∷ []) d _ s h in
      let item = item_taken reads name d (λ i. Ok (make i)) s names.1 in
      (item.0, names.0, item.1, same_value _ _ item.2)

  item_of_it : (name : List ℕ) (d : Data) (make : ℕ → SpelledAsk) (i : ℕ)
      → HasOnly (codes "do" ∷ name ∷ []) d
      → HasMember name (IsItem i) d
      → (only_of (codes "do" ∷ name ∷ []) d
      >>= λ _. field_of name d >>= item_named >>= λ j. Ok (make j)) ≡ Ok (make i)
  item_of_it name d make i names item =
      names_then (codes "do" ∷ name ∷ []) d _ (make i) names
      (item_then reads name d i (λ j. Ok (make j)) (make i) item refl)

  of_item_and_text : (one two : List ℕ) (d : Data) (make : ℕ → List ℕ → SpelledAsk) (s : SpelledAsk)
      → (only_of (codes "do" ∷ one ∷ two ∷ []) d
      >>= λ _. field_of one d >>= item_named >>= λ i. field_of two d >>= text_of >>= λ t. Ok (make i t)) ≡ Ok s
      → (i : ℕ) × (t : List ℕ) × HasOnly (codes "do" ∷ one ∷ two ∷ []) d
      × HasMember one (IsItem i) d × HasMember two (IsString t) d × (make i t ≡ s)
  of_item_and_text one two d make s h =
      let names = names_taken (codes "do" ∷ one ∷ two ∷ []) d _ s h in
      let item = item_taken reads one d (λ i. field_of two d >>= text_of >>= λ t. Ok (make i t)) s names.1 in
      let text = string_taken two d (λ t. Ok (make item.0 t)) s item.2 in
      (item.0, text.0, names.0, item.1, text.1, same_value _ _ text.2)

  item_and_text_of_it : (one two : List ℕ) (d : Data) (make : ℕ → List ℕ → SpelledAsk) (i : ℕ) (t : List ℕ)
      → HasOnly (codes "do" ∷ one ∷ two ∷ []) d
      → HasMember one (IsItem i) d
      → HasMember two (λ e. text_of e ≡ Ok t) d
      → (only_of (codes "do" ∷ one ∷ two ∷ []) d
      >>= λ _. field_of one d >>= item_named >>= λ j. field_of two d >>= text_of >>= λ u. Ok (make j u)) ≡ Ok (make i t)
  item_and_text_of_it one two d make i t names item text =
      let last =
      known_then two d text_of t (λ u. Ok (make i u)) (make i t) text refl in
      names_then (codes "do" ∷ one ∷ two ∷ []) d _ (make i t) names
      (item_then reads one d i _ (make i t) item last)

  read_spelled : (a : Ask) (s : SpelledAsk) (d : Data) → get (codes "do") d ≡ Some (string (codes "read"))
      → read_shape_of d ≡ Ok s → ask_read s ≡ Ok a → IsAsk a d
  unfolding read_shape_of ask_read
  read_spelled a s d at h g =
      let item = of_item (codes "object") d Read s h in
      let same : ask.Read item.0 ≡ a = same_value _ _ (ap ask_read item.3 ∙ g) in
      same_ask (ask.Read item.0) a d same (record { does = at; names = item.1 }, item.2)

  read_parts : (object : ℕ) (d : Data) → IsAsk (ask.Read object) d
      → (s : SpelledAsk) × (ask_shape_of d ≡ Ok s) × (ask_read s ≡ Ok (ask.Read object))
  unfolding read_shape_of ask_read
  read_parts object d is =
      let shape : read_shape_of d ≡ Ok (Read object) = item_of_it (codes "object") d Read object is.0.names is.1 in
      (Read object, by_word (codes "read") _ d is.0.does shape, refl)

  list_spelled : (a : Ask) (s : SpelledAsk) (d : Data) → get (codes "do") d ≡ Some (string (codes "list"))
      → list_shape_of d ≡ Ok s → ask_read s ≡ Ok a → IsAsk a d
  unfolding list_shape_of ask_read
  list_spelled a s d at h g =
      let item = of_item (codes "album") d ListAlbum s h in
      let same : ask.List item.0 ≡ a = same_value _ _ (ap ask_read item.3 ∙ g) in
      same_ask (ask.List item.0) a d same (record { does = at; names = item.1 }, item.2)

  list_parts : (album : ℕ) (d : Data) → IsAsk (ask.List album) d
      → (s : SpelledAsk) × (ask_shape_of d ≡ Ok s) × (ask_read s ≡ Ok (ask.List album))
  unfolding list_shape_of ask_read
  list_parts album d is =
      let shape : list_shape_of d ≡ Ok (ListAlbum album) =
      item_of_it (codes "album") d ListAlbum album is.0.names is.1 in
      (ListAlbum album, by_word (codes "list") _ d is.0.does shape, refl)

  get_list_spelled : (a : Ask) (s : SpelledAsk) (d : Data) → get (codes "do") d ≡ Some (string (codes "get_list"))
      → get_list_shape_of d ≡ Ok s → ask_read s ≡ Ok a → IsAsk a d
  unfolding get_list_shape_of ask_read
  get_list_spelled a s d at h g =
      let item = of_item (codes "object") d GetList s h in
      let same : ask.GetList item.0 ≡ a = same_value _ _ (ap ask_read item.3 ∙ g) in
      same_ask (ask.GetList item.0) a d same (record { does = at; names = item.1 }, item.2)

  get_list_parts : (object : ℕ) (d : Data) → IsAsk (ask.GetList object) d
      → (s : SpelledAsk) × (ask_shape_of d ≡ Ok s) × (ask_read s ≡ Ok (ask.GetList object))
  unfolding get_list_shape_of ask_read
  get_list_parts object d is =
      let shape : get_list_shape_of d ≡ Ok (GetList object) =
      item_of_it (codes "object") d GetList object is.0.names is.1 in
      (GetList object, by_word (codes "get_list") _ d is.0.does shape, refl)

  head_spelled : (a : Ask) (s : SpelledAsk) (d : Data) → get (codes "do") d ≡ Some (string (codes "head"))
      → head_ask_shape_of d ≡ Ok s → ask_read s ≡ Ok a → IsAsk a d
  unfolding head_ask_shape_of ask_read
  head_spelled a s d at h g =
      let item = of_item (codes "object") d Head s h in
      let same : ask.Head item.0 ≡ a = same_value _ _ (ap ask_read item.3 ∙ g) in
      same_ask (ask.Head item.0) a d same (record { does = at; names = item.1 }, item.2)

  head_parts : (object : ℕ) (d : Data) → IsAsk (ask.Head object) d
      → (s : SpelledAsk) × (ask_shape_of d ≡ Ok s) × (ask_read s ≡ Ok (ask.Head object))
  unfolding head_ask_shape_of ask_read
  head_parts object d is =
      let shape : head_ask_shape_of d ≡ Ok (Head object) = item_of_it (codes "object") d Head object is.0.names is.1 in
      (Head object, by_word (codes "head") _ d is.0.does shape, refl)

  children_spelled : (a : Ask) (s : SpelledAsk) (d : Data) → get (codes "do") d ≡ Some (string (codes "children"))
      → children_shape_of d ≡ Ok s → ask_read s ≡ Ok a → IsAsk a d
  unfolding children_shape_of ask_read
  children_spelled a s d at h g =
      let item = of_item (codes "album") d Children s h in
      let same : ask.Children item.0 ≡ a = same_value _ _ (ap ask_read item.3 ∙ g) in
      same_ask (ask.Children item.0) a d same (record { does = at; names = item.1 }, item.2)

  children_parts : (album : ℕ) (d : Data) → IsAsk (ask.Children album) d
      → (s : SpelledAsk) × (ask_shape_of d ≡ Ok s) × (ask_read s ≡ Ok (ask.Children album))
  unfolding children_shape_of ask_read
  children_parts album d is =
      let shape : children_shape_of d ≡ Ok (Children album) =
      item_of_it (codes "album") d Children album is.0.names is.1 in
      (Children album, by_word (codes "children") _ d is.0.does shape, refl)

  delete_spelled : (a : Ask) (s : SpelledAsk) (d : Data) → get (codes "do") d ≡ Some (string (codes "delete"))
      → delete_shape_of d ≡ Ok s → ask_read s ≡ Ok a → IsAsk a d
  unfolding delete_shape_of ask_read
  delete_spelled a s d at h g =
      let item = of_item (codes "object") d Delete s h in
      let same : ask.Delete item.0 ≡ a = same_value _ _ (ap ask_read item.3 ∙ g) in
      same_ask (ask.Delete item.0) a d same (record { does = at; names = item.1 }, item.2)

  delete_parts : (object : ℕ) (d : Data) → IsAsk (ask.Delete object) d
      → (s : SpelledAsk) × (ask_shape_of d ≡ Ok s) × (ask_read s ≡ Ok (ask.Delete object))
  unfolding delete_shape_of ask_read
  delete_parts object d is =
      let shape : delete_shape_of d ≡ Ok (Delete object) =
      item_of_it (codes "object") d Delete object is.0.names is.1 in
      (Delete object, by_word (codes "delete") _ d is.0.does shape, refl)

  move_spelled : (a : Ask) (s : SpelledAsk) (d : Data) → get (codes "do") d ≡ Some (string (codes "move"))
      → move_shape_of d ≡ Ok s → ask_read s ≡ Ok a → IsAsk a d
  unfolding move_shape_of ask_read
  move_spelled a s d at h g =
      let names = names_taken (codes "do" ∷ codes "object" ∷ codes "to" ∷ []) d _ s h in
      let object = item_taken reads (codes "object") d _ s names.1 in
      let to = item_taken reads (codes "to") d _ s object.2 in
      let shape : Move object.0 to.0 ≡ s = same_value _ _ to.2 in
      let same : ask.Move object.0 to.0 ≡ a = same_value _ _ (ap ask_read shape ∙ g) in
      same_ask (ask.Move object.0 to.0) a d same (record { does = at; names = names.0 }, object.1, to.1)

  move_parts : (object to : ℕ) (d : Data) → IsAsk (ask.Move object to) d
      → (s : SpelledAsk) × (ask_shape_of d ≡ Ok s) × (ask_read s ≡ Ok (ask.Move object to))
  unfolding move_shape_of ask_read
  move_parts object to d is =
      let s : SpelledAsk = Move object to in
      let shape : move_shape_of d ≡ Ok s =
      names_then (codes "do" ∷ codes "object" ∷ codes "to" ∷ []) d _ s is.0.names
      (item_then reads (codes "object") d object _ s is.1
      (item_then reads (codes "to") d to _ s is.2 refl)) in
      (s, by_word (codes "move") s d is.0.does shape, refl)

  -- ---- asks with a title or a content

  add_album_spelled : (a : Ask) (s : SpelledAsk) (d : Data) → get (codes "do") d ≡ Some (string (codes "add_album"))
      → add_album_shape_of d ≡ Ok s → ask_read s ≡ Ok a → IsAsk a d
  unfolding add_album_shape_of ask_read
  add_album_spelled a s d at h g =
      let both = of_item_and_text (codes "album") (codes "title") d AddAlbum s h in
      let title = step_taken (title_read both.1) _ a (ap ask_read both.5 ∙ g) in
      let same : ask.AddAlbum both.0 title.0 ≡ a = same_value _ _ title.2 in
      let titled =
      member_as (codes "title") d (IsString both.1) (IsTitle title.0) (title_form title.0 both.1 title.1) both.4 in
      same_ask (ask.AddAlbum both.0 title.0) a d same (record { does = at; names = both.2 }, both.3, titled)

  add_album_parts : (album : ℕ) (title : List ℕ) (d : Data) → IsAsk (ask.AddAlbum album title) d
      → (s : SpelledAsk) × (ask_shape_of d ≡ Ok s) × (ask_read s ≡ Ok (ask.AddAlbum album title))
  unfolding add_album_shape_of ask_read
  add_album_parts album title d is =
      let s : SpelledAsk = AddAlbum album title in
      let text : HasMember (codes "title") (λ e. text_of e ≡ Ok title) d =
      member_as (codes "title") d (IsTitle title) (λ e. text_of e ≡ Ok title) (λ e e_is. ap text_of e_is.0) is.2 in
      let shape : add_album_shape_of d ≡ Ok s =
      item_and_text_of_it (codes "album") (codes "title") d AddAlbum album title is.0.names is.1 text in (
        s,
        by_word (codes "add_album") s d is.0.does shape,
        step_then (title_read title) _ title _
            (title_valid title d is.2) refl,
      )

  retitle_spelled : (a : Ask) (s : SpelledAsk) (d : Data) → get (codes "do") d ≡ Some (string (codes "retitle"))
      → retitle_shape_of d ≡ Ok s → ask_read s ≡ Ok a → IsAsk a d
  unfolding retitle_shape_of ask_read
  retitle_spelled a s d at h g =
      let both = of_item_and_text (codes "object") (codes "title") d Retitle s h in
      let title = step_taken (title_read both.1) _ a (ap ask_read both.5 ∙ g) in
      let same : ask.Retitle both.0 title.0 ≡ a = same_value _ _ title.2 in
      let titled =
      member_as (codes "title") d (IsString both.1) (IsTitle title.0) (title_form title.0 both.1 title.1) both.4 in
      same_ask (ask.Retitle both.0 title.0) a d same (record { does = at; names = both.2 }, both.3, titled)

  retitle_parts : (object : ℕ) (title : List ℕ) (d : Data) → IsAsk (ask.Retitle object title) d
      → (s : SpelledAsk) × (ask_shape_of d ≡ Ok s) × (ask_read s ≡ Ok (ask.Retitle object title))
  unfolding retitle_shape_of ask_read
  retitle_parts object title d is =
      let s : SpelledAsk = Retitle object title in
      let text : HasMember (codes "title") (λ e. text_of e ≡ Ok title) d =
      member_as (codes "title") d (IsTitle title) (λ e. text_of e ≡ Ok title) (λ e e_is. ap text_of e_is.0) is.2 in
      let shape : retitle_shape_of d ≡ Ok s =
      item_and_text_of_it (codes "object") (codes "title") d Retitle object title is.0.names is.1 text in (
        s,
        by_word (codes "retitle") s d is.0.does shape,
        step_then (title_read title) _ title _
            (title_valid title d is.2) refl,
      )

  replace_spelled : (a : Ask) (s : SpelledAsk) (d : Data) → get (codes "do") d ≡ Some (string (codes "replace"))
      → replace_shape_of d ≡ Ok s → ask_read s ≡ Ok a → IsAsk a d
  unfolding replace_shape_of ask_read
  replace_spelled a s d at h g =
      let both = of_item_and_text (codes "object") (codes "content") d Replace s h in
      let content = step_taken (content_read both.1) _ a (ap ask_read both.5 ∙ g) in
      let same : ask.Replace both.0 content.0 ≡ a = same_value _ _ content.2 in
      let filled =
      member_as (codes "content") d (IsString both.1) (IsContent content.0) (content_form content.0 both.1 content.1)
      both.4 in
      same_ask (ask.Replace both.0 content.0) a d same (record { does = at; names = both.2 }, both.3, filled)

  replace_parts : (object : ℕ) (content : List ℕ) (d : Data) → IsAsk (ask.Replace object content) d
      → (s : SpelledAsk) × (ask_shape_of d ≡ Ok s) × (ask_read s ≡ Ok (ask.Replace object content))
  unfolding replace_shape_of ask_read
  replace_parts object content d is =
      let text =
      member_parts (codes "content") d text_of (IsContent content) (λ t. content_read t ≡ Ok content)
      (content_parts content) is.2 in
      let s : SpelledAsk = Replace object text.0 in
      let shape : replace_shape_of d ≡ Ok s =
      item_and_text_of_it (codes "object") (codes "content") d Replace object text.0 is.0.names is.1 text.1 in
      (s, by_word (codes "replace") s d is.0.does shape, step_then (content_read text.0) _ content _ text.2 refl)

  add_picture_spelled : (a : Ask) (s : SpelledAsk) (d : Data) → get (codes "do") d ≡ Some (string (codes "add_picture"))
      → add_picture_shape_of d ≡ Ok s → ask_read s ≡ Ok a → IsAsk a d
  unfolding add_picture_shape_of ask_read
  add_picture_spelled a s d at h g =
      let names = names_taken (codes "do" ∷ codes "album" ∷ codes "title" ∷ codes "content" ∷ []) d _ s h in
      let album = item_taken reads (codes "album") d _ s names.1 in
      let title = string_taken (codes "title") d _ s album.2 in
      let content = string_taken (codes "content") d _ s title.2 in
      let shape : AddPicture album.0 title.0 content.0 ≡ s = same_value _ _ content.2 in
      let good_title = step_taken (title_read title.0) _ a (ap ask_read shape ∙ g) in
      let good_content = step_taken (content_read content.0) _ a good_title.2 in
      let same : ask.AddPicture album.0 good_title.0 good_content.0 ≡ a = same_value _ _ good_content.2 in
      let titled =
      member_as (codes "title") d (IsString title.0) (IsTitle good_title.0)
      (title_form good_title.0 title.0 good_title.1) title.1 in
      let filled =
      member_as (codes "content") d (IsString content.0) (IsContent good_content.0)
      (content_form good_content.0 content.0 good_content.1) content.1 in
      same_ask (ask.AddPicture album.0 good_title.0 good_content.0) a d same
      (record { does = at; names = names.0 }, album.1, titled, filled)

  add_picture_parts : (album : ℕ) (title content : List ℕ) (d : Data) → IsAsk (ask.AddPicture album title content) d
      → (s : SpelledAsk) × (ask_shape_of d ≡ Ok s) × (ask_read s ≡ Ok (ask.AddPicture album title content))
  unfolding add_picture_shape_of ask_read
  add_picture_parts album title content d is =
      let text =
      member_parts (codes "content") d text_of (IsContent content) (λ t. content_read t ≡ Ok content)
      (content_parts content) is.3 in
      let s : SpelledAsk = AddPicture album title text.0 in
      let shape : add_picture_shape_of d ≡ Ok s =
      names_then (codes "do" ∷ codes "album" ∷ codes "title" ∷ codes "content" ∷ []) d _ s is.0.names
      (item_then reads (codes "album") d album _ s is.1
      (title_then title d _ s is.2
      (known_then (codes "content") d text_of text.0 _ s text.1 refl))) in
      let read : ask_read s ≡ Ok (ask.AddPicture album title content) =
      step_then (title_read title) _ title _ (title_valid title d is.2)
      (step_then (content_read text.0) _ content _ text.2 refl) in
      (s, by_word (codes "add_picture") s d is.0.does shape, read)

  -- ---- asks that set something

  new_list_of_two : (a b : Data) (s : SpelledNewList) → new_list_shape_of (list_data (a ∷ b ∷ [])) ≡ Ok s
      → IsItem s.object a × (entry_shapes_of b ≡ Ok s.entries)
  unfolding new_list_shape_of
  new_list_of_two a b s h =
      let object = step_taken (item_named a) _ s h in
      let entries = step_taken (entry_shapes_of b) _ s object.2 in
      let parts : SpelledNewList = record { object = object.0; entries = entries.0 } in
      let same : parts ≡ s = same_value parts s entries.2 in
      let Spells : SpelledNewList → Type 0 = λ t. IsItem t.object a × (entry_shapes_of b ≡ Ok t.entries) in
      subst Spells same (item_form reads object.0 a object.1, entries.1)

  new_list_spelled : (new : NewList) (s : SpelledNewList) (d : Data)
      → new_list_read s ≡ Ok new
      → new_list_shape_of d ≡ Ok s
      → IsNewList new d
  unfolding new_list_read new_list_shape_of
  new_list_spelled new s d g h =
      let long = step_taken (sized 2 d) _ s h in
      let items = sized_read 2 d long.0 long.1 in
      let parts = two items.0 items.2 in
      let is : d ≡ list_data (parts.0 ∷ parts.1 ∷ []) = items.1 ∙ ap array parts.2 in
      let shape = new_list_of_two parts.0 parts.1 s (ap new_list_shape_of (sym is) ∙ h) in
      let list = step_taken (entries_read s.entries) _ new g in
      let made : NewList = record { object = s.object; list = list.0 } in
      let spells : IsNewList made d = record {
        object_data = parts.0;
        entries_data = parts.1;
        items = is;
        object = shape.0;
        entries = entries_form list.0 s.entries list.1 parts.1 shape.1;
      } in
      subst (λ n. IsNewList n d) (same_value made new list.2) spells

  new_list_parts : (new : NewList) (d : Data) → IsNewList new d
      → (s : SpelledNewList) × (new_list_read s ≡ Ok new) × (new_list_shape_of d ≡ Ok s)
  unfolding new_list_read new_list_shape_of
  new_list_parts new d is =
      let entries = entries_parts new.list is.entries_data is.entries in
      let s : SpelledNewList = record { object = new.object; entries = entries.0 } in
      let read : new_list_read s ≡ Ok new = step_then (entries_read entries.0) _ new.list new entries.2 refl in
      let shape : new_list_shape_of (list_data (is.object_data ∷ is.entries_data ∷ [])) ≡ Ok s =
      step_then (item_named is.object_data) _ new.object s (read_item reads new.object is.object_data is.object)
      (step_then (entry_shapes_of is.entries_data) _ entries.0 s entries.1 refl) in
      (s, read, ap new_list_shape_of is.items ∙ shape)

  set_lists_spelled : (a : Ask) (s : SpelledAsk) (d : Data) → get (codes "do") d ≡ Some (string (codes "set_lists"))
      → set_lists_shape_of d ≡ Ok s → ask_read s ≡ Ok a → IsAsk a d
  unfolding set_lists_shape_of ask_read
  set_lists_spelled a s d at h g =
      let Shape : SpelledNewList → Data → Type 0 = λ l e. new_list_shape_of e ≡ Ok l in
      let names = names_taken (codes "do" ∷ codes "lists" ∷ []) d _ s h in
      let shapes = list_taken (codes "lists") d new_list_shape_of Shape (λ l e read. read) _ s names.1 in
      let shape : SetLists shapes.0 ≡ s = same_value _ _ shapes.2 in
      let lists = step_taken (each_of new_list_read shapes.0) _ a (ap ask_read shape ∙ g) in
      let same : ask.SetLists lists.0 ≡ a = same_value _ _ lists.2 in
      let each_read = each_of_read new_list_read shapes.0 lists.0 lists.1 in
      let listed =
      member_as (codes "lists") d (IsList Shape shapes.0) (IsList IsNewList lists.0)
      (λ e e_is. (e_is.0, e_is.1, zip_through _ _ IsNewList new_list_spelled lists.0 shapes.0 e_is.0 each_read e_is.2))
      shapes.1 in
      same_ask (ask.SetLists lists.0) a d same (record { does = at; names = names.0 }, listed)

  set_lists_parts : (lists : List NewList) (d : Data) → IsAsk (ask.SetLists lists) d
      → (s : SpelledAsk) × (ask_shape_of d ≡ Ok s) × (ask_read s ≡ Ok (ask.SetLists lists))
  unfolding set_lists_shape_of ask_read
  set_lists_parts lists d is =
      let Shape : SpelledNewList → Data → Type 0 = λ l e. new_list_shape_of e ≡ Ok l in
      let member = taken (get (codes "lists") d) (IsList IsNewList lists) is.1 in
      let between = zip_between _ _ IsNewList new_list_parts lists member.2.0 member.2.2 in
      let s : SpelledAsk = SetLists between.0 in
      let shaped : HasMember (codes "lists") (IsList Shape between.0) d =
      there (get (codes "lists") d) member.0 (IsList Shape between.0) member.1 (member.2.0, member.2.1, between.2) in
      let shape : set_lists_shape_of d ≡ Ok s =
      names_then (codes "do" ∷ codes "lists" ∷ []) d _ s is.0.names
      (list_then (codes "lists") d new_list_shape_of Shape between.0 (λ l e read. read) _ s shaped refl) in
      let read : ask_read s ≡ Ok (ask.SetLists lists) =
      step_then (each_of new_list_read between.0) _ lists _ (read_each_of new_list_read between.0 lists between.1)
      refl in
      (s, by_word (codes "set_lists") s d is.0.does shape, read)

  set_owner_spelled : (a : Ask) (s : SpelledAsk) (d : Data) → get (codes "do") d ≡ Some (string (codes "set_owner"))
      → set_owner_shape_of d ≡ Ok s → ask_read s ≡ Ok a → IsAsk a d
  unfolding set_owner_shape_of ask_read
  set_owner_spelled a s d at h g =
      let names = names_taken (codes "do" ∷ codes "object" ∷ codes "owner" ∷ codes "group" ∷ []) d _ s h in
      let object = item_taken reads (codes "object") d _ s names.1 in
      let text = string_taken (codes "owner") d _ s object.2 in
      let group = whole_taken (codes "group") d _ s text.2 in
      let shape : SetOwner object.0 text.0 group.0 ≡ s = same_value _ _ group.2 in
      let owner = step_taken (owner_read text.0) _ a (ap ask_read shape ∙ g) in
      let same : ask.SetOwner object.0 owner.0 group.0 ≡ a = same_value _ _ owner.2 in
      let owned =
      member_as (codes "owner") d (IsString text.0) (IsOwner owner.0) (owner_form owner.0 text.0 owner.1) text.1 in
      same_ask (ask.SetOwner object.0 owner.0 group.0) a d same
      (record { does = at; names = names.0 }, object.1, owned, group.1)

  set_owner_parts : (object : ℕ) (owner : List ℕ) (group : ℕ) (d : Data) → IsAsk (ask.SetOwner object owner group) d
      → (s : SpelledAsk) × (ask_shape_of d ≡ Ok s) × (ask_read s ≡ Ok (ask.SetOwner object owner group))
  unfolding set_owner_shape_of ask_read
  set_owner_parts object owner group d is =
      let text =
      member_parts (codes "owner") d text_of (IsOwner owner) (λ t. owner_read t ≡ Ok owner) (owner_parts owner) is.2 in
      let s : SpelledAsk = SetOwner object text.0 group in
      let shape : set_owner_shape_of d ≡ Ok s =
      names_then (codes "do" ∷ codes "object" ∷ codes "owner" ∷ codes "group" ∷ []) d _ s is.0.names
      (item_then reads (codes "object") d object _ s is.1
      (known_then (codes "owner") d text_of text.0 _ s text.1
      (whole_then (codes "group") d group _ s is.3 refl))) in
      (s, by_word (codes "set_owner") s d is.0.does shape, step_then (owner_read text.0) _ owner _ text.2 refl)

  set_members_spelled : (a : Ask) (s : SpelledAsk) (d : Data) → get (codes "do") d ≡ Some (string (codes "set_members"))
      → set_members_shape_of d ≡ Ok s → ask_read s ≡ Ok a → IsAsk a d
  unfolding set_members_shape_of ask_read
  set_members_spelled a s d at h g =
      let names = names_taken (codes "do" ∷ codes "object" ∷ codes "members" ∷ []) d _ s h in
      let object = item_taken reads (codes "object") d _ s names.1 in
      let Shape : List (List ℕ) → Data → Type 0 = λ ts e. texts_of e ≡ Ok ts in
      let texts = known_taken (codes "members") d texts_of _ s object.2 in
      let shape : SetMembers object.0 texts.0 ≡ s = same_value _ _ texts.2 in
      let members = step_taken (members_read texts.0) _ a (ap ask_read shape ∙ g) in
      let same : ask.SetMembers object.0 members.0 ≡ a = same_value _ _ members.2 in
      let spells =
      member_as (codes "members") d (λ e. texts_of e ≡ Ok texts.0) (AreMembers members.0)
      (λ e read. members_spelled members.0 texts.0 e read members.1) texts.1 in
      same_ask (ask.SetMembers object.0 members.0) a d same (record { does = at; names = names.0 }, object.1, spells)

  set_members_parts : (object : ℕ) (members : List Member) (d : Data) → IsAsk (ask.SetMembers object members) d
      → (s : SpelledAsk) × (ask_shape_of d ≡ Ok s) × (ask_read s ≡ Ok (ask.SetMembers object members))
  unfolding set_members_shape_of ask_read
  set_members_parts object members d is =
      let texts =
      member_parts (codes "members") d texts_of (AreMembers members) (λ ts. members_read ts ≡ Ok members)
      (members_parts members) is.2 in
      let s : SpelledAsk = SetMembers object texts.0 in
      let shape : set_members_shape_of d ≡ Ok s =
      names_then (codes "do" ∷ codes "object" ∷ codes "members" ∷ []) d _ s is.0.names
      (item_then reads (codes "object") d object _ s is.1
      (known_then (codes "members") d texts_of texts.0 _ s texts.1 refl)) in
      (s, by_word (codes "set_members") s d is.0.does shape, step_then (members_read texts.0) _ members _ texts.2 refl)

  add_group_spelled : (a : Ask) (s : SpelledAsk) (d : Data) → get (codes "do") d ≡ Some (string (codes "add_group"))
      → add_group_shape_of d ≡ Ok s → ask_read s ≡ Ok a → IsAsk a d
  unfolding add_group_shape_of ask_read
  add_group_spelled a s d at h g =
      let names = names_taken (codes "do" ∷ codes "album" ∷ codes "members" ∷ []) d _ s h in
      let album = item_taken reads (codes "album") d _ s names.1 in
      let texts = known_taken (codes "members") d texts_of _ s album.2 in
      let shape : AddGroup album.0 texts.0 ≡ s = same_value _ _ texts.2 in
      let members = step_taken (members_read texts.0) _ a (ap ask_read shape ∙ g) in
      let same : ask.AddGroup album.0 members.0 ≡ a = same_value _ _ members.2 in
      let spells =
      member_as (codes "members") d (λ e. texts_of e ≡ Ok texts.0) (AreMembers members.0)
      (λ e read. members_spelled members.0 texts.0 e read members.1) texts.1 in
      same_ask (ask.AddGroup album.0 members.0) a d same (record { does = at; names = names.0 }, album.1, spells)

  add_group_parts : (album : ℕ) (members : List Member) (d : Data) → IsAsk (ask.AddGroup album members) d
      → (s : SpelledAsk) × (ask_shape_of d ≡ Ok s) × (ask_read s ≡ Ok (ask.AddGroup album members))
  unfolding add_group_shape_of ask_read
  add_group_parts album members d is =
      let texts =
      member_parts (codes "members") d texts_of (AreMembers members) (λ ts. members_read ts ≡ Ok members)
      (members_parts members) is.2 in
      let s : SpelledAsk = AddGroup album texts.0 in
      let shape : add_group_shape_of d ≡ Ok s =
      names_then (codes "do" ∷ codes "album" ∷ codes "members" ∷ []) d _ s is.0.names
      (item_then reads (codes "album") d album _ s is.1
      (known_then (codes "members") d texts_of texts.0 _ s texts.1 refl)) in
      (s, by_word (codes "add_group") s d is.0.does shape, step_then (members_read texts.0) _ members _ texts.2 refl)

  -- ---- a share

  new_membership_of_two : (a b : Data) (s : SpelledNewMembership) → new_membership_shape_of (list_data (a ∷ b ∷ [])) ≡ Ok s
      → IsItem s.object a × (texts_of b ≡ Ok s.members)
  unfolding new_membership_shape_of
  new_membership_of_two a b s h =
      let object = step_taken (item_named a) _ s h in
      let members = step_taken (texts_of b) _ s object.2 in
      let parts : SpelledNewMembership = record { object = object.0; members = members.0 } in
      let same : parts ≡ s = same_value parts s members.2 in
      let Spells : SpelledNewMembership → Type 0 = λ t. IsItem t.object a × (texts_of b ≡ Ok t.members) in
      subst Spells same (item_form reads object.0 a object.1, members.1)

  new_membership_spelled : (new : NewMembership) (s : SpelledNewMembership) (d : Data)
      → new_membership_read s ≡ Ok new
      → new_membership_shape_of d ≡ Ok s
      → IsNewMembership new d
  unfolding new_membership_read new_membership_shape_of
  new_membership_spelled new s d g h =
      let long = step_taken (sized 2 d) _ s h in
      let items = sized_read 2 d long.0 long.1 in
      let parts = two items.0 items.2 in
      let is : d ≡ list_data (parts.0 ∷ parts.1 ∷ []) = items.1 ∙ ap array parts.2 in
      let shape = new_membership_of_two parts.0 parts.1 s (ap new_membership_shape_of (sym is) ∙ h) in
      let members = step_taken (members_read s.members) _ new g in
      let made : NewMembership = record { object = s.object; members = members.0 } in
      let spells : IsNewMembership made d = record {
        object_data = parts.0;
        members_data = parts.1;
        items = is;
        object = shape.0;
        members = members_spelled members.0 s.members parts.1 shape.1 members.1;
      } in
      subst (λ n. IsNewMembership n d) (same_value made new members.2) spells

  new_membership_parts : (new : NewMembership) (d : Data) → IsNewMembership new d
      → (s : SpelledNewMembership) × (new_membership_read s ≡ Ok new) × (new_membership_shape_of d ≡ Ok s)
  unfolding new_membership_read new_membership_shape_of
  new_membership_parts new d is =
      let texts = members_parts new.members is.members_data is.members in
      let s : SpelledNewMembership = record { object = new.object; members = texts.0 } in
      let read : new_membership_read s ≡ Ok new = step_then (members_read texts.0) _ new.members new texts.2 refl in
      let shape : new_membership_shape_of (list_data (is.object_data ∷ is.members_data ∷ [])) ≡ Ok s =
      step_then (item_named is.object_data) _ new.object s (read_item reads new.object is.object_data is.object)
      (step_then (texts_of is.members_data) _ texts.0 s texts.1 refl) in
      (s, read, ap new_membership_shape_of is.items ∙ shape)

  share_spelled : (a : Ask) (s : SpelledAsk) (d : Data) → get (codes "do") d ≡ Some (string (codes "share"))
      → share_shape_of d ≡ Ok s → ask_read s ≡ Ok a → IsAsk a d
  unfolding share_shape_of ask_read
  share_spelled a s d at h g =
      let OfList : SpelledNewList → Data → Type 0 = λ l e. new_list_shape_of e ≡ Ok l in
      let OfGroup : SpelledNewMembership → Data → Type 0 = λ l e. new_membership_shape_of e ≡ Ok l in
      let names = names_taken (codes "do" ∷ codes "lists" ∷ codes "members" ∷ []) d _ s h in
      let lists = list_taken (codes "lists") d new_list_shape_of OfList (λ l e read. read) _ s names.1 in
      let members = list_taken (codes "members") d new_membership_shape_of OfGroup (λ l e read. read) _ s lists.2 in
      let shape : Share lists.0 members.0 ≡ s = same_value _ _ members.2 in
      let good_lists = step_taken (each_of new_list_read lists.0) _ a (ap ask_read shape ∙ g) in
      let good_members = step_taken (each_of new_membership_read members.0) _ a good_lists.2 in
      let same : ask.Share good_lists.0 good_members.0 ≡ a = same_value _ _ good_members.2 in
      let each_list = each_of_read new_list_read lists.0 good_lists.0 good_lists.1 in
      let each_group = each_of_read new_membership_read members.0 good_members.0 good_members.1 in
      let listed =
      member_as (codes "lists") d (IsList OfList lists.0) (IsList IsNewList good_lists.0)
      (λ e e_is. (e_is.0, e_is.1, zip_through _ _ IsNewList new_list_spelled good_lists.0 lists.0 e_is.0 each_list e_is.2))
      lists.1 in
      let grouped =
      member_as (codes "members") d (IsList OfGroup members.0) (IsList IsNewMembership good_members.0)
      (λ e e_is. (
        e_is.0,
        e_is.1,
        zip_through _ _ IsNewMembership new_membership_spelled good_members.0 members.0 e_is.0 each_group e_is.2,
      ))
      members.1 in
      same_ask (ask.Share good_lists.0 good_members.0) a d same (record { does = at; names = names.0 }, listed, grouped)

  share_parts : (lists : List NewList) (members : List NewMembership) (d : Data) → IsAsk (ask.Share lists members) d
      → (s : SpelledAsk) × (ask_shape_of d ≡ Ok s) × (ask_read s ≡ Ok (ask.Share lists members))
  unfolding share_shape_of ask_read
  share_parts lists members d is =
      let OfList : SpelledNewList → Data → Type 0 = λ l e. new_list_shape_of e ≡ Ok l in
      let OfGroup : SpelledNewMembership → Data → Type 0 = λ l e. new_membership_shape_of e ≡ Ok l in
      let listed = taken (get (codes "lists") d) (IsList IsNewList lists) is.1 in
      let grouped = taken (get (codes "members") d) (IsList IsNewMembership members) is.2 in
      let each_list = zip_between _ _ IsNewList new_list_parts lists listed.2.0 listed.2.2 in
      let each_group = zip_between _ _ IsNewMembership new_membership_parts members grouped.2.0 grouped.2.2 in
      let s : SpelledAsk = Share each_list.0 each_group.0 in
      let shaped_lists : HasMember (codes "lists") (IsList OfList each_list.0) d =
      there (get (codes "lists") d) listed.0 (IsList OfList each_list.0) listed.1 (listed.2.0, listed.2.1, each_list.2) in
      let shaped_groups : HasMember (codes "members") (IsList OfGroup each_group.0) d =
      there (get (codes "members") d) grouped.0 (IsList OfGroup each_group.0) grouped.1
      (grouped.2.0, grouped.2.1, each_group.2) in
      let shape : share_shape_of d ≡ Ok s =
      names_then (codes "do" ∷ codes "lists" ∷ codes "members" ∷ []) d _ s is.0.names
      (list_then (codes "lists") d new_list_shape_of OfList each_list.0 (λ l e read. read) _ s shaped_lists
      (list_then (codes "members") d new_membership_shape_of OfGroup each_group.0 (λ l e read. read) _ s shaped_groups
      refl)) in
      let read : ask_read s ≡ Ok (ask.Share lists members) =
      step_then (each_of new_list_read each_list.0) _ lists _ (read_each_of new_list_read each_list.0 lists each_list.1)
      (step_then (each_of new_membership_read each_group.0) _ members _
      (read_each_of new_membership_read each_group.0 members each_group.1) refl) in
      (s, by_word (codes "share") s d is.0.does shape, read)

  -- ---- each ask

  by_shape : (a : Ask) (s : SpelledAsk) (word : List ℕ) (d : Data)
      → get (codes "do") d ≡ Some (string word)
      → shape_by_word word d ≡ Ok s
      → ask_read s ≡ Ok a
      → IsAsk a d
  by_shape a s word d at h g =
      on_test (bytes_eq word (codes "read")) _ _ s h (λ e h. read_spelled a s d (said word _ d at e) h g)
      (λ h. on_test (bytes_eq word (codes "list")) _ _ s h (λ e h. list_spelled a s d (said word _ d at e) h g)
      (λ h. on_test (bytes_eq word (codes "get_list")) _ _ s h (λ e h. get_list_spelled a s d (said word _ d at e) h g)
      (λ h. on_test (bytes_eq word (codes "head")) _ _ s h (λ e h. head_spelled a s d (said word _ d at e) h g)
      (λ h. on_test (bytes_eq word (codes "children")) _ _ s h (λ e h. children_spelled a s d (said word _ d at e) h g)
      (λ h. on_test (bytes_eq word (codes "add_picture")) _ _ s h
      (λ e h. add_picture_spelled a s d (said word _ d at e) h g)
      (λ h. on_test (bytes_eq word (codes "add_album")) _ _ s h
      (λ e h. add_album_spelled a s d (said word _ d at e) h g)
      (λ h. on_test (bytes_eq word (codes "add_group")) _ _ s h
      (λ e h. add_group_spelled a s d (said word _ d at e) h g)
      (λ h. on_test (bytes_eq word (codes "retitle")) _ _ s h (λ e h. retitle_spelled a s d (said word _ d at e) h g)
      (λ h. on_test (bytes_eq word (codes "replace")) _ _ s h (λ e h. replace_spelled a s d (said word _ d at e) h g)
      (λ h. on_test (bytes_eq word (codes "delete")) _ _ s h (λ e h. delete_spelled a s d (said word _ d at e) h g)
      (λ h. on_test (bytes_eq word (codes "move")) _ _ s h (λ e h. move_spelled a s d (said word _ d at e) h g)
      (λ h. on_test (bytes_eq word (codes "set_lists")) _ _ s h
      (λ e h. set_lists_spelled a s d (said word _ d at e) h g)
      (λ h. on_test (bytes_eq word (codes "set_owner")) _ _ s h
      (λ e h. set_owner_spelled a s d (said word _ d at e) h g)
      (λ h. on_test (bytes_eq word (codes "set_members")) _ _ s h
      (λ e h. set_members_spelled a s d (said word _ d at e) h g)
      (λ h. on_test (bytes_eq word (codes "share")) _ _ s h
      (λ e h. share_spelled a s d (said word _ d at e) h g)
      (λ h. cc))))))))))))))))

  pub ask_spelled : (a : Ask) (s : SpelledAsk) (d : Data) → ask_shape_of d ≡ Ok s → ask_read s ≡ Ok a → IsAsk a d
  ask_spelled a s d h g =
      let word = step_taken (field_of (codes "do") d >>= text_of) _ s h in
      let value = step_taken (field_of (codes "do") d) text_of word.0 word.1 in
      let at : get (codes "do") d ≡ Some (string word.0) =
      value_there _ BadRequest value.0 value.1 ∙ ap (λ (e : Data). Some e) (string_form word.0 value.0 value.2) in
      by_shape a s word.0 d at word.2 g

  pub ask_parts : (a : Ask) (d : Data) → IsAsk a d → (s : SpelledAsk) × (ask_shape_of d ≡ Ok s) × (ask_read s ≡ Ok a)
  ask_parts (ask.Read object) d is = read_parts object d is
  ask_parts (ask.List album) d is = list_parts album d is
  ask_parts (ask.GetList object) d is = get_list_parts object d is
  ask_parts (ask.Head object) d is = head_parts object d is
  ask_parts (ask.Children album) d is = children_parts album d is
  ask_parts (ask.AddPicture album title content) d is = add_picture_parts album title content d is
  ask_parts (ask.AddAlbum album title) d is = add_album_parts album title d is
  ask_parts (ask.AddGroup album members) d is = add_group_parts album members d is
  ask_parts (ask.Retitle object title) d is = retitle_parts object title d is
  ask_parts (ask.Replace object content) d is = replace_parts object content d is
  ask_parts (ask.Delete object) d is = delete_parts object d is
  ask_parts (ask.Move object to) d is = move_parts object to d is
  ask_parts (ask.SetLists lists) d is = set_lists_parts lists d is
  ask_parts (ask.SetOwner object owner group) d is = set_owner_parts object owner group d is
  ask_parts (ask.SetMembers object members) d is = set_members_parts object members d is
  ask_parts (ask.Share lists members) d is = share_parts lists members d is
