-- What is read of items and of their values is what spells them. For the laws of lines; `value_spelled` and
-- `value_parts` are of whole values. How the text of an item is read is a law of items, which these take first.
use Rattle.std.proofs.Common.{◌≡◌, ◌≤◌, ◌↔◌, ◌⊎◌, inl, inr, ◌||◌, ◌==◌, ℕ, List, length, codes, Bool, true, false, cond, nat_lt, IsTrue, Option, Some, None, Result, Ok, Err, refl, sym, ap, ◌∙◌, subst}
use Rattle.std.specs.Option.{ok_or}
use Rattle.std.proofs.lemmas.Bool.{ltb-false, le-ltb}
use Rattle.std.proofs.lemmas.Bool.Decides.{Decides-eqb}
use Rattle.hex.specs.Hex.{decode_of}
use Rattle.serde_json.specs.Data.{Data, null, boolean, number, string, array, object}
use Rattle.album_stamps.specs.declared.limits.TheConstants.{MAX_CONTENT}
use Rattle.album_stamps.specs.declared.refusals.Refusal.{Refusal}
use Rattle.album_stamps.specs.declared.refusals.Refusal.TheVariants.{BadRequest, BadWho, BadText}
use Rattle.album_stamps.specs.Outcome.{◌>>=◌}
use Rattle.album_lists.specs.declared.lists.Ace.{Ace}
use Rattle.album_lists.specs.declared.lists.Holder.TheVariants.{Folder}
use Rattle.album_lists.proofs.Spelling.{user_spelled, spelled_user}
use Rattle.album_items.specs.ItemIds.{IsItemText, kind_of, item_of}
use Rattle.album_items.specs.Texts.{is_title}
use Rattle.album_items.specs.declared.values.Album.{Album}
use Rattle.album_items.specs.declared.values.Group.{Group}
use Rattle.album_items.specs.declared.values.Head.{Head}
use Rattle.album_items.specs.declared.values.Picture.{Picture}
use Rattle.album_items.specs.declared.values.Value.{Value}
use Rattle.album_items.specs.declared.values.Value.TheVariants as value
use Rattle.album_lines.specs.Fields.{guard, field_of, has, text_of, whole_of, is_nothing}
use Rattle.album_lines.specs.Shapes.{SpelledEntry, entry_shapes_of, texts_of}
use Rattle.album_lines.specs.Values.{entries_read, members_read}
use Rattle.album_wire.specs.ItemTexts.{owner_read, title_read, or_bad_text, bytes_read, short, content_read}
use Rattle.album_lines.specs.Spelling.{IsList, AreMembers}
use Rattle.album_lines.specs.JudgeLine.{carried, carried_list_of}
use Rattle.album_wire.specs.ItemShapes.{item_named, may_be_child, child_of, SpelledHead, SpelledValue, Picture as PictureShape, Album as AlbumShape, Entries as EntriesShape, Group as GroupShape, head_shape_of, home_shape_of, picture_keys, album_keys, list_keys, group_keys, picture_shape_of, album_shape_of, list_shape_of, group_shape_of, value_shape_of}
use Rattle.album_wire.specs.OpeningLine.{head_with, value_read}
use Rattle.album_wire.specs.ObjectSpelling.{HasMember, HasJust}
use Rattle.album_wire.specs.ItemSpelling.{IsItem, IsChild, IsOwner, IsTitle, IsHexText, IsContent, IsEntries, IsHome, HasHead, IsPicture, IsAlbum, IsGroupValue, IsValue}
use Rattle.album_lines.proofs.Steps.{step_taken, same_value, value_there, test_passed, taken}
use Rattle.album_lines.proofs.Json.{whole_read}
use Rattle.album_lines.proofs.Entries.{access_list_spelled, access_list_read, members_spelled, members_parts}
use Rattle.album_wire.proofs.HexTexts.{hex_spelled, spelled_hex}
use Rattle.album_wire.proofs.Forms.{step_then, on_test, on_true, on_false, IsString, string_form, names_taken, names_then, member_taken, member_then, member_as, member_parts, list_taken, list_then, is_in, is_out, known_taken, known_then, string_taken, whole_taken, whole_then}

-- ---- owners, titles and contents

pub owner_form : (name text : List ℕ) → owner_read text ≡ Ok name → (d : Data) → IsString text d → IsOwner name d
owner_form name text h d is = (text, is, user_spelled name text (value_there _ BadWho name h))

pub owner_parts : (name : List ℕ) (d : Data) → IsOwner name d
    → (text : List ℕ) × (text_of d ≡ Ok text) × (owner_read text ≡ Ok name)
owner_parts name d is = (is.0, ap text_of is.1, rw (spelled_user name is.0 is.2) refl)

pub title_form : (title text : List ℕ) → title_read text ≡ Ok title → (d : Data) → IsString text d → IsTitle title d
title_form title text = go (is_title text) refl
  where
    go : (b : Bool) → is_title text ≡ b → ok_or (cond b (Some text) None) BadText ≡ Ok title
        → (d : Data) → IsString text d → IsTitle title d
    go true e h d is = let same : text ≡ title = cc in (is ∙ ap string same, ap is_title (sym same) ∙ e)
    go false e h d is = cc

pub read_title : (title : List ℕ) → IsTrue (is_title title) → title_read title ≡ Ok title
read_title title is = rw is refl

well : {A E : Type 0} (r : Result A E) (a : A) → or_bad_text r ≡ Ok a → r ≡ Ok a
well (Ok x) a h = ap Ok (same_value x a h)
well (Err e) a h = cc

short_taken : (bytes content : List ℕ) → short bytes ≡ Ok content → (bytes ≡ content) × (length content ≤ MAX_CONTENT)
short_taken bytes content = go (nat_lt MAX_CONTENT (length bytes)) refl
  where
    go : (b : Bool) → nat_lt MAX_CONTENT (length bytes) ≡ b → cond b (Err BadText) (Ok bytes) ≡ Ok content
        → (bytes ≡ content) × (length content ≤ MAX_CONTENT)
    go true e h = cc
    go false e h =
        let same : bytes ≡ content = cc in
        let IsShort : List ℕ → Type 0 = λ bs. length bs ≤ MAX_CONTENT in
        (same, subst IsShort same (ltb-false _ _ e))

pub content_form : (content text : List ℕ) → content_read text ≡ Ok content
    → (d : Data)
    → IsString text d
    → IsContent content d
unfolding content_read bytes_read
content_form content text h d is =
    let bytes = step_taken (bytes_read text) short content h in
    let few = short_taken bytes.0 content bytes.2 in
    let spells : IsHexText bytes.0 text = hex_spelled text bytes.0 (well (decode_of text) bytes.0 bytes.1) in
    let Spells : List ℕ → Type 0 = λ bs. IsHexText bs text in
    record { text = (text, is, subst Spells few.0 spells); short = few.1 }

pub content_parts : (content : List ℕ) (d : Data) → IsContent content d
    → (text : List ℕ) × (text_of d ≡ Ok text) × (content_read text ≡ Ok content)
unfolding content_read bytes_read
content_parts content d is =
    let text = is.text.0 in
    let bytes : bytes_read text ≡ Ok content = ap or_bad_text (spelled_hex text content is.text.2) in
    let few : short content ≡ Ok content = rw (le-ltb MAX_CONTENT (length content) is.short) refl in
    (text, ap text_of is.text.1, step_then (bytes_read text) short content content bytes few)

-- ---- entries and members

pub entries_form : (list : List Ace) (shapes : List SpelledEntry) → entries_read shapes ≡ Ok list
    → (d : Data)
    → entry_shapes_of d ≡ Ok shapes
    → IsEntries list d
entries_form list shapes h d g =
    let any : carried_list_of Folder shapes ≡ Ok list =
    step_then (entries_read shapes) (carried Folder) list list h refl in
    access_list_spelled Folder list shapes d g any

pub entries_parts : (list : List Ace) (d : Data) → IsEntries list d
    → (shapes : List SpelledEntry) × (entry_shapes_of d ≡ Ok shapes) × (entries_read shapes ≡ Ok list)
entries_parts list d is =
    let shapes = access_list_read Folder list d is in
    let read = step_taken (entries_read shapes.0) (carried Folder) list shapes.2 in
    (shapes.0, shapes.1, read.1 ∙ read.2)

-- ---- the home of an album

pub nothing_read : (d : Data) → is_nothing d ≡ true → d ≡ null
nothing_read null h = refl
nothing_read (boolean b) h = cc
nothing_read (number n) h = cc
nothing_read (string s) h = cc
nothing_read (array ds) h = cc
nothing_read (object ms) h = cc

home_form : (home : Option ℕ) (d : Data) → home_shape_of d ≡ Ok home → IsHome home d
home_form home d h =
    on_test (is_nothing d) (Ok None) (whole_of d >>= λ n. Ok (Some n)) home h
    (λ nothing none. subst (λ o. IsHome o d) (same_value None home none) (nothing_read d nothing))
    (λ some.
    let n = step_taken (whole_of d) (λ n. Ok (Some n)) home some in
    subst (λ o. IsHome o d) (same_value (Some n.0) home n.2) (whole_read d n.0 n.1))

read_home : (home : Option ℕ) (d : Data) → IsHome home d → home_shape_of d ≡ Ok home
read_home None d is = ap home_shape_of is
read_home (Some n) d is = ap home_shape_of is

-- ---- heads

head_spelled : (s : SpelledHead) (owner : List ℕ) (d : Data)
    → head_shape_of d ≡ Ok s
    → owner_read s.owner ≡ Ok owner
    → HasHead (head_with s owner) d
unfolding head_shape_of
head_spelled s owner d h g =
    let text = string_taken (codes "owner") d _ s h in
    let group = whole_taken (codes "group") d _ s text.2 in
    let list = whole_taken (codes "list") d _ s group.2 in
    let parts : SpelledHead = record { owner = text.0; group = group.0; list = list.0 } in
    let same : parts ≡ s = same_value parts s list.2 in
    let Spells : SpelledHead → Type 0 = λ t. owner_read t.owner ≡ Ok owner → HasHead (head_with t owner) d in
    let spells : Spells parts = λ read. record {
      owner = member_as (codes "owner") d (IsString text.0) (IsOwner owner) (owner_form owner text.0 read) text.1;
      group = group.1;
      list = list.1;
    } in
    subst Spells same spells g

head_parts : (head : Head) (d : Data) → HasHead head d
    → (s : SpelledHead) × (head_shape_of d ≡ Ok s) × (owner_read s.owner ≡ Ok head.owner)
    × (head_with s head.owner ≡ head)
unfolding head_shape_of
head_parts head d is =
    let text =
    member_parts (codes "owner") d text_of (IsOwner head.owner) (λ t. owner_read t ≡ Ok head.owner)
    (owner_parts head.owner) is.owner in
    let s : SpelledHead = record { owner = text.0; group = head.group; list = head.list } in
    let shape : head_shape_of d ≡ Ok s =
    known_then (codes "owner") d text_of text.0 _ s text.1
    (whole_then (codes "group") d head.group _ s is.group
    (whole_then (codes "list") d head.list _ s is.list refl)) in
    (s, shape, text.2, refl)

-- ---- the values of a list and of a group

list_spelled : (v : Value) (s : SpelledValue) (d : Data) → list_shape_of d ≡ Ok s → value_read s ≡ Ok v → IsValue v d
unfolding list_shape_of value_read
list_spelled v s d h g =
    let names = names_taken list_keys d _ s h in
    let Shape : List SpelledEntry → Data → Type 0 = λ es e. entry_shapes_of e ≡ Ok es in
    let entries = known_taken (codes "entries") d entry_shapes_of _ s names.1 in
    let shape : EntriesShape entries.0 ≡ s = same_value _ _ entries.2 in
    let list = step_taken (entries_read entries.0) _ v (ap value_read shape ∙ g) in
    let same : value.List list.0 ≡ v = same_value _ _ list.2 in
    let is : HasJust (codes "entries") (IsEntries list.0) d = record {
      names = names.0;
      value =
          member_as (codes "entries") d (Shape entries.0) (IsEntries list.0)
          (entries_form list.0 entries.0 list.1) entries.1;
    } in
    subst (λ w. IsValue w d) same is

list_value_parts : (list : List Ace) (d : Data) → HasJust (codes "entries") (IsEntries list) d
    → (s : SpelledValue) × (value_shape_of d ≡ Ok s) × (value_read s ≡ Ok (value.List list))
unfolding list_shape_of value_read
list_value_parts list d is =
    let entries =
    member_parts (codes "entries") d entry_shapes_of (IsEntries list) (λ es. entries_read es ≡ Ok list)
    (entries_parts list) is.value in
    let s : SpelledValue = EntriesShape entries.0 in
    let shape : list_shape_of d ≡ Ok s =
    names_then list_keys d _ s is.names
    (known_then (codes "entries") d entry_shapes_of entries.0 _ s entries.1 refl) in
    let read : value_read s ≡ Ok (value.List list) = step_then (entries_read entries.0) _ list _ entries.2 refl in
    let which : value_shape_of d ≡ Ok s =
    on_true (has (codes "entries") d) _ _ s (is_in (codes "entries") (IsEntries list) d is.value) shape in
    (s, which, read)

group_spelled : (v : Value) (s : SpelledValue) (d : Data) → group_shape_of d ≡ Ok s → value_read s ≡ Ok v → IsValue v d
unfolding group_shape_of value_read
group_spelled v s d h g =
    let names = names_taken group_keys d _ s h in
    let head = step_taken (head_shape_of d) _ s names.1 in
    let Shape : List (List ℕ) → Data → Type 0 = λ ts e. texts_of e ≡ Ok ts in
    let texts = known_taken (codes "members") d texts_of _ s head.2 in
    let shape : GroupShape head.0 texts.0 ≡ s = same_value _ _ texts.2 in
    let owner = step_taken (owner_read head.0.owner) _ v (ap value_read shape ∙ g) in
    let members = step_taken (members_read texts.0) _ v owner.2 in
    let group : Group = record { head = head_with head.0 owner.0; members = members.0 } in
    let same : value.Group group ≡ v = same_value _ _ members.2 in
    let is : IsGroupValue group d = record {
      names = names.0;
      head = head_spelled head.0 owner.0 d head.1 owner.1;
      members =
          member_as (codes "members") d (Shape texts.0) (AreMembers members.0)
          (λ e read. members_spelled members.0 texts.0 e read members.1) texts.1;
    } in
    subst (λ w. IsValue w d) same is

group_value_parts : (group : Group) (d : Data) → IsGroupValue group d
    → (s : SpelledValue) × (value_shape_of d ≡ Ok s) × (value_read s ≡ Ok (value.Group group))
unfolding group_shape_of value_read
group_value_parts group d is =
    let head = head_parts group.head d is.head in
    let texts =
    member_parts (codes "members") d texts_of (AreMembers group.members) (λ ts. members_read ts ≡ Ok group.members)
    (members_parts group.members) is.members in
    let s : SpelledValue = GroupShape head.0 texts.0 in
    let shape : group_shape_of d ≡ Ok s =
    names_then group_keys d _ s is.names
    (step_then (head_shape_of d) _ head.0 s head.1
    (known_then (codes "members") d texts_of texts.0 _ s texts.1 refl)) in
    let whole : Head → Group = λ h. record { head = h; members = group.members } in
    let read : value_read s ≡ Ok (value.Group group) =
    step_then (owner_read head.0.owner) _ group.head.owner _ head.2
    (step_then (members_read texts.0) _ group.members _ texts.2
    (ap (λ (h : Head). Ok (value.Group (whole h))) head.3)) in
    let which : value_shape_of d ≡ Ok s =
    on_false (has (codes "entries") d) _ _ s (is_out group_keys (codes "entries") d is.names refl)
    (on_true (has (codes "members") d) _ _ s (is_in (codes "members") (AreMembers group.members) d is.members) shape) in
    (s, which, read)

-- ---- the value of a picture

picture_spelled : (v : Value) (s : SpelledValue) (d : Data)
    → picture_shape_of d ≡ Ok s
    → value_read s ≡ Ok v
    → IsValue v d
unfolding picture_shape_of value_read
picture_spelled v s d h g =
    let names = names_taken picture_keys d _ s h in
    let title = string_taken (codes "title") d _ s names.1 in
    let content = string_taken (codes "content") d _ s title.2 in
    let head = step_taken (head_shape_of d) _ s content.2 in
    let home = whole_taken (codes "home") d _ s head.2 in
    let shape : PictureShape title.0 content.0 head.0 home.0 ≡ s = same_value _ _ home.2 in
    let good_title = step_taken (title_read title.0) _ v (ap value_read shape ∙ g) in
    let good_content = step_taken (content_read content.0) _ v good_title.2 in
    let owner = step_taken (owner_read head.0.owner) _ v good_content.2 in
    let picture : Picture = record {
      title = good_title.0;
      content = good_content.0;
      head = head_with head.0 owner.0;
      home = home.0;
    } in
    let same : value.Picture picture ≡ v = same_value _ _ owner.2 in
    let is : IsPicture picture d = record {
      names = names.0;
      title =
          member_as (codes "title") d (IsString title.0) (IsTitle good_title.0)
          (title_form good_title.0 title.0 good_title.1) title.1;
      content =
          member_as (codes "content") d (IsString content.0) (IsContent good_content.0)
          (content_form good_content.0 content.0 good_content.1) content.1;
      head = head_spelled head.0 owner.0 d head.1 owner.1;
      home = home.1;
    } in
    subst (λ w. IsValue w d) same is

-- a title that is there is one
pub title_valid : (title : List ℕ) (d : Data) → HasMember (codes "title") (IsTitle title) d
    → title_read title ≡ Ok title
title_valid title d is = read_title title (taken _ (IsTitle title) is).2.1

pub title_then : {B : Type 0} (title : List ℕ) (d : Data) (f : List ℕ → Result B Refusal) (b : B)
    → HasMember (codes "title") (IsTitle title) d
    → f title ≡ Ok b
    → ((field_of (codes "title") d >>= text_of) >>= f) ≡ Ok b
title_then title d f b is h =
    member_then (codes "title") d text_of (IsTitle title) title (λ e e_is. ap text_of e_is.0) f b is h

picture_value_parts : (picture : Picture) (d : Data) → IsPicture picture d
    → (s : SpelledValue) × (value_shape_of d ≡ Ok s) × (value_read s ≡ Ok (value.Picture picture))
unfolding picture_shape_of value_read
picture_value_parts picture d is =
    let text =
    member_parts (codes "content") d text_of (IsContent picture.content) (λ t. content_read t ≡ Ok picture.content)
    (content_parts picture.content) is.content in
    let head = head_parts picture.head d is.head in
    let s : SpelledValue = PictureShape picture.title text.0 head.0 picture.home in
    let shape : picture_shape_of d ≡ Ok s =
    names_then picture_keys d _ s is.names
    (title_then picture.title d _ s is.title
    (known_then (codes "content") d text_of text.0 _ s text.1
    (step_then (head_shape_of d) _ head.0 s head.1
    (whole_then (codes "home") d picture.home _ s
    is.home refl)))) in
    let whole : Head → Picture = λ h. record {
      title = picture.title;
      content = picture.content;
      head = h;
      home = picture.home;
    } in
    let read : value_read s ≡ Ok (value.Picture picture) =
    step_then (title_read picture.title) _ picture.title _ (title_valid picture.title d is.title)
    (step_then (content_read text.0) _ picture.content _ text.2
    (step_then (owner_read head.0.owner) _ picture.head.owner _ head.2
    (ap (λ (h : Head). Ok (value.Picture (whole h))) head.3))) in
    let which : value_shape_of d ≡ Ok s =
    on_false (has (codes "entries") d) _ _ s (is_out picture_keys (codes "entries") d is.names refl)
    (on_false (has (codes "members") d) _ _ s (is_out picture_keys (codes "members") d is.names refl)
    (on_false (has (codes "children") d) _ _ s (is_out picture_keys (codes "children") d is.names refl) shape)) in
    (s, which, read)

-- ---- what is read of items

-- the law of items: what is read of a text is the item that it spells
abbrev pub ReadsItems : Type 0
ReadsItems = (item : ℕ) (text : List ℕ) → (item_of text ≡ Some item) ↔ IsItemText item text

child_kind : (item : ℕ) → may_be_child item ≡ true → (kind_of item ≡ 0) ⊎ (kind_of item ≡ 1)
child_kind item = go (kind_of item == 0) refl (kind_of item == 1) refl
  where
    go : (a : Bool) → (kind_of item == 0) ≡ a → (b : Bool) → (kind_of item == 1) ≡ b
        → (a || b) ≡ true → (kind_of item ≡ 0) ⊎ (kind_of item ≡ 1)
    go true e b f h = inl ((Decides-eqb _ 0).0 e)
    go false e true f h = inr ((Decides-eqb _ 1).0 f)
    go false e false f h = cc

kind_child : (item : ℕ) → (kind_of item ≡ 0) ⊎ (kind_of item ≡ 1) → may_be_child item ≡ true
kind_child item (inl is) = rw is refl
kind_child item (inr is) = rw is refl

module _ (reads : ReadsItems) where
  pub item_form : (item : ℕ) (d : Data) → item_named d ≡ Ok item → IsItem item d
  item_form item d h =
      let text = step_taken (text_of d) _ item h in
      (text.0, string_form text.0 d text.1, (reads item text.0).0 (value_there _ BadRequest item text.2))

  pub read_item : (item : ℕ) (d : Data) → IsItem item d → item_named d ≡ Ok item
  read_item item d is =
      let some : ok_or (item_of is.0) BadRequest ≡ Ok item = rw ((reads item is.0).1 is.2) refl in
      step_then (text_of d) _ is.0 item (ap text_of is.1) some

  pub item_taken : {B : Type 0} (name : List ℕ) (d : Data) (f : ℕ → Result B Refusal) (b : B)
      → ((field_of name d >>= item_named) >>= f) ≡ Ok b
      → (item : ℕ) × HasMember name (IsItem item) d × (f item ≡ Ok b)
  item_taken name d f b h = member_taken name d item_named IsItem item_form f b h

  pub item_then : {B : Type 0} (name : List ℕ) (d : Data) (item : ℕ) (f : ℕ → Result B Refusal) (b : B)
      → HasMember name (IsItem item) d
      → f item ≡ Ok b
      → ((field_of name d >>= item_named) >>= f) ≡ Ok b
  item_then name d item f b is h = member_then name d item_named (IsItem item) item (read_item item) f b is h

  child_form : (item : ℕ) (d : Data) → child_of d ≡ Ok item → IsChild item d
  unfolding child_of
  child_form item d h =
      let named = step_taken (item_named d) _ item h in
      let test = step_taken (guard (may_be_child named.0)) _ item named.2 in
      let is : IsChild named.0 d =
      (item_form named.0 d named.1, child_kind named.0 (test_passed _ test.0 test.1)) in
      subst (λ i. IsChild i d) (same_value _ _ test.2) is

  read_child : (item : ℕ) (d : Data) → IsChild item d → child_of d ≡ Ok item
  unfolding child_of
  read_child item d is =
      let test : guard (may_be_child item) ≡ Ok true = rw (kind_child item is.1) refl in
      step_then (item_named d) _ item item (read_item item d is.0)
      (step_then (guard (may_be_child item)) _ true item test refl)

  album_spelled : (v : Value) (s : SpelledValue) (d : Data)
      → album_shape_of d ≡ Ok s
      → value_read s ≡ Ok v
      → IsValue v d
  unfolding album_shape_of value_read
  album_spelled v s d h g =
      let names = names_taken album_keys d _ s h in
      let title = string_taken (codes "title") d _ s names.1 in
      let head = step_taken (head_shape_of d) _ s title.2 in
      let home = member_taken (codes "home") d home_shape_of IsHome home_form _ s head.2 in
      let children = list_taken (codes "children") d child_of IsChild child_form _ s home.2 in
      let shape : AlbumShape title.0 head.0 home.0 children.0 ≡ s = same_value _ _ children.2 in
      let good_title = step_taken (title_read title.0) _ v (ap value_read shape ∙ g) in
      let owner = step_taken (owner_read head.0.owner) _ v good_title.2 in
      let album : Album = record {
        title = good_title.0;
        head = head_with head.0 owner.0;
        home = home.0;
        children = children.0;
      } in
      let same : value.Album album ≡ v = same_value _ _ owner.2 in
      let is : IsAlbum album d = record {
        names = names.0;
        title =
            member_as (codes "title") d (IsString title.0) (IsTitle good_title.0)
            (title_form good_title.0 title.0 good_title.1) title.1;
        head = head_spelled head.0 owner.0 d head.1 owner.1;
        home = home.1;
        children = children.1;
      } in
      subst (λ w. IsValue w d) same is

  album_value_parts : (album : Album) (d : Data) → IsAlbum album d
      → (s : SpelledValue) × (value_shape_of d ≡ Ok s) × (value_read s ≡ Ok (value.Album album))
  unfolding album_shape_of value_read
  album_value_parts album d is =
      let head = head_parts album.head d is.head in
      let s : SpelledValue = AlbumShape album.title head.0 album.home album.children in
      let shape : album_shape_of d ≡ Ok s =
      names_then album_keys d _ s is.names
      (title_then album.title d _ s is.title
      (step_then (head_shape_of d) _ head.0 s head.1
      (member_then (codes "home") d home_shape_of (IsHome album.home) album.home (read_home album.home) _ s is.home
      (list_then (codes "children") d child_of IsChild album.children read_child _ s is.children refl)))) in
      let whole : Head → Album = λ h. record {
        title = album.title;
        head = h;
        home = album.home;
        children = album.children;
      } in
      let read : value_read s ≡ Ok (value.Album album) =
      step_then (title_read album.title) _ album.title _ (title_valid album.title d is.title)
      (step_then (owner_read head.0.owner) _ album.head.owner _ head.2
      (ap (λ (h : Head). Ok (value.Album (whole h))) head.3)) in
      let which : value_shape_of d ≡ Ok s =
      on_false (has (codes "entries") d) _ _ s (is_out album_keys (codes "entries") d is.names refl)
      (on_false (has (codes "members") d) _ _ s (is_out album_keys (codes "members") d is.names refl)
      (on_true (has (codes "children") d) _ _ s (is_in (codes "children") (IsList IsChild album.children) d is.children)
      shape)) in
      (s, which, read)

  -- ---- values

  pub value_spelled : (v : Value) (s : SpelledValue) (d : Data)
      → value_shape_of d ≡ Ok s
      → value_read s ≡ Ok v
      → IsValue v d
  value_spelled v s d h g =
      on_test (has (codes "entries") d) _ _ s h (λ _ list. list_spelled v s d list g)
      (λ h. on_test (has (codes "members") d) _ _ s h (λ _ group. group_spelled v s d group g)
      (λ h. on_test (has (codes "children") d) _ _ s h (λ _ album. album_spelled v s d album g)
      (λ picture. picture_spelled v s d picture g)))

  pub value_parts : (v : Value) (d : Data) → IsValue v d
      → (s : SpelledValue) × (value_shape_of d ≡ Ok s) × (value_read s ≡ Ok v)
  value_parts value.Missing d is = absurd is
  value_parts (value.Picture picture) d is = picture_value_parts picture d is
  value_parts (value.Album album) d is = album_value_parts album d is
  value_parts (value.List list) d is = list_value_parts list d is
  value_parts (value.Group group) d is = group_value_parts group d is
