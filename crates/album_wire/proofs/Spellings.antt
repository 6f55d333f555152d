-- What is written of values is how they are spelled, is one line, and is read back. For `openings_read_back`, by
-- `opening_in_line` and `opening_back`, and `marks_read_back`, by `mark_in_line` and `mark_back`.
use Rattle.std.proofs.Common.{◌≡◌, ◌≤◌, ℕ, zero, suc, List, [], ◌∷◌, ◌++◌, All, Bool, true, false, ◌==◌, not, nat_lt, IsTrue, Option, Some, None, Ok, codes, decimal, map, IsUtf8, refl, sym, subst, arith}
use Rattle.std.specs.List.{list_all, AllZip}
use Rattle.std.specs.Str.{IsAscii}
use Rattle.std.proofs.lemmas.Bool.{and_parts, ltb-true}
use Rattle.std.proofs.lemmas.Bool.Decides.{nat_tests}
use Rattle.std.proofs.lemmas.Fmt.{IsAscii-decimal}
use Rattle.std.proofs.lemmas.Nat.{and_le_r}
use Rattle.std.proofs.lemmas.Str.{IsUtf8-append, IsUtf8-from_ascii}
use Rattle.std.proofs.lemmas.Str.Ascii.{IsAscii-nil, IsAscii-cons}
use Rattle.hex.specs.Hex.{encode_lower, lower_digits}
use Rattle.hex.proofs.HexLemmas.{IsAscii-encode_with, decode_of-encode_lower}
use Rattle.json.proofs.Printed.Utf8.{are_ascii, IsUtf8-are_ascii}
use Rattle.serde_json.specs.Data.{Data, string}
use Rattle.serde_json.specs.Read.{max_depth}
use Rattle.serde_json.specs.View.{items_of}
use Rattle.serde_json.specs.Written.{compact_text}
use Rattle.album_stamps.specs.Stamps.{is_stamp}
use Rattle.album_access.specs.Bits.{mask_bits, flag_bits, is_mask, is_within, all_mask_bits, all_flag_bits}
use Rattle.album_access.specs.declared.flags.AceFlags.{AceFlags}
use Rattle.album_access.specs.declared.masks.Mask.{Mask}
use Rattle.album_access.specs.declared.types.AceType.{AceType}
use Rattle.album_access.specs.declared.types.AceType.TheVariants.{Allowed, Denied, Audit, Alarm}
use Rattle.album_lists.specs.Entries.{is_spelled, is_of_use, is_whole}
use Rattle.album_lists.specs.Names.{is_name_byte, is_name}
use Rattle.album_lists.specs.Whos.{IsMemberText, IsWhoText, goes_with}
use Rattle.album_lists.specs.declared.lists.Ace.{Ace}
use Rattle.album_lists.specs.declared.whos.Member.{Member}
use Rattle.album_lists.specs.declared.whos.Member.TheVariants as of_member
use Rattle.album_lists.specs.declared.whos.Who.{Who}
use Rattle.album_lists.specs.declared.whos.Who.TheVariants as who
use Rattle.album_items.specs.ItemIds.{kind_of, number_of, word_of, text_of}
use Rattle.album_items.specs.declared.values.Album.{Album}
use Rattle.album_items.specs.declared.values.Group.{Group}
use Rattle.album_items.specs.declared.values.Picture.{Picture}
use Rattle.album_items.specs.declared.values.Value.{Value}
use Rattle.album_items.specs.declared.values.Value.TheVariants as value
use Rattle.album_lines.specs.Lines.{has_no_newline}
use Rattle.album_lines.specs.Spelling.{IsJson, IsText, IsEntry, type_word}
use Rattle.album_lines.proofs.Json.{names_spelled}
use Rattle.album_wire.specs.ItemShapes.{picture_keys, album_keys, list_keys, group_keys}
use Rattle.album_wire.specs.ItemSpelling.{IsItem, IsChild, IsOwner, IsContent, IsHome, IsPicture, IsAlbum, IsGroupValue, IsValue}
use Rattle.album_wire.specs.MarkLine.{mark_line_of, mark_json}
use Rattle.album_wire.specs.MarkShape.{mark_keys}
use Rattle.album_wire.specs.MarkSpelling.{IsWritten, IsWrite, IsMark}
use Rattle.album_wire.specs.MessageJson.{write_json}
use Rattle.album_wire.specs.OpeningJson.{header_json, opening_json}
use Rattle.album_wire.specs.OpeningLine.{opening_line_of}
use Rattle.album_wire.specs.OpeningShape.{header_keys, item_keys}
use Rattle.album_wire.specs.OpeningSpelling.{IsRoot, IsHeader, IsOpening}
use Rattle.album_wire.specs.Spellable.{FitsLine, IsSpellableItem, IsSpellableChild, IsSpellableContent, IsSpellableWho, IsSpellableMember, IsSpellableEntry, IsSpellableHome, IsSpellablePicture, IsSpellableAlbum, IsSpellableList, IsSpellableGroup, IsSpellable, IsSpellableRoot, IsSpellableHeader, IsSpellableLine, IsSpellableWritten, IsSpellableWrite, IsSpellableMark}
use Rattle.album_wire.specs.ValueJson.{owner_text, group_text, who_text, member_text, item_json, entry_json, member_json, home_json, content_json, picture_json, album_json, list_json, group_json, value_json}
use Rattle.album_wire.specs.declared.mark_line.PreparedMark.{PreparedMark}
use Rattle.album_wire.specs.declared.opening_line.OpeningLine.{OpeningLine}
use Rattle.album_wire.specs.declared.opening_line.OpeningLine.TheVariants as line
use Rattle.album_wire.specs.declared.opening_shape.Header.{Header}
use Rattle.album_wire.proofs.HexTexts.{hex_spelled}
use Rattle.album_wire.proofs.ItemSpelling.{ReadsItems}
use Rattle.album_wire.proofs.MarkSpelling.{one_mark_line}
use Rattle.album_wire.proofs.OpeningSpelling.{one_opening_line}
use Rattle.album_wire.proofs.OneLine.{text_in_line}
use Rattle.album_wire.proofs.ReadBack.{IsSound, ItemsAreSound, text_utf8, read_back}

-- ---- lists

all_first : {A : Type 0} (P : A → Type 0) (x : A) (xs : List A) → All P (x ∷ xs) → P x
all_first P x xs h = h 0 x (omega arith)

all_others : {A : Type 0} (P : A → Type 0) (x : A) (xs : List A) → All P (x ∷ xs) → All P xs
all_others P x xs h = λ k d below. h (suc k) d (omega arith)

sound_list : {A : Type 0} (f : A → Data) (P : A → Type 0) (n : ℕ) → ((x : A) → P x → IsSound (f x) n)
    → (xs : List A) → All P xs → ItemsAreSound (items_of (map f xs)) n
sound_list f P n each [] h = tt
sound_list f P n each (x ∷ xs) h =
    (each x (all_first P x xs h), sound_list f P n each xs (all_others P x xs h))

zip_list : {A : Type 0} (f : A → Data) (P : A → Type 0) (Is : A → Data → Type 0) → ((x : A) → P x → Is x (f x))
    → (xs : List A) → All P xs → AllZip Is xs (map f xs)
zip_list f P Is each [] h = tt
zip_list f P Is each (x ∷ xs) h =
    (each x (all_first P x xs h), zip_list f P Is each xs (all_others P x xs h))

-- ---- texts

name_byte : (b : ℕ) → is_name_byte b ≡ true → nat_lt b 128 ≡ true
name_byte b h = grind (arith, nat_tests)

names_ascii : (bytes : List ℕ) → list_all is_name_byte bytes ≡ true → are_ascii bytes ≡ true
names_ascii [] h = refl
names_ascii (b ∷ bytes) h =
    let both = and_parts _ _ h in rw (name_byte b both.0, names_ascii bytes both.1) refl

name_utf8 : (name : List ℕ) → IsTrue (is_name name) → IsUtf8 name
name_utf8 name h = IsUtf8-are_ascii name (names_ascii name (and_parts _ _ h).1)

decimal_utf8 : (n : ℕ) → FitsLine n → IsUtf8 (decimal n)
decimal_utf8 n h = IsUtf8-from_ascii _ (IsAscii-decimal n h)

owner_utf8 : (name : List ℕ) → IsTrue (is_name name) → IsUtf8 (owner_text name)
owner_utf8 name h = IsUtf8-append name (codes "@users") (name_utf8 name h) (IsUtf8-are_ascii _ refl)

group_utf8 : (number : ℕ) → FitsLine number → IsUtf8 (group_text number)
group_utf8 number h = IsUtf8-append (decimal number) (codes "@groups") (decimal_utf8 number h) (IsUtf8-are_ascii _ refl)

who_utf8 : (w : Who) → IsSpellableWho w → IsUtf8 (who_text w)
who_utf8 (who.User name) h = owner_utf8 name h
who_utf8 (who.Group number) h = group_utf8 number h
who_utf8 who.Owner h = IsUtf8-are_ascii _ refl
who_utf8 who.OwnerGroup h = IsUtf8-are_ascii _ refl
who_utf8 who.Everyone h = IsUtf8-are_ascii _ refl
who_utf8 who.Anonymous h = IsUtf8-are_ascii _ refl
who_utf8 who.Authenticated h = IsUtf8-are_ascii _ refl

member_utf8 : (m : Member) → IsSpellableMember m → IsUtf8 (member_text m)
member_utf8 (of_member.User name) h = owner_utf8 name h
member_utf8 (of_member.Group number) h = group_utf8 number h

type_utf8 : (sort : AceType) → IsUtf8 (type_word sort)
type_utf8 Allowed = IsUtf8-are_ascii _ refl
type_utf8 Denied = IsUtf8-are_ascii _ refl
type_utf8 Audit = IsUtf8-are_ascii _ refl
type_utf8 Alarm = IsUtf8-are_ascii _ refl

word_utf8 : (code : ℕ) → IsUtf8 (word_of code)
word_utf8 zero = IsUtf8-are_ascii _ refl
word_utf8 (suc zero) = IsUtf8-are_ascii _ refl
word_utf8 (suc (suc zero)) = IsUtf8-are_ascii _ refl
word_utf8 (suc (suc (suc n))) = IsUtf8-are_ascii _ refl

item_utf8 : (item : ℕ) → IsSpellableItem item → IsUtf8 (text_of item)
item_utf8 item h =
    IsUtf8-append (word_of (kind_of item) ++ codes "/") _
    (IsUtf8-append (word_of (kind_of item)) (codes "/") (word_utf8 (kind_of item)) (IsUtf8-are_ascii _ refl))
    (decimal_utf8 (number_of item) h)

all_ascii : (bytes : List ℕ) → are_ascii bytes ≡ true → IsAscii bytes
all_ascii [] e = IsAscii-nil
all_ascii (b ∷ bytes) e =
    let both = and_parts _ _ e in IsAscii-cons b bytes (ltb-true _ _ both.0) (all_ascii bytes both.1)

content_utf8 : (content : List ℕ) → IsUtf8 (encode_lower content)
content_utf8 content =
    IsUtf8-from_ascii _ (IsAscii-encode_with lower_digits content (all_ascii lower_digits refl))

-- ---- entries

within : (bits all : ℕ) → IsTrue (is_within bits all) → bits ≤ all
within bits all h = grind (arith, nat_tests, and_le_r)

mask_fits : (mask : Mask) → IsTrue (is_mask (mask_bits mask)) → FitsLine (mask_bits mask)
mask_fits mask h =
    let named : IsTrue (is_within (mask_bits mask) all_mask_bits) = (and_parts (not (mask_bits mask == 0)) _ h).1 in
    let small : mask_bits mask ≤ all_mask_bits = within (mask_bits mask) all_mask_bits named in
    omega arith

flags_fit : (flags : AceFlags) → IsTrue (is_within (flag_bits flags) all_flag_bits) → FitsLine (flag_bits flags)
flags_fit flags h =
    let small : flag_bits flags ≤ all_flag_bits = within (flag_bits flags) all_flag_bits h in omega arith

-- what is said of an entry that a list may have
spelled_parts : (entry : Ace) → IsTrue (is_whole entry)
    → IsTrue (is_mask (mask_bits entry.mask)) × IsTrue (is_within (flag_bits entry.flags) all_flag_bits)
    × IsTrue (goes_with entry.who entry.flags) × IsTrue (is_of_use entry)
unfolding is_spelled
spelled_parts entry h =
    let both = and_parts _ _ h in
    let all = and_parts _ _ both.0 in
    let bits = and_parts _ _ all.0 in
    (bits.0, bits.1, all.1, both.1)

entry_sound : (n : ℕ) (entry : Ace) → IsSpellableEntry entry → IsSound (entry_json entry) (suc n)
entry_sound n entry h =
    let parts = spelled_parts entry h.0 in (
      type_utf8 entry.sort,
      (who_utf8 entry.who h.1, (mask_fits entry.mask parts.0, (flags_fit entry.flags parts.1, tt))),
    )

not_flagged : (b : Bool) → not b ≡ true → b ≡ false
not_flagged true h = cc
not_flagged false h = refl

who_form : (w : Who) (flags : AceFlags) → IsTrue (goes_with w flags) → IsSpellableWho w
    → IsWhoText w flags (who_text w)
who_form (who.User name) flags goes h = (not_flagged _ goes, (h, refl))
who_form (who.Group number) flags goes h = (goes, (h, refl))
who_form who.Owner flags goes h = refl
who_form who.OwnerGroup flags goes h = refl
who_form who.Everyone flags goes h = refl
who_form who.Anonymous flags goes h = refl
who_form who.Authenticated flags goes h = refl

entry_form : (entry : Ace) → IsSpellableEntry entry → IsEntry entry (entry_json entry)
entry_form entry h =
    let parts = spelled_parts entry h.0 in
    record {
      who_text = who_text entry.who;
      items = refl;
      mask = parts.0;
      flags = parts.1;
      who = who_form entry.who entry.flags parts.2 h.1;
    }

all_of_use : (entries : List Ace) → All IsSpellableEntry entries → list_all is_of_use entries ≡ true
all_of_use [] h = refl
all_of_use (e ∷ es) h =
    let first : is_of_use e ≡ true = (spelled_parts e (all_first IsSpellableEntry e es h).0).3 in
    rw (first, all_of_use es (all_others IsSpellableEntry e es h)) refl

-- ---- members of groups, and children of albums

member_form : (m : Member) → IsSpellableMember m → IsText (IsMemberText m) (member_json m)
member_form (of_member.User name) h = (owner_text name, refl, (h, refl))
member_form (of_member.Group number) h = (group_text number, refl, (h, refl))

item_form : (item : ℕ) → IsSpellableItem item → IsItem item (item_json item)
item_form item h = (text_of item, refl, (h, refl))

child_form : (item : ℕ) → IsSpellableChild item → IsChild item (item_json item)
child_form item h = (item_form item h.0, h.1)

-- ---- values

home_form : (home : Option ℕ) → IsHome home (home_json home)
home_form None = refl
home_form (Some number) = refl

home_sound : (n : ℕ) (home : Option ℕ) → IsSpellableHome home → IsSound (home_json home) n
home_sound n None h = tt
home_sound n (Some number) h = h

owner_form : (name : List ℕ) → IsTrue (is_name name) → IsOwner name (string (owner_text name))
owner_form name h = (owner_text name, refl, (h, refl))

content_form : (content : List ℕ) → IsSpellableContent content → IsContent content (content_json content)
content_form content h = record {
  text =
      (encode_lower content, refl, hex_spelled (encode_lower content) content (decode_of-encode_lower content h.0));
  short = h.1;
}

picture_form : (picture : Picture) → IsSpellablePicture picture → IsPicture picture (picture_json picture)
picture_form picture h = record {
  names = names_spelled picture_keys (picture_json picture) true refl;
  title = (refl, h.title.0);
  content = content_form picture.content h.content;
  head = record { owner = owner_form picture.head.owner h.head.owner; group = refl; list = refl };
  home = refl;
}

album_form : (album : Album) → IsSpellableAlbum album → IsAlbum album (album_json album)
album_form album h = record {
  names = names_spelled album_keys (album_json album) true refl;
  title = (refl, h.title.0);
  head = record { owner = owner_form album.head.owner h.head.owner; group = refl; list = refl };
  home = home_form album.home;
  children =
      (map item_json album.children, refl, zip_list item_json IsSpellableChild IsChild child_form album.children h.children);
}

list_form : (entries : List Ace) → IsSpellableList entries → IsValue (value.List entries) (list_json entries)
list_form entries h = record {
  names = names_spelled list_keys (list_json entries) true refl;
  value = record {
    each =
        (map entry_json entries, refl, zip_list entry_json IsSpellableEntry IsEntry entry_form entries h.each);
    few = h.few;
    are_of_use = all_of_use entries h.each;
    may_be_carried = refl;
  };
}

group_form : (group : Group) → IsSpellableGroup group → IsGroupValue group (group_json group)
group_form group h = record {
  names = names_spelled group_keys (group_json group) true refl;
  head = record { owner = owner_form group.head.owner h.head.owner; group = refl; list = refl };
  members = record {
    each = (
      map member_json group.members,
      refl,
      zip_list member_json IsSpellableMember (λ m. IsText (IsMemberText m)) member_form group.members h.members,
    );
    few = h.few;
  };
}

pub value_form : (v : Value) → IsSpellable v → IsValue v (value_json v)
value_form value.Missing h = absurd h
value_form (value.Picture picture) h = picture_form picture h
value_form (value.Album album) h = album_form album h
value_form (value.List entries) h = list_form entries h
value_form (value.Group group) h = group_form group h

-- a word that is a name in every line
word : (name : List ℕ) → are_ascii name ≡ true → IsUtf8 name
word name e = IsUtf8-are_ascii name e

picture_sound : (n : ℕ) (picture : Picture) → IsSpellablePicture picture → IsSound (picture_json picture) (suc n)
picture_sound n picture h = (
  (
    word (codes "content") refl,
    content_utf8 picture.content,
    (
      word (codes "group") refl,
      h.head.group,
      (
        word (codes "home") refl,
        h.home,
        (
          word (codes "list") refl,
          h.head.list,
          (
            word (codes "owner") refl,
            owner_utf8 picture.head.owner h.head.owner,
            (word (codes "title") refl, h.title.1, tt),
          ),
        ),
      ),
    ),
  ),
  refl,
)

album_sound : (n : ℕ) (album : Album) → IsSpellableAlbum album → IsSound (album_json album) (suc (suc n))
album_sound n album h = (
  (
    word (codes "children") refl,
    sound_list item_json IsSpellableChild n (λ item child. item_utf8 item child.0) album.children h.children,
    (
      word (codes "group") refl,
      h.head.group,
      (
        word (codes "home") refl,
        home_sound (suc n) album.home h.home,
        (
          word (codes "list") refl,
          h.head.list,
          (
            word (codes "owner") refl,
            owner_utf8 album.head.owner h.head.owner,
            (word (codes "title") refl, h.title.1, tt),
          ),
        ),
      ),
    ),
  ),
  refl,
)

list_sound : (n : ℕ) (entries : List Ace) → IsSpellableList entries → IsSound (list_json entries) (suc (suc (suc n)))
list_sound n entries h =
    ((word (codes "entries") refl, sound_list entry_json IsSpellableEntry (suc n) (entry_sound n) entries h.each, tt), refl)

group_sound : (n : ℕ) (group : Group) → IsSpellableGroup group → IsSound (group_json group) (suc (suc n))
group_sound n group h = (
  (
    word (codes "group") refl,
    h.head.group,
    (
      word (codes "list") refl,
      h.head.list,
      (
        word (codes "members") refl,
        sound_list member_json IsSpellableMember n member_utf8 group.members h.members,
        (word (codes "owner") refl, owner_utf8 group.head.owner h.head.owner, tt),
      ),
    ),
  ),
  refl,
)

pub value_sound : (n : ℕ) (v : Value) → IsSpellable v → IsSound (value_json v) (suc (suc (suc n)))
value_sound n value.Missing h = absurd h
value_sound n (value.Picture picture) h = picture_sound (suc (suc n)) picture h
value_sound n (value.Album album) h = album_sound (suc n) album h
value_sound n (value.List entries) h = list_sound n entries h
value_sound n (value.Group group) h = group_sound (suc n) group h

-- ---- lines

-- a sound value is the JSON of its text
json_back : (d : Data) → IsSound d max_depth → IsJson d (compact_text d)
json_back d h = record { utf8 = text_utf8 d max_depth h; value = read_back d h }

-- the JSON of a header with this root
abbrev json_with : Header → Option (List ℕ) → Data
json_with header root = header_json (record header { root = root })

form_with : (header : Header) (root : Option (List ℕ)) → header.root ≡ root → IsSpellableRoot root
    → IsHeader header (json_with header root)
form_with header None e h = record {
  names = names_spelled header_keys (json_with header None) true refl;
  parts = refl;
  limit = refl;
  policy = refl;
  checked = refl;
  root = e;
  first = refl;
  trace = refl;
}
form_with header (Some name) e h = record {
  names = names_spelled header_keys (json_with header (Some name)) true refl;
  parts = refl;
  limit = refl;
  policy = refl;
  checked = refl;
  root = subst (λ r. IsRoot r (string (owner_text name))) (sym e) (owner_form name h);
  first = refl;
  trace = refl;
}

opening_form : (said : OpeningLine) → IsSpellableLine said → IsOpening said (opening_json said)
opening_form (line.Open header) h = record {
  names = names_spelled (codes "open" ∷ []) (opening_json (line.Open header)) true refl;
  value = form_with header header.root refl h.root;
}
opening_form (line.Item item stamp value) h = record {
  names = names_spelled item_keys (opening_json (line.Item item stamp value)) true refl;
  item_there = item_form item h.0;
  stamped = (refl, h.1.0);
  value_there = value_form value h.1.1;
}
opening_form line.Begin h = record {
  names = names_spelled (codes "begin" ∷ []) (opening_json line.Begin) true refl;
  value = refl;
}

sound_with : (n : ℕ) (header : Header) (root : Option (List ℕ)) → IsSpellableHeader header → IsSpellableRoot root
    → IsSound (json_with header root) (suc n)
sound_with n header None h r = (
  (
    word (codes "checked") refl,
    tt,
    (
      word (codes "first") refl,
      h.first,
      (
        word (codes "limit") refl,
        h.limit,
        (
          word (codes "parts") refl,
          h.parts,
          (
            word (codes "policy") refl,
            h.policy,
            (word (codes "trace") refl, tt, tt),
          ),
        ),
      ),
    ),
  ),
  refl,
)
sound_with n header (Some name) h r = (
  (
    word (codes "checked") refl,
    tt,
    (
      word (codes "first") refl,
      h.first,
      (
        word (codes "limit") refl,
        h.limit,
        (
          word (codes "parts") refl,
          h.parts,
          (
            word (codes "policy") refl,
            h.policy,
            (
              word (codes "root") refl,
              owner_utf8 name r,
              (word (codes "trace") refl, tt, tt),
            ),
          ),
        ),
      ),
    ),
  ),
  refl,
)

stamp_fits : (stamp : ℕ) → IsTrue (is_stamp stamp) → FitsLine stamp
stamp_fits stamp h = grind (arith, nat_tests)

opening_sound : (said : OpeningLine) → IsSpellableLine said → IsSound (opening_json said) max_depth
opening_sound (line.Open header) h = ((word (codes "open") refl, sound_with 125 header header.root h h.root, tt), refl)
opening_sound (line.Item item stamp value) h = (
  (
    word (codes "item") refl,
    item_utf8 item h.0,
    (
      word (codes "stamp") refl,
      stamp_fits stamp h.1.0,
      (word (codes "value") refl, value_sound 123 value h.1.1, tt),
    ),
  ),
  refl,
)
opening_sound line.Begin h = ((word (codes "begin") refl, tt, tt), refl)

pub opening_in_line : (said : OpeningLine) → IsSpellableLine said
    → IsTrue (has_no_newline (compact_text (opening_json said)))
opening_in_line said h = text_in_line (opening_json said) max_depth (opening_sound said h)

pub opening_back : ReadsItems → (said : OpeningLine) → IsSpellableLine said
    → opening_line_of (compact_text (opening_json said)) ≡ Ok said
opening_back reads said h =
    (one_opening_line reads said (compact_text (opening_json said))).1
    (opening_json said, json_back (opening_json said) (opening_sound said h), opening_form said h)

-- ---- marks

write_form : (write : ℕ × Value) → IsSpellableWrite write → IsWrite write (write_json write)
write_form write h = record {
  item_data = item_json write.0;
  value_data = value_json write.1;
  parts = refl;
  item = item_form write.0 h.0;
  value = written write.1 h.1;
}
  where
    written : (v : Value) → IsSpellableWritten v → IsWritten v (value_json v)
    written value.Missing h = refl
    written (value.Picture picture) h = picture_form picture h
    written (value.Album album) h = album_form album h
    written (value.List entries) h = list_form entries h
    written (value.Group group) h = group_form group h

write_sound : (n : ℕ) (write : ℕ × Value) → IsSpellableWrite write → IsSound (write_json write) (suc (suc (suc (suc n))))
write_sound n write h = (item_utf8 write.0 h.0, (written write.1 h.1, tt))
  where
    written : (v : Value) → IsSpellableWritten v → IsSound (value_json v) (suc (suc (suc n)))
    written value.Missing h = tt
    written (value.Picture picture) h = picture_sound (suc (suc n)) picture h
    written (value.Album album) h = album_sound (suc n) album h
    written (value.List entries) h = list_sound n entries h
    written (value.Group group) h = group_sound (suc n) group h

-- the JSON of a mark
abbrev of_mark : PreparedMark → Data
of_mark mark = mark_json mark.part mark.stamp mark.writes mark.items

mark_form : (mark : PreparedMark) → IsSpellableMark mark → IsMark mark (of_mark mark)
mark_form mark h = record {
  names = names_spelled mark_keys (of_mark mark) true refl;
  items = (map item_json mark.items, refl, zip_list item_json IsSpellableItem IsItem item_form mark.items h.items);
  part = (refl, h.part);
  stamp = (refl, h.stamp);
  writes = (map write_json mark.writes, refl, zip_list write_json IsSpellableWrite IsWrite write_form mark.writes h.writes);
}

mark_sound : (mark : PreparedMark) → IsSpellableMark mark → IsSound (of_mark mark) max_depth
mark_sound mark h = (
  (
    word (codes "items") refl,
    sound_list item_json IsSpellableItem 125 item_utf8 mark.items h.items,
    (
      word (codes "part") refl,
      part,
      (
        word (codes "stamp") refl,
        stamp_fits mark.stamp h.stamp,
        (word (codes "writes") refl, sound_list write_json IsSpellableWrite 125 (write_sound 121) mark.writes h.writes, tt),
      ),
    ),
  ),
  refl,
)
  where
    part : FitsLine mark.part
    part = omega (arith, h.part)

pub mark_in_line : (mark : PreparedMark) → IsSpellableMark mark → IsTrue (has_no_newline (compact_text (of_mark mark)))
mark_in_line mark h = text_in_line (of_mark mark) max_depth (mark_sound mark h)

pub mark_back : ReadsItems → (mark : PreparedMark) → IsSpellableMark mark
    → mark_line_of (compact_text (of_mark mark)) ≡ Ok mark
mark_back reads mark h =
    (one_mark_line reads mark (compact_text (of_mark mark))).1
    (of_mark mark, json_back (of_mark mark) (mark_sound mark h), mark_form mark h)
