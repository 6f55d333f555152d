-- What is read of entries, of an access list and of members is what spells them. For the laws of lines.
use Rattle.std.proofs.Common.{◌≡◌, ◌≤◌, ℕ, List, [], ◌∷◌, length, Bool, true, false, cond, nat_lt, bytes_eq, codes, IsTrue, Some, None, Ok, Err, refl, sym, ap, ◌∙◌, subst}
use Rattle.std.specs.List.{list_all, AllZip}
use Rattle.std.specs.Option.{ok_or}
use Rattle.std.proofs.lemmas.Bool.{ltb-false, le-ltb, and_parts, and_from}
use Rattle.std.proofs.lemmas.Slice.Eq.{bytes_eq-Decides}
use Rattle.std.proofs.lemmas.Slice.Zip.{AllZip-long}
use Rattle.serde_json.specs.Data.{Data, string, array}
use Rattle.album_stamps.specs.declared.refusals.Refusal.TheVariants.{BadRequest, BadWho, BadMask, BadFlags, ListFull}
use Rattle.album_stamps.specs.declared.limits.TheConstants.{MAX_ENTRIES, MAX_MEMBERS}
use Rattle.album_stamps.specs.Outcome.{◌>>=◌}
use Rattle.album_lines.specs.Fields.{sized, text_of, whole_of, list_of}
use Rattle.album_access.specs.Bits.{mask_bits, flag_bits, is_mask, is_within, all_flag_bits, mask_of, flags_of}
use Rattle.album_access.specs.declared.masks.Mask.{Mask}
use Rattle.album_access.specs.declared.flags.AceFlags.{AceFlags}
use Rattle.album_access.specs.declared.types.AceType.{AceType}
use Rattle.album_access.specs.declared.types.AceType.TheVariants.{Allowed, Denied, Audit, Alarm}
use Rattle.album_lists.specs.Whos.{IsWhoText, IsMemberText, goes_with, who_of}
use Rattle.album_lists.specs.Entries.{is_spelled, is_of_use, is_whole, access_list_of, fits}
use Rattle.album_lists.specs.declared.lists.Ace.{Ace}
use Rattle.album_lists.specs.declared.lists.Holder.{Holder}
use Rattle.album_lists.specs.declared.whos.Who.{Who}
use Rattle.album_lists.specs.declared.whos.Who.TheVariants as who
use Rattle.album_lists.specs.declared.whos.Member.{Member}
use Rattle.album_lists.proofs.Spelling.{who_spelled, spelled_who, member_spelled, spelled_member}
use Rattle.album_lines.specs.Shapes.{SpelledEntry, sort_of, entry_shape_of, entry_shapes_of, texts_of}
use Rattle.album_lines.specs.JudgeLine.{carried, carried_list_of}
use Rattle.album_lines.specs.Values.{each_of, at_most, entry_read, entries_read, member_read, members_read}
use Rattle.album_lines.specs.Spelling.{whole_data, list_data, type_word, entry_data, IsText, IsEntry, IsAccessList, AreMembers}
use Rattle.album_lines.proofs.Steps.{step_taken, value_there, each_read, read_each, each_of_read, read_each_of, zip_through, zip_between}
use Rattle.album_lines.proofs.Json.{text_read, whole_read, list_read, four, sized_read, same_four}

-- ---- entries

sort_read : (word : List ℕ) (sort : AceType) → sort_of word ≡ Some sort → word ≡ type_word sort
sort_read word sort =
    go (bytes_eq word (codes "allow")) refl (bytes_eq word (codes "deny")) refl (bytes_eq word (codes "audit")) refl (bytes_eq word (codes "alarm")) refl
  where
    at : (text : List ℕ) → bytes_eq word text ≡ true → word ≡ text
    at text e = (bytes_eq-Decides word text).0 e

    the_same : (t : AceType) → Some t ≡ Some sort → t ≡ sort
    the_same t h = cc

    go : (a : Bool) → bytes_eq word (codes "allow") ≡ a → (b : Bool) → bytes_eq word (codes "deny") ≡ b
        → (c : Bool) → bytes_eq word (codes "audit") ≡ c → (d : Bool) → bytes_eq word (codes "alarm") ≡ d
        → cond a (Some Allowed) (cond b (Some Denied) (cond c (Some Audit) (cond d (Some Alarm) None))) ≡ Some sort
        → word ≡ type_word sort
    go true e b f c g d i h = at _ e ∙ ap type_word (the_same Allowed h)
    go false e true f c g d i h = at _ f ∙ ap type_word (the_same Denied h)
    go false e false f true g d i h = at _ g ∙ ap type_word (the_same Audit h)
    go false e false f false g true i h = at _ i ∙ ap type_word (the_same Alarm h)
    go false e false f false g false i h = cc

read_sort : (sort : AceType) → sort_of (type_word sort) ≡ Some sort
read_sort Allowed = refl
read_sort Denied = refl
read_sort Audit = refl
read_sort Alarm = refl

-- what an entry's shape is spelled by
abbrev pub shape_data : SpelledEntry → Data
shape_data s = list_data (string (type_word s.sort) ∷ string s.who ∷ whole_data s.mask ∷ whole_data s.flags ∷ [])

shape_of_four : (a b c d : Data) (s : SpelledEntry) → entry_shape_of (list_data (a ∷ b ∷ c ∷ d ∷ [])) ≡ Ok s
    → list_data (a ∷ b ∷ c ∷ d ∷ []) ≡ shape_data s
unfolding entry_shape_of
shape_of_four a b c d s h =
    let sort = step_taken (text_of a >>= λ word. ok_or (sort_of word) BadRequest) _ s h in
    let word = step_taken (text_of a) _ sort.0 sort.1 in
    let who = step_taken (text_of b) _ s sort.2 in
    let mask = step_taken (whole_of c) _ s who.2 in
    let flags = step_taken (whole_of d) _ s mask.2 in
    let parts : SpelledEntry = record { sort = sort.0; who = who.0; mask = mask.0; flags = flags.0 } in
    let same : parts ≡ s = cc in
    let first : a ≡ string (type_word sort.0) =
    text_read a word.0 word.1 ∙ ap string (sort_read word.0 sort.0 (value_there _ BadRequest sort.0 word.2)) in
    same_four a b c d _ _ _ _ first (text_read b who.0 who.1) (whole_read c mask.0 mask.1) (whole_read d flags.0 flags.1)
    ∙ ap shape_data same

pub shape_read : (d : Data) (s : SpelledEntry) → entry_shape_of d ≡ Ok s → d ≡ shape_data s
unfolding entry_shape_of
shape_read d s h =
    let sized = step_taken (sized 4 d) _ s h in
    let items = sized_read 4 d sized.0 sized.1 in
    let parts = four items.0 items.2 in
    let is : d ≡ list_data (parts.0 ∷ parts.1 ∷ parts.2 ∷ parts.3 ∷ []) = items.1 ∙ ap array parts.4 in
    is ∙ shape_of_four parts.0 parts.1 parts.2 parts.3 s (ap entry_shape_of (sym is) ∙ h)

pub read_shape : (s : SpelledEntry) → entry_shape_of (shape_data s) ≡ Ok s
unfolding entry_shape_of
read_shape s = rw (read_sort s.sort) refl

pub mask_read : (n : ℕ) (mask : Mask) → mask_of n ≡ Ok mask → (n ≡ mask_bits mask) × IsTrue (is_mask (mask_bits mask))
mask_read n mask = go (is_mask n) refl
  where
    go : (b : Bool) → is_mask n ≡ b → cond b (Ok (record { 0 = n })) (Err BadMask) ≡ Ok mask
        → (n ≡ mask_bits mask) × IsTrue (is_mask (mask_bits mask))
    go true e h =
        let made : Mask = record { 0 = n } in
        let same : made ≡ mask = cc in
        let number : n ≡ mask_bits mask = ap mask_bits same in
        (number, ap is_mask (sym number) ∙ e)
    go false e h = cc

pub read_mask : (mask : Mask) → IsTrue (is_mask (mask_bits mask)) → mask_of (mask_bits mask) ≡ Ok mask
read_mask mask is = rw is refl

flags_read : (n : ℕ) (flags : AceFlags) → flags_of n ≡ Ok flags
    → (n ≡ flag_bits flags) × IsTrue (is_within (flag_bits flags) all_flag_bits)
flags_read n flags = go (is_within n all_flag_bits) refl
  where
    go : (b : Bool) → is_within n all_flag_bits ≡ b → cond b (Ok (record { 0 = n })) (Err BadFlags) ≡ Ok flags
        → (n ≡ flag_bits flags) × IsTrue (is_within (flag_bits flags) all_flag_bits)
    go true e h =
        let made : AceFlags = record { 0 = n } in
        let same : made ≡ flags = cc in
        let number : n ≡ flag_bits flags = ap flag_bits same in
        (number, ap (λ bits. is_within bits all_flag_bits) (sym number) ∙ e)
    go false e h = cc

read_flags : (flags : AceFlags)
    → IsTrue (is_within (flag_bits flags) all_flag_bits)
    → flags_of (flag_bits flags) ≡ Ok flags
read_flags flags is = rw is refl

-- an entry that was read is spelled
pub entry_spelled : (entry : Ace) (s : SpelledEntry) (d : Data)
    → entry_read s ≡ Ok entry
    → entry_shape_of d ≡ Ok s
    → IsEntry entry d
unfolding entry_read
entry_spelled entry s d h shape =
    let mask = step_taken (mask_of s.mask) _ entry h in
    let flags = step_taken (flags_of s.flags) _ entry mask.2 in
    let who = step_taken (ok_or (who_of flags.0 s.who) BadWho) _ entry flags.2 in
    let parts : Ace = record { sort = s.sort; who = who.0; mask = mask.0; flags = flags.0 } in
    let same : parts ≡ entry = cc in
    let is_mask' = mask_read s.mask mask.0 mask.1 in
    let is_flags = flags_read s.flags flags.0 flags.1 in
    let items : shape_data s ≡ entry_data parts s.who =
    same_four _ _ _ _ _ _ _ _ refl refl (ap whole_data is_mask'.0) (ap whole_data is_flags.0) in
    let spelled : IsEntry parts d = record {
      who_text = s.who;
      items = shape_read d s shape ∙ items;
      mask = is_mask'.1;
      flags = is_flags.1;
      who = who_spelled who.0 flags.0 s.who (value_there _ BadWho who.0 who.1);
    } in
    subst (λ e. IsEntry e d) same spelled

-- and one that is spelled is read
pub entry_parts : (entry : Ace) (d : Data) → IsEntry entry d
    → (s : SpelledEntry) × (entry_read s ≡ Ok entry) × (entry_shape_of d ≡ Ok s)
unfolding entry_read
entry_parts entry d is =
    let s : SpelledEntry = record {
      sort = entry.sort;
      who = is.who_text;
      mask = mask_bits entry.mask;
      flags = flag_bits entry.flags;
    } in
    let who : who_of entry.flags is.who_text ≡ Some entry.who = spelled_who entry.who entry.flags is.who_text is.who in
    let read : entry_read s ≡ Ok entry = rw (read_mask entry.mask is.mask, read_flags entry.flags is.flags, who) refl in
    (s, read, ap entry_shape_of is.items ∙ read_shape s)

-- ---- lists of entries

pub few_read : {A : Type 0} (most : ℕ) (xs ys : List A) → at_most most xs ≡ Ok ys → (length xs ≤ most) × (xs ≡ ys)
few_read most xs ys = go (nat_lt most (length xs)) refl
  where
    go : (b : Bool)
        → nat_lt most (length xs) ≡ b
        → cond b (Err ListFull) (Ok xs) ≡ Ok ys
        → (length xs ≤ most) × (xs ≡ ys)
    go true e h = cc
    go false e h = (ltb-false _ _ e, cc)

pub read_few : {A : Type 0} (most : ℕ) (xs : List A) → length xs ≤ most → at_most most xs ≡ Ok xs
read_few most xs few = rw (le-ltb _ _ few) refl

-- an entry that is spelled is one that a line can spell
can_be_spelled : (entry : Ace) (d : Data) → IsEntry entry d → is_spelled entry ≡ true
unfolding is_spelled
can_be_spelled entry d is = and_from _ _ (and_from _ _ is.mask is.flags) (goes entry.who is.who)
  where
    goes : (w : Who) → IsWhoText w entry.flags is.who_text → goes_with w entry.flags ≡ true
    goes (who.User name) text = rw (text.0) refl
    goes (who.Group group) text = text.0
    goes who.Owner text = refl
    goes who.OwnerGroup text = refl
    goes who.Everyone text = refl
    goes who.Anonymous text = refl
    goes who.Authenticated text = refl

all_of_use : (entries : List Ace) → list_all is_whole entries ≡ true → list_all is_of_use entries ≡ true
all_of_use [] h = refl
all_of_use (e ∷ es) h =
    let both = and_parts _ _ h in
    and_from _ _ (and_parts (is_spelled e) _ both.0).1 (all_of_use es both.1)

all_whole : (entries : List Ace) (ds : List Data)
    → AllZip IsEntry entries ds
    → list_all is_of_use entries ≡ true
    → list_all is_whole entries ≡ true
all_whole [] ds is h = refl
all_whole (e ∷ es) [] is h = absurd is
all_whole (e ∷ es) (d ∷ ds) is h =
    let both = and_parts _ _ h in
    and_from _ _ (and_from _ _ (can_be_spelled e d is.0) both.0) (all_whole es ds is.1 both.1)

list_taken : (entries list : List Ace) → access_list_of entries ≡ Ok list
    → (length list ≤ MAX_ENTRIES) × (list_all is_whole list ≡ true) × (entries ≡ list)
unfolding access_list_of
list_taken entries list = go (nat_lt MAX_ENTRIES (length entries)) refl (list_all is_whole entries) refl
  where
    go : (a : Bool) → nat_lt MAX_ENTRIES (length entries) ≡ a → (b : Bool) → list_all is_whole entries ≡ b
        → cond a (Err ListFull) (cond b (Ok entries) (Err BadFlags)) ≡ Ok list
        → (length list ≤ MAX_ENTRIES) × (list_all is_whole list ≡ true) × (entries ≡ list)
    go true e b f h = cc
    go false e false f h = cc
    go false e true f h =
        let same : entries ≡ list = cc in
        let P : List Ace → Type 0 = λ es. length es ≤ MAX_ENTRIES in
        (subst P same (ltb-false _ _ e), ap (list_all is_whole) (sym same) ∙ f, same)

take_list : (list : List Ace)
    → length list ≤ MAX_ENTRIES
    → list_all is_whole list ≡ true
    → access_list_of list ≡ Ok list
unfolding access_list_of
take_list list few all = rw (le-ltb MAX_ENTRIES (length list) few, all) refl

carried_read : (holder : Holder) (entries list : List Ace) → carried holder entries ≡ Ok list
    → (fits holder list ≡ true) × (entries ≡ list)
carried_read holder entries list = go (fits holder entries) refl
  where
    go : (b : Bool) → fits holder entries ≡ b → cond b (Ok entries) (Err BadFlags) ≡ Ok list
        → (fits holder list ≡ true) × (entries ≡ list)
    go true e h = let same : entries ≡ list = cc in (ap (fits holder) (sym same) ∙ e, same)
    go false e h = cc

pub access_list_spelled : (holder : Holder) (list : List Ace) (shapes : List SpelledEntry) (d : Data)
    → entry_shapes_of d ≡ Ok shapes → carried_list_of holder shapes ≡ Ok list → IsAccessList holder list d
unfolding entries_read
access_list_spelled holder list shapes d h g =
    let items = step_taken (list_of d) _ shapes h in
    let ds = each_read entry_shape_of items.0 shapes items.2 in
    let read = step_taken (entries_read shapes) _ list g in
    let entries = step_taken (at_most MAX_ENTRIES shapes >>= each_of entry_read) _ read.0 read.1 in
    let few = step_taken (at_most MAX_ENTRIES shapes) _ entries.0 entries.1 in
    let each = ap (each_of entry_read) (few_read MAX_ENTRIES shapes few.0 few.1).1 ∙ few.2 in
    let taken = list_taken entries.0 read.0 entries.2 in
    let carry = carried_read holder read.0 list read.2 in
    let spelled =
    zip_through _ _ IsEntry entry_spelled entries.0 shapes ds.0 (each_of_read entry_read shapes entries.0 each) ds.2 in
    let IsEach : List Ace → Type 0 = λ es. AllZip IsEntry es ds.0 in
    let IsFew : List Ace → Type 0 = λ es. length es ≤ MAX_ENTRIES in
    record {
      each = (ds.0, list_read d items.0 items.1 ∙ ap array ds.1, subst IsEach (taken.2 ∙ carry.1) spelled);
      few = subst IsFew carry.1 taken.0;
      are_of_use = all_of_use list (ap (list_all is_whole) (sym carry.1) ∙ taken.1);
      may_be_carried = carry.0;
    }

pub access_list_read : (holder : Holder) (list : List Ace) (d : Data) → IsAccessList holder list d
    → (shapes : List SpelledEntry) × (entry_shapes_of d ≡ Ok shapes) × (carried_list_of holder shapes ≡ Ok list)
unfolding entries_read
access_list_read holder list d is =
    let ds = is.each.0 in
    let between = zip_between _ _ IsEntry entry_parts list ds is.each.2 in
    let shapes = between.0 in
    let long : length shapes ≡ length list = AllZip-long _ list shapes between.1 in
    let few : at_most MAX_ENTRIES shapes ≡ Ok shapes = read_few MAX_ENTRIES shapes (rw long is.few) in
    let each : each_of entry_read shapes ≡ Ok list = read_each_of entry_read shapes list between.1 in
    let taken : access_list_of list ≡ Ok list = take_list list is.few (all_whole list ds is.each.2 is.are_of_use) in
    let carry : carried_list_of holder shapes ≡ Ok list = rw (few, each, taken, is.may_be_carried) refl in
    (shapes, ap entry_shapes_of is.each.1 ∙ read_each entry_shape_of shapes ds between.2, carry)

-- ---- members

one_member : (m : Member) (text : List ℕ) (d : Data)
    → member_read text ≡ Ok m
    → text_of d ≡ Ok text
    → IsText (IsMemberText m) d
one_member m text d h g = (text, text_read d text g, member_spelled m text (value_there _ BadWho m h))

member_parts : (m : Member) (d : Data) → IsText (IsMemberText m) d
    → (text : List ℕ) × (member_read text ≡ Ok m) × (text_of d ≡ Ok text)
member_parts m d is = (is.0, rw (spelled_member m is.0 is.2) refl, ap text_of is.1)

pub members_spelled : (members : List Member) (texts : List (List ℕ)) (d : Data)
    → texts_of d ≡ Ok texts → members_read texts ≡ Ok members → AreMembers members d
unfolding members_read
members_spelled members texts d h g =
    let items = step_taken (list_of d) _ texts h in
    let ds = each_read text_of items.0 texts items.2 in
    let few = step_taken (at_most MAX_MEMBERS texts) _ members g in
    let same = few_read MAX_MEMBERS texts few.0 few.1 in
    let each = each_of_read member_read texts members (ap (each_of member_read) same.1 ∙ few.2) in
    let long : length texts ≡ length members = AllZip-long _ members texts each in
    record {
      each = (ds.0, list_read d items.0 items.1 ∙ ap array ds.1, zip_through _ _ _ one_member members texts ds.0 each ds.2);
      few = rw (← long) same.0;
    }

pub members_parts : (members : List Member) (d : Data) → AreMembers members d
    → (texts : List (List ℕ)) × (texts_of d ≡ Ok texts) × (members_read texts ≡ Ok members)
unfolding members_read
members_parts members d is =
    let between = zip_between _ _ _ member_parts members is.each.0 is.each.2 in
    let texts = between.0 in
    let long : length texts ≡ length members = AllZip-long _ members texts between.1 in
    let few : at_most MAX_MEMBERS texts ≡ Ok texts = read_few MAX_MEMBERS texts (rw long is.few) in
    let each : each_of member_read texts ≡ Ok members = read_each_of member_read texts members between.1 in
    let read : members_read texts ≡ Ok members = rw (few, each) refl in
    (texts, ap texts_of is.each.1 ∙ read_each text_of texts is.each.0 between.2, read)
