-- What is read of a judge line is the question that it spells. For `questions_by_line`, which is `one_question`.
use Rattle.std.proofs.Common.{◌≡◌, ◌≢◌, inl, inr, ◌↔◌, ◌==◌, ℕ, List, [], ◌∷◌, map, Bool, true, false, cond, Option, Some, None, Ok, codes, bytes_eq, MatchOption, AllPairs, refl, sym, ap, ◌∙◌, subst}
use Rattle.std.specs.List.{list_any, AllZip, AllByRecursion, IsDistinct}
use Rattle.std.specs.Option.{ok_or}
use Rattle.std.proofs.lemmas.Bool.{and_parts, and_from, or_parts, not-true, not_from_false}
use Rattle.std.proofs.lemmas.Bool.Decides.{Decides-eqb}
use Rattle.std.proofs.lemmas.Map.Made.{AllPairs-from_IsDistinct, IsDistinct-from_AllPairs}
use Rattle.std.proofs.lemmas.Slice.Eq.{bytes_eq-Decides}
use Rattle.serde_json.specs.Data.{Data, array, string}
use Rattle.serde_json.specs.Find.{get}
use Rattle.album_stamps.specs.declared.refusals.Refusal.TheVariants.{BadRequest, BadWho}
use Rattle.album_stamps.specs.Distinct.{are_distinct}
use Rattle.album_stamps.specs.Outcome.{◌>>=◌}
use Rattle.album_access.specs.Bits.{mask_bits, mask_of}
use Rattle.album_lists.specs.Whos.{user_of}
use Rattle.album_lists.specs.declared.lists.Holder.{Holder}
use Rattle.album_lists.specs.declared.lists.Holder.TheVariants.{Plain, Folder}
use Rattle.album_lists.proofs.Spelling.{user_spelled, spelled_user}
use Rattle.album_eval.specs.Matching.{principal_of}
use Rattle.album_eval.specs.Policies.{policy_of}
use Rattle.album_eval.specs.declared.policies.Policy.{Policy}
use Rattle.album_eval.specs.declared.policies.Policy.TheVariants.{One, Two, Three}
use Rattle.album_eval.proofs.Principals.{principal_spelled, spelled_principal}
use Rattle.album_lines.specs.Fields.{guard, sized, only_of, field_of, text_of, whole_of, list_of, each, data_of}
use Rattle.album_lines.specs.Shapes.{entry_shapes_of, texts_of}
use Rattle.album_lines.specs.Values.{each_of, members_read}
use Rattle.album_lines.specs.Spelling.{whole_data, list_data, IsText, HasOnly}
use Rattle.album_lines.specs.JudgeShape.{SpelledGroup, SpelledJudge, judge_keys, group_shape_of, numbers, groups_shape_of, holder_of, kind_shape_of, policy_shape_of, judge_shape_of}
use Rattle.album_lines.specs.JudgeLine.{Listing, Question, IsKindText, IsPolicyNumber, IsGroup, AreGroups, IsQuestion, IsJudgeLine, carried_list_of, listing_of, question_of, judge_of}
use Rattle.album_lines.proofs.Steps.{step_taken, same_value, value_there, test_passed, there, taken, each_read, read_each, each_of_read, read_each_of, zip_through, zip_between}
use Rattle.album_lines.proofs.LineValues.{data_read, data_spelled}
use Rattle.album_lines.proofs.Json.{text_read, whole_read, list_read, two, sized_read, same_two, names_spelled, names_read}
use Rattle.album_lines.proofs.Entries.{mask_read, read_mask, access_list_spelled, access_list_read, members_spelled, members_parts}

-- ---- the kind

holder_read : (word : List ℕ) (holder : Holder) → holder_of word ≡ Some holder → IsKindText holder word
holder_read word holder =
    go (bytes_eq word (codes "picture")) refl (bytes_eq word (codes "album")) refl (bytes_eq word (codes "group")) refl
  where
    at : (text : List ℕ) → bytes_eq word text ≡ true → word ≡ text
    at text e = (bytes_eq-Decides word text).0 e

    the_same : (h : Holder) → Some h ≡ Some holder → h ≡ holder
    the_same h e = cc

    go : (a : Bool) → bytes_eq word (codes "picture") ≡ a → (b : Bool) → bytes_eq word (codes "album") ≡ b
        → (c : Bool) → bytes_eq word (codes "group") ≡ c
        → cond a (Some Plain) (cond b (Some Folder) (cond c (Some Plain) None)) ≡ Some holder
        → IsKindText holder word
    go true e b f c g h = subst (λ k. IsKindText k word) (the_same Plain h) (inl (at _ e))
    go false e true f c g h = subst (λ k. IsKindText k word) (the_same Folder h) (at _ f)
    go false e false f true g h = subst (λ k. IsKindText k word) (the_same Plain h) (inr (at _ g))
    go false e false f false g h = cc

read_holder : (holder : Holder) (word : List ℕ) → IsKindText holder word → holder_of word ≡ Some holder
read_holder Plain word (inl is) = rw is refl
read_holder Plain word (inr is) = rw is refl
read_holder Folder word is = rw is refl

kind_spelled : (o : Option Data) (holder : Holder)
    → kind_shape_of o ≡ Ok holder
    → MatchOption o (holder ≡ Plain) (IsText (IsKindText holder))
unfolding kind_shape_of
kind_spelled None k h = cc
kind_spelled (Some d) k h =
    let word = step_taken (text_of d) _ k h in
    (word.0, text_read d word.0 word.1, holder_read word.0 k (value_there _ BadRequest k word.2))

kind_read : (o : Option Data) (holder : Holder)
    → MatchOption o (holder ≡ Plain) (IsText (IsKindText holder))
    → kind_shape_of o ≡ Ok holder
unfolding kind_shape_of
kind_read None k is = rw is refl
kind_read (Some d) k is = rw is.1 (rw (read_holder k is.0 is.2) refl)

-- ---- the policy

policy_read : (n : ℕ) (policy : Policy) → policy_of n ≡ Some policy → IsPolicyNumber policy (whole_data n)
policy_read n policy = go (n == 1) refl (n == 2) refl (n == 3) refl
  where
    at : (k : ℕ) → (n == k) ≡ true → whole_data n ≡ whole_data k
    at k e = ap whole_data ((Decides-eqb n k).0 e)

    the_same : (p : Policy) → Some p ≡ Some policy → p ≡ policy
    the_same p e = cc

    go : (a : Bool) → (n == 1) ≡ a → (b : Bool) → (n == 2) ≡ b → (c : Bool) → (n == 3) ≡ c
        → cond a (Some One) (cond b (Some Two) (cond c (Some Three) None)) ≡ Some policy
        → IsPolicyNumber policy (whole_data n)
    go true e b f c g h = subst (λ p. IsPolicyNumber p (whole_data n)) (the_same One h) (at 1 e)
    go false e true f c g h = subst (λ p. IsPolicyNumber p (whole_data n)) (the_same Two h) (at 2 f)
    go false e false f true g h = subst (λ p. IsPolicyNumber p (whole_data n)) (the_same Three h) (at 3 g)
    go false e false f false g h = cc

policy_spelled : (o : Option Data) (policy : Policy)
    → policy_shape_of o ≡ Ok policy
    → MatchOption o (policy ≡ One) (IsPolicyNumber policy)
unfolding policy_shape_of
policy_spelled None p h = cc
policy_spelled (Some d) p h =
    let number = step_taken (whole_of d) _ p h in
    subst (IsPolicyNumber p) (sym (whole_read d number.0 number.1)) (policy_read number.0 p (value_there _ BadRequest p number.2))

number_read : (policy : Policy) (d : Data) → IsPolicyNumber policy d → policy_shape_of (Some d) ≡ Ok policy
unfolding policy_shape_of
number_read One d is = rw is refl
number_read Two d is = rw is refl
number_read Three d is = rw is refl

policy_shaped : (o : Option Data) (policy : Policy)
    → MatchOption o (policy ≡ One) (IsPolicyNumber policy)
    → policy_shape_of o ≡ Ok policy
unfolding policy_shape_of
policy_shaped None p is = rw is refl
policy_shaped (Some d) p is = number_read p d is

-- ---- the groups

-- a group as its members are spelled by this value
group_of_two : (a b : Data) (s : SpelledGroup) → group_shape_of (list_data (a ∷ b ∷ [])) ≡ Ok s
    → (list_data (a ∷ b ∷ []) ≡ list_data (whole_data s.number ∷ b ∷ [])) × (texts_of b ≡ Ok s.members)
unfolding group_shape_of
group_of_two a b s h =
    let number = step_taken (whole_of a) _ s h in
    let members = step_taken (texts_of b) _ s number.2 in
    let parts : SpelledGroup = record { number = number.0; members = members.0 } in
    let same : parts ≡ s = cc in
    let first : a ≡ whole_data s.number = whole_read a number.0 number.1 ∙ ap (λ (g : SpelledGroup). whole_data g.number) same in
    let texts : texts_of b ≡ Ok s.members = members.1 ∙ ap (λ (g : SpelledGroup). Ok g.members) same in
    (same_two a b _ _ first refl, texts)

group_read : (d : Data) (s : SpelledGroup) → group_shape_of d ≡ Ok s
    → (members : Data) × (d ≡ list_data (whole_data s.number ∷ members ∷ [])) × (texts_of members ≡ Ok s.members)
unfolding group_shape_of
group_read d s h =
    let sized = step_taken (sized 2 d) _ s h in
    let items = sized_read 2 d sized.0 sized.1 in
    let parts = two items.0 items.2 in
    let is : d ≡ list_data (parts.0 ∷ parts.1 ∷ []) = items.1 ∙ ap array parts.2 in
    let rest = group_of_two parts.0 parts.1 s (ap group_shape_of (sym is) ∙ h) in
    (parts.1, is ∙ rest.0, rest.1)

read_group : (s : SpelledGroup) (members : Data) → texts_of members ≡ Ok s.members
    → group_shape_of (list_data (whole_data s.number ∷ members ∷ [])) ≡ Ok s
unfolding group_shape_of
read_group s members texts = rw texts refl

listing_read : (l : Listing) (s : SpelledGroup)
    → listing_of s ≡ Ok l
    → (s.number ≡ l.number) × (members_read s.members ≡ Ok l.members)
unfolding listing_of
listing_read l s h =
    let members = step_taken (members_read s.members) _ l h in
    let parts : Listing = record { number = s.number; members = members.0 } in
    let same : parts ≡ l = cc in
    (ap (λ (g : Listing). g.number) same, members.1 ∙ ap (λ (g : Listing). Ok g.members) same)

group_spelled : (l : Listing) (s : SpelledGroup) (d : Data)
    → listing_of s ≡ Ok l
    → group_shape_of d ≡ Ok s
    → IsGroup l d
group_spelled l s d h g =
    let read = listing_read l s h in
    let shape = group_read d s g in
    record {
      members_data = shape.0;
      items = shape.1 ∙ same_two _ _ _ _ (ap whole_data read.0) refl;
      members = members_spelled l.members s.members shape.0 shape.2 read.1;
    }

group_parts : (l : Listing) (d : Data)
    → IsGroup l d
    → (s : SpelledGroup) × (listing_of s ≡ Ok l) × (group_shape_of d ≡ Ok s)
unfolding listing_of
group_parts l d is =
    let texts = members_parts l.members is.members_data is.members in
    let s : SpelledGroup = record { number = l.number; members = texts.0 } in
    let read : listing_of s ≡ Ok l = rw texts.2 refl in
    (s, read, ap group_shape_of is.items ∙ read_group s is.members_data texts.1)

same_numbers : (ls : List Listing) (ss : List SpelledGroup) → AllZip (λ l s. listing_of s ≡ Ok l) ls ss
    → numbers ss ≡ map (λ (l : Listing). l.number) ls
same_numbers [] [] h = refl
same_numbers [] (s ∷ ss) h = absurd h
same_numbers (l ∷ ls) [] h = absurd h
same_numbers (l ∷ ls) (s ∷ ss) h = rw ((listing_read l s h.0).0, same_numbers ls ss h.1) refl

none_same : (n : ℕ) (ns : List ℕ) → list_any (λ m. n == m) ns ≡ false → AllByRecursion (λ m. (n == m) ≡ false) ns
none_same n [] h = tt
none_same n (m ∷ ns) h = let both = or_parts _ _ h in (both.0, none_same n ns both.1)

no_same : (n : ℕ) (ns : List ℕ) → AllByRecursion (λ m. (n == m) ≡ false) ns → list_any (λ m. n == m) ns ≡ false
no_same n [] h = refl
no_same n (m ∷ ns) h = rw (h.0, no_same n ns h.1) refl

apart_from : (ns : List ℕ) → are_distinct ns ≡ true → IsDistinct (λ a b. a == b) ns
unfolding IsDistinct
apart_from [] h = tt
apart_from (n ∷ ns) h = let both = and_parts _ _ h in (none_same n ns (not-true _ both.0), apart_from ns both.1)

distinct_from : (ns : List ℕ) → IsDistinct (λ a b. a == b) ns → are_distinct ns ≡ true
unfolding IsDistinct
distinct_from [] h = refl
distinct_from (n ∷ ns) h = and_from _ _ (not_from_false _ (no_same n ns h.0)) (distinct_from ns h.1)

pub groups_spelled : (o : Option Data) (shapes : List SpelledGroup) (groups : List Listing)
    → groups_shape_of o ≡ Ok shapes → each_of listing_of shapes ≡ Ok groups
    → MatchOption o (groups ≡ []) (AreGroups groups)
unfolding groups_shape_of
groups_spelled None shapes groups h g =
    let none : [] ≡ shapes = cc in
    let read : each_of listing_of [] ≡ Ok groups = ap (each_of listing_of) none ∙ g in
    cc
groups_spelled (Some d) shapes groups h g =
    let read = step_taken (list_of d >>= each group_shape_of) _ shapes h in
    let items = step_taken (list_of d) _ read.0 read.1 in
    let ds = each_read group_shape_of items.0 read.0 items.2 in
    let apart = step_taken (guard (are_distinct (numbers read.0))) _ shapes read.2 in
    let same : read.0 ≡ shapes = cc in
    let values = each_of_read listing_of read.0 groups (ap (each_of listing_of) same ∙ g) in
    let Apart : List ℕ → Type 0 = AllPairs (λ a b. a ≢ b) in
    record {
      each = (ds.0, list_read d items.0 items.1 ∙ ap array ds.1, zip_through _ _ IsGroup group_spelled groups read.0 ds.0 values ds.2);
      apart = subst Apart (same_numbers groups read.0 values)
          (AllPairs-from_IsDistinct Decides-eqb (numbers read.0) (apart_from _ (test_passed _ apart.0 apart.1)));
    }

pub groups_read : (o : Option Data) (groups : List Listing) → MatchOption o (groups ≡ []) (AreGroups groups)
    → (shapes : List SpelledGroup) × (groups_shape_of o ≡ Ok shapes) × (each_of listing_of shapes ≡ Ok groups)
unfolding groups_shape_of
groups_read None groups is = ([], refl, rw is refl)
groups_read (Some d) groups is =
    let between = zip_between _ _ IsGroup group_parts groups is.each.0 is.each.2 in
    let shapes = between.0 in
    let apart : are_distinct (numbers shapes) ≡ true =
    distinct_from (numbers shapes) (IsDistinct-from_AllPairs Decides-eqb (numbers shapes)
    (subst (AllPairs (λ a b. a ≢ b)) (sym (same_numbers groups shapes between.1)) is.apart)) in
    let each : (list_of d >>= each group_shape_of) ≡ Ok shapes =
    ap (λ x. list_of x >>= each group_shape_of) is.each.1 ∙ read_each group_shape_of shapes is.each.0 between.2 in
    (shapes, rw (each, apart) refl, read_each_of listing_of shapes groups between.1)

-- ---- the members of the object

whole_field : (name : List ℕ) (d : Data) (n : ℕ) → (field_of name d >>= whole_of) ≡ Ok n → get name d ≡ Some (whole_data n)
whole_field name d n h =
    let value = step_taken (field_of name d) whole_of n h in
    value_there _ BadRequest value.0 value.1 ∙ ap Some (whole_read value.0 n value.2)

text_field : (name : List ℕ) (d : Data) (text : List ℕ) → (field_of name d >>= text_of) ≡ Ok text
    → get name d ≡ Some (string text)
text_field name d text h =
    let value = step_taken (field_of name d) text_of text h in
    value_there _ BadRequest value.0 value.1 ∙ ap Some (text_read value.0 text value.2)

-- each member has its form
record IsShape (s : SpelledJudge) (d : Data) : Type 0 where
  names : HasOnly judge_keys d
  entries_data : Data
  entries_there : get (codes "entries") d ≡ Some entries_data
  entries : entry_shapes_of entries_data ≡ Ok s.entries
  kind : kind_shape_of (get (codes "kind") d) ≡ Ok s.holder
  group : get (codes "group") d ≡ Some (whole_data s.head_group)
  groups : groups_shape_of (get (codes "groups") d) ≡ Ok s.groups
  owner : get (codes "owner") d ≡ Some (string s.owner)
  who : get (codes "who") d ≡ Some (string s.who)
  mask : get (codes "mask") d ≡ Some (whole_data s.mask)
  policy : policy_shape_of (get (codes "policy") d) ≡ Ok s.policy

shape_spelled : (s : SpelledJudge) (d : Data) → judge_shape_of d ≡ Ok s → IsShape s d
unfolding judge_shape_of
shape_spelled s d h =
    let names = step_taken (only_of judge_keys d) _ s h in
    let kind = step_taken (kind_shape_of (get (codes "kind") d)) _ s names.2 in
    let group = step_taken (field_of (codes "group") d >>= whole_of) _ s kind.2 in
    let owner = step_taken (field_of (codes "owner") d >>= text_of) _ s group.2 in
    let who = step_taken (field_of (codes "who") d >>= text_of) _ s owner.2 in
    let mask = step_taken (field_of (codes "mask") d >>= whole_of) _ s who.2 in
    let policy = step_taken (policy_shape_of (get (codes "policy") d)) _ s mask.2 in
    let entries = step_taken (field_of (codes "entries") d >>= entry_shapes_of) _ s policy.2 in
    let groups = step_taken (groups_shape_of (get (codes "groups") d)) _ s entries.2 in
    let parts : SpelledJudge = record {
      entries = entries.0;
      holder = kind.0;
      head_group = group.0;
      groups = groups.0;
      owner = owner.0;
      who = who.0;
      mask = mask.0;
      policy = policy.0;
    } in
    let same : parts ≡ s = same_value parts s groups.2 in
    let value = step_taken (field_of (codes "entries") d) entry_shapes_of entries.0 entries.1 in
    let is : IsShape parts d = record {
      names = names_spelled judge_keys d names.0 names.1;
      entries_data = value.0;
      entries_there = value_there _ BadRequest value.0 value.1;
      entries = value.2;
      kind = kind.1;
      group = whole_field (codes "group") d group.0 group.1;
      groups = groups.1;
      owner = text_field (codes "owner") d owner.0 owner.1;
      who = text_field (codes "who") d who.0 who.1;
      mask = whole_field (codes "mask") d mask.0 mask.1;
      policy = policy.1;
    } in
    subst (λ t. IsShape t d) same is

shape_read : (s : SpelledJudge) (d : Data) → IsShape s d → judge_shape_of d ≡ Ok s
unfolding judge_shape_of
shape_read s d is =
    rw (names_read judge_keys d is.names, is.kind, is.group, is.owner, is.who, is.mask, is.policy, is.entries_there, is.entries, is.groups) refl

-- each value is one
record IsValued (q : Question) (s : SpelledJudge) : Type 0 where
  holder : s.holder ≡ q.holder
  head_group : s.head_group ≡ q.head_group
  list : carried_list_of s.holder s.entries ≡ Ok q.list
  groups : each_of listing_of s.groups ≡ Ok q.groups
  owner : user_of s.owner ≡ Some q.owner
  who : principal_of s.who ≡ Some q.who
  mask : mask_of s.mask ≡ Ok q.mask
  policy : s.policy ≡ q.policy

values_spelled : (q : Question) (s : SpelledJudge) → question_of s ≡ Ok q → IsValued q s
unfolding question_of
values_spelled q s h =
    let list = step_taken (carried_list_of s.holder s.entries) _ q h in
    let groups = step_taken (each_of listing_of s.groups) _ q list.2 in
    let owner = step_taken (ok_or (user_of s.owner) BadWho) _ q groups.2 in
    let who = step_taken (ok_or (principal_of s.who) BadWho) _ q owner.2 in
    let mask = step_taken (mask_of s.mask) _ q who.2 in
    let parts : Question = record {
      list = list.0;
      holder = s.holder;
      head_group = s.head_group;
      groups = groups.0;
      owner = owner.0;
      who = who.0;
      mask = mask.0;
      policy = s.policy;
    } in
    let same : parts ≡ q = same_value parts q mask.2 in
    let is : IsValued parts s = record {
      holder = refl;
      head_group = refl;
      list = list.1;
      groups = groups.1;
      owner = value_there _ BadWho owner.0 owner.1;
      who = value_there _ BadWho who.0 who.1;
      mask = mask.1;
      policy = refl;
    } in
    subst (λ r. IsValued r s) same is

values_read : (q : Question) (s : SpelledJudge) → IsValued q s → question_of s ≡ Ok q
unfolding question_of
values_read q s is = rw (is.list, is.groups, is.owner, is.who, is.mask, is.holder, is.head_group, is.policy) refl

-- ---- the line

question_spelled : (q : Question) (s : SpelledJudge) (d : Data) → IsShape s d → IsValued q s → IsQuestion q d
question_spelled q s d shape is =
    let mask = mask_read s.mask q.mask is.mask in
    record {
      names = shape.names;
      entries =
          there _ shape.entries_data _ shape.entries_there (access_list_spelled q.holder q.list s.entries shape.entries_data shape.entries
          (rw (← is.holder) is.list));
      kind = kind_spelled _ q.holder (shape.kind ∙ ap Ok is.holder);
      group = shape.group ∙ ap (λ n. Some (whole_data n)) is.head_group;
      groups = groups_spelled _ s.groups q.groups shape.groups is.groups;
      owner = there _ (string s.owner) _ shape.owner (s.owner, refl, user_spelled q.owner s.owner is.owner);
      who = there _ (string s.who) _ shape.who (s.who, refl, principal_spelled q.who s.who is.who);
      mask = shape.mask ∙ ap (λ n. Some (whole_data n)) mask.0;
      has_mask = mask.1;
      policy = policy_spelled _ q.policy (shape.policy ∙ ap Ok is.policy);
    }

question_read : (q : Question) (d : Data) → IsQuestion q d → (judge_shape_of d >>= question_of) ≡ Ok q
question_read q d is =
    let entries = taken _ _ is.entries in
    let list = access_list_read q.holder q.list entries.0 entries.2 in
    let groups = groups_read (get (codes "groups") d) q.groups is.groups in
    let owner = taken _ _ is.owner in
    let who = taken _ _ is.who in
    let s : SpelledJudge = record {
      entries = list.0;
      holder = q.holder;
      head_group = q.head_group;
      groups = groups.0;
      owner = owner.2.0;
      who = who.2.0;
      mask = mask_bits q.mask;
      policy = q.policy;
    } in
    let shape : IsShape s d = record {
      names = is.names;
      entries_data = entries.0;
      entries_there = entries.1;
      entries = list.1;
      kind = kind_read _ q.holder is.kind;
      group = is.group;
      groups = groups.1;
      owner = owner.1 ∙ ap Some owner.2.1;
      who = who.1 ∙ ap Some who.2.1;
      mask = is.mask;
      policy = policy_shaped _ q.policy is.policy;
    } in
    let values : IsValued q s = record {
      holder = refl;
      head_group = refl;
      list = list.2;
      groups = groups.2;
      owner = spelled_user q.owner owner.2.0 owner.2.2;
      who = spelled_principal q.who who.2.0 who.2.2;
      mask = read_mask q.mask is.has_mask;
      policy = refl;
    } in
    rw (shape_read s d shape) (values_read q s values)

pub one_question : (q : Question) (bytes : List ℕ) → (judge_of bytes ≡ Ok q) ↔ IsJudgeLine q bytes
unfolding judge_of
one_question q bytes = (spelled, read_back)
  where
    spelled : judge_of bytes ≡ Ok q → IsJudgeLine q bytes
    spelled h =
        let shape = step_taken (data_of bytes >>= judge_shape_of) question_of q h in
        let d = step_taken (data_of bytes) judge_shape_of shape.0 shape.1 in
        (d.0, data_spelled bytes d.0 d.1, question_spelled q shape.0 d.0 (shape_spelled shape.0 d.0 d.2) (values_spelled q shape.0 shape.2))

    read_back : IsJudgeLine q bytes → judge_of bytes ≡ Ok q
    read_back is = rw (data_read bytes is.0 is.1.utf8 is.1.value) (question_read q is.0 is.2)
