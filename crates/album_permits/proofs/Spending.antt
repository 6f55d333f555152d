-- On two snapshots that agree on what is named the same is written (`effect-alike`), there is room alike (`room-alike`),
-- and the same is served (`served-alike`), for the law `permits_are_spent_on_what_is_named`.
use Rattle.std.proofs.Common.{◌≡◌, ◌++◌, ℕ, suc, List, [], ◌∷◌, Option, Some, None, Contains, map, option_map, option_to_list, refl, sym, ap, subst, ◌∙◌, arith}
use Rattle.std.specs.List.{flat_map}
use Rattle.std.specs.Option.{option_map_or}
use Rattle.std.proofs.lemmas.List.Elements.{Contains-append_left}
use Rattle.album_lists.specs.Inheritance.{inherited}
use Rattle.album_lists.specs.declared.lists.Ace.{Ace}
use Rattle.album_lists.specs.declared.lists.Holder.TheVariants.{Plain, Folder}
use Rattle.album_eval.specs.declared.facts.Principal.{Principal}
use Rattle.album_eval.specs.declared.policies.Policy.{Policy}
use Rattle.album_items.specs.ItemIds.{picture, album, list, group, number_of}
use Rattle.album_items.specs.Values.{head_of, home_of, children_of, entries_of, list_of}
use Rattle.album_items.specs.declared.values.Head.{Head}
use Rattle.album_items.specs.declared.values.Value.{Value}
use Rattle.album_items.specs.declared.values.Value.TheVariants as value
use Rattle.album_reader.specs.Answers.{ReadVersion}
use Rattle.album_views.proofs.Flaws.{objects_lists, list-shared, group-shared}
use Rattle.album_views.specs.Asks.{objects_of}
use Rattle.album_views.specs.ReadSets.{looker_of, IsNamed, subjects_of}
use Rattle.album_views.specs.ReadSets.IsNamed.{Subject, ListOf}
use Rattle.album_views.specs.Seen.{seen}
use Rattle.album_views.specs.declared.asks.Ask.{Ask}
use Rattle.album_views.specs.declared.asks.Ask.TheVariants as ask
use Rattle.album_views.specs.declared.asks.NewList.{NewList}
use Rattle.album_views.specs.declared.asks.NewMembership.{NewMembership}
use Rattle.album_listing.specs.Agreement.{AgreeOn}
use Rattle.album_listing.specs.ViewLookups.{stamp_seen, entries_named, list_named, stamp_named}
use Rattle.album_listing.proofs.Judging.{first-of}
use Rattle.album_listing.proofs.Looking.{seen-alike, listings-alike}
use Rattle.album_permits.specs.Attributes.{attributes_of}
use Rattle.album_permits.specs.Changes.{with_title, with_content, with_home, with_owner, with_members, without_child, with_child}
use Rattle.album_permits.specs.Effects.{Write, name_of, head_group_seen, owners_list, list_dropped, taken_out, list_written, members_written, written, merged, effect_of, has_most_others, is_album_full, is_full_for}
use Rattle.album_permits.specs.Permits.{permit_on}
use Rattle.album_permits.specs.Serving.{read_of, IsServed}
use Rattle.album_permits.specs.declared.serving.Served.{Served}
use Rattle.album_permits.specs.declared.serving.Served.TheVariants as served

map-same : (f g : ℕ → Write) (xs : List ℕ) → ((x : ℕ) → Contains xs x → f x ≡ g x) → map f xs ≡ map g xs
map-same f g [] same = refl
map-same f g (x ∷ xs) same =
    ap (λ (w : Write). w ∷ map f xs) (same x (first-of x xs))
    ∙ ap (λ (ws : List Write). g x ∷ ws) (map-same f g xs (λ y c. same y (suc c.0, omega (arith, c.1), c.2)))

lists-same :
    (one other : ℕ → Value) (lists : List NewList)
    → ((object : ℕ) → Contains (map (λ (new : NewList). new.object) lists) object → one object ≡ other object)
    → flat_map (list_written one) lists ≡ flat_map (list_written other) lists
lists-same one other [] same = refl
lists-same one other (new ∷ lists) same =
    ap (λ (v : Value). map (λ item. (item, value.List new.list)) (list_of v) ++ flat_map (list_written one) lists)
    (same new.object (first-of new.object (map (λ (new : NewList). new.object) lists)))
    ∙ ap (λ (ws : List Write). list_written other new ++ ws)
    (lists-same one other lists (λ x c. same x (suc c.0, omega (arith, c.1), c.2)))

members-same :
    (one other : ℕ → Value) (members : List NewMembership)
    → ((object : ℕ) → Contains (map (λ (new : NewMembership). new.object) members) object → one object ≡ other object)
    → map (members_written one) members ≡ map (members_written other) members
members-same one other [] same = refl
members-same one other (new ∷ members) same =
    ap (λ (v : Value). (new.object, with_members new.members v) ∷ map (members_written one) members)
    (same new.object (first-of new.object (map (λ (new : NewMembership). new.object) members)))
    ∙ ap (λ (ws : List Write). members_written other new ∷ ws)
    (members-same one other members (λ x c. same x (suc c.0, omega (arith, c.1), c.2)))

module _ (looker : Option Principal) (asked : Ask) (one other : List ReadVersion) (agree : AgreeOn looker asked one other) where
  same : (item : ℕ) → Contains (subjects_of (seen one) asked) item → seen one item ≡ seen other item
  same item subject = seen-alike looker asked one other agree item (Subject item subject)

  list-named :
      (item : ℕ) (head : Head) → Contains (subjects_of (seen one) asked) item → head_of (seen one item) ≡ Some head
      → IsNamed (seen one) looker asked (list head.list)
  list-named item head subject e =
      ListOf item (list head.list) subject
      (subst (λ (o : Option Head). Contains (option_to_list (option_map (λ (h : Head). list h.list) o)) (list head.list)) (sym e)
      (first-of (list head.list) []))

  pub entries-alike :
      (item : ℕ) → Contains (subjects_of (seen one) asked) item
      → entries_named (seen one) item ≡ entries_named (seen other) item
  entries-alike item subject =
      go (head_of (seen one item)) refl
      ∙ ap (λ (v : Value). option_map_or (λ (head : Head). entries_of (seen other (list head.list))) (head_of v) [])
      (same item subject)
    where
      go :
          (o : Option Head) → head_of (seen one item) ≡ o
          → option_map_or (λ (head : Head). entries_of (seen one (list head.list))) (head_of (seen one item)) []
          ≡ option_map_or (λ (head : Head). entries_of (seen other (list head.list))) (head_of (seen one item)) []
      go None e = rw e refl
      go (Some head) e =
          rw e (ap entries_of (seen-alike looker asked one other agree (list head.list) (list-named item head subject e)))

  stamp-alike : (item : ℕ) → IsNamed (seen one) looker asked item → stamp_seen one item ≡ stamp_seen other item
  stamp-alike item named =
      ap (λ (o : Option (ℕ × Value)). option_map_or (λ version. version.0) o 0) (agree.same item named)

  pub list-named-alike :
      (item : ℕ) → Contains (subjects_of (seen one) asked) item
      → list_named (seen one) item ≡ list_named (seen other) item
  list-named-alike item subject =
      ap (λ (v : Value). option_map_or (λ (head : Head). list head.list) (head_of v) item) (same item subject)

  stamp-named-alike :
      (item : ℕ) → Contains (subjects_of (seen one) asked) item → stamp_named one item ≡ stamp_named other item
  stamp-named-alike item subject =
      go (head_of (seen one item)) refl
      ∙ ap (λ (v : Value). option_map_or (λ (head : Head). stamp_seen other (list head.list)) (head_of v) 0)
      (same item subject)
    where
      go :
          (o : Option Head) → head_of (seen one item) ≡ o
          → option_map_or (λ (head : Head). stamp_seen one (list head.list)) (head_of (seen one item)) 0
          ≡ option_map_or (λ (head : Head). stamp_seen other (list head.list)) (head_of (seen one item)) 0
      go None e = rw e refl
      go (Some head) e = rw e (stamp-alike (list head.list) (list-named item head subject e))

  taken-alike :
      (object : ℕ) → Contains (subjects_of (seen one) asked) object
      → ((home : ℕ) → Contains (home_of (seen one object)) home → Contains (subjects_of (seen one) asked) home)
      → taken_out (seen one) object ≡ taken_out (seen other) object
  taken-alike object subject homes =
      map-same (λ home. (home, without_child object (seen one home))) (λ home. (home, without_child object (seen other home)))
      (home_of (seen one object))
      (λ home c. ap (λ (v : Value). (home, without_child object v)) (same home (homes home c)))
      ∙ ap (λ (v : Value). map (λ home. (home, without_child object (seen other home))) (home_of v)) (same object subject)

-- ---- what is written

module _ (me : Principal) (stamp : ℕ) where
  written-alike :
      (looker : Option Principal) (asked : Ask) (one other : List ReadVersion) → AgreeOn looker asked one other
      → written (seen one) me stamp asked ≡ written (seen other) me stamp asked
  written-alike looker (ask.Read object) one other agree = refl
  written-alike looker (ask.List into) one other agree = refl
  written-alike looker (ask.GetList object) one other agree = refl
  written-alike looker (ask.Head object) one other agree = refl
  written-alike looker (ask.Children into) one other agree = refl
  written-alike looker (ask.AddPicture into title content) one other agree =
      let made : ℕ → List Ace → Value → List Write =
      λ g es v. (
        picture stamp,
        value.Picture (record {
          title = title;
          content = content;
          head = record { owner = name_of me; group = g; list = stamp };
          home = number_of into;
        }),
      ) ∷ (list stamp, value.List (inherited Plain es)) ∷ (into, with_child (picture stamp) v) ∷ [] in
      ap (λ (v : Value). made (option_map_or (λ (head : Head). head.group) (head_of v) 0) (entries_named (seen one) into) v)
      (same looker (ask.AddPicture into title content) one other agree into (first-of into []))
      ∙ ap (λ (es : List Ace). made (head_group_seen (seen other) into) es (seen other into))
      (entries-alike looker (ask.AddPicture into title content) one other agree into (first-of into []))
  written-alike looker (ask.AddAlbum into title) one other agree =
      let made : ℕ → List Ace → Value → List Write =
      λ g es v. (
        album stamp,
        value.Album (record {
          title = title;
          head = record { owner = name_of me; group = g; list = stamp };
          home = Some (number_of into);
          children = [];
        }),
      ) ∷ (list stamp, value.List (inherited Folder es)) ∷ (into, with_child (album stamp) v) ∷ [] in
      ap (λ (v : Value). made (option_map_or (λ (head : Head). head.group) (head_of v) 0) (entries_named (seen one) into) v)
      (same looker (ask.AddAlbum into title) one other agree into (first-of into []))
      ∙ ap (λ (es : List Ace). made (head_group_seen (seen other) into) es (seen other into))
      (entries-alike looker (ask.AddAlbum into title) one other agree into (first-of into []))
  written-alike looker (ask.AddGroup into members) one other agree =
      ap (λ (v : Value). (
        group stamp,
        value.Group (record {
          head = record {
            owner = name_of me;
            group = option_map_or (λ (head : Head). head.group) (head_of v) 0;
            list = stamp;
          };
          members = members;
        }),
      ) ∷ (list stamp, value.List owners_list) ∷ [])
      (same looker (ask.AddGroup into members) one other agree into (first-of into []))
  written-alike looker (ask.Retitle object title) one other agree =
      ap (λ (v : Value). (object, with_title title v) ∷ [])
      (same looker (ask.Retitle object title) one other agree object (first-of object []))
  written-alike looker (ask.Replace object content) one other agree =
      ap (λ (v : Value). (object, with_content content v) ∷ [])
      (same looker (ask.Replace object content) one other agree object (first-of object []))
  written-alike looker (ask.Delete object) one other agree =
      ap (λ (v : Value). (object, value.Missing) ∷ (map (λ item. (item, value.Missing)) (list_of v) ++ taken_out (seen one) object))
      (same looker (ask.Delete object) one other agree object (first-of object (home_of (seen one object))))
      ∙ ap (λ (ws : List Write). (object, value.Missing) ∷ (list_dropped (seen other) object ++ ws))
      (taken-alike looker (ask.Delete object) one other agree object (first-of object (home_of (seen one object)))
      (λ home c. (suc c.0, omega (arith, c.1), c.2)))
  written-alike looker (ask.Move object to) one other agree =
      ap (λ (v : Value). (object, with_home (number_of to) v) ∷ (taken_out (seen one) object ++ (to, with_child object (seen one to)) ∷ []))
      (same looker (ask.Move object to) one other agree object (first-of object (to ∷ home_of (seen one object))))
      ∙ ap (λ (ws : List Write). (object, with_home (number_of to) (seen other object)) ∷ (ws ++ (to, with_child object (seen one to)) ∷ []))
      (taken-alike looker (ask.Move object to) one other agree object (first-of object (to ∷ home_of (seen one object)))
      (λ home c. (suc (suc c.0), omega (arith, c.1), c.2)))
      ∙ ap (λ (v : Value). (object, with_home (number_of to) (seen other object)) ∷ (taken_out (seen other) object ++ (to, with_child object v) ∷ []))
      (same looker (ask.Move object to) one other agree to (1, omega arith, refl))
  written-alike looker (ask.SetLists lists) one other agree =
      lists-same (seen one) (seen other) lists
      (λ object c. same looker (ask.SetLists lists) one other agree object
      (Contains-append_left (objects_of (ask.SetLists lists)) [] object
      (subst (λ (xs : List ℕ). Contains xs object) (sym (objects_lists lists)) c)))
  written-alike looker (ask.SetOwner object owner number) one other agree =
      ap (λ (v : Value). (object, with_owner owner number v) ∷ [])
      (same looker (ask.SetOwner object owner number) one other agree object (first-of object []))
  written-alike looker (ask.SetMembers object members) one other agree =
      ap (λ (v : Value). (object, with_members members v) ∷ [])
      (same looker (ask.SetMembers object members) one other agree object (first-of object []))
  written-alike looker (ask.Share lists members) one other agree =
      let at : (object : ℕ) → Contains (objects_of (ask.Share lists members)) object → seen one object ≡ seen other object =
      λ object c. same looker (ask.Share lists members) one other agree object
      (Contains-append_left (objects_of (ask.Share lists members)) [] object c) in
      ap (λ (ws : List Write). ws ++ map (members_written (seen one)) members)
      (lists-same (seen one) (seen other) lists (λ object c. at object (list-shared lists members object c)))
      ∙ ap (λ (ws : List Write). flat_map (list_written (seen other)) lists ++ ws)
      (members-same (seen one) (seen other) members (λ object c. at object (group-shared lists members object c)))

  full-alike :
      (looker : Option Principal) (asked : Ask) (one other : List ReadVersion) → AgreeOn looker asked one other
      → is_album_full (seen one) stamp asked ≡ is_album_full (seen other) stamp asked
  full-alike looker (ask.Read object) one other agree = refl
  full-alike looker (ask.List into) one other agree = refl
  full-alike looker (ask.GetList object) one other agree = refl
  full-alike looker (ask.Head object) one other agree = refl
  full-alike looker (ask.Children into) one other agree = refl
  full-alike looker (ask.AddPicture into title content) one other agree =
      ap (has_most_others (picture stamp)) (same looker (ask.AddPicture into title content) one other agree into (first-of into []))
  full-alike looker (ask.AddAlbum into title) one other agree =
      ap (has_most_others (album stamp)) (same looker (ask.AddAlbum into title) one other agree into (first-of into []))
  full-alike looker (ask.AddGroup into members) one other agree = refl
  full-alike looker (ask.Retitle object title) one other agree = refl
  full-alike looker (ask.Replace object content) one other agree = refl
  full-alike looker (ask.Delete object) one other agree = refl
  full-alike looker (ask.Move object to) one other agree =
      ap (has_most_others object) (same looker (ask.Move object to) one other agree to (1, omega arith, refl))
  full-alike looker (ask.SetLists lists) one other agree = refl
  full-alike looker (ask.SetOwner object owner number) one other agree = refl
  full-alike looker (ask.SetMembers object members) one other agree = refl
  full-alike looker (ask.Share lists members) one other agree = refl

pub effect-alike :
    (policy : Policy) (me : Principal) (asked : Ask) (one other : List ReadVersion) (stamp : ℕ)
    → AgreeOn (looker_of policy me) asked one other
    → effect_of (permit_on policy me asked one) stamp ≡ effect_of (permit_on policy me asked other) stamp
effect-alike policy me asked one other stamp agree = ap merged (written-alike me stamp (looker_of policy me) asked one other agree)

pub room-alike :
    (policy : Policy) (me : Principal) (asked : Ask) (one other : List ReadVersion) (stamp : ℕ)
    → AgreeOn (looker_of policy me) asked one other
    → is_full_for (permit_on policy me asked one) stamp ≡ is_full_for (permit_on policy me asked other) stamp
room-alike policy me asked one other stamp agree = full-alike me stamp (looker_of policy me) asked one other agree

-- ---- what is served

pub served-alike :
    (policy : Policy) (me : Principal) (asked : Ask) (one other : List ReadVersion) (given more : Served)
    → AgreeOn (looker_of policy me) asked one other
    → IsServed (permit_on policy me asked one) given → IsServed (permit_on policy me asked other) more → given ≡ more
served-alike policy me (ask.Read object) one other given more agree l m =
    let stamps = stamp-alike (looker_of policy me) (ask.Read object) one other agree object (Subject object (first-of object [])) in
    l
    ∙ ap (λ (s : ℕ). read_of object s (seen one object)) stamps
    ∙ ap (read_of object (stamp_seen other object)) (same (looker_of policy me) (ask.Read object) one other agree object (first-of object []))
    ∙ sym m
served-alike policy me (ask.List into) one other given more agree l m =
    let stamps = stamp-alike (looker_of policy me) (ask.List into) one other agree into (Subject into (first-of into (children_of (seen one into)))) in
    l.given_is
    ∙ ap (λ (s : ℕ). served.Listed into s l.rows) stamps
    ∙ ap (served.Listed into (stamp_seen other into)) (listings-alike (looker_of policy me) (ask.List into) one other me l.rows m.rows agree l.listing m.listing)
    ∙ sym m.given_is
served-alike policy me (ask.GetList object) one other given more agree l m =
    l
    ∙ ap (λ (i : ℕ). served.Entries object i (stamp_named one object) (entries_named (seen one) object))
    (list-named-alike (looker_of policy me) (ask.GetList object) one other agree object (first-of object []))
    ∙ ap (λ (s : ℕ). served.Entries object (list_named (seen other) object) s (entries_named (seen one) object))
    (stamp-named-alike (looker_of policy me) (ask.GetList object) one other agree object (first-of object []))
    ∙ ap (served.Entries object (list_named (seen other) object) (stamp_named other object))
    (entries-alike (looker_of policy me) (ask.GetList object) one other agree object (first-of object []))
    ∙ sym m
served-alike policy me (ask.Head object) one other given more agree l m =
    let stamps = stamp-alike (looker_of policy me) (ask.Head object) one other agree object (Subject object (first-of object [])) in
    l
    ∙ ap (λ (s : ℕ). served.Head object s (attributes_of (seen one object))) stamps
    ∙ ap (λ (v : Value). served.Head object (stamp_seen other object) (attributes_of v))
    (same (looker_of policy me) (ask.Head object) one other agree object (first-of object []))
    ∙ sym m
served-alike policy me (ask.Children into) one other given more agree l m =
    let stamps = stamp-alike (looker_of policy me) (ask.Children into) one other agree into (Subject into (first-of into [])) in
    l
    ∙ ap (λ (s : ℕ). served.Children into s (children_of (seen one into))) stamps
    ∙ ap (λ (v : Value). served.Children into (stamp_seen other into) (children_of v))
    (same (looker_of policy me) (ask.Children into) one other agree into (first-of into []))
    ∙ sym m
served-alike policy me (ask.AddPicture into title content) one other given more agree l m = absurd l
served-alike policy me (ask.AddAlbum into title) one other given more agree l m = absurd l
served-alike policy me (ask.AddGroup into members) one other given more agree l m = absurd l
served-alike policy me (ask.Retitle object title) one other given more agree l m = absurd l
served-alike policy me (ask.Replace object content) one other given more agree l m = absurd l
served-alike policy me (ask.Delete object) one other given more agree l m = absurd l
served-alike policy me (ask.Move object to) one other given more agree l m = absurd l
served-alike policy me (ask.SetLists lists) one other given more agree l m = absurd l
served-alike policy me (ask.SetOwner object owner number) one other given more agree l m = absurd l
served-alike policy me (ask.SetMembers object members) one other given more agree l m = absurd l
served-alike policy me (ask.Share lists members) one other given more agree l m = absurd l
