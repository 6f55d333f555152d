-- What a permit writes is what one transaction may write: `effect_items` and `effect_kinds`, for the law
-- `an_effect_is_one_transaction`; `Permit::effect` needs `effect_items` too.
use Rattle.std.proofs.Common.{◌≡◌, ◌≢◌, ◌++◌, ◌==◌, ◌&&◌, not, ℕ, suc, ◌+◌, ◌<◌, ◌≤◌, nat_le, List, [], ◌∷◌, Bool, true, false, Option, Some, None, is_none, IsTrue, cond, fold, map, find, option_map, length, refl, sym, ap, subst, ◌∙◌, arith, eqb-true}
use Rattle.std.specs.List.{list_any, list_all, flat_map}
use Rattle.std.specs.Option.{option_map_or}
use Rattle.std.proofs.lemmas.Bool.{or_parts, or_from, and_parts, and_from, not-true, not_from_false, eq-eqb, ne_eqb, le-leb}
use Rattle.std.proofs.lemmas.List.{length-append, length-map}
use Rattle.album_stamps.specs.Distinct.{are_distinct}
use Rattle.album_stamps.specs.declared.refusals.Refusal.{Refusal}
use Rattle.album_lists.specs.Whos.{or_else}
use Rattle.album_lists.specs.declared.lists.Holder.TheVariants.{Plain, Folder}
use Rattle.album_lists.specs.declared.whos.Member.{Member}
use Rattle.album_eval.specs.declared.facts.Principal.{Principal}
use Rattle.album_items.specs.ItemBack.{kind_of-item}
use Rattle.album_items.specs.ItemIds.{item, picture, album, list, group, kind_of, number_of}
use Rattle.album_items.specs.Transactions.{items_written, are_items, has_right_kind}
use Rattle.album_items.specs.Values.{is_of, head_of, home_of, list_of}
use Rattle.album_items.specs.declared.values.Value.{Value}
use Rattle.album_items.specs.declared.values.Value.TheVariants as value
use Rattle.album_reader.specs.Answers.{ReadVersion}
use Rattle.album_reader.specs.Snapshots.{version_of}
use Rattle.album_views.proofs.Flaws.{asks_objects, named_few, count_share}
use Rattle.album_views.specs.Asks.{wanted, objects_of, is_write}
use Rattle.album_views.specs.Checks.{flaw_of, owner_flaw, refusal_of}
use Rattle.album_views.specs.Seen.{seen}
use Rattle.album_views.specs.declared.asks.Ask.{Ask}
use Rattle.album_views.specs.declared.asks.Ask.TheVariants as ask
use Rattle.album_views.specs.declared.asks.NewList.{NewList}
use Rattle.album_views.specs.declared.asks.NewMembership.{NewMembership}
use Rattle.album_listing.specs.Basis.{Basis}
use Rattle.album_listing.specs.Masks.{WRITE_ACL}
use Rattle.album_permits.specs.Changes.{with_title, with_content, with_home, with_owner, with_members, without_child, with_child}
use Rattle.album_permits.specs.Effects.{Write, new_head, heritage, owners_list, list_dropped, taken_out, list_written, members_written, written, put, merged, effect_of}
use Rattle.album_permits.specs.Findings.{and_then_found, reasons_of, found_by, need_found, needs_found, ruling_of}
use Rattle.album_permits.specs.Kinds.{shows_right_kinds}
use Rattle.album_permits.specs.Needs.{just, needs_of}
use Rattle.album_permits.specs.Permits.{PermitState, IsPermit}
use Rattle.album_permits.specs.declared.findings.Finding.{Finding}
use Rattle.album_permits.specs.declared.findings.Finding.TheVariants.{Granted, Denied, Missing}

-- ---- a write that is put among others

abbrev has : ℕ → List Write → Bool
has a vs = list_any (λ b. a == b) (items_written vs)

other-put :
    (a : ℕ) (vs : List Write) (w : Write) → (a == w.0) ≡ false → has a vs ≡ false → has a (put vs w) ≡ false
other-put a [] w other none = or_from (a == w.0) false other refl
other-put a (v ∷ vs) w other none =
    let parts = or_parts (a == v.0) (has a vs) none in go (v.0 == w.0) parts.0 parts.1 (other-put a vs w other parts.1)
  where
    go :
        (b : Bool) → (a == v.0) ≡ false → has a vs ≡ false → has a (put vs w) ≡ false
        → has a (cond b (w ∷ vs) (v ∷ put vs w)) ≡ false
    go true first rest more = or_from (a == w.0) (has a vs) other rest
    go false first rest more = or_from (a == v.0) (has a (put vs w)) first more

single-put :
    (vs : List Write) (w : Write) → are_distinct (items_written vs) ≡ true
    → are_distinct (items_written (put vs w)) ≡ true
single-put [] w single = refl
single-put (v ∷ vs) w single =
    let parts = and_parts (not (has v.0 vs)) (are_distinct (items_written vs)) single in
    go (v.0 == w.0) refl parts.0 parts.1 (single-put vs w parts.1)
  where
    go :
        (b : Bool) → (v.0 == w.0) ≡ b → not (has v.0 vs) ≡ true → are_distinct (items_written vs) ≡ true
        → are_distinct (items_written (put vs w)) ≡ true
        → are_distinct (items_written (cond b (w ∷ vs) (v ∷ put vs w))) ≡ true
    go true same first rest more =
        and_from (not (has w.0 vs)) (are_distinct (items_written vs))
        (subst (λ (a : ℕ). not (has a vs) ≡ true) (eqb-true v.0 w.0 same) first) rest
    go false same first rest more =
        and_from (not (has v.0 (put vs w))) (are_distinct (items_written (put vs w)))
        (not_from_false (has v.0 (put vs w)) (other-put v.0 vs w same (not-true (has v.0 vs) first))) more

kinds-put :
    (vs : List Write) (w : Write) → list_all has_right_kind vs ≡ true → has_right_kind w ≡ true
    → list_all has_right_kind (put vs w) ≡ true
kinds-put [] w right own = and_from (has_right_kind w) true own refl
kinds-put (v ∷ vs) w right own =
    let parts = and_parts (has_right_kind v) (list_all has_right_kind vs) right in
    go (v.0 == w.0) parts.0 parts.1 (kinds-put vs w parts.1 own)
  where
    go :
        (b : Bool) → has_right_kind v ≡ true → list_all has_right_kind vs ≡ true
        → list_all has_right_kind (put vs w) ≡ true
        → list_all has_right_kind (cond b (w ∷ vs) (v ∷ put vs w)) ≡ true
    go true first rest more = and_from (has_right_kind w) (list_all has_right_kind vs) own rest
    go false first rest more = and_from (has_right_kind v) (list_all has_right_kind (put vs w)) first more

length-put :
    (vs : List Write) (w : Write)
    → (1 ≤ length (put vs w)) × (length vs ≤ length (put vs w)) × (length (put vs w) ≤ length vs + 1)
length-put [] w = (omega arith, omega arith, omega arith)
length-put (v ∷ vs) w = go (v.0 == w.0) (length-put vs w)
  where
    go :
        (b : Bool) → (1 ≤ length (put vs w)) × (length vs ≤ length (put vs w)) × (length (put vs w) ≤ length vs + 1)
        → (1 ≤ length (cond b (w ∷ vs) (v ∷ put vs w)))
        × (suc (length vs) ≤ length (cond b (w ∷ vs) (v ∷ put vs w)))
        × (length (cond b (w ∷ vs) (v ∷ put vs w)) ≤ suc (length vs) + 1)
    go true h = (omega arith, omega arith, omega arith)
    go false h = (omega (arith, h.0), omega (arith, h.1), omega (arith, h.2))

-- ---- writes that are merged

single-fold :
    (ws vs : List Write) → are_distinct (items_written vs) ≡ true → are_distinct (items_written (fold put vs ws)) ≡ true
single-fold [] vs single = single
single-fold (w ∷ ws) vs single = single-fold ws (put vs w) (single-put vs w single)

kinds-fold :
    (ws vs : List Write) → list_all has_right_kind vs ≡ true → list_all has_right_kind ws ≡ true
    → list_all has_right_kind (fold put vs ws) ≡ true
kinds-fold [] vs right all = right
kinds-fold (w ∷ ws) vs right all =
    let parts = and_parts (has_right_kind w) (list_all has_right_kind ws) all in
    kinds-fold ws (put vs w) (kinds-put vs w right parts.0) parts.1

few-fold : (ws vs : List Write) → length (fold put vs ws) ≤ length vs + length ws
few-fold [] vs = omega arith
few-fold (w ∷ ws) vs = omega (arith, few-fold ws (put vs w), (length-put vs w).2)

more-fold : (ws vs : List Write) → length vs ≤ length (fold put vs ws)
more-fold [] vs = omega arith
more-fold (w ∷ ws) vs = omega (arith, more-fold ws (put vs w), (length-put vs w).1)

some-merged : (ws : List Write) → 1 ≤ length ws → 1 ≤ length (merged ws)
some-merged [] some = absurd (omega (arith, some))
some-merged (w ∷ ws) some = omega (arith, more-fold ws (put [] w), (length-put [] w).0)

-- ---- how many are written

module _ (shown : ℕ → Value) (p : Principal) (stamp : ℕ) where
  few-at : (new : NewList) → length (list_written shown new) ≤ 1
  few-at new = go (shown new.object)
    where
      go : (v : Value) → length {A = Write} (map (λ (item : ℕ). (item, value.List new.list)) (list_of v)) ≤ 1
      go value.Missing = omega arith
      go (value.Picture x) = omega arith
      go (value.Album x) = omega arith
      go (value.List x) = omega arith
      go (value.Group x) = omega arith

  few-lists : (lists : List NewList) → length (flat_map (list_written shown) lists) ≤ length lists
  few-lists [] = omega arith
  few-lists (new ∷ lists) =
      omega (
        arith,
        few-at new,
        few-lists lists,
        length-append (list_written shown new) (flat_map (list_written shown) lists),
      )

  few-deleted :
      (object : ℕ) (v : Value)
      → length {A = Write} (map (λ (item : ℕ). (item, value.Missing)) (list_of v)
      ++ map (λ (home : ℕ). (home, without_child object (shown home))) (home_of v)) ≤ 2
  few-deleted object value.Missing = omega arith
  few-deleted object (value.Picture x) = omega arith
  few-deleted object (value.Album x) = omega arith
  few-deleted object (value.List x) = omega arith
  few-deleted object (value.Group x) = omega arith

  few-moved :
      (object to : ℕ) (v : Value)
      → length {A = Write} (map (λ (home : ℕ). (home, without_child object (shown home))) (home_of v)
      ++ (to, with_child object (shown to)) ∷ []) ≤ 2
  few-moved object to value.Missing = omega arith
  few-moved object to (value.Picture x) = omega arith
  few-moved object to (value.Album x) = omega arith
  few-moved object to (value.List x) = omega arith
  few-moved object to (value.Group x) = omega arith

  same-count : (lists : List NewList) → length (wanted (ask.SetLists lists)) ≡ length lists
  same-count [] = refl
  same-count (new ∷ lists) = ap suc (same-count lists)

  few-written : (asked : Ask) → length (wanted asked) ≤ 16 → length (written shown p stamp asked) ≤ 16
  few-written (ask.Read object) few = omega arith
  few-written (ask.List object) few = omega arith
  few-written (ask.GetList object) few = omega arith
  few-written (ask.Head object) few = omega arith
  few-written (ask.Children album) few = omega arith
  few-written (ask.AddPicture into title content) few = omega arith
  few-written (ask.AddAlbum into title) few = omega arith
  few-written (ask.AddGroup into members) few = omega arith
  few-written (ask.Retitle object title) few = omega arith
  few-written (ask.Replace object content) few = omega arith
  few-written (ask.Delete object) few = omega (arith, few-deleted object (shown object))
  few-written (ask.Move object to) few = omega (arith, few-moved object to (shown object))
  few-written (ask.SetLists lists) few = omega (arith, few-lists lists, few, same-count lists)
  few-written (ask.SetOwner object owner group) few = omega arith
  few-written (ask.SetMembers object members) few = omega arith
  few-written (ask.Share lists members) few =
      omega (
        arith,
        few-lists lists,
        few,
        count_share lists members,
        length-map members (members_written shown),
        length-append (flat_map (list_written shown) lists) (map (members_written shown) members),
      )

-- ---- something is written

-- what has a list is there; the first need of a granted ask is met
need-met : (one later : Finding) → and_then_found one later ≡ Granted → one ≡ Granted
need-met Granted later e = refl
need-met (Denied reasons) later e = absurd (cc)
need-met (Missing object) later e = absurd (cc)

module _ (basis : Basis) (p : Principal) (stamp : ℕ) where
  some-at :
      (new : NewList) → need_found basis (just new.object WRITE_ACL) ≡ Granted
      → 1 ≤ length (list_written basis.seen new)
  some-at new met = go (basis.seen new.object) met
    where
      go :
          (v : Value)
          → found_by (cond (is_none (head_of v)) (Some new.object) None)
          (reasons_of basis (just new.object WRITE_ACL)) ≡ Granted
          → 1 ≤ length {A = Write} (map (λ (item : ℕ). (item, value.List new.list)) (list_of v))
      go value.Missing e = absurd (cc)
      go (value.Picture x) e = omega arith
      go (value.Album x) e = omega arith
      go (value.List x) e = absurd (cc)
      go (value.Group x) e = omega arith

  some-written :
      (asked : Ask) → is_write asked ≡ true → length (objects_of asked) ≢ 0 → ruling_of basis asked ≡ Granted
      → 1 ≤ length (written basis.seen p stamp asked)
  some-written (ask.Read object) change some granted = absurd (cc)
  some-written (ask.List object) change some granted = absurd (cc)
  some-written (ask.GetList object) change some granted = absurd (cc)
  some-written (ask.Head object) change some granted = absurd (cc)
  some-written (ask.Children album) change some granted = absurd (cc)
  some-written (ask.AddPicture into title content) change some granted = omega arith
  some-written (ask.AddAlbum into title) change some granted = omega arith
  some-written (ask.AddGroup into members) change some granted = omega arith
  some-written (ask.Retitle object title) change some granted = omega arith
  some-written (ask.Replace object content) change some granted = omega arith
  some-written (ask.Delete object) change some granted = omega arith
  some-written (ask.Move object to) change some granted = omega arith
  some-written (ask.SetLists []) change some granted = absurd (some refl)
  some-written (ask.SetLists (new ∷ lists)) change some granted =
      let met : need_found basis (just new.object WRITE_ACL) ≡ Granted =
      need-met (need_found basis (just new.object WRITE_ACL))
      (needs_found basis (needs_of basis.seen (ask.SetLists lists))) granted
      in
      omega (
        arith,
        some-at new met,
        length-append (list_written basis.seen new) (flat_map (list_written basis.seen) lists),
      )
  some-written (ask.SetOwner object owner group) change some granted = omega arith
  some-written (ask.SetMembers object members) change some granted = omega arith
  some-written (ask.Share [] []) change some granted = absurd (some refl)
  some-written (ask.Share [] (new ∷ members)) change some granted = omega arith
  some-written (ask.Share (new ∷ lists) members) change some granted =
      let met : need_found basis (just new.object WRITE_ACL) ≡ Granted =
      need-met (need_found basis (just new.object WRITE_ACL))
      (needs_found basis (needs_of basis.seen (ask.Share lists members))) granted
      in
      omega (
        arith,
        some-at new met,
        length-append (list_written basis.seen new) (flat_map (list_written basis.seen) lists),
        length-append (list_written basis.seen new ++ flat_map (list_written basis.seen) lists)
            (map (members_written basis.seen) members),
      )

-- ---- the kinds of what is written

kept-title : (title : List ℕ) (v : Value) (code : ℕ) → is_of v code ≡ true → is_of (with_title title v) code ≡ true
kept-title title value.Missing code h = h
kept-title title (value.Picture x) code h = h
kept-title title (value.Album x) code h = h
kept-title title (value.List x) code h = h
kept-title title (value.Group x) code h = h

kept-content :
    (content : List ℕ) (v : Value) (code : ℕ) → is_of v code ≡ true → is_of (with_content content v) code ≡ true
kept-content content value.Missing code h = h
kept-content content (value.Picture x) code h = h
kept-content content (value.Album x) code h = h
kept-content content (value.List x) code h = h
kept-content content (value.Group x) code h = h

kept-home : (home : ℕ) (v : Value) (code : ℕ) → is_of v code ≡ true → is_of (with_home home v) code ≡ true
kept-home home value.Missing code h = h
kept-home home (value.Picture x) code h = h
kept-home home (value.Album x) code h = h
kept-home home (value.List x) code h = h
kept-home home (value.Group x) code h = h

kept-owner :
    (owner : List ℕ) (group : ℕ) (v : Value) (code : ℕ) → is_of v code ≡ true
    → is_of (with_owner owner group v) code ≡ true
kept-owner owner group value.Missing code h = h
kept-owner owner group (value.Picture x) code h = h
kept-owner owner group (value.Album x) code h = h
kept-owner owner group (value.List x) code h = h
kept-owner owner group (value.Group x) code h = h

kept-members :
    (members : List Member) (v : Value) (code : ℕ) → is_of v code ≡ true → is_of (with_members members v) code ≡ true
kept-members members value.Missing code h = h
kept-members members (value.Picture x) code h = h
kept-members members (value.Album x) code h = h
kept-members members (value.List x) code h = h
kept-members members (value.Group x) code h = h

kept-without : (child : ℕ) (v : Value) (code : ℕ) → is_of v code ≡ true → is_of (without_child child v) code ≡ true
kept-without child value.Missing code h = h
kept-without child (value.Picture x) code h = h
kept-without child (value.Album x) code h = h
kept-without child (value.List x) code h = h
kept-without child (value.Group x) code h = h

kept-child : (child : ℕ) (v : Value) (code : ℕ) → is_of v code ≡ true → is_of (with_child child v) code ≡ true
kept-child child value.Missing code h = h
kept-child child (value.Picture x) code h = h
kept-child child (value.Album x) code h = h
kept-child child (value.List x) code h = h
kept-child child (value.Group x) code h = h

own-code : (code number : ℕ) → code < 4 → (kind_of (item code number) == code) ≡ true
own-code code number small = eq-eqb (kind_of (item code number)) code (kind_of-item code number small)

one-right : (write : Write) → has_right_kind write ≡ true → list_all has_right_kind (write ∷ []) ≡ true
one-right write h = and_from (has_right_kind write) true h refl

all-right :
    (write : Write) (writes : List Write) → has_right_kind write ≡ true → list_all has_right_kind writes ≡ true
    → list_all has_right_kind (write ∷ writes) ≡ true
all-right write writes h rest = and_from (has_right_kind write) (list_all has_right_kind writes) h rest

both-right :
    (one other : List Write) → list_all has_right_kind one ≡ true → list_all has_right_kind other ≡ true
    → list_all has_right_kind (one ++ other) ≡ true
both-right [] other h k = k
both-right (write ∷ one) other h k =
    let parts = and_parts (has_right_kind write) (list_all has_right_kind one) h in
    all-right write (one ++ other) parts.0 (both-right one other parts.1 k)

module _
    (shown : ℕ → Value) (right : (item : ℕ) → is_of (shown item) (kind_of item) ≡ true) (p : Principal) (stamp : ℕ)
  where
    dropped-right : (object : ℕ) → list_all has_right_kind (list_dropped shown object) ≡ true
    dropped-right object = go (shown object)
      where
        go : (v : Value) → list_all has_right_kind (map (λ (item : ℕ). (item, value.Missing)) (list_of v)) ≡ true
        go value.Missing = refl
        go (value.Picture x) = refl
        go (value.Album x) = refl
        go (value.List x) = refl
        go (value.Group x) = refl

    taken-right : (object : ℕ) → list_all has_right_kind (taken_out shown object) ≡ true
    taken-right object = go (shown object)
      where
        out : (home : ℕ) → list_all has_right_kind ((home, without_child object (shown home)) ∷ []) ≡ true
        out home =
            one-right (home, without_child object (shown home))
            (kept-without object (shown home) (kind_of home) (right home))

        go :
            (v : Value)
            → list_all has_right_kind (map (λ (home : ℕ). (home, without_child object (shown home))) (home_of v)) ≡ true
        go value.Missing = refl
        go (value.Picture x) = out (album x.home)
        go (value.Album x) = refl
        go (value.List x) = refl
        go (value.Group x) = refl

    listed-right : (new : NewList) → list_all has_right_kind (list_written shown new) ≡ true
    listed-right new = go (shown new.object)
      where
        out : (number : ℕ) → list_all has_right_kind ((list number, value.List new.list) ∷ []) ≡ true
        out number = one-right (list number, value.List new.list) (own-code 2 number (omega arith))

        go : (v : Value) → list_all has_right_kind (map (λ (item : ℕ). (item, value.List new.list)) (list_of v)) ≡ true
        go value.Missing = refl
        go (value.Picture x) = out x.head.list
        go (value.Album x) = out x.head.list
        go (value.List x) = refl
        go (value.Group x) = out x.head.list

    lists-right : (lists : List NewList) → list_all has_right_kind (flat_map (list_written shown) lists) ≡ true
    lists-right [] = refl
    lists-right (new ∷ lists) =
        both-right (list_written shown new) (flat_map (list_written shown) lists) (listed-right new) (lists-right lists)

    groups-right : (members : List NewMembership) → list_all has_right_kind (map (members_written shown) members) ≡ true
    groups-right [] = refl
    groups-right (new ∷ members) =
        all-right (members_written shown new) (map (members_written shown) members)
        (kept-members new.members (shown new.object) (kind_of new.object) (right new.object)) (groups-right members)

    added-right :
        (into child : ℕ) (made heritage : Write) → has_right_kind made ≡ true → has_right_kind heritage ≡ true
        → list_all has_right_kind (made ∷ heritage ∷ (into, with_child child (shown into)) ∷ []) ≡ true
    added-right into child made heritage h k =
        all-right made (heritage ∷ (into, with_child child (shown into)) ∷ []) h
        (all-right heritage ((into, with_child child (shown into)) ∷ []) k
        (one-right (into, with_child child (shown into)) (kept-child child (shown into) (kind_of into) (right into))))

    written-right : (asked : Ask) → list_all has_right_kind (written shown p stamp asked) ≡ true
    written-right (ask.Read object) = refl
    written-right (ask.List object) = refl
    written-right (ask.GetList object) = refl
    written-right (ask.Head object) = refl
    written-right (ask.Children album) = refl
    written-right (ask.AddPicture into title content) =
        let made : Write = (
          picture stamp,
          value.Picture (record {
            title = title;
            content = content;
            head = new_head shown p stamp into;
            home = number_of into;
          }),
        )
        in
        let inherits : Write = (list stamp, value.List (heritage shown Plain into)) in
        added-right into (picture stamp) made inherits (own-code 0 stamp (omega arith)) (own-code 2 stamp (omega arith))
    written-right (ask.AddAlbum into title) =
        let made : Write = (
          album stamp,
          value.Album (record {
            title = title;
            head = new_head shown p stamp into;
            home = Some (number_of into);
            children = [];
          }),
        )
        in
        let inherits : Write = (list stamp, value.List (heritage shown Folder into)) in
        added-right into (album stamp) made inherits (own-code 1 stamp (omega arith)) (own-code 2 stamp (omega arith))
    written-right (ask.AddGroup into members) =
        let made : Write = (group stamp, value.Group (record { head = new_head shown p stamp into; members = members })) in
        let own : Write = (list stamp, value.List owners_list) in
        all-right made (own ∷ []) (own-code 3 stamp (omega arith)) (one-right own (own-code 2 stamp (omega arith)))
    written-right (ask.Retitle object title) =
        one-right (object, with_title title (shown object))
        (kept-title title (shown object) (kind_of object) (right object))
    written-right (ask.Replace object content) =
        one-right (object, with_content content (shown object))
        (kept-content content (shown object) (kind_of object) (right object))
    written-right (ask.Delete object) =
        all-right (object, value.Missing) (list_dropped shown object ++ taken_out shown object) refl
        (both-right (list_dropped shown object) (taken_out shown object) (dropped-right object) (taken-right object))
    written-right (ask.Move object to) =
        all-right (object, with_home (number_of to) (shown object))
        (taken_out shown object ++ (to, with_child object (shown to)) ∷ [])
        (kept-home (number_of to) (shown object) (kind_of object) (right object))
        (both-right (taken_out shown object) ((to, with_child object (shown to)) ∷ []) (taken-right object)
        (one-right (to, with_child object (shown to)) (kept-child object (shown to) (kind_of to) (right to))))
    written-right (ask.SetLists lists) = lists-right lists
    written-right (ask.SetOwner object owner group) =
        one-right (object, with_owner owner group (shown object))
        (kept-owner owner group (shown object) (kind_of object) (right object))
    written-right (ask.SetMembers object members) =
        one-right (object, with_members members (shown object))
        (kept-members members (shown object) (kind_of object) (right object))
    written-right (ask.Share lists members) =
        both-right (flat_map (list_written shown) lists) (map (members_written shown) members) (lists-right lists)
        (groups-right members)

-- ---- what is seen is of its item's kind

seen-right :
    (rows : List ReadVersion) (item : ℕ) → shows_right_kinds rows ≡ true → is_of (seen rows item) (kind_of item) ≡ true
unfolding seen
seen-right [] item right = refl
seen-right (row ∷ rows) item right =
    let parts = and_parts (is_of row.value (kind_of row.item)) (shows_right_kinds rows) right in
    go (row.item == item) refl parts.0 (seen-right rows item parts.1)
  where
    go :
        (b : Bool) → (row.item == item) ≡ b → is_of row.value (kind_of row.item) ≡ true
        → is_of (seen rows item) (kind_of item) ≡ true
        → is_of (option_map_or (λ (version : ℕ × Value). version.1)
        (option_map version_of (cond b (Some row) (find (λ answer. answer.item == item) rows))) value.Missing)
        (kind_of item) ≡ true
    go true same own rest =
        subst (λ (i : ℕ). is_of row.value (kind_of i) ≡ true) (eqb-true row.item item same) own
    go false same own rest = rest

-- ---- the law

pub no-flaw-of : (asked : Ask) (p : Principal) → refusal_of asked p ≡ None → flaw_of asked ≡ None
no-flaw-of asked p e = go (flaw_of asked) refl
  where
    go : (o : Option Refusal) → flaw_of asked ≡ o → flaw_of asked ≡ None
    go None same = same
    go (Some flaw) same =
        absurd (some-none (sym (ap (λ (z : Option Refusal). or_else z (owner_flaw asked p)) same) ∙ e))
      where
        some-none : Some flaw ≡ None → ⊥
        some-none q = absurd (cc)

pub effect_items :
    (permit : PermitState) (stamp : ℕ) → IsPermit permit → IsTrue (is_write permit.view.ask)
    → IsTrue (are_items (items_written (effect_of permit stamp)))
effect_items permit stamp kept change =
    let asked = permit.view.ask in
    let shown = seen permit.view.rows in
    let flawless = no-flaw-of asked permit.principal kept.taken in
    let ws = written shown permit.principal stamp asked in
    let some : 1 ≤ length ws =
    subst (λ (s : ℕ → Value). 1 ≤ length (written s permit.principal stamp asked)) kept.based.shown
    (some-written kept.basis permit.principal stamp asked change (asks_objects asked flawless).0 kept.granted)
    in
    let few : length ws ≤ 16 = few-written shown permit.principal stamp asked (named_few asked flawless) in
    counted (merged ws) (some-merged ws some) (omega (arith, few, few-fold ws [])) (single-fold ws [] refl)
  where
    counted :
        (vs : List Write) → 1 ≤ length vs → length vs ≤ 16 → are_distinct (items_written vs) ≡ true
        → are_items (items_written vs) ≡ true
    counted vs some few single =
        let same : length (items_written vs) ≡ length vs = length-map vs (λ (write : Write). write.0) in
        and_from (not (length (items_written vs) == 0) && nat_le (length (items_written vs)) 16)
        (are_distinct (items_written vs))
        (and_from (not (length (items_written vs) == 0)) (nat_le (length (items_written vs)) 16)
        (not_from_false (length (items_written vs) == 0)
        (ne_eqb (length (items_written vs)) 0 (λ none. absurd (omega (arith, some, same, none)))))
        (le-leb (length (items_written vs)) 16 (omega (arith, few, same))))
        single

pub effect_kinds :
    (permit : PermitState) (stamp : ℕ) → IsTrue (shows_right_kinds permit.view.rows)
    → IsTrue (list_all has_right_kind (effect_of permit stamp))
effect_kinds permit stamp right =
    kinds-fold (written (seen permit.view.rows) permit.principal stamp permit.view.ask) [] refl
    (written-right (seen permit.view.rows) (λ item. seen-right permit.view.rows item right) permit.principal stamp
    permit.view.ask)
