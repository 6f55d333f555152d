-- The groups that list a user, and those that list a group, for the proofs of `groups_by_name` and `outer_groups`.
use Rattle.std.proofs.Common.{◌≡◌, ◌≤◌, ◌<◌, ◌+◌, ◌==◌, ◌++◌, ◌↔◌, ◌⊎◌, ℕ, zero, suc, List, [], ◌∷◌, Bool, true, false, cond, Option, Some, None, Result, Ok, Err, IfOk, Vec, Global, Contains, filter, map, length, refl, sym, ◌∙◌, ap, subst, arith, inl, inr}
use Rattle.std.specs.List.{list_any, slice_get}
use Rattle.std.specs.Ordering.{nat_cmp}
use Rattle.std.specs.BTreeMap as tree
use Rattle.std.specs.declared.alloc.AllocError.{AllocError}
use Rattle.std.specs.BTreeMap.{BTreeMap, is_at}
use Rattle.std.proofs.lemmas.Bool.{cases_eq, or_cases, eqb-true, eq-eqb}
use Rattle.std.proofs.lemmas.Cmp.{nat_cmp_total}
use Rattle.std.proofs.lemmas.List.Elements.{Contains-append_left, Contains-append_right, Contains-append_cases, Contains-push, Contains-push_cases}
use Rattle.std.proofs.lemmas.List.Folds.{list_any_at}
use Rattle.std.proofs.lemmas.Map.Entries.{place_from_lookup, btree_map_get_place}
use Rattle.std.proofs.lemmas.Option.{slice_get-get_or, slice_get_within, get_or_from_slice_get}
use Rattle.std.proofs.lemmas.Slice.Eq.{bytes_eq-Decides}
use Rattle.album_lists.specs.declared.whos.Member.{Member}
use Rattle.album_lists.specs.declared.whos.Member.TheVariants.{User, Group}
use Rattle.album_eval.specs.Groups.{names_user, members_found, listed_in}
use Rattle.album_eval.proofs.Finding.{same_key, Inserts, missing, missing_lt}

abbrev pub Entry : Type 0
Entry = ℕ × Vec Member Global

abbrev Groups : Type 0
Groups = BTreeMap ℕ (Vec Member Global)

-- ---- entries of a map, by their places

-- the group at a place of the map lists the members there
pub listed_at : (groups : Groups) (k group : ℕ) (v : Vec Member Global) → tree.IsOrdered nat_cmp groups → slice_get groups.entries k ≡ Some (group, v) → listed_in groups group ≡ v.items
listed_at groups k group v ordered at = ap members_found (btree_map_get_place nat_cmp_total groups k group v ordered at)

-- a group that lists a member has a place
pub place_of : (groups : Groups) (group : ℕ) (m : Member) → Contains (listed_in groups group) m → (k : ℕ) × (v : Vec Member Global) × (slice_get groups.entries k ≡ Some (group, v)) × Contains v.items m
place_of groups group m = go (tree.get nat_cmp groups group) refl
  where
    go : (o : Option (Vec Member Global)) → tree.get nat_cmp groups group ≡ o → Contains (members_found o) m → (k : ℕ) × (v : Vec Member Global) × (slice_get groups.entries k ≡ Some (group, v)) × Contains v.items m
    go None e lists = absurd (omega (arith, lists.1))
    go (Some v) e lists =
        let p = place_from_lookup (is_at (nat_cmp group)) groups.entries v e in
        (p.0, v, subst (λ (n : ℕ). slice_get groups.entries p.0 ≡ Some (n, v)) (sym (same_key group p.1 p.3)) p.2, lists)

at_from_contains : {X : Type 0} (xs : List X) (x : X) → Contains xs x → (k : ℕ) × (k < length xs) × (slice_get xs k ≡ Some x)
at_from_contains {X} xs x c = (c.0, c.1, slice_get-get_or xs c.0 x c.1 ∙ ap (λ (y : X). Some y) c.2)

contains_from_at : {X : Type 0} (xs : List X) (k : ℕ) (x : X) → slice_get xs k ≡ Some x → Contains xs x
contains_from_at xs k x at = (k, slice_get_within xs k x at, get_or_from_slice_get xs k x x at)

-- with a group that is new and lists a member, fewer are missing
pub fewer_missing : (groups : Groups) (old new : ℕ → Bool) (group : ℕ) (m : Member) → Contains (listed_in groups group) m → old group ≡ false → Inserts old new group → missing new groups.entries < missing old groups.entries
fewer_missing groups old new group m lists was inserts = let p = place_of groups group m lists in missing_lt old new inserts.stays group was inserts.comes groups.entries p.0 p.1 p.2

-- ---- the user's groups by name

named_at : (user : List ℕ) (members : List Member) → list_any (names_user user) members ≡ true → Contains members (User user)
named_at user [] e = absurd (cc)
named_at user (m ∷ members) e = elim (or_cases (names_user user m) (list_any (names_user user) members) e) [ inl here ↦ (0, omega arith, sym (same m here)) | inr later ↦ Contains-append_right (m ∷ []) members (User user) (named_at user members later) ]
  where
    same : (m : Member) → names_user user m ≡ true → User user ≡ m
    same (User name) is = ap (λ (n : List ℕ). User n) (sym ((bytes_eq-Decides name user).0 is))
    same (Group number) is = absurd (cc)

any_named : (user : List ℕ) (members : List Member) → Contains members (User user) → list_any (names_user user) members ≡ true
any_named user members c = list_any_at (names_user user) members c.0 (User user) c.1 (ap (names_user user) c.2 ∙ (bytes_eq-Decides user user).1 refl)

key_of_kept : (p : Entry → Bool) (es : List Entry) (group : ℕ) → Contains (map (λ e. e.0) (filter p es)) group → (k : ℕ) × (v : Vec Member Global) × (slice_get es k ≡ Some (group, v)) × (p (group, v) ≡ true)
key_of_kept p [] group c = absurd (omega (arith, c.1))
key_of_kept p (e ∷ es) group c = go (p e) refl (key_of_kept p es group) c
  where
    go : (b : Bool) → p e ≡ b → (Contains (map (λ e. e.0) (filter p es)) group → (k : ℕ) × (v : Vec Member Global) × (slice_get es k ≡ Some (group, v)) × (p (group, v) ≡ true)) → Contains (map (λ e. e.0) (cond b (e ∷ filter p es) (filter p es))) group → (k : ℕ) × (v : Vec Member Global) × (slice_get (e ∷ es) k ≡ Some (group, v)) × (p (group, v) ≡ true)
    go false is rest c = let r = rest c in (suc r.0, r.1, r.2, r.3)
    go true is rest c = elim (Contains-append_cases (e.0 ∷ []) (map (λ e. e.0) (filter p es)) group c) [ inl here ↦ first here | inr later ↦ (let r = rest later in (suc r.0, r.1, r.2, r.3)) ]
      where
        first : Contains (e.0 ∷ []) group → (k : ℕ) × (v : Vec Member Global) × (slice_get (e ∷ es) k ≡ Some (group, v)) × (p (group, v) ≡ true)
        first here = elim (Contains-push_cases [] e.0 group here) [ inl none ↦ absurd (omega (arith, none.1)) | inr same ↦ (0, e.1, ap (λ (n : ℕ). Some (n, e.1)) same, ap (λ (n : ℕ). p (n, e.1)) (sym same) ∙ is) ]

kept_by_key : (p : Entry → Bool) (es : List Entry) (k group : ℕ) (v : Vec Member Global) → slice_get es k ≡ Some (group, v) → p (group, v) ≡ true → Contains (map (λ e. e.0) (filter p es)) group
kept_by_key p [] k group v at is = absurd (cc)
kept_by_key p (e ∷ es) zero group v at is = let same : e ≡ (group, v) = cc in rw (same, is) (0, omega arith, refl)
kept_by_key p (e ∷ es) (suc k) group v at is = go (p e) (kept_by_key p es k group v at is)
  where
    go : (b : Bool) → Contains (map (λ e. e.0) (filter p es)) group → Contains (map (λ e. e.0) (cond b (e ∷ filter p es) (filter p es))) group
    go false c = c
    go true c = Contains-append_right (e.0 ∷ []) (map (λ e. e.0) (filter p es)) group c

abbrev pub lists_user : List ℕ → Entry → Bool
lists_user user e = list_any (names_user user) e.1.items

pub groups_by_name : (groups : Groups) (user numbers : List ℕ) → tree.IsOrdered nat_cmp groups → numbers ≡ map (λ e. e.0) (filter (lists_user user) groups.entries) → (group : ℕ) → Contains numbers group ↔ Contains (listed_in groups group) (User user)
groups_by_name groups user numbers ordered are group = (to, from)
  where
    to : Contains numbers group → Contains (listed_in groups group) (User user)
    to c = let k = key_of_kept (lists_user user) groups.entries group (rw are at c) in rw (listed_at groups k.0 group k.1 ordered k.2) (named_at user k.1.items k.3)

    from : Contains (listed_in groups group) (User user) → Contains numbers group
    from c = let p = place_of groups group (User user) c in rw are (kept_by_key (lists_user user) groups.entries p.0 group p.1 p.2 (any_named user p.1.items p.3))

-- the same of what a call gives, unless memory ran out
pub by_result : (groups : Groups) (user : List ℕ) (result : Result (Vec ℕ Global) AllocError) → tree.IsOrdered nat_cmp groups → IfOk result (λ w. w.items ≡ map (λ e. e.0) (filter (lists_user user) groups.entries)) → IfOk result (λ numbers. (group : ℕ) → Contains numbers.items group ↔ Contains (listed_in groups group) (User user))
by_result groups user (Ok numbers) ordered are = groups_by_name groups user numbers.items ordered are
by_result groups user (Err e) ordered are = tt

-- ---- the map turned round: for each inner group those that list it

-- what the turned map has is listed, and it has what the entries before an index list
pub record Turned (groups : Groups) (outer : ℕ → List ℕ) (n : ℕ) : Type 0 where
  pub sound : (inner group : ℕ) → Contains (outer inner) group → Contains (listed_in groups group) (Group inner)
  pub whole : (k group : ℕ) (v : Vec Member Global) → k < n → slice_get groups.entries k ≡ Some (group, v) → (inner : ℕ) → Contains v.items (Group inner) → Contains (outer inner) group

-- the same after the members before an index of the next group
pub record Grown (old new : ℕ → List ℕ) (number : ℕ) (members : List Member) (i : ℕ) : Type 0 where
  pub stays : (inner group : ℕ) → Contains (old inner) group → Contains (new inner) group
  pub only : (inner group : ℕ) → Contains (new inner) group → Contains (old inner) group ⊎ ((number ≡ group) × Contains members (Group inner))
  pub comes : (k inner : ℕ) → k < i → slice_get members k ≡ Some (Group inner) → Contains (new inner) number

pub none_turned : (groups : Groups) (outer : ℕ → List ℕ) → ((inner : ℕ) → outer inner ≡ []) → Turned groups outer 0
none_turned groups outer none = record {
  sound = λ inner group has. (let c = rw (none inner) at has in absurd (omega (arith, c.1)));
  whole = λ k group v l. absurd (omega (arith, l));
}

pub none_grown : (old : ℕ → List ℕ) (number : ℕ) (members : List Member) → Grown old old number members 0
none_grown old number members = record {
  stays = λ inner group has. has;
  only = λ inner group has. inl has;
  comes = λ k inner l at. absurd (omega (arith, l));
}

-- an inner group has one outer group more
pub outer_more : (old outer new : ℕ → List ℕ) (number : ℕ) (members : List Member) (i inner : ℕ) → slice_get members i ≡ Some (Group inner) → ((q : ℕ) → new q ≡ cond (inner == q) (outer q ++ number ∷ []) (outer q)) → Grown old outer number members i → Grown old new number members (i + 1)
outer_more old outer new number members i inner at adds g = record {
  stays = λ q group has. stays q group (g.stays q group has);
  only = λ q group has. (elim (only q group has) [ inl was ↦ g.only q group was | inr now ↦ inr (now.1, subst (λ (m : ℕ). Contains members (Group m)) now.0 (contains_from_at members i (Group inner) at)) ]);
  comes = λ k q l here. (elim (cases_eq k i) [ inl same ↦ comes q (let is : Group inner ≡ Group q = cc (at, here, same) in cc) | inr before ↦ stays q number (g.comes k q (omega (arith, l, before)) here) ]);
}
  where
    stays : (q group : ℕ) → Contains (outer q) group → Contains (new q) group
    stays q group has = rw (adds q) (go (inner == q))
      where
        go : (b : Bool) → Contains (cond b (outer q ++ number ∷ []) (outer q)) group
        go true = Contains-append_left (outer q) (number ∷ []) group has
        go false = has

    comes : (q : ℕ) → inner ≡ q → Contains (new q) number
    comes q same = rw (adds q, eq-eqb inner q same) (Contains-push (outer q) number)

    only : (q group : ℕ) → Contains (new q) group → Contains (outer q) group ⊎ ((inner ≡ q) × (number ≡ group))
    only q group has = go (inner == q) refl (rw (adds q) at has)
      where
        go : (b : Bool) → (inner == q) ≡ b → Contains (cond b (outer q ++ number ∷ []) (outer q)) group → Contains (outer q) group ⊎ ((inner ≡ q) × (number ≡ group))
        go true is c = elim (Contains-push_cases (outer q) number group c) [ inl was ↦ inl was | inr now ↦ inr (eqb-true inner q is, now) ]
        go false is c = inl c

-- a member that is a user has no outer groups
pub outer_same : (old outer : ℕ → List ℕ) (number : ℕ) (members : List Member) (i : ℕ) (name : List ℕ) → slice_get members i ≡ Some (User name) → Grown old outer number members i → Grown old outer number members (i + 1)
outer_same old outer number members i name at g = record {
  stays = g.stays;
  only = g.only;
  comes = λ k q l here. (elim (cases_eq k i) [ inl same ↦ absurd (cc (at, here, same)) | inr before ↦ g.comes k q (omega (arith, l, before)) here ]);
}

-- all members of the group are taken in
pub turned_more : (groups : Groups) (old new : ℕ → List ℕ) (n number : ℕ) (v : Vec Member Global) (i : ℕ) → tree.IsOrdered nat_cmp groups → slice_get groups.entries n ≡ Some (number, v) → length v.items ≤ i → Grown old new number v.items i → Turned groups old n → Turned groups new (n + 1)
turned_more groups old new n number v i ordered at end g t = record {
  sound = λ inner group has. (elim (g.only inner group has) [ inl was ↦ t.sound inner group was | inr now ↦ subst (λ (m : ℕ). Contains (listed_in groups m) (Group inner)) now.0 (rw (listed_at groups n number v ordered at) now.1) ]);
  whole = λ k group w l here inner has. (elim (cases_eq k n) [ inl same ↦ go k group w inner here same (at_from_contains w.items (Group inner) has) | inr before ↦ g.stays inner group (t.whole k group w (omega (arith, l, before)) here inner has) ]);
}
  where
    go : (k group : ℕ) (w : Vec Member Global) (inner : ℕ) → slice_get groups.entries k ≡ Some (group, w) → k ≡ n → (j : ℕ) × (j < length w.items) × (slice_get w.items j ≡ Some (Group inner)) → Contains (new inner) group
    go k group w inner here same c =
        let pair : (number, v) ≡ (group, w) = cc (at, here, same) in
        let number_is : number ≡ group = ap (λ (e : Entry). e.0) pair in
        let items_are : v.items ≡ w.items = ap (λ (e : Entry). e.1.items) pair in
        let l = c.1 in
        rw (← number_is) (g.comes c.0 inner (let few : length w.items ≤ i = rw items_are at end in omega (arith, few, l)) (rw items_are c.2))

-- all groups are turned round
pub all_turned : (groups : Groups) (outer : ℕ → List ℕ) (n : ℕ) → length groups.entries ≤ n → Turned groups outer n → (inner group : ℕ) → Contains (outer inner) group ↔ Contains (listed_in groups group) (Group inner)
all_turned groups outer n end t inner group = (t.sound inner group, from)
  where
    from : Contains (listed_in groups group) (Group inner) → Contains (outer inner) group
    from c = let p = place_of groups group (Group inner) c in t.whole p.0 group p.1 (let l = slice_get_within groups.entries p.0 (group, p.1) p.2 in omega (arith, l, end)) p.2 inner p.3
