-- The groups found so far, and those on the worklist, for the proof of `groups_of`. The main lemma is `all_found`.
use Rattle.std.proofs.Common.{◌≡◌, ◌≤◌, ◌<◌, ◌+◌, ◌++◌, ◌⊎◌, ◌↔◌, ℕ, zero, suc, List, [], ◌∷◌, Bool, true, false, cond, Some, Vec, Global, Contains, length, refl, sym, ◌∙◌, ap, subst, arith, inl, inr}
use Rattle.std.specs.List.{slice_get}
use Rattle.std.specs.Ordering.{nat_cmp}
use Rattle.std.specs.BTreeMap.{is_at}
use Rattle.std.specs.Cmp.{Equal-is}
use Rattle.std.proofs.lemmas.Bool.{cases_Bool, cases_eq, both_ways}
use Rattle.std.proofs.lemmas.Option.{slice_get-get_or, slice_get_within, get_or_from_slice_get}
use Rattle.std.proofs.lemmas.List.Elements.{Contains-append_left, Contains-append_right, Contains-append_cases, Contains-push, Contains-push_cases}
use Rattle.std.proofs.lemmas.Map.Lookups.{exact_unsigned}
use Rattle.album_lists.specs.declared.whos.Member.{Member}
use Rattle.album_lists.specs.declared.whos.Member.TheVariants.{User, Group}
use Rattle.album_eval.specs.Groups.{IsIn, by_name, by_group}

pub same_key : (k q : ℕ) → is_at (nat_cmp k) q ≡ true → k ≡ q
same_key k q e = exact_unsigned k q ((Equal-is (nat_cmp k q)).0 e)

-- ---- one group more in a set

-- what is asked of the set after a group was inserted
pub record Inserts (old new : ℕ → Bool) (group : ℕ) : Type 0 where
  pub stays : (q : ℕ) → old q ≡ true → new q ≡ true
  pub comes : new group ≡ true
  pub only : (q : ℕ) → new q ≡ true → (group ≡ q) ⊎ (old q ≡ true)

pub inserts_from_updates : (old new : ℕ → Bool) (group : ℕ) → ((q : ℕ) → new q ≡ cond (is_at (nat_cmp group) q) true (old q)) → new group ≡ true → Inserts old new group
inserts_from_updates old new group updates now = record {
  stays = λ q was. elim (cases_Bool (is_at (nat_cmp group) q)) [ inl here ↦ (let u = updates q in rw here at u) | inr other ↦ (let u : new q ≡ old q = rw other at (updates q) in u ∙ was) ];
  comes = now;
  only = λ q is. elim (cases_Bool (is_at (nat_cmp group) q)) [ inl here ↦ inl (same_key group q here) | inr other ↦ (let u : new q ≡ old q = rw other at (updates q) in inr (sym u ∙ is)) ];
}

looked_more : (old new : ℕ → Bool) (other : ℕ) (others : List ℕ) (n : ℕ) → Inserts old new other → slice_get others n ≡ Some other → ((k group : ℕ) → k < n → slice_get others k ≡ Some group → old group ≡ true) → (k group : ℕ) → k < n + 1 → slice_get others k ≡ Some group → new group ≡ true
looked_more old new other others n inserts at looked k group l here = elim (cases_eq k n) [ inl same ↦ (let is : other ≡ group = cc (at, here, same) in subst (λ (q : ℕ). new q ≡ true) is inserts.comes) | inr before ↦ inserts.stays group (looked k group (omega (arith, l, before)) here) ]

-- the set has only groups of the list, and all of those before an index
pub record Holds (found : ℕ → Bool) (numbers : List ℕ) (n : ℕ) : Type 0 where
  pub only : (q : ℕ) → found q ≡ true → Contains numbers q
  pub each : (k q : ℕ) → k < n → slice_get numbers k ≡ Some q → found q ≡ true

pub none_held : (found : ℕ → Bool) (numbers : List ℕ) → ((q : ℕ) → found q ≡ false) → Holds found numbers 0
none_held found numbers none = record { only = λ q is. absurd (both_ways (found q) (none q) is); each = λ k q l at. absurd (omega (arith, l)) }

pub held_more : (old new : ℕ → Bool) (numbers : List ℕ) (n q : ℕ) → slice_get numbers n ≡ Some q → Inserts old new q → Holds old numbers n → Holds new numbers (n + 1)
held_more old new numbers n q at inserts h = record {
  only = λ p is. (elim (inserts.only p is) [ inl same ↦ subst (λ (m : ℕ). Contains numbers m) same (n, slice_get_within numbers n q at, get_or_from_slice_get numbers n q q at) | inr was ↦ h.only p was ]);
  each = looked_more old new q numbers n inserts at h.each;
}

pub all_held : (found : ℕ → Bool) (numbers : List ℕ) (n : ℕ) → length numbers ≤ n → Holds found numbers n → (q : ℕ) → Contains numbers q → found q ≡ true
all_held found numbers n end h q has = h.each has.0 q (let l = has.1 in omega (arith, l, end)) (slice_get-get_or numbers has.0 q has.1 ∙ ap (λ (m : ℕ). Some m) has.2)

-- ---- the search

-- each group found has the user in it, and is closed but for those on the worklist: the groups that list those may be missing
pub record Searched (listed : ℕ → List Member) (user : List ℕ) (found : ℕ → Bool) (worklist : List ℕ) : Type 0 where
  pub sound : (group : ℕ) → found group ≡ true → IsIn listed user group
  pub kept : (group : ℕ) → Contains worklist group → found group ≡ true
  pub named : (group : ℕ) → Contains (listed group) (User user) → found group ≡ true
  pub closed : (group inner : ℕ) → Contains (listed group) (Group inner) → found inner ≡ true → (found group ≡ true) ⊎ Contains worklist inner

found_from_in : (listed : ℕ → List Member) (user : List ℕ) (found : ℕ → Bool) (worklist : List ℕ) → length worklist ≡ 0 → Searched listed user found worklist → (group : ℕ) → IsIn listed user group → found group ≡ true
found_from_in listed user found worklist none s group (by_name g lists) = s.named g lists
found_from_in listed user found worklist none s group (by_group g inner lists is) = elim (s.closed g inner lists (found_from_in listed user found worklist none s inner is)) [ inl there ↦ there | inr on ↦ (let l = on.1 in absurd (omega (arith, none, l))) ]

-- with nothing on the worklist, the set is exact
pub all_found : (listed : ℕ → List Member) (user : List ℕ) (found : ℕ → Bool) (worklist : List ℕ) → length worklist ≡ 0 → Searched listed user found worklist → (group : ℕ) → (found group ≡ true) ↔ IsIn listed user group
all_found listed user found worklist none s group = (s.sound group, found_from_in listed user found worklist none s group)

-- at the start: the groups that list the user by name, all of them on the worklist
pub at_start : (listed : ℕ → List Member) (user : List ℕ) (found : ℕ → Bool) (worklist : List ℕ) → ((group : ℕ) → Contains worklist group → Contains (listed group) (User user)) → ((group : ℕ) → Contains (listed group) (User user) → Contains worklist group) → ((group : ℕ) → found group ≡ true → Contains worklist group) → ((group : ℕ) → Contains worklist group → found group ≡ true) → Searched listed user found worklist
at_start listed user found worklist lists listing only each = record {
  sound = λ group is. by_name group (lists group (only group is));
  kept = each;
  named = λ group names. each group (listing group names);
  closed = λ group inner names is. inr (only inner is);
}

-- the same with the worklist in another order
same_worklist : (listed : ℕ → List Member) (user : List ℕ) (found : ℕ → Bool) (old new : List ℕ) → ((q : ℕ) → Contains old q → Contains new q) → ((q : ℕ) → Contains new q → Contains old q) → Searched listed user found old → Searched listed user found new
same_worklist listed user found old new to from s = record {
  sound = s.sound;
  kept = λ group on. s.kept group (from group on);
  named = s.named;
  closed = λ group inner lists is. (elim (s.closed group inner lists is) [ inl there ↦ inl there | inr on ↦ inr (to inner on) ]);
}

-- one group more is found, and is on the worklist where it is new
searched_more : (listed : ℕ → List Member) (user : List ℕ) (old new : ℕ → Bool) (worklist more : List ℕ) (other : ℕ) → Inserts old new other → IsIn listed user other → ((q : ℕ) → Contains worklist q → Contains more q) → ((q : ℕ) → Contains more q → Contains worklist q ⊎ (other ≡ q)) → (Contains more other ⊎ (old other ≡ true)) → Searched listed user old worklist → Searched listed user new more
searched_more listed user old new worklist more other inserts is to from here s = record {
  sound = λ group there. (elim (inserts.only group there) [ inl same ↦ subst (λ (n : ℕ). IsIn listed user n) same is | inr was ↦ s.sound group was ]);
  kept = λ group on. (elim (from group on) [ inl was ↦ inserts.stays group (s.kept group was) | inr same ↦ subst (λ (n : ℕ). new n ≡ true) same inserts.comes ]);
  named = λ group lists. inserts.stays group (s.named group lists);
  closed = λ group inner lists there. (elim (inserts.only inner there) [ inl same ↦ (elim here [ inl on ↦ inr (subst (λ (n : ℕ). Contains more n) same on) | inr was ↦ go group inner lists (subst (λ (n : ℕ). old n ≡ true) same was) ]) | inr was ↦ go group inner lists was ]);
}
  where
    go : (group inner : ℕ) → Contains (listed group) (Group inner) → old inner ≡ true → (new group ≡ true) ⊎ Contains more inner
    go group inner lists was = elim (s.closed group inner lists was) [ inl there ↦ inl (inserts.stays group there) | inr on ↦ inr (to inner on) ]

-- ---- the groups that list one taken from the worklist

-- the groups that list it are found up to an index
pub record Looking (listed : ℕ → List Member) (user : List ℕ) (found : ℕ → Bool) (worklist : List ℕ) (inner : ℕ) (others : List ℕ) (n : ℕ) : Type 0 where
  pub searched : Searched listed user found (inner ∷ worklist)
  pub looked : (k group : ℕ) → k < n → slice_get others k ≡ Some group → found group ≡ true

pub looks : (listed : ℕ → List Member) (user : List ℕ) (found : ℕ → Bool) (before worklist : List ℕ) (inner : ℕ) (others : List ℕ) → before ≡ worklist ++ inner ∷ [] → Searched listed user found before → Looking listed user found worklist inner others 0
looks listed user found before worklist inner others last s = record {
  searched = same_worklist listed user found before (inner ∷ worklist) to from s;
  looked = λ k group l at. absurd (omega (arith, l));
}
  where
    to : (q : ℕ) → Contains before q → Contains (inner ∷ worklist) q
    to q on = elim (Contains-append_cases worklist (inner ∷ []) q (rw last at on)) [ inl was ↦ Contains-append_right (inner ∷ []) worklist q was | inr now ↦ Contains-append_left (inner ∷ []) worklist q now ]

    from : (q : ℕ) → Contains (inner ∷ worklist) q → Contains before q
    from q on = rw last (elim (Contains-append_cases (inner ∷ []) worklist q on) [ inl now ↦ Contains-append_right worklist (inner ∷ []) q now | inr was ↦ Contains-append_left worklist (inner ∷ []) q was ])

-- the next was found before
pub found_before : (listed : ℕ → List Member) (user : List ℕ) (old new : ℕ → Bool) (worklist : List ℕ) (inner other : ℕ) (others : List ℕ) (n : ℕ) → Inserts old new other → Contains (listed other) (Group inner) → slice_get others n ≡ Some other → old other ≡ true → Looking listed user old worklist inner others n → Looking listed user new worklist inner others (n + 1)
found_before listed user old new worklist inner other others n inserts lists at was look = record {
  searched = searched_more listed user old new (inner ∷ worklist) (inner ∷ worklist) other inserts (look.searched.sound other was) (λ q on. on) (λ q on. inl on) (inr was) look.searched;
  looked = looked_more old new other others n inserts at look.looked;
}

-- the next is found now
pub found_now : (listed : ℕ → List Member) (user : List ℕ) (old new : ℕ → Bool) (worklist more : List ℕ) (inner other : ℕ) (others : List ℕ) (n : ℕ) → Inserts old new other → Contains (listed other) (Group inner) → slice_get others n ≡ Some other → more ≡ worklist ++ other ∷ [] → Looking listed user old worklist inner others n → Looking listed user new more inner others (n + 1)
found_now listed user old new worklist more inner other others n inserts lists at pushed look = record {
  searched = rw pushed (searched_more listed user old new (inner ∷ worklist) (inner ∷ worklist ++ other ∷ []) other inserts (by_group other inner lists (look.searched.sound inner (look.searched.kept inner (0, omega arith, refl)))) (Contains-append_left (inner ∷ worklist) (other ∷ [])) (λ q on. Contains-push_cases (inner ∷ worklist) other q on) (inl (Contains-push (inner ∷ worklist) other)) look.searched);
  looked = looked_more old new other others n inserts at look.looked;
}

-- all of them are found
pub looked_through : (listed : ℕ → List Member) (user : List ℕ) (found : ℕ → Bool) (worklist : List ℕ) (inner : ℕ) (others : List ℕ) (n : ℕ) → length others ≤ n → ((group : ℕ) → Contains (listed group) (Group inner) → Contains others group) → Looking listed user found worklist inner others n → Searched listed user found worklist
looked_through listed user found worklist inner others n end listing look = record {
  sound = look.searched.sound;
  kept = λ group on. look.searched.kept group (Contains-append_right (inner ∷ []) worklist group on);
  named = look.searched.named;
  closed = λ group q lists is. (elim (look.searched.closed group q lists is) [ inl there ↦ inl there | inr on ↦ (elim (Contains-append_cases (inner ∷ []) worklist q on) [ inl now ↦ inl (there group (subst (λ (m : ℕ). Contains (listed group) (Group m)) (sym (only_one q now)) lists)) | inr was ↦ inr was ]) ]);
}
  where
    only_one : (q : ℕ) → Contains (inner ∷ []) q → inner ≡ q
    only_one q on = elim (Contains-push_cases [] inner q on) [ inl none ↦ absurd (omega (arith, none.1)) | inr same ↦ same ]

    there : (group : ℕ) → Contains (listed group) (Group inner) → found group ≡ true
    there group lists = let at = listing group lists in look.looked at.0 group (let l = at.1 in omega (arith, l, end)) (slice_get-get_or others at.0 group at.1 ∙ ap (λ (m : ℕ). Some m) at.2)

-- ---- how far there is to go

-- how many groups of the map aren't found
pub missing : (ℕ → Bool) → List (ℕ × Vec Member Global) → ℕ
missing found [] = 0
missing found (e ∷ es) = cond (found e.0) (missing found es) (suc (missing found es))

pub missing_le : (old new : ℕ → Bool) → ((q : ℕ) → old q ≡ true → new q ≡ true) → (es : List (ℕ × Vec Member Global)) → missing new es ≤ missing old es
unfolding missing
missing_le old new more [] = omega arith
missing_le old new more (e ∷ es) = go (old e.0) (new e.0) (more e.0) (missing_le old new more es)
  where
    go : (a b : Bool) → (a ≡ true → b ≡ true) → missing new es ≤ missing old es → cond b (missing new es) (suc (missing new es)) ≤ cond a (missing old es) (suc (missing old es))
    go true true h rest = rest
    go true false h rest = let wrong = h refl in absurd (cc)
    go false true h rest = omega (arith, rest)
    go false false h rest = omega (arith, rest)

-- with one more that is in the map, fewer are missing
pub missing_lt : (old new : ℕ → Bool) → ((q : ℕ) → old q ≡ true → new q ≡ true) → (k : ℕ) → old k ≡ false → new k ≡ true → (es : List (ℕ × Vec Member Global)) (i : ℕ) (v : Vec Member Global) → slice_get es i ≡ Some (k, v) → missing new es < missing old es
unfolding missing
missing_lt old new more k was now [] i v at = absurd (cc)
missing_lt old new more k was now (e ∷ es) zero v at =
    let same : e ≡ (k, v) = cc in
    let before : old e.0 ≡ false = ap (λ (p : ℕ × Vec Member Global). old p.0) same ∙ was in
    let after : new e.0 ≡ true = ap (λ (p : ℕ × Vec Member Global). new p.0) same ∙ now in
    rw (before, after) (let rest = missing_le old new more es in omega (arith, rest))
missing_lt old new more k was now (e ∷ es) (suc i) v at = go (old e.0) (new e.0) (more e.0) (missing_lt old new more k was now es i v at)
  where
    go : (a b : Bool) → (a ≡ true → b ≡ true) → missing new es < missing old es → cond b (missing new es) (suc (missing new es)) < cond a (missing old es) (suc (missing old es))
    go true true h rest = rest
    go true false h rest = let wrong = h refl in absurd (cc)
    go false true h rest = omega (arith, rest)
    go false false h rest = omega (arith, rest)
