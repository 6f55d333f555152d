-- Where items are placed, what writes have for them, who voted, and the stamps of answers.
use Rattle.std.proofs.Common.{◌≡◌, ℕ, ◌<◌, ◌+◌, Bool, true, false, cond, not, eqb, ◌==◌, nat_lt, List, [], ◌∷◌, filter, Option, Some, None, ◌⊎◌, inl, inr, ⊎_elim, sym, ap, ◌∙◌, subst, refl, arith, true≢false, eqb-true, eq-eqb, mod-lt, if◌then◌else◌}
use Rattle.std.specs.List.{list_any, range_with_len}
use Rattle.album_items.specs.ItemIds.{place_of, number_of, kind_of}
use Rattle.album_items.specs.Openings.{Row}
use Rattle.album_items.specs.declared.values.Value.{Value}
use Rattle.album_terminate.specs.Deciding.{have_voted}
use Rattle.album_partition.specs.Votes.{NotedVote, heard, votes_left}
use Rattle.album_partition.specs.Marks.{value_in}
use Rattle.album_items.specs.Places.{lies_at, is_other, others_of, places_of, rows_placed_at}
use Rattle.album_reader.specs.Answers.{ReadVersion}
use Rattle.album_reader.specs.StampSets.{with_stamp, with_stamps, stamps_of}
use Rattle.album_items.specs.Transactions.{items_written}
use Rattle.album_world.proofs.ListLemmas.{In}
use Rattle.album_world.proofs.ListLemmas.In.{here, there}
use Rattle.album_world.proofs.ListLemmas.{and_right, and_both, in_uncons, in_nil, in_map, in_filter, filter_in, any_in, in_any, in_all, none_some, range_in}

-- ---- what writes have for an item

pub item_in : (ws : List Row) (i : ℕ) (v : Value) → value_in ws i ≡ Some v → In i (items_written ws)
item_in [] i v h = none_some h
item_in (w ∷ ws) i v h = go (eqb w.0 i) refl h (item_in ws i v)
  where
    go : (b : Bool) → eqb w.0 i ≡ b → cond b (Some w.1) (value_in ws i) ≡ Some v
        → (value_in ws i ≡ Some v → In i (items_written ws)) → In i (w.0 ∷ items_written ws)
    go true e k rec = subst (λ (z : ℕ). In z (w.0 ∷ items_written ws)) (eqb-true w.0 i e) here
    go false e k rec = there (rec k)

pub in_item : (ws : List Row) (i : ℕ) → In i (items_written ws) → (v : Value) × (value_in ws i ≡ Some v)
in_item [] i h = in_nil h
in_item (w ∷ ws) i h = go (eqb w.0 i) refl (in_uncons h) (in_item ws i)
  where
    go : (b : Bool) → eqb w.0 i ≡ b → (i ≡ w.0) ⊎ In i (items_written ws)
        → (In i (items_written ws) → (v : Value) × (value_in ws i ≡ Some v))
        → (v : Value) × (cond b (Some w.1) (value_in ws i) ≡ Some v)
    go true e k rec = (w.1, refl)
    go false e k rec = ⊎_elim (λ (q : i ≡ w.0). absurd (true≢false (sym (eq-eqb w.0 i (sym q)) ∙ e))) rec k

-- what is placed at an item's partition has the item's value
pub value_placed : (parts : ℕ) (ws : List Row) (i : ℕ)
    → value_in (rows_placed_at (place_of parts i) parts ws) i ≡ value_in ws i
value_placed parts [] i = refl
value_placed parts (w ∷ ws) i = go (eqb (place_of parts w.0) (place_of parts i)) refl (eqb w.0 i) refl
    (value_placed parts ws i)
  where
    rest : List Row
    rest = rows_placed_at (place_of parts i) parts ws

    go : (b : Bool) → eqb (place_of parts w.0) (place_of parts i) ≡ b → (c : Bool) → eqb w.0 i ≡ c
        → value_in rest i ≡ value_in ws i → value_in (cond b (w ∷ rest) rest) i ≡ cond c (Some w.1) (value_in ws i)
    go true e true q h = rw q refl
    go true e false q h = rw q h
    go false e true q h = absurd
        (true≢false (sym (eq-eqb (place_of parts w.0) (place_of parts i) (ap (place_of parts) (eqb-true w.0 i q))) ∙ e))
    go false e false q h = h

-- ---- the partitions of items

pub place_low : (parts i : ℕ) → 0 < parts → place_of parts i < parts
place_low parts i some = mod-lt (number_of i + kind_of i) some

pub lies_in : (parts : ℕ) (items : List ℕ) (i p : ℕ) → In i items → place_of parts i ≡ p → lies_at p parts items ≡ true
lies_in parts items i p h e = any_in (λ item. place_of parts item == p) items h (eq-eqb (place_of parts i) p e)

pub record HasItemAt (parts : ℕ) (items : List ℕ) (p : ℕ) : Type 0 where
  pub item : ℕ
  pub in_them : In item items
  pub at : place_of parts item ≡ p

pub item_lies : (parts : ℕ) (items : List ℕ) (p : ℕ) → lies_at p parts items ≡ true → HasItemAt parts items p
item_lies parts items p h =
    let r = in_any (λ item. place_of parts item == p) items h in
    record { item = r.0; in_them = r.1; at = eqb-true (place_of parts r.0) p r.2 }

pub place_in : (parts : ℕ) (items : List ℕ) (i : ℕ) → 0 < parts → In i items
    → In (place_of parts i) (places_of parts items)
place_in parts items i some h = filter_in (λ part. lies_at part parts items) (place_of parts i)
    (range_with_len 0 parts)
    (range_in 0 parts (place_of parts i) (omega arith)
    (let l : place_of parts i < parts = place_low parts i some in omega (arith, l)))
    (lies_in parts items i (place_of parts i) h refl)

pub item_at : (parts : ℕ) (items : List ℕ) (p : ℕ) → In p (places_of parts items) → HasItemAt parts items p
item_at parts items p h = item_lies parts items p
    (in_filter (λ part. lies_at part parts items) p (range_with_len 0 parts) h).1

-- another partition that has an item is among the others
pub other_in : (parts number : ℕ) (items : List ℕ) (i : ℕ) → 0 < parts → In i items
    → eqb (place_of parts i) number ≡ false → In (place_of parts i) (others_of number parts items)
other_in parts number items i some h ne =
    filter_in (is_other number parts items) (place_of parts i) (range_with_len 0 parts)
    (range_in 0 parts (place_of parts i) (omega arith)
    (let l : place_of parts i < parts = place_low parts i some in omega (arith, l)))
    (and_both (not (eqb (place_of parts i) number)) (lies_at (place_of parts i) parts items) (ap not ne)
    (lies_in parts items i (place_of parts i) h refl))

pub other_item : (parts number : ℕ) (items : List ℕ) (q : ℕ) → In q (others_of number parts items)
    → HasItemAt parts items q
other_item parts number items q h =
    item_lies parts items q
    (and_right (not (eqb q number)) (lies_at q parts items)
    (in_filter (is_other number parts items) q (range_with_len 0 parts) h).1)

-- ---- the votes

pub record IsNoted (votes : List NotedVote) (t q : ℕ) : Type 0 where
  pub by : NotedVote
  pub noted : In by votes
  pub stamp : by.stamp ≡ t
  pub part : by.part ≡ q

-- those that are left were noted
pub left_noted : (stamp : Option ℕ) (votes : List NotedVote) (n : NotedVote) → In n (votes_left stamp votes) → In n votes
left_noted None votes n l = l
left_noted (Some t) votes n l = (in_filter (λ (vote : NotedVote). not (vote.stamp == t)) n votes l).0

heard_is : (votes : List NotedVote) (t q : ℕ) → In q (heard votes t) → IsNoted votes t q
heard_is votes t q h =
    let r = in_map (λ (vote : NotedVote). vote.part) (filter (λ vote. vote.stamp == t) votes) h in
    let f = in_filter (λ (vote : NotedVote). vote.stamp == t) r.0 votes r.1 in
    record { by = r.0; noted = f.0; stamp = eqb-true r.0.stamp t f.1; part = sym r.2 }

pub given_is : (part t q : ℕ) (votes : List NotedVote) (others : List ℕ)
    → have_voted (part ∷ heard votes t) others ≡ true → In q others → (q ≡ part) ⊎ IsNoted votes t q
given_is part t q votes others h k =
    let a = in_all (λ other. list_any (λ one. one == other) (part ∷ heard votes t)) others h k in
    let r = in_any (λ one. one == q) (part ∷ heard votes t) a in
    let e : r.0 ≡ q = eqb-true r.0 q r.2 in
    ⊎_elim (λ (f : r.0 ≡ part). inl (sym e ∙ f)) (λ l. inr (subst (IsNoted votes t) e (heard_is votes t r.0 l)))
    (in_uncons r.1)

-- ---- the stamps of answers

with_here : (s : ℕ) (ts : List ℕ) → In s (with_stamp s ts)
with_here s [] = here
with_here s (t ∷ ts) = go (nat_lt s t) (s == t) refl (with_here s ts)
  where
    go : (a b : Bool) → (s == t) ≡ b → In s (with_stamp s ts)
        → In s (if a then s ∷ t ∷ ts else if b then t ∷ ts else t ∷ with_stamp s ts)
    go true b e h = here
    go false true e h = subst (λ (z : ℕ). In s (z ∷ ts)) (eqb-true s t e) here
    go false false e h = there h

with_there : (s u : ℕ) (ts : List ℕ) → In u ts → In u (with_stamp s ts)
with_there s u [] h = in_nil h
with_there s u (t ∷ ts) h = go (nat_lt s t) (s == t) (in_uncons h) (with_there s u ts)
  where
    go : (a b : Bool) → (u ≡ t) ⊎ In u ts → (In u ts → In u (with_stamp s ts))
        → In u (if a then s ∷ t ∷ ts else if b then t ∷ ts else t ∷ with_stamp s ts)
    go true b k rec = there h
    go false true k rec = h
    go false false k rec = ⊎_elim (λ (e : u ≡ t). subst (λ (z : ℕ). In z (t ∷ with_stamp s ts)) (sym e) here)
        (λ l. there (rec l)) k

in_with : (s u : ℕ) (ts : List ℕ) → In u (with_stamp s ts) → (u ≡ s) ⊎ In u ts
in_with s u [] h = in_uncons h
in_with s u (t ∷ ts) h = go (nat_lt s t) (s == t) h (in_with s u ts)
  where
    go : (a b : Bool) → In u (if a then s ∷ t ∷ ts else if b then t ∷ ts else t ∷ with_stamp s ts)
        → (In u (with_stamp s ts) → (u ≡ s) ⊎ In u ts) → (u ≡ s) ⊎ In u (t ∷ ts)
    go true b k rec = in_uncons k
    go false true k rec = inr k
    go false false k rec = ⊎_elim (λ (e : u ≡ t). inr (subst (λ (z : ℕ). In z (t ∷ ts)) (sym e) here))
        (λ l. ⊎_elim inl (λ m. inr (there m)) (rec l)) (in_uncons k)

all_there : (ts : List ℕ) (fs : List ReadVersion) (u : ℕ) → In u ts → In u (with_stamps ts fs)
all_there ts [] u h = h
all_there ts (f ∷ fs) u h = all_there (with_stamp f.stamp ts) fs u (with_there f.stamp u ts h)

with_in : (ts : List ℕ) (fs : List ReadVersion) (f : ReadVersion) → In f fs → In f.stamp (with_stamps ts fs)
with_in ts [] f h = in_nil h
with_in ts (g ∷ fs) f h = ⊎_elim
    (λ (e : f ≡ g). all_there (with_stamp g.stamp ts) fs f.stamp
    (subst (λ (z : ReadVersion). In z.stamp (with_stamp g.stamp ts)) (sym e) (with_here g.stamp ts)))
    (λ k. with_in (with_stamp g.stamp ts) fs f k)
    (in_uncons h)

with_cases : (ts : List ℕ) (fs : List ReadVersion) (u : ℕ) → In u (with_stamps ts fs)
    → In u ts ⊎ ((f : ReadVersion) × In f fs × (u ≡ f.stamp))
with_cases ts [] u h = inl h
with_cases ts (f ∷ fs) u h = ⊎_elim
    (λ k. ⊎_elim (λ (e : u ≡ f.stamp). inr (f, here, e)) inl (in_with f.stamp u ts k))
    (λ r. inr (r.0, there r.1, r.2))
    (with_cases (with_stamp f.stamp ts) fs u h)

pub stamp_in : (fs : List ReadVersion) (f : ReadVersion) → In f fs → In f.stamp (stamps_of fs)
stamp_in fs f h = with_in [] fs f h

pub in_stamps : (fs : List ReadVersion) (u : ℕ) → In u (stamps_of fs) → (f : ReadVersion) × In f fs × (u ≡ f.stamp)
in_stamps fs u h = ⊎_elim (λ n. in_nil n) (λ r. r) (with_cases [] fs u h)
