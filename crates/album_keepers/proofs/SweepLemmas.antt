-- What goes out for a stamp that is pending, and the outcome of a trim. `PartitionKeeper::sweep`, `trim` and `answer`
-- cite the lemmas that are `pub`.
use Rattle.std.proofs.Common.{◌≡◌, ◌≢◌, ℕ, Bool, true, false, not, ◌==◌, List, [], ◌∷◌, ◌++◌, map, filter, get_or, if◌then◌else◌, All, Contains, Option, Some, None, Result, Ok, Err, option_to_list, refl, sym, ap, ◌∙◌, subst, append-nil}
use Rattle.std.specs.List.{list_any, range_with_len}
use Rattle.std.proofs.lemmas.Bool.{and_parts}
use Rattle.std.proofs.lemmas.Bool.Decides.{Decides-eqb}
use Rattle.std.proofs.lemmas.List.Elements.{All-nil, All-cons, All-contains_itself, All-map}
use Rattle.atomic_table.specs.Seated.{TableId}
use Rattle.album_stamps.specs.Outcome.{◌>>=◌}
use Rattle.album_stamps.specs.declared.refusals.Refusal.{Refusal}
use Rattle.album_stamps.specs.declared.refusals.Refusal.TheVariants.{Clash, Full, NotPrepared}
use Rattle.album_items.specs.ItemIds.{place_of}
use Rattle.album_items.specs.Places.{is_placed, lies_at, is_other, others_of}
use Rattle.album_calls.specs.declared.messages.Message.{Message}
use Rattle.album_terminate.specs.Asking.{check_to}
use Rattle.album_terminate.specs.declared.deciding.StampState.TheVariants as state
use Rattle.album_partition.specs.Bases.{extends}
use Rattle.album_partition.specs.Marks.{prepares, state_of, is_pending, items_at, mark_items, is_full, latest, floor}
use Rattle.album_partition.specs.Partition.{PartitionState}
use Rattle.album_partition.specs.Sweeps.{own_vote, sent_by, swept}
use Rattle.album_partition.specs.Trims.{trim_mark, with_mark, trimmed}
use Rattle.album_partition.specs.declared.marks.Mark.{Mark}
use Rattle.album_partition.specs.declared.marks.Mark.TheVariants.{Prepared, Trimmed}
use Rattle.album_partition.proofs.ListLemmas.{kept_in}
use Rattle.album_partition.proofs.StateLemmas.{pending_tells, is_pending_tells}
use Rattle.album_partition.proofs.TrimLemmas.{floor_trimmed}
use Rattle.album_partition.proofs.VersionLemmas.{latest_trimmed}
use Rattle.album_passes.specs.Cuts.{Cut, prefix_at, items_announced, IsBacked, IsSound, Extends}
use Rattle.album_passes.specs.Changes.{marked_cut}
use Rattle.album_passes.specs.Owner.{OwnerState}
use Rattle.album_passes.proofs.ClosedLemmas.{found, found_in, prepares_is, backed_there, items_of_named}
use Rattle.album_keepers.specs.Controls.{IsUntrimmed}
use Rattle.album_keepers.specs.Controls.IsUntrimmed.{Elsewhere, NoRoom}
use Rattle.album_keepers.specs.Keepers.{AreShown, IsNext, KeeperState, IsKeeper}
use Rattle.album_keepers.specs.Envelopes.{Shows, IsShown}
use Rattle.album_keepers.proofs.KeeperLemmas.{shown_more, keeper_on}

-- ---- a sweep

-- the items of a stamp that is prepared are those that are announced
prepared_items : (c : Cut) (p t : ℕ) → IsSound c → list_any (prepares t) (prefix_at c p) ≡ true
    → items_announced c t ≡ Some (items_at (prefix_at c p) t)
prepared_items c p t s own =
    let f = found (prepares t) (prefix_at c p) own in
    let r = found_in (prepares t) (prefix_at c p) f.0 f.1 in
    let x = prepares_is t f.0 r.1 in
    let is : List ℕ = x.1 in
    let named = backed_there c p (Prepared t x.0 is) s.closed (subst (λ (y : Mark). Contains (prefix_at c p) y) x.2 r.0) in
    let items : items_at (prefix_at c p) t ≡ is = ap mark_items f.1 ∙ ap (λ (y : Mark). mark_items (Some y)) x.2 in
    items_of_named c t x.0 is named.named ∙ ap (λ (js : List ℕ). Some js) (sym items)

-- what passes a test, passes it
all_kept : (test : ℕ → Bool) (xs : List ℕ) → All (λ (q : ℕ). test q ≡ true) (filter test xs)
all_kept test xs k d l = (kept_in test xs (get_or (filter test xs) k d) (All-contains_itself (filter test xs) k d l)).0

-- an other partition of the items has one of them
other_lies : (number parts : ℕ) (is : List ℕ) (q : ℕ) → is_other number parts is q ≡ true → lies_at q parts is ≡ true
other_lies number parts is q e = (and_parts (not (q == number)) (lies_at q parts is) e).1

checks_shown : (c : Cut) (p t : ℕ) → IsSound c → list_any (prepares t) (prefix_at c p) ≡ true → (qs : List ℕ)
    → All (λ (q : ℕ). lies_at q c.parts (items_at (prefix_at c p) t) ≡ true) qs → All (Shows c) (map (check_to p t) qs)
checks_shown c p t s own qs h = All-map (Shows c) (check_to p t) qs
    (λ k d l. record {
      at = p;
      prepared = own;
      items = items_at (prefix_at c p) t;
      announced = prepared_items c p t s own;
      placed = h k d l;
    })

sent_shown : (c : Cut) (p t : ℕ) → IsSound c → list_any (prepares t) (prefix_at c p) ≡ true → (qs : List ℕ)
    → All (λ (q : ℕ). lies_at q c.parts (items_at (prefix_at c p) t) ≡ true) qs → All (Shows c) (sent_by p t qs)
sent_shown c p t s own [] h = All-cons (Shows c) (own_vote p t) [] own (All-nil (Shows c))
sent_shown c p t s own (q ∷ qs) h = checks_shown c p t s own (q ∷ qs) h

-- each message that goes out for a pending stamp is shown by the cut
pub swept_shown : (limit : ℕ) (c : Cut) (p : PartitionState) (t : ℕ) (ms : List Message) → IsSound c → IsShown limit c p
    → swept p t ≡ Ok ms → All (Shows c) ms
swept_shown limit c p t ms s shown e = go (is_pending (state_of p.marks t)) refl e
  where
    others : List ℕ
    others = others_of p.number p.parts (items_at p.marks t)

    go : (b : Bool) → is_pending (state_of p.marks t) ≡ b → (if b then Ok (sent_by p.number t others) else Err NotPrepared) ≡ Ok ms → All (Shows c) ms
    go true f g =
        let own : list_any (prepares t) (prefix_at c p.number) ≡ true = ap (list_any (prepares t)) (sym shown.marks) ∙ (pending_tells _ _ _ (is_pending_tells (state_of p.marks t) f)).2 in
        let lie : All (λ (q : ℕ). lies_at q p.parts (items_at p.marks t) ≡ true) others =
        (λ k d l. other_lies p.number p.parts (items_at p.marks t) (get_or others k d) (all_kept (is_other p.number p.parts (items_at p.marks t)) (range_with_len 0 p.parts) k d l)) in
        let there_too : All (λ (q : ℕ). lies_at q c.parts (items_at (prefix_at c p.number) t) ≡ true) others =
        subst (λ (y : ℕ × List Mark). All (λ (q : ℕ). lies_at q y.0 (items_at y.1 t) ≡ true) others) (λ i. (shown.parts i, shown.marks i)) lie in
        let same : sent_by p.number t others ≡ ms = cc (g) in
        subst (All (Shows c)) same (sent_shown c p.number t s own others there_too)
    go false f g = absurd (cc (g))

-- they go out where it is pending, and nowhere else
pub swept_pending : (p : PartitionState) (t : ℕ) (ms : List Message) → swept p t ≡ Ok ms → state_of p.marks t ≡ state.Pending
swept_pending p t ms e = is_pending_tells (state_of p.marks t) (go (is_pending (state_of p.marks t)) e)
  where
    go : (b : Bool) → (if b then Ok (sent_by p.number t (others_of p.number p.parts (items_at p.marks t))) else Err NotPrepared) ≡ Ok ms → b ≡ true
    go true g = refl
    go false g = absurd (cc (g))

pub swept_refused : (p : PartitionState) (t : ℕ) (e : Refusal) → swept p t ≡ Err e → (e ≡ NotPrepared) × (state_of p.marks t ≢ state.Pending)
swept_refused p t e f = go (is_pending (state_of p.marks t)) refl f
  where
    go : (b : Bool) → is_pending (state_of p.marks t) ≡ b
        → (if b then Ok (sent_by p.number t (others_of p.number p.parts (items_at p.marks t))) else Err NotPrepared) ≡ Err e
        → (e ≡ NotPrepared) × (state_of p.marks t ≢ state.Pending)
    go true h g = absurd (cc (g))
    go false h g = (cc (g), λ pending. absurd (cc (ap is_pending pending, h)))

-- ---- a trim

-- the outcome of a trim: nothing is to be done, or there is one mark, or it is refused
data Trims (p : PartitionState) (i : ℕ) (r : Result (Option Mark) Refusal) : Type 0 where
  nothing_to_do : r ≡ Ok None → floor p.marks i ≡ latest p.marks i → Trims p i r
  one_mark : r ≡ Ok (Some (Trimmed i)) → Trims p i r
  elsewhere : r ≡ Err Clash → is_placed p.number p.parts i ≡ false → Trims p i r
  no_room : r ≡ Err Full → is_full p.limit p.marks ≡ true → Trims p i r

trims : (p : PartitionState) (i : ℕ) → Trims p i (trim_mark p i)
trims p i = go (is_placed p.number p.parts i) refl (floor p.marks i == latest p.marks i) refl (is_full p.limit p.marks) refl
  where
    go : (a : Bool) → is_placed p.number p.parts i ≡ a → (b : Bool) → (floor p.marks i == latest p.marks i) ≡ b → (d : Bool) → is_full p.limit p.marks ≡ d
        → Trims p i (if not a then Err Clash else if b then Ok None else if d then Err Full else Ok (Some (Trimmed i)))
    go false e b f d h = elsewhere refl e
    go true e true f d h = nothing_to_do refl ((Decides-eqb (floor p.marks i) (latest p.marks i)).0 f)
    go true e false f true h = no_room refl h
    go true e false f false h = one_mark refl

-- what is so once an item is trimmed: at most one mark more, which trims it, and its floor is its latest stamp
pub record IsTrimmed (p q : PartitionState) (i : ℕ) : Type 0 where
  pub mark : Option Mark
  pub is : q ≡ with_mark p mark
  pub one : (made : Mark) → mark ≡ Some made → made ≡ Trimmed i
  pub raised : floor q.marks i ≡ latest q.marks i

pub trim_tells : (p q : PartitionState) (i : ℕ) → trimmed p i ≡ Ok q → IsTrimmed p q i
trim_tells p q i e = go (trims p i)
  where
    so : (r : Result (Option Mark) Refusal) → trim_mark p i ≡ r → (r >>= λ mark. Ok (with_mark p mark)) ≡ Ok q
    so r f = subst (λ (x : Result (Option Mark) Refusal). (x >>= λ mark. Ok (with_mark p mark)) ≡ Ok q) f e

    go : Trims p i (trim_mark p i) → IsTrimmed p q i
    go (nothing_to_do f same) =
        let g = so (Ok None) f in
        let is : with_mark p None ≡ q = cc (g) in
        let marks : q.marks ≡ p.marks = ap (λ (x : PartitionState). x.marks) (sym is) ∙ append-nil p.marks in
        record {
          mark = None;
          is = sym is;
          one = λ made h. absurd (cc (h));
          raised = subst (λ (ms : List Mark). floor ms i ≡ latest ms i) (sym marks) same;
        }
    go (one_mark f) =
        let g = so (Ok (Some (Trimmed i))) f in
        let is : with_mark p (Some (Trimmed i)) ≡ q = cc (g) in
        let marks : p.marks ++ Trimmed i ∷ [] ≡ q.marks = ap (λ (x : PartitionState). x.marks) is in
        record {
          mark = Some (Trimmed i);
          is = sym is;
          one = λ made h. cc (h);
          raised = subst (λ (ms : List Mark). floor ms i ≡ latest ms i) marks (floor_trimmed p.marks i ∙ sym (latest_trimmed p.marks i i));
        }
    go (elsewhere f h) = absurd (let g = so (Err Clash) f in cc (g))
    go (no_room f h) = absurd (let g = so (Err Full) f in cc (g))

-- why it is refused, by what the cut shows
pub trim_refused : (limit : ℕ) (c : Cut) (p : PartitionState) (i : ℕ) (e : Refusal) → IsShown limit c p → trimmed p i ≡ Err e
    → IsUntrimmed limit c p.number i e
trim_refused limit c p i e shown k = go (trims p i)
  where
    so : (r : Result (Option Mark) Refusal) → trim_mark p i ≡ r → (r >>= λ mark. Ok (with_mark p mark)) ≡ Err e
    so r f = subst (λ (x : Result (Option Mark) Refusal). (x >>= λ mark. Ok (with_mark p mark)) ≡ Err e) f k

    go : Trims p i (trim_mark p i) → IsUntrimmed limit c p.number i e
    go (nothing_to_do f same) = absurd (let g = so (Ok None) f in cc (g))
    go (one_mark f) = absurd (let g = so (Ok (Some (Trimmed i))) f in cc (g))
    go (elsewhere f h) =
        let g = so (Err Clash) f in
        let same : Clash ≡ e = cc (g) in
        subst (IsUntrimmed limit c p.number i) same
        (Elsewhere (λ there_it_is. absurd (cc (h, (Decides-eqb (place_of p.parts i) p.number).1 (ap (λ (n : ℕ). place_of n i) shown.parts ∙ there_it_is)))))
    go (no_room f h) =
        let g = so (Err Full) f in
        let same : Full ≡ e = cc (g) in
        subst (IsUntrimmed limit c p.number i) same
        (NoRoom (subst (λ (y : ℕ × List Mark). is_full y.0 y.1 ≡ true) (λ j. (shown.room j, shown.marks j)) h))

-- the mark of a trim is the next one
pub trim_next : (table : TableId) (limit : ℕ) (k : KeeperState) (i : ℕ) (q : PartitionState) → IsKeeper table limit k
    → trimmed k.partition i ≡ Ok q → IsNext k.owner.cut k.owner.part q.marks
trim_next table limit k i q is e =
    let t = trim_tells k.partition q i e in
    record {
      mark = t.mark;
      added = ap (λ (x : PartitionState). x.marks) t.is
          ∙ ap (λ (ms : List Mark). ms ++ option_to_list t.mark) (is.shown.marks ∙ ap (prefix_at k.owner.cut) (sym is.own));
      backed = λ made f. subst (λ (m : Mark). IsBacked (marked_cut k.owner.cut k.owner.part m) m) (sym (t.one made f)) tt;
      chained = λ made f on. subst (λ (m : Mark). extends (prefix_at k.owner.cut k.owner.part) m ≡ true) (sym (t.one made f)) refl;
    }

-- and once the owner has it too, the keeper is one
pub keeper_trimmed : (table : TableId) (limit : ℕ) (k : KeeperState) (i : ℕ) (q : PartitionState) (o : OwnerState) → IsKeeper table limit k
    → trimmed k.partition i ≡ Ok q → o.table ≡ k.owner.table → o.part ≡ k.owner.part → Extends k.owner.cut o.cut
    → q.marks ≡ prefix_at o.cut k.owner.part → IsKeeper table limit (record { partition = q; owner = o })
keeper_trimmed table limit k i q o is e same part x marks =
    let t = trim_tells k.partition q i e in
    keeper_on table limit k q o is same part x
    (ap (λ (y : PartitionState). y.number) t.is) (ap (λ (y : PartitionState). y.parts) t.is)
    (ap (λ (y : PartitionState). y.limit) t.is) (ap (λ (y : PartitionState). y.items) t.is) (ap (λ (y : PartitionState). y.checked) t.is)
    (marks ∙ ap (prefix_at o.cut) (is.own ∙ sym (ap (λ (y : PartitionState). y.number) t.is)))
    (subst (λ (y : PartitionState). AreShown o.cut y.votes) (sym t.is) (shown_more k.owner.cut o.cut x k.partition.votes is.voted))
