-- What is kept of each stamp stays so as one mark more is made, and the pending stamps are listed from it.
-- `History::push_with` needs `made`, `History::push` needs `pushed_of_none`, and `History::pending` `pending_listed`.
-- `History::change` and `History::pending_without` need the lemmas that begin with `after_` and `count_`.
use Rattle.std.proofs.Common.{◌≡◌, ◌≢◌, ◌↔◌, ℕ, zero, suc, ◌<◌, ◌≤◌, ◌+◌, ◌-◌, ◌^◌, ◌⊎◌, ⊎_elim, Bool, true, false, ◌==◌, ◌||◌, cond, List, [], ◌∷◌, ◌++◌, length, Option, Some, None, refl, sym, ap, ◌∙◌, subst, arith, Equal}
use Rattle.std.specs.BTreeMap.{is_at}
use Rattle.std.specs.List.{list_any, find, slice_get}
use Rattle.std.specs.Ordering.{nat_cmp, is_eq}
use Rattle.std.specs.Cmp.{nat_cmp_is, Equal-is}
use Rattle.std.proofs.lemmas.Map.Lookups.{exact_unsigned}
use Rattle.std.proofs.lemmas.Bool.Decides.{Decides-eqb, same_from_decides}
use Rattle.std.proofs.lemmas.List.{length-append}
use Rattle.album_stamps.specs.declared.limits.TheConstants.{MAX_MARKS}
use Rattle.album_items.specs.Openings.{Row}
use Rattle.album_terminate.specs.declared.deciding.StampState.{StampState}
use Rattle.album_terminate.specs.declared.deciding.StampState.TheVariants as state
use Rattle.album_partition.specs.declared.standings.Standing.{Standing}
use Rattle.album_partition.specs.declared.standings.Standing.TheVariants as standing
use Rattle.album_partition.specs.declared.marks.Mark.{Mark}
use Rattle.album_partition.specs.declared.marks.Mark.TheVariants.{Prepared, Committed, Discarded, Trimmed}
use Rattle.album_partition.specs.Marks.{mark_stamp, is_mark_of, prepares, commits, state_of, is_unknown, is_pending, may_follow, pending_stamps, ArePending}
use Rattle.album_partition.specs.Standings.{standing_in, stands_pending, ArePendingIn}
use Rattle.album_partition.specs.History.{IsAt, Stands, WillStand, IsHistory, kept_by, kept_mark}
use Rattle.album_partition.specs.declared.history.Change.{Change}
use Rattle.album_partition.proofs.LegalLemmas.{is_legal-push}
use Rattle.album_partition.proofs.StateLemmas.{find_push_no, find_push_first, prepares_no, own_mark, no_mark, state_push_other, prepared_is_pending, committed_is_committed, discarded_is_discarded, unknown_tells, pending_tells, is_unknown_tells, is_pending_tells, same_stamp}
use Rattle.album_partition.proofs.LoadLemmas.{prepared_counts, committed_counts, discarded_counts, refused_counts, trimmed_counts, pending_few}

-- the mark at the index is the one that is kept
pub kept_pending : (marks : List Mark) (t n : ℕ) (found : Option Standing) (mark : Option Mark) → Stands marks t found → found ≡ Some (standing.Pending n) → mark ≡ slice_get marks n → mark ≡ kept_mark marks t
kept_pending marks t n found mark stands is at =
    let h = subst (Stands marks t) is stands in
    at ∙ sym h.1.there ∙ ap (λ s. kept_by s (find (prepares t) marks)) (sym h.0)

pub kept_committed : (marks : List Mark) (t n : ℕ) (found : Option Standing) (mark : Option Mark) → Stands marks t found → found ≡ Some (standing.Committed n) → mark ≡ slice_get marks n → mark ≡ kept_mark marks t
kept_committed marks t n found mark stands is at =
    let h = subst (Stands marks t) is stands in
    at ∙ sym h.1.there ∙ ap (λ s. kept_by s (find (prepares t) marks)) (sym h.0)

-- ---- one mark is made

slice_get-left : (marks later : List Mark) (n : ℕ) → n < length marks → slice_get (marks ++ later) n ≡ slice_get marks n
slice_get-left [] later n less = absurd (omega arith)
slice_get-left (m ∷ marks) later zero less = refl
slice_get-left (m ∷ marks) later (suc n) less = slice_get-left marks later n (omega arith)

slice_get-end : (marks : List Mark) (mark : Mark) → slice_get (marks ++ mark ∷ []) (length marks) ≡ Some mark
slice_get-end [] mark = refl
slice_get-end (m ∷ marks) mark = slice_get-end marks mark

length-push : (marks : List Mark) (mark : Mark) → length (marks ++ mark ∷ []) ≡ length marks + 1
length-push marks mark = length-append marks (mark ∷ [])

-- the mark that prepared a stamp stays where it is
pub at_push : (marks : List Mark) (mark : Mark) (t n : ℕ) → prepares t mark ≡ false → IsAt marks t n → IsAt (marks ++ mark ∷ []) t n
at_push marks mark t n other at =
    record {
      inside = (let more = length-push marks mark in let inside = at.inside in omega arith);
      there = find_push_no (prepares t) marks mark other ∙ at.there ∙ sym (slice_get-left marks (mark ∷ []) n at.inside);
    }

-- what the index says of another stamp is so still
pub stands_push_other : (marks : List Mark) (mark : Mark) (t : ℕ) (found : Option Standing) → is_mark_of t mark ≡ false → Stands marks t found → Stands (marks ++ mark ∷ []) t found
stands_push_other marks mark t None apart h = state_push_other marks mark t apart ∙ h
stands_push_other marks mark t (Some (standing.Pending n)) apart h = (state_push_other marks mark t apart ∙ h.0, at_push marks mark t n (prepares_no mark t apart) h.1)
stands_push_other marks mark t (Some (standing.Committed n)) apart h = (state_push_other marks mark t apart ∙ h.0, at_push marks mark t n (prepares_no mark t apart) h.1)
stands_push_other marks mark t (Some standing.Discarded) apart h = state_push_other marks mark t apart ∙ h

-- what it says of the mark's own stamp from then on
pub stands_prepared : (marks : List Mark) (t : ℕ) (ws : List Row) (is : List ℕ) → state_of marks t ≡ state.Unknown → Stands (marks ++ Prepared t ws is ∷ []) t (Some (standing.Pending (length marks)))
stands_prepared marks t ws is unknown =
    let told = unknown_tells _ _ _ unknown in (
      prepared_is_pending marks t ws is unknown,
      record {
        inside = (let more = length-push marks (Prepared t ws is) in omega arith);
        there = find_push_first (prepares t) marks (Prepared t ws is) told.2 (same_stamp t) ∙ sym (slice_get-end marks (Prepared t ws is));
      },
    )

pub stands_committed : (marks : List Mark) (t n : ℕ) → IsAt marks t n → Stands (marks ++ Committed t ∷ []) t (Some (standing.Committed n))
stands_committed marks t n at = (committed_is_committed marks t, at_push marks (Committed t) t n refl at)

pub stands_discarded : (marks : List Mark) (t : ℕ) → list_any (commits t) marks ≡ false → Stands (marks ++ Discarded t ∷ []) t (Some standing.Discarded)
stands_discarded marks t uncommitted = discarded_is_discarded marks t uncommitted

-- ---- the whole index

-- a key's test shows whether the key is the stamp
pub key_tells : (s t : ℕ) → is_at (nat_cmp s) t ≡ (s == t)
key_tells s t =
    same_from_decides (is_eq (nat_cmp s t)) (s == t)
    ((λ e. exact_unsigned s t ((Equal-is (nat_cmp s t)).0 e)), (λ (same : s ≡ t). (Equal-is (nat_cmp s t)).1 (sym (nat_cmp_is s t Equal same))))
    (Decides-eqb s t)

pub indexed_push : (marks : List Mark) (mark : Mark) (index later : List (ℕ × Standing)) (count next u : ℕ) (found : Standing)
    → IsHistory marks index count
    → may_follow marks mark ≡ true
    → mark_stamp mark ≡ Some u
    → Stands (marks ++ mark ∷ []) u (Some found)
    → ((q : ℕ) → standing_in later q ≡ cond (is_at (nat_cmp u) q) (Some found) (standing_in index q))
    → next ≡ length (pending_stamps (marks ++ mark ∷ []))
    → IsHistory (marks ++ mark ∷ []) later next
indexed_push marks mark index later count next u found h may of own updated counted =
    record {
      legal = is_legal-push marks mark h.legal may;
      stands = λ t. subst (Stands (marks ++ mark ∷ []) t) (sym (updated t)) (subst (λ (b : Bool). Stands (marks ++ mark ∷ []) t (cond b (Some found) (standing_in index t))) (sym (key_tells u t)) (go t (u == t) refl));
      count = counted;
    }
  where
    go : (t : ℕ) (b : Bool) → (u == t) ≡ b → Stands (marks ++ mark ∷ []) t (cond b (Some found) (standing_in index t))
    go t true e = subst (λ s. Stands (marks ++ mark ∷ []) s (Some found)) ((Decides-eqb u t).0 e) own
    go t false e = stands_push_other marks mark t (standing_in index t) (own_mark mark u t of ∙ e) (h.stands t)

-- a mark of no stamp leaves what is kept of each
pub pushed_of_none : (marks later : List Mark) (mark : Mark) (index : List (ℕ × Standing)) (count : ℕ)
    → IsHistory marks index count
    → may_follow marks mark ≡ true
    → WillStand marks mark None
    → later ≡ marks ++ mark ∷ []
    → IsHistory later index count
pushed_of_none marks later mark index count h may none made =
    subst (λ (ms : List Mark). IsHistory ms index count) (sym made)
    (record {
      legal = is_legal-push marks mark h.legal may;
      stands = λ t. stands_push_other marks mark t (standing_in index t) (no_mark mark t none) (h.stands t);
      count = h.count ∙ sym (counts mark none);
    })
  where
    counts : (m : Mark) → mark_stamp m ≡ None → length (pending_stamps (marks ++ m ∷ [])) ≡ length (pending_stamps marks)
    counts (Prepared u ws is) e = absurd (cc)
    counts (Committed u) e = absurd (cc)
    counts (Discarded u) e = absurd (cc)
    counts (Trimmed i) e = trimmed_counts marks i

-- ---- what is known of a mark that may follow

pub index_is : (marks : List Mark) (t n : ℕ) (found : Option Standing) → Stands marks t found → found ≡ Some (standing.Pending n) → IsAt marks t n
index_is marks t n found stands is = (subst (Stands marks t) is stands).1

-- what is kept of a pending stamp says that it is pending
pub not_discarded : (marks : List Mark) (t : ℕ) (found : Option Standing) {X : Type 0} → Stands marks t found → found ≡ Some standing.Discarded → state_of marks t ≡ state.Pending → X
not_discarded marks t found stands is pending = absurd (let h = subst (Stands marks t) is stands in cc)

pub not_unknown : (marks : List Mark) (t : ℕ) (found : Option Standing) {X : Type 0} → Stands marks t found → found ≡ None → state_of marks t ≡ state.Pending → X
not_unknown marks t found stands is pending = absurd (let h = subst (Stands marks t) is stands in cc)

pub not_committed : (marks : List Mark) (t n : ℕ) (found : Option Standing) {X : Type 0} → Stands marks t found → found ≡ Some (standing.Committed n) → state_of marks t ≡ state.Pending → X
not_committed marks t n found stands is pending = absurd (let h = subst (Stands marks t) is stands in let other = h.0 in cc)

-- ---- after a mark that may follow

pub after_prepared : (marks : List Mark) (mark : Mark) (t : ℕ) (ws : List Row) (is : List ℕ) (n : ℕ) → may_follow marks mark ≡ true → mark ≡ Prepared t ws is → n ≡ length marks → Stands (marks ++ mark ∷ []) t (Some (standing.Pending n))
after_prepared marks mark t ws is n may same at =
    rw (same, at) (stands_prepared marks t ws is (is_unknown_tells (state_of marks t) (rw same at may)))

pub after_committed : (marks : List Mark) (mark : Mark) (t n : ℕ) → mark ≡ Committed t → IsAt marks t n → Stands (marks ++ mark ∷ []) t (Some (standing.Committed n))
after_committed marks mark t n same at = rw same (stands_committed marks t n at)

pub after_discarded : (marks : List Mark) (mark : Mark) (t : ℕ) → may_follow marks mark ≡ true → mark ≡ Discarded t → Stands (marks ++ mark ∷ []) t (Some standing.Discarded)
after_discarded marks mark t may same = rw same (stands_discarded marks t (uncommitted (state_of marks t) refl (rw same at may)))
  where
    uncommitted : (s : StampState) → state_of marks t ≡ s → is_unknown s || is_pending s ≡ true → list_any (commits t) marks ≡ false
    uncommitted state.Unknown e h = (unknown_tells _ _ _ e).0
    uncommitted state.Pending e h = (pending_tells _ _ _ e).0
    uncommitted state.Committed e h = absurd (cc)
    uncommitted state.Discarded e h = absurd (cc)

-- the marks that a history keeps are those that are seen
pub seen : {items marks : List Mark} {index : List (ℕ × Standing)} {count : ℕ} → items ≡ marks → IsHistory items index count → IsHistory marks index count
seen {index = index} {count = count} same h = subst (λ (ms : List Mark). IsHistory ms index count) same h

-- how many stamps are pending then
pub count_prepared : (marks : List Mark) (index : List (ℕ × Standing)) (count : ℕ) (mark : Mark) (t : ℕ) (ws : List Row) (is : List ℕ) → IsHistory marks index count → length marks < MAX_MARKS → may_follow marks mark ≡ true → mark ≡ Prepared t ws is → (count + 1 < 2 ^ 64) × (count + 1 ≡ length (pending_stamps (marks ++ mark ∷ [])))
count_prepared marks index count mark t ws is h room may same =
    let counted : count ≡ length (pending_stamps marks) = h.count in
    let few : length (pending_stamps marks) ≤ length marks = pending_few marks in
    let more : length (pending_stamps (marks ++ mark ∷ [])) ≡ length (pending_stamps marks) + 1 = rw same (prepared_counts marks t ws is (is_unknown_tells (state_of marks t) (rw same at may))) in
    (omega arith, omega arith)

pub count_committed : (marks : List Mark) (index : List (ℕ × Standing)) (count : ℕ) (mark : Mark) (t : ℕ) → IsHistory marks index count → may_follow marks mark ≡ true → mark ≡ Committed t → (1 ≤ count) × (count - 1 ≡ length (pending_stamps (marks ++ mark ∷ [])))
count_committed marks index count mark t h may same =
    let counted : count ≡ length (pending_stamps marks) = h.count in
    let fewer : length (pending_stamps (marks ++ mark ∷ [])) + 1 ≡ length (pending_stamps marks) = rw same (committed_counts marks t h.legal (is_pending_tells (state_of marks t) (rw same at may))) in
    (omega arith, omega arith)

pub count_discarded : (marks : List Mark) (index : List (ℕ × Standing)) (count : ℕ) (mark : Mark) (t : ℕ) → IsHistory marks index count → mark ≡ Discarded t → state_of marks t ≡ state.Pending → (1 ≤ count) × (count - 1 ≡ length (pending_stamps (marks ++ mark ∷ [])))
count_discarded marks index count mark t h same pending =
    let counted : count ≡ length (pending_stamps marks) = h.count in
    let fewer : length (pending_stamps (marks ++ mark ∷ [])) + 1 ≡ length (pending_stamps marks) = rw same (discarded_counts marks t h.legal pending) in
    (omega arith, omega arith)

pub count_refused : (marks : List Mark) (index : List (ℕ × Standing)) (count : ℕ) (mark : Mark) (t : ℕ) → IsHistory marks index count → may_follow marks mark ≡ true → mark ≡ Discarded t → state_of marks t ≢ state.Pending → count ≡ length (pending_stamps (marks ++ mark ∷ []))
count_refused marks index count mark t h may same other =
    h.count ∙ sym (rw same (refused_counts marks t (unknown (state_of marks t) refl (rw same at may) other)))
  where
    unknown : (s : StampState) → state_of marks t ≡ s → is_unknown s || is_pending s ≡ true → state_of marks t ≢ state.Pending → state_of marks t ≡ state.Unknown
    unknown state.Unknown e f g = e
    unknown state.Pending e f g = absurd (g e)
    unknown state.Committed e f g = absurd (cc)
    unknown state.Discarded e f g = absurd (cc)

-- a state that is one of three is not the fourth
pub not_pending : (s : StampState) → (s ≡ state.Unknown) ⊎ ((s ≡ state.Committed) ⊎ (s ≡ state.Discarded)) → s ≢ state.Pending
not_pending state.Unknown h e = absurd (cc)
not_pending state.Committed h e = absurd (cc)
not_pending state.Discarded h e = absurd (cc)
not_pending state.Pending h e = ⊎_elim (λ (f : state.Pending ≡ state.Unknown). absurd (cc)) (λ g. ⊎_elim (λ (f : state.Pending ≡ state.Committed). absurd (cc)) (λ (f : state.Pending ≡ state.Discarded). absurd (cc)) g) h

pub made : (marks items : List Mark) (mark : Mark) (change : Change) (index later : List (ℕ × Standing)) (count : ℕ)
    → IsHistory marks index count
    → may_follow marks mark ≡ true
    → WillStand marks mark (Some change)
    → ((q : ℕ) → standing_in later q ≡ cond (is_at (nat_cmp change.stamp) q) (Some change.standing) (standing_in index q))
    → items ≡ marks ++ mark ∷ []
    → IsHistory items later change.pending
made marks items mark change index later count h may will updated same =
    subst (λ (ms : List Mark). IsHistory ms later change.pending) (sym same)
    (indexed_push marks mark index later count change.pending change.stamp change.standing h may will.0 will.1 updated will.2)

-- ---- all that are pending

-- what is kept of a stamp says pending exactly where the marks do
pending_stands : (marks : List Mark) (t : ℕ) (found : Option Standing) → Stands marks t found
    → (stands_pending found ≡ true) ↔ (state_of marks t ≡ state.Pending)
pending_stands marks t None stands = (λ e. absurd (cc), λ e. absurd (cc))
pending_stands marks t (Some (standing.Pending n)) stands = (λ e. stands.0, λ e. refl)
pending_stands marks t (Some (standing.Committed n)) stands = (λ e. absurd (cc), λ e. absurd (let h = stands.0 in cc))
pending_stands marks t (Some standing.Discarded) stands = (λ e. absurd (cc), λ e. absurd (cc))

pub pending_listed : (marks : List Mark) (index : List (ℕ × Standing)) (count : ℕ) (found : List ℕ)
    → IsHistory marks index count → ArePendingIn index found → ArePending marks found
pending_listed marks index count found h are = record {
  pending = λ t.
      let told = pending_stands marks t (standing_in index t) (h.stands t) in
      (λ c. told.0 ((are.pending t).0 c), λ p. (are.pending t).1 (told.1 p));
  rising = are.rising;
}
