-- That no update is lost where each version was made on the latest, with none pending: the law `no_update_is_lost`
-- cites the lemmas that are `pub`.
use Rattle.std.proofs.Common.{◌≡◌, ◌≢◌, ◌⊎◌, ⊎_elim, inl, inr, ℕ, ◌<◌, ◌≤◌, Bool, true, false, ◌==◌, ◌||◌, not, max, is_some, IsSome, Contains, List, [], ◌∷◌, ◌++◌, length, Some, None, refl, sym, ap, ◌∙◌, subst, arith, if◌then◌else◌}
use Rattle.std.specs.Prelude.{nat_lt, nat_le}
use Rattle.std.specs.List.{list_any, list_all, zip}
use Rattle.std.proofs.lemmas.Bool.{and_parts, and_from, not-true, false≢true}
use Rattle.std.proofs.lemmas.Bool.Decides.{Decides-eqb, Decides-ltb}
use Rattle.std.proofs.lemmas.List.{append_assoc, append-nil}
use Rattle.album_items.specs.Openings.{Row}
use Rattle.album_terminate.specs.declared.deciding.StampState.{StampState}
use Rattle.album_terminate.specs.declared.deciding.StampState.TheVariants as state
use Rattle.album_calls.specs.Nodes.{is_part}
use Rattle.album_calls.specs.declared.messages.Body.{Body}
use Rattle.album_calls.specs.declared.messages.Body.TheVariants as body
use Rattle.album_calls.specs.declared.messages.Message.{Message}
use Rattle.album_calls.specs.declared.requests.Request.TheVariants.{PrepareOn}
use Rattle.album_calls.specs.declared.replies.Reply.TheVariants as reply
use Rattle.album_partition.specs.Answers.{Action, nothing, says, marks_and_says, prepare_on_by, on_prepare_on, on_request, on_body, action_of, with_action, after}
use Rattle.album_partition.specs.Partition.{PartitionState}
use Rattle.album_partition.specs.Stored.{IsStored}
use Rattle.album_versions.specs.Versions.{VersionsState, version_at}
use Rattle.album_partition.specs.Proper.{is_proper_on}
use Rattle.album_partition.specs.declared.marks.Mark.{Mark}
use Rattle.album_partition.specs.declared.marks.Mark.TheVariants.{Prepared, Committed, Discarded, Trimmed}
use Rattle.album_partition.specs.Bases.{has_pending, may_extend, is_base, are_bases, extends, chained_after, is_chained, IsMadeOn}
use Rattle.album_partition.specs.Marks.{is_mark_of, commits, discards, prepares, state_by, pending_stamps, kept_version, floor, state_of, is_unknown, is_pending, value_in, version, has_version, latest, may_follow, legal_after, is_legal, is_full}
use Rattle.album_partition.proofs.BaseLemmas.{found_in, found_out, same_answer, pending_there, pending_here}
use Rattle.album_partition.proofs.GrowthLemmas.{committed_stays, discarded_stays, version_stays}
use Rattle.album_partition.proofs.LawLemmas.{read_latest}
use Rattle.album_partition.proofs.LegalLemmas.{is_legal-push, legal_parts}
use Rattle.album_partition.proofs.ListLemmas.{same_or_not, turned, list_all-any, list_all-contains}
use Rattle.album_partition.proofs.ProperLemmas.{has_value}
use Rattle.album_partition.proofs.TrimLemmas.{floor_low, kept_high}
use Rattle.album_partition.proofs.StateLemmas.{find_none, same_stamp, state_push_other, unknown_tells, pending_tells, is_unknown_tells, is_pending_tells, prepared_is_pending, committed_is_committed, discarded_is_discarded}
use Rattle.album_partition.proofs.VersionLemmas.{version_push_other, version_prepared, version_committed, version_trimmed, latest_prepared, latest_committed, latest_discarded, latest_trimmed}

-- ---- along a history of such marks

pub chained_parts : (before later : List Mark) → is_chained (before ++ later) ≡ true
    → (is_chained before ≡ true) × (chained_after before later ≡ true)
chained_parts before later h = go [] before h
  where
    go : (seen rest : List Mark) → chained_after seen (rest ++ later) ≡ true
        → (chained_after seen rest ≡ true) × (chained_after (seen ++ rest) later ≡ true)
    go seen [] e = (refl, subst (λ (ms : List Mark). chained_after ms later ≡ true) (sym (append-nil seen)) e)
    go seen (m ∷ rest) e =
        let may = and_parts (extends seen m) (chained_after (seen ++ m ∷ []) (rest ++ later)) e in
        let h = go (seen ++ m ∷ []) rest may.1 in (
          and_from (extends seen m) (chained_after (seen ++ m ∷ []) rest) may.0 h.0,
          subst (λ (ms : List Mark). chained_after ms later ≡ true) (append_assoc seen (m ∷ []) rest) h.1,
        )

along_chained : (P : List Mark → Type 0)
    → ((marks : List Mark) (mark : Mark) → is_legal marks ≡ true → may_follow marks mark ≡ true → extends marks mark ≡ true → P marks → P (marks ++ mark ∷ []))
    → (before later : List Mark) → is_legal before ≡ true → legal_after before later ≡ true → chained_after before later ≡ true → P before → P (before ++ later)
along_chained P more before [] h may ext p = subst P (sym (append-nil before)) p
along_chained P more before (m ∷ later) h may ext p =
    let mays = and_parts (may_follow before m) (legal_after (before ++ m ∷ []) later) may in
    let exts = and_parts (extends before m) (chained_after (before ++ m ∷ []) later) ext in
    subst P (append_assoc before (m ∷ []) later)
    (along_chained P more (before ++ m ∷ []) later (is_legal-push before m h mays.0) mays.1 exts.1 (more before m h mays.0 exts.0 p))

-- ---- what is so all along

-- of each item at most one version is pending, and it is above the latest
record IsChain (marks : List Mark) : Type 0 where
  one : (i t u : ℕ) → state_of marks t ≡ state.Pending → has_version marks i t ≡ true → state_of marks u ≡ state.Pending → has_version marks i u ≡ true → t ≡ u
  above : (i t : ℕ) → state_of marks t ≡ state.Pending → has_version marks i t ≡ true → latest marks i < t

-- the rows that a mark prepares may be made
row_extends : (marks : List Mark) (t i : ℕ) (ws : List Row) → list_all (λ (row : Row). may_extend marks t row.0) ws ≡ true → is_some (value_in ws i) ≡ true
    → may_extend marks t i ≡ true
row_extends marks t i ws all some =
    let found = list_all-any (λ (row : Row). may_extend marks t row.0) (λ (row : Row). row.0 == i) ws all (sym (has_value ws i) ∙ some) in
    subst (λ (j : ℕ). may_extend marks t j ≡ true) ((Decides-eqb found.0.0 i).0 found.2) found.1

-- and then the latest is below, and no version is pending
extends_above : (marks : List Mark) (t i : ℕ) → may_extend marks t i ≡ true → latest marks i < t
extends_above marks t i e = (Decides-ltb (latest marks i) t).0 (and_parts (not (has_pending marks i)) (nat_lt (latest marks i) t) e).1

extends_alone : {X : Type 0} (marks : List Mark) (t i u : ℕ) → may_extend marks t i ≡ true → state_of marks u ≡ state.Pending → has_version marks i u ≡ true → X
extends_alone marks t i u e pending there =
    let none = not-true (has_pending marks i) (and_parts (not (has_pending marks i)) (nat_lt (latest marks i) t) e).0 in
    absurd (false≢true (sym none ∙ found_out (has_version marks i) _ u (pending_there marks u pending) there))

uncommitted : (marks : List Mark) (t : ℕ) → is_unknown (state_of marks t) || is_pending (state_of marks t) ≡ true → list_any (commits t) marks ≡ false
uncommitted marks t may = go (state_of marks t) refl may
  where
    go : (s : StampState) → state_of marks t ≡ s → is_unknown s || is_pending s ≡ true → list_any (commits t) marks ≡ false
    go state.Unknown e f = (unknown_tells _ _ _ e).0
    go state.Pending e f = (pending_tells _ _ _ e).0
    go state.Committed e f = absurd (cc)
    go state.Discarded e f = absurd (cc)

-- a mark that makes no version pending, and leaves the latest
leaves : (marks : List Mark) (mark : Mark)
    → ((i t : ℕ) → state_of (marks ++ mark ∷ []) t ≡ state.Pending → has_version (marks ++ mark ∷ []) i t ≡ true → (state_of marks t ≡ state.Pending) × (has_version marks i t ≡ true))
    → ((i : ℕ) → latest (marks ++ mark ∷ []) i ≡ latest marks i) → IsChain marks → IsChain (marks ++ mark ∷ [])
leaves marks mark were same h =
    record {
      one = λ i t u pt ht pu hu.
          let a = were i t pt ht in let b = were i u pu hu in h.one i t u a.0 a.1 b.0 b.1;
      above = λ i t pt ht.
          let a = were i t pt ht in let below = h.above i t a.0 a.1 in let e = same i in omega arith;
    }

chain_prepared : (marks : List Mark) (s : ℕ) (ws : List Row) (is : List ℕ) → state_of marks s ≡ state.Unknown
    → list_all (λ (row : Row). may_extend marks s row.0) ws ≡ true → IsChain marks → IsChain (marks ++ Prepared s ws is ∷ [])
chain_prepared marks s ws is unknown all h = record { one = one; above = above }
  where
    after : List Mark
    after = marks ++ Prepared s ws is ∷ []

    own : (i t : ℕ) → t ≡ s → has_version after i t ≡ true → may_extend marks s i ≡ true
    own i t e there =
        row_extends marks s i ws all
        (sym (ap is_some (version_prepared marks s ws is unknown i t ∙ rw (e, same_stamp s) refl)) ∙ there)

    other : (i t : ℕ) → (t == s) ≡ false → state_of after t ≡ state.Pending → has_version after i t ≡ true
        → (state_of marks t ≡ state.Pending) × (has_version marks i t ≡ true)
    other i t e pending there = (
      sym (state_push_other marks (Prepared s ws is) t (turned t s e)) ∙ pending,
      sym (ap is_some (version_push_other marks (Prepared s ws is) i t (turned t s e))) ∙ there,
    )

    one : (i t u : ℕ) → state_of after t ≡ state.Pending → has_version after i t ≡ true → state_of after u ≡ state.Pending → has_version after i u ≡ true → t ≡ u
    one i t u pt ht pu hu =
        same_or_not t s
        (λ (e : t ≡ s). same_or_not u s (λ (f : u ≡ s). e ∙ sym f)
        (λ (f : (u == s) ≡ false). let b = other i u f pu hu in extends_alone marks s i u (own i t e ht) b.0 b.1))
        (λ (e : (t == s) ≡ false). let a = other i t e pt ht in
        same_or_not u s (λ (f : u ≡ s). extends_alone marks s i t (own i u f hu) a.0 a.1)
        (λ (f : (u == s) ≡ false). let b = other i u f pu hu in h.one i t u a.0 a.1 b.0 b.1))

    above : (i t : ℕ) → state_of after t ≡ state.Pending → has_version after i t ≡ true → latest after i < t
    above i t pt ht =
        let same = latest_prepared marks s ws is unknown i in
        same_or_not t s
        (λ (e : t ≡ s). let below = extends_above marks s i (own i t e ht) in omega arith)
        (λ (e : (t == s) ≡ false). let a = other i t e pt ht in let below = h.above i t a.0 a.1 in omega arith)

chain_committed : (marks : List Mark) (s : ℕ) → state_of marks s ≡ state.Pending → IsChain marks → IsChain (marks ++ Committed s ∷ [])
chain_committed marks s pending h = record { one = one; above = above }
  where
    after : List Mark
    after = marks ++ Committed s ∷ []

    apart : (t : ℕ) → state_of after t ≡ state.Pending → (t == s) ≡ false
    apart t p =
        same_or_not t s
        (λ (e : t ≡ s). absurd (let done = subst (λ (v : ℕ). state_of after v ≡ state.Committed) (sym e) (committed_is_committed marks s) in cc))
        (λ (e : (t == s) ≡ false). e)

    was : (t : ℕ) → state_of after t ≡ state.Pending → state_of marks t ≡ state.Pending
    was t p = sym (state_push_other marks (Committed s) t (turned t s (apart t p))) ∙ p

    had : (i t : ℕ) → has_version after i t ≡ true → has_version marks i t ≡ true
    had i t e = sym (ap is_some (version_committed marks s i t)) ∙ e

    one : (i t u : ℕ) → state_of after t ≡ state.Pending → has_version after i t ≡ true → state_of after u ≡ state.Pending → has_version after i u ≡ true → t ≡ u
    one i t u pt ht pu hu = h.one i t u (was t pt) (had i t ht) (was u pu) (had i u hu)

    above : (i t : ℕ) → state_of after t ≡ state.Pending → has_version after i t ≡ true → latest after i < t
    above i t pt ht = subst (λ (n : ℕ). n < t) (sym (latest_committed marks s i)) (go (has_version marks i s) refl)
      where
        go : (b : Bool) → has_version marks i s ≡ b → (if b then max (latest marks i) s else latest marks i) < t
        go true e =
            absurd (
            let same : t ≡ s = h.one i t s (was t pt) (had i t ht) pending e in
            let not_same = apart t pt in
            let is = (Decides-eqb t s).1 same in cc)
        go false e = h.above i t (was t pt) (had i t ht)

chain_more : (marks : List Mark) (mark : Mark) → is_legal marks ≡ true → may_follow marks mark ≡ true → extends marks mark ≡ true → IsChain marks → IsChain (marks ++ mark ∷ [])
chain_more marks (Prepared s ws is) legal may ext h = chain_prepared marks s ws is (is_unknown_tells (state_of marks s) may) ext h
chain_more marks (Committed s) legal may ext h = chain_committed marks s (is_pending_tells (state_of marks s) may) h
chain_more marks (Discarded s) legal may ext h = leaves marks (Discarded s) were (latest_discarded marks s (uncommitted marks s may)) h
  where
    were : (i t : ℕ) → state_of (marks ++ Discarded s ∷ []) t ≡ state.Pending → has_version (marks ++ Discarded s ∷ []) i t ≡ true → (state_of marks t ≡ state.Pending) × (has_version marks i t ≡ true)
    were i t pt ht =
        same_or_not t s
        (λ (e : t ≡ s). absurd (let gone = subst (λ (v : ℕ). state_of (marks ++ Discarded s ∷ []) v ≡ state.Discarded) (sym e) (discarded_is_discarded marks s (uncommitted marks s may)) in cc))
        (λ (e : (t == s) ≡ false). (
          sym (state_push_other marks (Discarded s) t (turned t s e)) ∙ pt,
          sym (ap is_some (version_push_other marks (Discarded s) i t (turned t s e))) ∙ ht,
        ))
chain_more marks (Trimmed j) legal may ext h =
    leaves marks (Trimmed j)
    (λ i t pt ht. (sym (state_push_other marks (Trimmed j) t refl) ∙ pt, sym (ap is_some (version_trimmed marks j i t)) ∙ ht))
    (latest_trimmed marks j) h

none_yet : IsChain []
none_yet = record { one = λ i t u pt ht pu hu. absurd (cc); above = λ i t pt ht. absurd (cc) }

chain_of : (marks : List Mark) → is_legal marks ≡ true → is_chained marks ≡ true → IsChain marks
chain_of marks h c = along_chained IsChain chain_more [] marks refl h c none_yet

-- ---- at most one version is pending, above the latest

pub one_pending : (marks : List Mark) (i t u : ℕ) → is_legal marks ≡ true → is_chained marks ≡ true
    → state_of marks t ≡ state.Pending → has_version marks i t ≡ true
    → state_of marks u ≡ state.Pending → has_version marks i u ≡ true → t ≡ u
one_pending marks i t u h c = (chain_of marks h c).one i t u

pub pending_above : (marks : List Mark) (i t : ℕ) → is_legal marks ≡ true → is_chained marks ≡ true
    → state_of marks t ≡ state.Pending → has_version marks i t ≡ true → latest marks i < t
pending_above marks i t h c = (chain_of marks h c).above i t

-- ---- a pending version is the newest that is kept, for `Stored::has_pending`

-- a stamp at which the item has a version is pending or committed
version_live : (marks : List Mark) (i t : ℕ) → has_version marks i t ≡ true → (state_of marks t ≡ state.Pending) ⊎ (state_of marks t ≡ state.Committed)
version_live marks i t there = go (list_any (commits t) marks) (list_any (discards t) marks) (list_any (prepares t) marks) refl refl
  where
    go : (a b c : Bool) → list_any (discards t) marks ≡ b → list_any (prepares t) marks ≡ c → (state_by a b c ≡ state.Pending) ⊎ (state_by a b c ≡ state.Committed)
    go true b c f g = inr refl
    go false true c f g = absurd (let none : has_version marks i t ≡ false = rw f refl in cc)
    go false false true f g = inl refl
    go false false false f g = absurd (let none : has_version marks i t ≡ false = rw (f, find_none (prepares t) marks g) refl in cc)

pub newest_pending : (marks : List Mark) (kept : VersionsState) (i newest : ℕ) → IsStored marks kept → is_chained marks ≡ true
    → (newest ≢ 0 → IsSome (version_at kept i newest)) → ((t : ℕ) → IsSome (version_at kept i t) → t ≤ newest)
    → nat_lt (latest marks i) newest ≡ has_pending marks i
newest_pending marks kept i newest stored chained there greatest = same_answer (nat_lt (latest marks i) newest) (has_pending marks i) found above
  where
    had : (t : ℕ) → IsSome (kept_version marks i t) → has_version marks i t ≡ true
    had t = go (nat_le (floor marks i) t)
      where
        go : (b : Bool) → IsSome (if b then version marks i t else None) → has_version marks i t ≡ true
        go true e = e
        go false e = absurd (cc)

    found : nat_lt (latest marks i) newest ≡ true → has_pending marks i ≡ true
    found e =
        let higher = (Decides-ltb (latest marks i) newest).0 e in
        let has = had newest (subst IsSome (stored.versions i newest) (there (λ zero. absurd (omega arith)))) in
        ⊎_elim
        (λ (p : state_of marks newest ≡ state.Pending). found_out (has_version marks i) _ newest (pending_there marks newest p) has)
        (λ (c : state_of marks newest ≡ state.Committed). absurd (let low = (read_latest marks i).greatest newest c has in omega arith))
        (version_live marks i newest has)

    above : has_pending marks i ≡ true → nat_lt (latest marks i) newest ≡ true
    above e =
        let f = found_in (has_version marks i) (pending_stamps marks) e in
        let higher = pending_above marks i f.0 stored.legal chained (pending_here marks f.0 f.1) f.2 in
        let low = floor_low marks i stored.legal in
        let kept_there : IsSome (kept_version marks i f.0) = ap is_some (kept_high marks i f.0 (omega arith)) ∙ f.2 in
        let most = greatest f.0 (subst IsSome (sym (stored.versions i f.0)) kept_there) in
        (Decides-ltb (latest marks i) newest).1 (omega arith)

-- ---- stamps rise in the order of commits

rises : (marks : List Mark) (i t : ℕ) → has_version marks i t ≡ true → latest marks i < t → latest (marks ++ Committed t ∷ []) i ≡ t
rises marks i t there below = latest_committed marks t i ∙ rw there (let e : max (latest marks i) t ≡ t = omega arith in e)

pub commits_rise : (before later : List Mark) (t i : ℕ) → is_legal (before ++ Committed t ∷ later) ≡ true → is_chained (before ++ Committed t ∷ later) ≡ true
    → has_version before i t ≡ true → (latest before i < t) × (latest (before ++ Committed t ∷ []) i ≡ t)
commits_rise before later t i h c there =
    let legal = legal_parts before (Committed t ∷ later) h in
    let chained = chained_parts before (Committed t ∷ later) c in
    let may = (and_parts (may_follow before (Committed t)) _ legal.1).0 in
    let below = (chain_of before legal.0 chained.0).above i t (is_pending_tells (state_of before t) may) there in
    (below, rises before i t there below)

-- ---- a version was made on the one right below it

-- what is so of the stamp from then on, unless it is discarded
record IsOn (i t base : ℕ) (marks : List Mark) : Type 0 where
  live : (state_of marks t ≡ state.Pending) ⊎ (state_of marks t ≡ state.Committed)
  there : has_version marks i t ≡ true
  next : (u : ℕ) → state_of marks u ≡ state.Committed → has_version marks i u ≡ true → u < t → u ≤ base

abbrev MayBeOn : ℕ → ℕ → ℕ → List Mark → Type 0
MayBeOn i t base marks = IsChain marks × ((state_of marks t ≡ state.Discarded) ⊎ IsOn i t base marks)

-- the stamp's own marks: it is committed, discarded or neither
on_more : (i t base : ℕ) (marks : List Mark) (mark : Mark) → is_legal marks ≡ true → may_follow marks mark ≡ true → IsChain marks
    → IsOn i t base marks → (state_of (marks ++ mark ∷ []) t ≡ state.Discarded) ⊎ IsOn i t base (marks ++ mark ∷ [])
on_more i t base marks mark legal may chain h = go mark may (is_mark_of t mark) refl
  where
    -- a version that is committed by now: it was before, or is by this mark
    bound : (m : Mark) → may_follow marks m ≡ true → (u : ℕ) → state_of (marks ++ m ∷ []) u ≡ state.Committed → has_version (marks ++ m ∷ []) i u ≡ true → u < t → u ≤ base
    bound m may u done there less = by (state_of marks u) refl
      where
        new : (n : Mark) → may_follow marks n ≡ true → is_mark_of u n ≡ true → state_of (marks ++ n ∷ []) u ≡ state.Committed → has_version (marks ++ n ∷ []) i u ≡ true → u ≤ base
        new (Prepared s ws is) may own done there =
            absurd (let same : s ≡ u = (Decides-eqb s u).0 own in
            let p = subst (λ (v : ℕ). state_of (marks ++ Prepared s ws is ∷ []) v ≡ state.Pending) same (prepared_is_pending marks s ws is (is_unknown_tells (state_of marks s) may)) in cc)
        new (Discarded s) may own done there =
            absurd (let same : s ≡ u = (Decides-eqb s u).0 own in
            let p = subst (λ (v : ℕ). state_of (marks ++ Discarded s ∷ []) v ≡ state.Discarded) same (discarded_is_discarded marks s (uncommitted marks s may)) in cc)
        new (Trimmed j) may own done there = absurd (cc)
        new (Committed s) may own done there =
            let same : s ≡ u = (Decides-eqb s u).0 own in
            let pending = subst (λ (v : ℕ). state_of marks v ≡ state.Pending) same (is_pending_tells (state_of marks s) may) in
            let had : has_version marks i u ≡ true = sym (ap is_some (version_committed marks s i u)) ∙ there in
            ⊎_elim
            (λ (p : state_of marks t ≡ state.Pending). absurd (let both : t ≡ u = chain.one i t u p h.there pending had in omega arith))
            (λ (c : state_of marks t ≡ state.Committed). absurd (let low = (read_latest marks i).greatest t c h.there in let high = chain.above i u pending had in omega arith))
            h.live

        old : (own : Bool) → is_mark_of u m ≡ own → u ≤ base
        old true e = new m may e done there
        old false e =
            h.next u (sym (state_push_other marks m u e) ∙ done) (sym (ap is_some (version_push_other marks m i u e)) ∙ there) less

        by : (s : StampState) → state_of marks u ≡ s → u ≤ base
        by s e = old (is_mark_of u m) refl

    go : (m : Mark) → may_follow marks m ≡ true → (own : Bool) → is_mark_of t m ≡ own → (state_of (marks ++ m ∷ []) t ≡ state.Discarded) ⊎ IsOn i t base (marks ++ m ∷ [])
    go m may false e =
        inr (record {
          live = ⊎_elim (λ (p : state_of marks t ≡ state.Pending). inl (state_push_other marks m t e ∙ p)) (λ (c : state_of marks t ≡ state.Committed). inr (state_push_other marks m t e ∙ c)) h.live;
          there = ap is_some (version_push_other marks m i t e) ∙ h.there;
          next = bound m may;
        })
    go (Prepared s ws is) may true e =
        let unknown = subst (λ (v : ℕ). state_of marks v ≡ state.Unknown) ((Decides-eqb s t).0 e) (is_unknown_tells (state_of marks s) may) in
        ⊎_elim (λ (p : state_of marks t ≡ state.Pending). absurd (cc)) (λ (c : state_of marks t ≡ state.Committed). absurd (cc)) h.live
    go (Committed s) may true e =
        inr (record {
          live = inr (subst (λ (v : ℕ). state_of (marks ++ Committed s ∷ []) v ≡ state.Committed) ((Decides-eqb s t).0 e) (committed_is_committed marks s));
          there = ap is_some (version_committed marks s i t) ∙ h.there;
          next = bound (Committed s) may;
        })
    go (Discarded s) may true e =
        inl (subst (λ (v : ℕ). state_of (marks ++ Discarded s ∷ []) v ≡ state.Discarded) ((Decides-eqb s t).0 e) (discarded_is_discarded marks s (uncommitted marks s may)))
    go (Trimmed j) may true e = absurd (cc)

may_more : (i t base : ℕ) (marks : List Mark) (mark : Mark) → is_legal marks ≡ true → may_follow marks mark ≡ true → extends marks mark ≡ true
    → MayBeOn i t base marks → MayBeOn i t base (marks ++ mark ∷ [])
may_more i t base marks mark legal may ext (chain, h) = (
  chain_more marks mark legal may ext chain,
  ⊎_elim (λ (gone : state_of marks t ≡ state.Discarded). inl (discarded_more gone)) (λ (on : IsOn i t base marks). on_more i t base marks mark legal may chain on) h,
)
  where
    discarded_more : state_of marks t ≡ state.Discarded → state_of (marks ++ mark ∷ []) t ≡ state.Discarded
    discarded_more gone = discarded_stays marks (mark ∷ []) t (is_legal-push marks mark legal may) gone

pub made_on : (before later : List Mark) (t : ℕ) (ws : List Row) (is : List ℕ) (i : ℕ)
    → is_legal (before ++ Prepared t ws is ∷ later) ≡ true → is_chained (before ++ Prepared t ws is ∷ later) ≡ true
    → state_of (before ++ Prepared t ws is ∷ later) t ≡ state.Committed → is_some (value_in ws i) ≡ true
    → IsMadeOn (before ++ Prepared t ws is ∷ later) i t (latest before i)
made_on before later t ws is i h c done wrote =
    record {
      below = extends_above before t i may_be;
      committed = λ some. committed_stays before (Prepared t ws is ∷ later) (latest before i) h ((read_latest before i).committed some);
      there = λ some. ap is_some (version_stays before (Prepared t ws is ∷ later) i (latest before i) h ((read_latest before i).committed some)) ∙ (read_latest before i).there some;
      next = ⊎_elim (λ (gone : state_of whole t ≡ state.Discarded). absurd (cc)) (λ (on : IsOn i t (latest before i) whole). on.next) ends;
    }
  where
    whole : List Mark
    whole = before ++ Prepared t ws is ∷ later

    first : List Mark
    first = before ++ Prepared t ws is ∷ []

    legal : (is_legal before ≡ true) × (legal_after before (Prepared t ws is ∷ later) ≡ true)
    legal = legal_parts before (Prepared t ws is ∷ later) h

    chained : (is_chained before ≡ true) × (chained_after before (Prepared t ws is ∷ later) ≡ true)
    chained = chained_parts before (Prepared t ws is ∷ later) c

    mays : (may_follow before (Prepared t ws is) ≡ true) × (legal_after first later ≡ true)
    mays = and_parts (may_follow before (Prepared t ws is)) (legal_after first later) legal.1

    exts : (extends before (Prepared t ws is) ≡ true) × (chained_after first later ≡ true)
    exts = and_parts (extends before (Prepared t ws is)) (chained_after first later) chained.1

    may_be : may_extend before t i ≡ true
    may_be = row_extends before t i ws exts.0 wrote

    unknown : state_of before t ≡ state.Unknown
    unknown = is_unknown_tells (state_of before t) mays.0

    pending : state_of first t ≡ state.Pending
    pending = prepared_is_pending before t ws is unknown

    bound : (u : ℕ) → state_of first u ≡ state.Committed → has_version first i u ≡ true → u < t → u ≤ latest before i
    bound u finished has less =
        let e : (u == t) ≡ false = same_or_not u t (λ (f : u ≡ t). absurd (omega arith)) (λ (f : (u == t) ≡ false). f) in
        (read_latest before i).greatest u
        (sym (state_push_other before (Prepared t ws is) u (turned u t e)) ∙ finished)
        (sym (ap is_some (version_push_other before (Prepared t ws is) i u (turned u t e))) ∙ has)

    start : MayBeOn i t (latest before i) first
    start = (
      chain_more before (Prepared t ws is) legal.0 mays.0 exts.0 (chain_of before legal.0 chained.0),
      inr (record {
        live = inl pending;
        there = ap is_some (version_prepared before t ws is unknown i t ∙ rw (same_stamp t) refl) ∙ wrote;
        next = bound;
      }),
    )

    ends : (state_of whole t ≡ state.Discarded) ⊎ IsOn i t (latest before i) whole
    ends =
        subst (λ (ms : List Mark). (state_of ms t ≡ state.Discarded) ⊎ IsOn i t (latest before i) ms)
        (append_assoc before (Prepared t ws is ∷ []) later)
        (along_chained (MayBeOn i t (latest before i)) (may_more i t (latest before i)) first later
        (is_legal-push before (Prepared t ws is) legal.0 mays.0) mays.1 exts.1 start).1

-- ---- the bases of a Prepare that is followed are those versions

zipped_base : (marks : List Mark) (t : ℕ) (pairs : List (Row × ℕ)) (pair : Row × ℕ)
    → list_all (λ (p : Row × ℕ). is_base marks t p.0.0 p.1) pairs ≡ true → Contains pairs pair → pair.1 ≡ latest marks pair.0.0
zipped_base marks t pairs pair all there =
    let own = list_all-contains (λ (p : Row × ℕ). is_base marks t p.0.0 p.1) pairs pair all there in
    sym ((Decides-eqb (latest marks pair.0.0) pair.1).0 (and_parts (latest marks pair.0.0 == pair.1) (may_extend marks t pair.0.0) own).0)

pub base_is_latest : (marks : List Mark) (t : ℕ) (ws : List Row) (bs : List ℕ) (pair : Row × ℕ)
    → are_bases marks t ws bs ≡ true → Contains (zip ws bs) pair → pair.1 ≡ latest marks pair.0.0
base_is_latest marks t ws bs pair e there =
    zipped_base marks t (zip ws bs) pair (and_parts (length ws == length bs) _ e).1 there

-- ---- a checked Prepare that is answered Prepared made its mark just then

-- what is so then: the stamp was unknown, the bases were the latest versions, and the mark is the last one
abbrev IsMadeBy : PartitionState → ℕ → List Row → List ℕ → List ℕ → Action → Type 0
IsMadeBy p t ws is bs e =
    (state_of p.marks t ≡ state.Unknown) × (are_bases p.marks t ws bs ≡ true) × (e ≡ marks_and_says (Prepared t ws is) (reply.Prepared t))

replied_by : (p : PartitionState) (t : ℕ) (ws : List Row) (is bs : List ℕ) (u : ℕ) → (on_request p (PrepareOn t ws is bs)).reply ≡ Some (reply.Prepared u)
    → IsMadeBy p t ws is bs (on_request p (PrepareOn t ws is bs))
replied_by p t ws is bs u = checked p.checked
  where
    by : (full based : Bool) → are_bases p.marks t ws bs ≡ based → (s : StampState) → state_of p.marks t ≡ s
        → (prepare_on_by full based s t ws is).reply ≡ Some (reply.Prepared u) → IsMadeBy p t ws is bs (prepare_on_by full based s t ws is)
    by true based g state.Unknown e f = absurd (cc)
    by false true g state.Unknown e f = (e, g, refl)
    by false false g state.Unknown e f = absurd (cc)
    by full based g state.Pending e f = absurd (cc)
    by full based g state.Committed e f = absurd (cc)
    by full based g state.Discarded e f = absurd (cc)

    go : (b : Bool) → (if b then prepare_on_by (is_full p.limit p.marks) (are_bases p.marks t ws bs) (state_of p.marks t) t ws is else says reply.Clash).reply ≡ Some (reply.Prepared u)
        → IsMadeBy p t ws is bs (if b then prepare_on_by (is_full p.limit p.marks) (are_bases p.marks t ws bs) (state_of p.marks t) t ws is else says reply.Clash)
    go false f = absurd (cc)
    go true f = by (is_full p.limit p.marks) (are_bases p.marks t ws bs) refl (state_of p.marks t) refl f

    checked : (b : Bool) → (if b then on_prepare_on p t ws is bs else says reply.Clash).reply ≡ Some (reply.Prepared u)
        → IsMadeBy p t ws is bs (if b then on_prepare_on p t ws is bs else says reply.Clash)
    checked true f = go (is_proper_on p.number p.parts t ws is bs) f
    checked false f = absurd (cc)

pub replied_on : (p : PartitionState) (m : Message) (t : ℕ) (ws : List Row) (is bs : List ℕ) (u : ℕ) → m.body ≡ body.Request (PrepareOn t ws is bs)
    → (action_of p m).reply ≡ Some (reply.Prepared u)
    → ((after p m).marks ≡ p.marks ++ Prepared t ws is ∷ []) × (are_bases p.marks t ws bs ≡ true)
replied_on p m t ws is bs u asked = go (is_part m.to p.number)
  where
    go : (b : Bool) → (if b then on_body p m.from m.body else nothing).reply ≡ Some (reply.Prepared u)
        → ((with_action p (if b then on_body p m.from m.body else nothing)).marks ≡ p.marks ++ Prepared t ws is ∷ []) × (are_bases p.marks t ws bs ≡ true)
    go false f = absurd (cc)
    go true f =
        let made = replied_by p t ws is bs u (subst (λ (x : Body). (on_body p m.from x).reply ≡ Some (reply.Prepared u)) asked f) in (
          ap (λ (x : Body). (with_action p (on_body p m.from x)).marks) asked ∙ ap (λ (e : Action). (with_action p e).marks) made.2,
          made.1,
        )
