-- What is settled before a Get is answered. `PartitionKeeper::settle` cites `settled_push`, `settled_none`, `none_left`
-- and `none_there`; `take_own_commit` cites `committed_shown`; RoundLemmas cites `read_committed`, and RepeatLemmas
-- `version_state`.
use Rattle.std.proofs.Common.{◌≡◌, ◌≢◌, ℕ, Bool, true, false, ◌==◌, not, List, [], ◌∷◌, ◌++◌, get_or, is_some, if◌then◌else◌, Option, None, refl, sym, ap, ◌∙◌, subst}
use Rattle.std.specs.List.{list_any}
use Rattle.std.proofs.lemmas.Bool.{eq-eqb, and_parts}
use Rattle.std.proofs.lemmas.Bool.Decides.{Decides-eqb}
use Rattle.std.proofs.lemmas.List.Elements.{All-nil, All-cons, All-contains}
use Rattle.album_calls.specs.declared.messages.Body.{Body}
use Rattle.album_calls.specs.declared.messages.Body.TheVariants as body
use Rattle.album_calls.specs.declared.messages.Message.{Message}
use Rattle.album_calls.specs.declared.nodes.Node.{Node}
use Rattle.album_calls.specs.declared.requests.Request.{Request}
use Rattle.album_calls.specs.declared.requests.Request.TheVariants.{Prepare, PrepareOn, Commit, Get, Check}
use Rattle.album_partition.specs.Answers.{after, with_action, on_body, on_commit, commit_by, nothing}
use Rattle.album_partition.specs.Laws.{IsReadAt}
use Rattle.album_partition.specs.Marks.{prepares, commits, discards, state_by, state_of, is_pending, mark_writes, writes_at, value_in, has_version}
use Rattle.album_partition.specs.Partition.{PartitionState}
use Rattle.album_partition.specs.declared.marks.Mark.{Mark}
use Rattle.album_partition.specs.declared.marks.Mark.TheVariants.{Committed}
use Rattle.album_partition.proofs.StateLemmas.{state_push_other, find_none, committed_tells, is_pending_tells, committed_is_committed}
use Rattle.album_passes.specs.Cuts.{Cut, prefix_at, IsPreparedThroughout, IsSound, Extends}
use Rattle.album_passes.specs.Reads.{IsCommitted}
use Rattle.album_passes.proofs.ClosedLemmas.{committed_tells as committed_backed}
use Rattle.album_passes.proofs.PrefixLemmas.{any_more}
use Rattle.album_terminate.specs.declared.deciding.StampState.{StampState}
use Rattle.album_terminate.specs.declared.deciding.StampState.TheVariants as state
use Rattle.album_keepers.specs.Envelopes.{ShowsRequest, ShowsBody, Shows}
use Rattle.album_keepers.specs.Settling.{stamps_in, own_commit, is_unsettled, settle_one, settled, AreCommitted, AreSettledIn}

-- ---- one stamp

-- its Commit makes its mark
commit_marks : (p : PartitionState) (t : ℕ) → (t == 0) ≡ false → state_of p.marks t ≡ state.Pending
    → (after p (own_commit p t)).marks ≡ p.marks ++ Committed t ∷ []
commit_marks p t some pending =
    ap (λ (b : Bool). (with_action p (if b then on_body p (own_commit p t).from (own_commit p t).body else nothing)).marks) (eq-eqb p.number p.number refl)
    ∙ ap (λ (b : Bool). (with_action p (if b then on_commit p 0 else commit_by (state_of p.marks t) t)).marks) some
    ∙ ap (λ (s : StampState). (with_action p (commit_by s t)).marks) pending

-- what holds of the partition where the stamp isn't pending, and where it is, of the partition that has committed it,
-- holds once the stamp is settled
by_settling : (P : PartitionState → Type 0) (p : PartitionState) (t : ℕ)
    → (is_unsettled p t ≡ false → P p)
    → ((t == 0) ≡ false → state_of p.marks t ≡ state.Pending → P (after p (own_commit p t))) → P (settle_one p t)
by_settling P p t stays commits = go (is_unsettled p t) refl
  where
    go : (b : Bool) → is_unsettled p t ≡ b → P (if b then after p (own_commit p t) else p)
    go true e =
        let both = and_parts (not (t == 0)) (is_pending (state_of p.marks t)) e in
        commits (no (t == 0) both.0) (is_pending_tells (state_of p.marks t) both.1)
      where
        no : (b : Bool) → not b ≡ true → b ≡ false
        no true f = absurd (cc)
        no false f = refl
    go false e = stays e

-- it is pending no more
pub one_settles : (p : PartitionState) (t : ℕ) → t ≢ 0 → state_of (settle_one p t).marks t ≢ state.Pending
one_settles p t nz = by_settling (λ q. state_of q.marks t ≢ state.Pending) p t
    (λ e pending. absurd (let n = some t nz in cc (e, n, pending)))
    (λ s pending e. let is = ap (λ (ms : List Mark). state_of ms t) (commit_marks p t s pending) ∙ committed_is_committed p.marks t in
    absurd (cc (is, e)))
  where
    some : (t : ℕ) → t ≢ 0 → (t == 0) ≡ false
    some t n = go (t == 0) refl
      where
        go : (b : Bool) → (t == 0) ≡ b → (t == 0) ≡ false
        go true e = absurd (n ((Decides-eqb t 0).0 e))
        go false e = e

-- none becomes pending
pub one_keeps : (p : PartitionState) (t u : ℕ) → state_of p.marks u ≢ state.Pending → state_of (settle_one p t).marks u ≢ state.Pending
one_keeps p t u none = by_settling (λ q. state_of q.marks u ≢ state.Pending) p t
    (λ e. none)
    (λ s pending e. go (t == u) refl (ap (λ (ms : List Mark). state_of ms u) (sym (commit_marks p t s pending)) ∙ e))
  where
    go : (b : Bool) → (t == u) ≡ b → state_of (p.marks ++ Committed t ∷ []) u ≡ state.Pending → ⊥
    go true e f =
        let same : t ≡ u = (Decides-eqb t u).0 e in
        let is : state_of (p.marks ++ Committed t ∷ []) u ≡ state.Committed = subst (λ (v : ℕ). state_of (p.marks ++ Committed t ∷ []) v ≡ state.Committed) same (committed_is_committed p.marks t) in
        absurd (cc (is, f))
    go false e f = none (sym (state_push_other p.marks (Committed t) u e) ∙ f)

-- where it isn't pending, nothing is done
one_idle : (p : PartitionState) (t : ℕ) → state_of p.marks t ≢ state.Pending → settle_one p t ≡ p
one_idle p t none = by_settling (λ q. q ≡ p) p t (λ e. refl) (λ s pending. absurd (none pending))

-- where it is, its Commit is received
pub one_settled : (p : PartitionState) (t : ℕ) → is_unsettled p t ≡ true → after p (own_commit p t) ≡ settle_one p t
one_settled p t e = ap (λ (b : Bool). if b then after p (own_commit p t) else p) (sym e)

pub unsettled_some : (p : PartitionState) (t : ℕ) → is_unsettled p t ≡ true → t ≢ 0
unsettled_some p t e z =
    let both = and_parts (not (t == 0)) (is_pending (state_of p.marks t)) e in
    let zero = eq-eqb t 0 z in
    absurd (cc (both.0, zero))

-- ---- all of them

pub settled_push : (p : PartitionState) (ts : List ℕ) (t : ℕ) → settled p (ts ++ t ∷ []) ≡ settle_one (settled p ts) t
settled_push p [] t = refl
settled_push p (s ∷ ts) t = settled_push (settle_one p s) ts t

settled_keeps : (p : PartitionState) (ts : List ℕ) (u : ℕ) → state_of p.marks u ≢ state.Pending → state_of (settled p ts).marks u ≢ state.Pending
settled_keeps p [] u none = none
settled_keeps p (t ∷ ts) u none = settled_keeps (settle_one p t) ts u (one_keeps p t u none)

pub none_left : (p : PartitionState) (ts : List ℕ) → AreSettledIn (settled p ts).marks ts
none_left p [] = All-nil _
none_left p (t ∷ ts) = All-cons (λ (u : ℕ). u ≢ 0 → state_of (settled (settle_one p t) ts).marks u ≢ state.Pending) t ts
    (λ nz. settled_keeps (settle_one p t) ts t (one_settles p t nz)) (none_left (settle_one p t) ts)

-- where nothing is pending, nothing is done
pub settled_none : (p : PartitionState) (ts : List ℕ) → ((t : ℕ) → state_of p.marks t ≢ state.Pending) → settled p ts ≡ p
settled_none p [] none = refl
settled_none p (t ∷ ts) none = ap (λ (q : PartitionState). settled q ts) (one_idle p t (none t)) ∙ settled_none p ts none

pub none_there : (p : PartitionState) (ts : List ℕ) → ((t : ℕ) → state_of p.marks t ≢ state.Pending) → AreSettledIn p.marks ts
none_there p ts none = λ k d l nz. none (get_or ts k d)

pub none_asked : (ms : List Mark) → AreSettledIn ms []
none_asked ms = All-nil _

-- ---- what is shown about the Commit

shown_request : (c : Cut) (to : Node) (r : Request) → ShowsRequest c to r → AreCommitted c (stamps_in (body.Request r))
shown_request c to (Prepare t ws is) h = All-nil _
shown_request c to (PrepareOn t ws is bs) h = All-nil _
shown_request c to (Commit t) h = All-nil _
shown_request c to (Get i ts) h = h
shown_request c to (Check t) h = All-nil _

shown_body : (c : Cut) (from to : Node) (b : Body) → ShowsBody c from to b → AreCommitted c (stamps_in b)
shown_body c from to (body.Request r) h = shown_request c to r h
shown_body c from to (body.Reply r) h = All-nil _

-- each stamp with which a message asks is committed somewhere, also as the cut grows
pub shown_committed : (c d : Cut) (m : Message) → Shows c m → Extends c d → AreCommitted d (stamps_in m.body)
shown_committed c d m h x = λ k e l nz.
    let was = shown_body c m.from m.to m.body h k e l nz in
    let t = get_or (stamps_in m.body) k e in
    (was.0, any_more (commits t) (prefix_at c was.0) (prefix_at d was.0) (x.prefixes was.0) was.1)

pub committed_shown : (c : Cut) (t : ℕ) → IsSound c → IsCommitted c t → IsPreparedThroughout c t
committed_shown c t s h = committed_backed c h.0 t s.closed h.1

-- ---- what is read

-- an item's version has a stamp that is prepared and not discarded: it is committed, where it isn't pending
pub version_state : (ms : List Mark) (i t : ℕ) → has_version ms i t ≡ true → state_of ms t ≢ state.Pending → state_of ms t ≡ state.Committed
version_state ms i t there none = go (list_any (commits t) ms) (list_any (discards t) ms) (list_any (prepares t) ms) refl refl refl
  where
    go : (a b p : Bool) → list_any (commits t) ms ≡ a → list_any (discards t) ms ≡ b → list_any (prepares t) ms ≡ p
        → state_of ms t ≡ state.Committed
    go true b p e f g = ap (λ (z : Bool). state_by z (list_any (discards t) ms) (list_any (prepares t) ms)) e
    go false true p e f g =
        let is : has_version ms i t ≡ false = ap (λ (z : Bool). is_some (if z then None else value_in (writes_at ms t) i)) f in
        absurd (cc (there, is))
    go false false true e f g = absurd (none (λ i. state_by (e i) (f i) (g i)))
    go false false false e f g =
        let is : has_version ms i t ≡ false = ap (λ (z : Bool). is_some (if z then None else value_in (writes_at ms t) i)) f
        ∙ ap (λ (o : Option Mark). is_some (value_in (mark_writes o) i)) (find_none (prepares t) ms g) in
        absurd (cc (there, is))

pub read_committed : (ms : List Mark) (i : ℕ) (ts : List ℕ) (t : ℕ) → AreSettledIn ms ts → IsReadAt ms i ts t → t ≢ 0
    → list_any (commits t) ms ≡ true
read_committed ms i [] t h r nz = committed_tells _ _ _ (r.committed nz)
read_committed ms i (u ∷ ts) t h r nz =
    let none = All-contains (λ (v : ℕ). v ≢ 0 → state_of ms v ≢ state.Pending) (u ∷ ts) t h (r.given nz) nz in
    committed_tells _ _ _ (version_state ms i t (r.there nz) none)
