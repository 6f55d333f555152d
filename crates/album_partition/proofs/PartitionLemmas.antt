-- A partition opens as one and stays one, whatever message comes. `Partition::new` needs `opens`, `Partition::receive`
-- needs `stays` and `can_follow`, `Partition::on_vote_of` needs `heard_is_nothing`, and `Partition::trim` `can_trim`.
use Rattle.std.proofs.Common.{◌≡◌, ℕ, ◌<◌, ◌≤◌, ◌+◌, Bool, true, false, ◌==◌, ◌&&◌, not, IfSome, List, [], ◌∷◌, ◌++◌, length, Option, Some, None, refl, sym, ap, ◌∙◌, subst, arith, if◌then◌else◌}
use Rattle.std.specs.Prelude.{Result, Ok, Err, nat_lt, nat_le}
use Rattle.std.proofs.lemmas.Bool.{and_parts, not-true, leb-true, false≢true}
use Rattle.std.proofs.lemmas.Bool.Decides.{Decides-ltb, Decides-eqb}
use Rattle.std.proofs.lemmas.List.{append-nil, length-append}
use Rattle.album_stamps.specs.declared.limits.TheConstants.{MAX_PARTS, MIN_MARKS, MAX_MARKS}
use Rattle.album_stamps.specs.declared.refusals.Refusal.{Refusal}
use Rattle.album_stamps.specs.declared.refusals.Refusal.TheVariants.{BadOpening, NoSuchPart, Clash, Full}
use Rattle.album_stamps.specs.Outcome.{◌>>=◌}
use Rattle.album_items.specs.Openings.{Row, has_parts, has_limit, has_single_rows}
use Rattle.album_calls.specs.declared.messages.Body.{Body}
use Rattle.album_calls.specs.declared.messages.Message.{Message}
use Rattle.album_calls.specs.declared.nodes.Node.{Node}
use Rattle.album_terminate.specs.Deciding.{have_voted}
use Rattle.album_terminate.specs.declared.deciding.Decision.{Decision}
use Rattle.album_terminate.specs.declared.deciding.Decision.TheVariants as decision
use Rattle.album_terminate.specs.declared.deciding.StampState.TheVariants as state
use Rattle.album_partition.specs.declared.marks.Mark.{Mark}
use Rattle.album_partition.specs.declared.marks.Mark.TheVariants.{Prepared, Committed, Discarded, Trimmed}
use Rattle.album_partition.specs.Answers.{Action, mark_by, mark_with, nothing, marks, on_vote_of, on_body, action_of, with_action, after}
use Rattle.album_partition.specs.Marks.{is_mark_of, prepares, decided, mark_writes, state_of, latest, floor, may_follow, is_full, load, pending_stamps, items_at}
use Rattle.album_partition.specs.Partition.{PartitionState, IsPartition, opening_state, opened, may_open}
use Rattle.album_items.specs.Places.{is_placed, lies_at, others_of, placed_at}
use Rattle.album_items.specs.Transactions.{are_items}
use Rattle.album_partition.specs.Proper.{are_rows_of, are_own_writes, is_proper, is_proper_mark}
use Rattle.album_partition.specs.Stored.{CanFollow}
use Rattle.album_partition.specs.Trims.{trim_mark, by_mark, on_trim, with_mark, trimmed}
use Rattle.album_partition.specs.Votes.{NotedVote, has_vote, new_vote, heard, votes_left, AreVotes}
use Rattle.album_partition.proofs.AnswerLemmas.{Acts, idle, said, prepared, committed, refused, outdated, voted_committed, voted_never, voted_prepared, acts, acts_here}
use Rattle.album_partition.specs.Bases.{extends}
use Rattle.album_partition.proofs.BaseLemmas.{is_chained-push, asked_extends, proper_of}
use Rattle.album_partition.proofs.LegalLemmas.{is_legal-push}
use Rattle.album_partition.proofs.ListLemmas.{list_all-push, list_all-any}
use Rattle.album_partition.proofs.LoadLemmas.{prepared_counts, committed_counts, discarded_counts, refused_counts, trimmed_counts}
use Rattle.album_partition.proofs.StateLemmas.{pending_tells}
use Rattle.album_partition.proofs.VoteLemmas.{votes_with_mark, votes_with_vote, left-push, heard_already}

-- ---- one mark more

-- what a mark must be so that a partition can make it
record Fits (p : PartitionState) (mark : Mark) : Type 0 where
  follows : may_follow p.marks mark ≡ true
  room : load (p.marks ++ mark ∷ []) ≤ p.limit
  proper : is_proper_mark p.number p.parts mark ≡ true
  chained : p.checked ≡ true → extends p.marks mark ≡ true

length-push : (marks : List Mark) (mark : Mark) → length (marks ++ mark ∷ []) ≡ length marks + 1
length-push marks mark = length-append marks (mark ∷ [])

not_full : (limit : ℕ) (marks : List Mark) → is_full limit marks ≡ false → load marks + 2 ≤ limit
not_full limit marks e = (let fits : limit < load marks + 2 → ⊥ = λ (less : limit < load marks + 2). absurd (let full : is_full limit marks ≡ true = (Decides-ltb limit (load marks + 2)).1 less in cc) in omega (arith, fits))

fits_prepare : (p : PartitionState) (t : ℕ) (ws : List Row) (is : List ℕ)
    → is_proper p.number p.parts t ws is ≡ true → is_full p.limit p.marks ≡ false
    → state_of p.marks t ≡ state.Unknown → (p.checked ≡ true → extends p.marks (Prepared t ws is) ≡ true) → Fits p (Prepared t ws is)
fits_prepare p t ws is proper room unknown based =
    let space : load p.marks + 2 ≤ p.limit = not_full p.limit p.marks room in
    let one : length (p.marks ++ Prepared t ws is ∷ []) ≡ length p.marks + 1 = length-push p.marks (Prepared t ws is) in
    let more : length (pending_stamps (p.marks ++ Prepared t ws is ∷ [])) ≡ length (pending_stamps p.marks) + 1 = prepared_counts p.marks t ws is unknown in
    record { follows = rw unknown refl; room = omega arith; proper = proper; chained = based }

fits_refusal : (p : PartitionState) (t : ℕ)
    → (t == 0) ≡ false → is_full p.limit p.marks ≡ false → state_of p.marks t ≡ state.Unknown → Fits p (Discarded t)
fits_refusal p t some room unknown =
    let space : load p.marks + 2 ≤ p.limit = not_full p.limit p.marks room in
    let one : length (p.marks ++ Discarded t ∷ []) ≡ length p.marks + 1 = length-push p.marks (Discarded t) in
    let same : length (pending_stamps (p.marks ++ Discarded t ∷ [])) ≡ length (pending_stamps p.marks) = refused_counts p.marks t unknown in
    record { follows = rw unknown refl; room = omega arith; proper = ap not some; chained = λ checked. refl }

fits_commit : (p : PartitionState) (t : ℕ) → IsPartition p
    → (t == 0) ≡ false → state_of p.marks t ≡ state.Pending → Fits p (Committed t)
fits_commit p t h some pending =
    let room : load p.marks ≤ p.limit = h.room in
    let one : length (p.marks ++ Committed t ∷ []) ≡ length p.marks + 1 = length-push p.marks (Committed t) in
    let fewer : length (pending_stamps (p.marks ++ Committed t ∷ [])) + 1 ≡ length (pending_stamps p.marks) = committed_counts p.marks t h.legal pending in
    record { follows = rw pending refl; room = omega arith; proper = ap not some; chained = λ checked. refl }

fits_discard : (p : PartitionState) (t : ℕ) → IsPartition p
    → (t == 0) ≡ false → state_of p.marks t ≡ state.Pending → Fits p (Discarded t)
fits_discard p t h some pending =
    let room : load p.marks ≤ p.limit = h.room in
    let one : length (p.marks ++ Discarded t ∷ []) ≡ length p.marks + 1 = length-push p.marks (Discarded t) in
    let fewer : length (pending_stamps (p.marks ++ Discarded t ∷ [])) + 1 ≡ length (pending_stamps p.marks) = discarded_counts p.marks t h.legal pending in
    record { follows = rw pending refl; room = omega arith; proper = ap not some; chained = λ checked. refl }

fits_trim : (p : PartitionState) (i : ℕ) → is_placed p.number p.parts i ≡ true → is_full p.limit p.marks ≡ false → Fits p (Trimmed i)
fits_trim p i placed room =
    let space : load p.marks + 2 ≤ p.limit = not_full p.limit p.marks room in
    let one : length (p.marks ++ Trimmed i ∷ []) ≡ length p.marks + 1 = length-push p.marks (Trimmed i) in
    let same : length (pending_stamps (p.marks ++ Trimmed i ∷ [])) ≡ length (pending_stamps p.marks) = trimmed_counts p.marks i in
    record { follows = refl; room = omega arith; proper = placed; chained = λ checked. refl }

-- a partition that makes a mark that fits is still a partition
stays_with : (p : PartitionState) (mark : Mark) → IsPartition p → Fits p mark
    → IsPartition (record p { marks = p.marks ++ mark ∷ []; votes = votes_left (decided (Some mark)) p.votes })
stays_with p mark h fits =
    record {
      some = h.some;
      few = h.few;
      here = h.here;
      limit = h.limit;
      room = fits.room;
      legal = is_legal-push p.marks mark h.legal fits.follows;
      proper = list_all-push (is_proper_mark p.number p.parts) p.marks mark h.proper fits.proper;
      votes = votes_with_mark p.number p.parts p.marks p.votes mark fits.follows h.votes;
      chained = λ checked. is_chained-push p.marks mark (h.chained checked) (fits.chained checked);
    }

-- and the mark can be stored
can_store : (p : PartitionState) (mark : Mark) → IsPartition p → Fits p mark → CanFollow p.marks mark
can_store p mark h fits =
    let limit : p.limit ≤ MAX_MARKS = h.limit in
    let room : load (p.marks ++ mark ∷ []) ≤ p.limit = fits.room in
    let one : length (p.marks ++ mark ∷ []) ≡ length p.marks + 1 = length-push p.marks mark in
    record { follows = fits.follows; room = omega arith; once = once mark fits.proper }
  where
    once : (m : Mark) → is_proper_mark p.number p.parts m ≡ true → has_single_rows (mark_writes (Some m)) ≡ true
    once (Committed t) e = refl
    once (Discarded t) e = refl
    once (Trimmed i) e = refl
    once (Prepared t ws is) e =
        let placed = placed_at p.number p.parts is in
        let own = (and_parts (not (t == 0) && are_items is) (are_own_writes p.number p.parts ws is) e).1 in
        let rows = (and_parts (are_rows_of placed ws) _ own).0 in
        (and_parts (has_single_rows ws) _ (and_parts (has_single_rows ws && _) _ rows).0).0

-- ---- no pending stamp is 0

proper_some : (number parts t : ℕ) (ws : List Row) (is : List ℕ) → is_proper number parts t ws is ≡ true → (t == 0) ≡ false
proper_some number parts t ws is e =
    not-true (t == 0) (and_parts (not (t == 0)) (are_items is) (and_parts (not (t == 0) && are_items is) (are_own_writes number parts ws is) e).0).0

proper_stamp : (number parts : ℕ) (mark : Mark) → is_proper_mark number parts mark ≡ true → is_mark_of 0 mark ≡ false
proper_stamp number parts (Committed t) e = not-true (t == 0) e
proper_stamp number parts (Discarded t) e = not-true (t == 0) e
proper_stamp number parts (Trimmed i) e = refl
proper_stamp number parts (Prepared t ws is) e =
    not-true (t == 0) (and_parts (not (t == 0)) (are_items is) (and_parts (not (t == 0) && are_items is) (are_own_writes number parts ws is) e).0).0

pub some_stamp : (p : PartitionState) (t : ℕ) → IsPartition p → state_of p.marks t ≡ state.Pending → (t == 0) ≡ false
some_stamp p t h pending =
    let found = list_all-any (is_proper_mark p.number p.parts) (prepares t) p.marks h.proper (pending_tells _ _ _ pending).2 in
    go found.0 found.2 (proper_stamp p.number p.parts found.0 found.1)
  where
    go : (mark : Mark) → prepares t mark ≡ true → is_mark_of 0 mark ≡ false → (t == 0) ≡ false
    go (Prepared s ws is) e f = subst (λ (u : ℕ). (u == 0) ≡ false) ((Decides-eqb s t).0 e) f
    go (Committed s) e f = absurd (cc)
    go (Discarded s) e f = absurd (cc)
    go (Trimmed i) e f = absurd (cc)

-- ---- a vote Prepared

-- one that was heard already does nothing
pub heard_is_nothing : (p : PartitionState) (part t : ℕ) → IsPartition p → state_of p.marks t ≡ state.Pending
    → has_vote p.votes t part ≡ true → nothing ≡ on_vote_of p part t
heard_is_nothing p part t h pending e =
    rw (e, heard_already p.number p.parts p.marks p.votes t part h.votes pending e) refl

pub noted_is_nothing : (p : PartitionState) (part t : ℕ) → IsPartition p → state_of p.marks t ≡ state.Pending
    → new_vote p.votes t part ≡ None → nothing ≡ on_vote_of p part t
noted_is_nothing p part t h pending old = go (has_vote p.votes t part) refl
  where
    go : (b : Bool) → has_vote p.votes t part ≡ b → nothing ≡ on_vote_of p part t
    go true e = heard_is_nothing p part t h pending e
    go false e = absurd (let new : new_vote p.votes t part ≡ Some (record { stamp = t; part = part }) = rw e refl in cc)

-- one that is new is noted
pub new_is_noted : (p : PartitionState) (part t : ℕ) (mark : Option Mark) (noted : NotedVote)
    → mark ≡ mark_with p part t → new_vote p.votes t part ≡ Some noted
    → record { mark = mark; vote = Some noted; reply = None } ≡ on_vote_of p part t
new_is_noted p part t mark noted marked new = rw (marked, new) refl

-- nothing changes where there is neither mark nor vote
pub same_partition : (p : PartitionState) → with_action p nothing ≡ p
same_partition p = rw (append-nil p.marks, append-nil p.votes) refl

unchanged : (p : PartitionState) → IsPartition p → IsPartition (with_action p nothing)
unchanged p h = subst IsPartition (sym (same_partition p)) h

with_votes : (p : PartitionState) (votes : List NotedVote) → IsPartition p
    → AreVotes p.number p.parts p.marks votes → IsPartition (record p { votes = votes })
with_votes p votes h are =
    record { some = h.some; few = h.few; here = h.here; limit = h.limit; room = h.room; legal = h.legal; proper = h.proper; votes = are; chained = h.chained }

-- one that waits for others is noted
waits : (p : PartitionState) (part t : ℕ) → IsPartition p → state_of p.marks t ≡ state.Pending
    → lies_at part p.parts (items_at p.marks t) ≡ true
    → has_vote p.votes t part ≡ false
    → have_voted (part ∷ heard p.votes t) (others_of p.number p.parts (items_at p.marks t)) ≡ false
    → IsPartition (with_action p (on_vote_of p part t))
waits p part t h pending due new not_all =
    rw (new, not_all) (rw (append-nil p.marks)
    (with_votes p (p.votes ++ record { stamp = t; part = part } ∷ []) h
    (votes_with_vote p.number p.parts p.marks p.votes (record { stamp = t; part = part }) new due pending not_all h.votes)))

-- the last one commits, and goes with the others
settles : (p : PartitionState) (part t : ℕ) → IsPartition p → state_of p.marks t ≡ state.Pending
    → has_vote p.votes t part ≡ false
    → have_voted (part ∷ heard p.votes t) (others_of p.number p.parts (items_at p.marks t)) ≡ true
    → IsPartition (with_action p (on_vote_of p part t))
settles p part t h pending new all =
    let made = stays_with p (Committed t) h (fits_commit p t h (some_stamp p t h pending) pending) in
    rw (new, all) (rw (left-push p.votes t part) made)

with_vote : (p : PartitionState) (part t : ℕ) → IsPartition p → state_of p.marks t ≡ state.Pending
    → lies_at part p.parts (items_at p.marks t) ≡ true
    → IsPartition (with_action p (on_vote_of p part t))
with_vote p part t h pending due = go (has_vote p.votes t part) (have_voted (part ∷ heard p.votes t) (others_of p.number p.parts (items_at p.marks t))) refl refl
  where
    go : (a b : Bool) → has_vote p.votes t part ≡ a
        → have_voted (part ∷ heard p.votes t) (others_of p.number p.parts (items_at p.marks t)) ≡ b
        → IsPartition (with_action p (on_vote_of p part t))
    go true b e f = subst (λ (action : Action). IsPartition (with_action p action)) (heard_is_nothing p part t h pending e) (unchanged p h)
    go false false e f = waits p part t h pending due e f
    go false true e f = settles p part t h pending e f

-- ---- a whole message

marked : (p : PartitionState) (mark : Mark) → IsPartition (record p { marks = p.marks ++ mark ∷ []; votes = votes_left (decided (Some mark)) p.votes })
    → IsPartition (record p { marks = p.marks ++ mark ∷ []; votes = votes_left (decided (Some mark)) (p.votes ++ []) })
marked p mark h = rw (append-nil p.votes) h

stays_by : (p : PartitionState) (from : Node) (b : Body) (e : Action) → IsPartition p → Acts p from b e → IsPartition (with_action p e)
stays_by p from b e h (idle is) = subst (λ (action : Action). IsPartition (with_action p action)) (sym is) (unchanged p h)
stays_by p from b e h (said r is true_of) = subst (λ (action : Action). IsPartition (with_action p action)) (sym is) (unchanged p h)
stays_by p from b e h (prepared a) =
    subst (λ (action : Action). IsPartition (with_action p action)) (sym a.done)
    (marked p (Prepared a.t a.ws a.is) (stays_with p (Prepared a.t a.ws a.is) h (fits_prepare p a.t a.ws a.is a.proper a.room a.unknown (asked_extends p b a.t a.ws a.is a.asked))))
stays_by p from b e h (committed a) =
    subst (λ (action : Action). IsPartition (with_action p action)) (sym a.done)
    (marked p (Committed a.t) (stays_with p (Committed a.t) h (fits_commit p a.t h a.some a.pending)))
stays_by p from b e h (refused a) =
    subst (λ (action : Action). IsPartition (with_action p action)) (sym a.done)
    (marked p (Discarded a.t) (stays_with p (Discarded a.t) h (fits_refusal p a.t a.some a.room a.unknown)))
stays_by p from b e h (outdated a) =
    subst (λ (action : Action). IsPartition (with_action p action)) (sym a.done)
    (marked p (Discarded a.t) (stays_with p (Discarded a.t) h (fits_refusal p a.t (proper_some p.number p.parts a.t a.ws a.is (proper_of p.number p.parts a.t a.ws a.is a.bs a.proper)) a.room a.unknown)))
stays_by p from b e h (voted_committed a) =
    subst (λ (action : Action). IsPartition (with_action p action)) (sym a.done)
    (marked p (Committed a.t) (stays_with p (Committed a.t) h (fits_commit p a.t h (some_stamp p a.t h a.pending) a.pending)))
stays_by p from b e h (voted_never a) =
    subst (λ (action : Action). IsPartition (with_action p action)) (sym a.done)
    (marked p (Discarded a.t) (stays_with p (Discarded a.t) h (fits_discard p a.t h (some_stamp p a.t h a.pending) a.pending)))
stays_by p from b e h (voted_prepared a) =
    subst (λ (action : Action). IsPartition (with_action p action)) (sym a.done) (with_vote p a.part a.t h a.pending a.due)

pub stays : (p : PartitionState) (from : Node) (b : Body) → IsPartition p → IsPartition (with_action p (on_body p from b))
stays p from b h = stays_by p from b (on_body p from b) h (acts p from b)

pub stays_after : (p : PartitionState) (message : Message) → IsPartition p → IsPartition (after p message)
stays_after p message h = stays_by p message.from message.body (action_of p message) h (acts_here p message)

pub follow_by : (p : PartitionState) (from : Node) (b : Body) (e : Action) → IsPartition p → Acts p from b e → IfSome e.mark (CanFollow p.marks)
follow_by p from b e h (idle is) = rw is tt
follow_by p from b e h (said r is true_of) = rw is tt
follow_by p from b e h (prepared a) =
    rw a.done (can_store p (Prepared a.t a.ws a.is) h (fits_prepare p a.t a.ws a.is a.proper a.room a.unknown (asked_extends p b a.t a.ws a.is a.asked)))
follow_by p from b e h (committed a) = rw a.done (can_store p (Committed a.t) h (fits_commit p a.t h a.some a.pending))
follow_by p from b e h (refused a) = rw a.done (can_store p (Discarded a.t) h (fits_refusal p a.t a.some a.room a.unknown))
follow_by p from b e h (outdated a) =
    rw a.done (can_store p (Discarded a.t) h (fits_refusal p a.t (proper_some p.number p.parts a.t a.ws a.is (proper_of p.number p.parts a.t a.ws a.is a.bs a.proper)) a.room a.unknown))
follow_by p from b e h (voted_committed a) = rw a.done (can_store p (Committed a.t) h (fits_commit p a.t h (some_stamp p a.t h a.pending) a.pending))
follow_by p from b e h (voted_never a) = rw a.done (can_store p (Discarded a.t) h (fits_discard p a.t h (some_stamp p a.t h a.pending) a.pending))
follow_by p from b e h (voted_prepared a) = rw a.done (decided _)
  where
    decided : (d : Decision) → IfSome (mark_by d a.t) (CanFollow p.marks)
    decided decision.Wait = tt
    decided decision.Commit = can_store p (Committed a.t) h (fits_commit p a.t h (some_stamp p a.t h a.pending) a.pending)
    decided decision.Discard = can_store p (Discarded a.t) h (fits_discard p a.t h (some_stamp p a.t h a.pending) a.pending)

pub can_follow : (p : PartitionState) (from : Node) (b : Body) → IsPartition p → IfSome (on_body p from b).mark (CanFollow p.marks)
can_follow p from b h = follow_by p from b (on_body p from b) h (acts p from b)

-- ---- how it opens

pub opens : (number parts limit : ℕ) (items : List Row) → number < parts → may_open number parts limit items ≡ true
    → IsPartition (opening_state number parts items limit)
opens number parts limit items here may =
    let counts = (and_parts (has_parts parts && has_limit limit) _ may).0 in
    let bounds = and_parts (has_parts parts) (has_limit limit) counts in
    let few = leb-true parts MAX_PARTS (and_parts (nat_le 1 parts) _ bounds.0).1 in
    let range = and_parts (nat_le MIN_MARKS limit) (nat_le limit MAX_MARKS) bounds.1 in
    let most = leb-true limit MAX_MARKS range.1 in
    let least : MIN_MARKS ≤ limit = leb-true MIN_MARKS limit range.0 in
    record {
      some = omega arith;
      few = few;
      here = here;
      limit = most;
      room = omega arith;
      legal = refl;
      proper = refl;
      votes = record { once = refl; due = refl; pending = refl; open_still = λ t pending voted. absurd (cc) };
      chained = λ checked. refl;
    }

pub opened_is : (number parts limit : ℕ) (items : List Row) (p : PartitionState) → opened number parts items limit ≡ Ok p → IsPartition p
opened_is number parts limit items p e = go (nat_lt number parts) (may_open number parts limit items) refl refl e
  where
    go : (a b : Bool) → nat_lt number parts ≡ a → may_open number parts limit items ≡ b
        → (if not a then Err NoSuchPart else if not b then Err BadOpening else Ok (opening_state number parts items limit)) ≡ Ok p
        → IsPartition p
    go false b f g e = absurd (cc)
    go true false f g e = absurd (cc)
    go true true f g e =
        let same : opening_state number parts items limit ≡ p = cc in
        subst IsPartition same (opens number parts limit items ((Decides-ltb number parts).0 f) g)

-- ---- what is trimmed

-- a trim that makes a mark
pub trims_by : (p : PartitionState) (i : ℕ) → IsPartition p → is_placed p.number p.parts i ≡ true → is_full p.limit p.marks ≡ false
    → IsPartition (record p { marks = p.marks ++ Trimmed i ∷ [] }) × CanFollow p.marks (Trimmed i)
trims_by p i h placed room =
    let fits = fits_trim p i placed room in (stays_with p (Trimmed i) h fits, can_store p (Trimmed i) h fits)

-- what a trim gives
trimmed-cases : (P : PartitionState → Type 0) (p q : PartitionState) (i : ℕ) → P p
    → (is_placed p.number p.parts i ≡ true → is_full p.limit p.marks ≡ false → P (record p { marks = p.marks ++ Trimmed i ∷ [] }))
    → trimmed p i ≡ Ok q → P q
trimmed-cases P p q i same more e =
    go (is_placed p.number p.parts i) (floor p.marks i == latest p.marks i) (is_full p.limit p.marks) refl refl e
  where
    go : (a b c : Bool) → is_placed p.number p.parts i ≡ a → is_full p.limit p.marks ≡ c
        → ((if not a then Err Clash else if b then Ok None else if c then Err Full else Ok (Some (Trimmed i))) >>= λ mark. Ok (with_mark p mark)) ≡ Ok q
        → P q
    go false b c f g h = absurd (cc)
    go true true c f g h =
        let made : with_mark p None ≡ q = cc in
        subst P (sym (ap (λ (ms : List Mark). record p { marks = ms }) (append-nil p.marks)) ∙ made) same
    go true false true f g h = absurd (cc)
    go true false false f g h = let made : with_mark p (Some (Trimmed i)) ≡ q = cc in subst P made (more f g)

pub trimmed_is : (p q : PartitionState) (i : ℕ) → IsPartition p → trimmed p i ≡ Ok q → IsPartition q
trimmed_is p q i h e = trimmed-cases IsPartition p q i h (λ placed room. (trims_by p i h placed room).0) e

-- where there is no room, a trim that is not refused does nothing
pub full_is_left : (p q : PartitionState) (i : ℕ) → is_full p.limit p.marks ≡ true → trimmed p i ≡ Ok q → q ≡ p
full_is_left p q i full e = trimmed-cases (λ r. r ≡ p) p q i refl (λ placed room. absurd (false≢true (sym room ∙ full))) e

-- the mark that a trim makes
trim_made : (p : PartitionState) (i : ℕ) (m : Mark) → trim_mark p i ≡ Ok (Some m)
    → (m ≡ Trimmed i) × (is_placed p.number p.parts i ≡ true) × (is_full p.limit p.marks ≡ false)
trim_made p i m e =
    go (is_placed p.number p.parts i) (floor p.marks i == latest p.marks i) (is_full p.limit p.marks) refl refl e
  where
    go : (a b c : Bool) → is_placed p.number p.parts i ≡ a → is_full p.limit p.marks ≡ c
        → (if not a then Err Clash else if b then Ok None else if c then Err Full else Ok (Some (Trimmed i))) ≡ Ok (Some m)
        → (m ≡ Trimmed i) × (is_placed p.number p.parts i ≡ true) × (is_full p.limit p.marks ≡ false)
    go false b c f g h = absurd (cc)
    go true true c f g h = absurd (cc)
    go true false true f g h = absurd (cc)
    go true false false f g h = (cc, f, g)

-- what is decided of a trim can be done
pub record CanTrim (p : PartitionState) (a : Action) : Type 0 where
  pub follows : IfSome a.mark (CanFollow p.marks)
  pub stays : IsPartition (with_action p a)

-- a mark that decides nothing lets no vote go
same_votes : (p : PartitionState) (x : Option Mark) → decided x ≡ None → with_mark p x ≡ with_action p (by_mark x)
same_votes p x none =
    let left : votes_left (decided x) (p.votes ++ []) ≡ p.votes = rw none (append-nil p.votes) in
    sym (ap (λ (vs : List NotedVote). record (with_mark p x) { votes = vs }) left)

pub can_trim : (p : PartitionState) (i : ℕ) (a : Action) → IsPartition p → on_trim p i ≡ Ok a → CanTrim p a
can_trim p i a h e = go (trim_mark p i) refl e
  where
    go : (r : Result (Option Mark) Refusal) → trim_mark p i ≡ r → (r >>= λ mark. Ok (by_mark mark)) ≡ Ok a → CanTrim p a
    go (Err refusal) f g = absurd (cc)
    go (Ok None) f g =
        let made : by_mark None ≡ a = cc in
        subst (CanTrim p) made
        (record {
          follows = tt;
          stays = subst IsPartition
              (sym (ap (λ (ms : List Mark). record p { marks = ms }) (append-nil p.marks)) ∙ same_votes p None refl) h;
        })
    go (Ok (Some m)) f g =
        let made : by_mark (Some m) ≡ a = cc in
        let facts = trim_made p i m f in
        let may = subst (λ (n : Mark). IsPartition (record p { marks = p.marks ++ n ∷ [] }) × CanFollow p.marks n)
        (sym facts.0) (trims_by p i h facts.1 facts.2) in
        let none : decided (Some m) ≡ None = ap (λ (n : Mark). decided (Some n)) facts.0 in
        subst (CanTrim p) made
        (record { follows = may.1; stays = subst IsPartition (same_votes p (Some m) none) may.0 })
