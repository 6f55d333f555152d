-- What follows of the table of answers. Each lemma that is `pub` is a law's, by its name; all but the last few go
-- through the ways in which a message can act (`acts_here`).
use Rattle.std.proofs.Common.{◌≡◌, ◌≢◌, ◌↔◌, ◌⊎◌, ⊎_elim, inl, inr, ℕ, ◌≤◌, Bool, true, false, ◌==◌, ◌||◌, not, is_some, Contains, IfSome, List, [], ◌∷◌, ◌++◌, option_map, option_to_list, Option, Some, None, refl, sym, ap, ◌∙◌, subst, if◌then◌else◌}
use Rattle.std.specs.List.{list_any}
use Rattle.std.proofs.lemmas.Bool.Decides.{Decides-eqb}
use Rattle.std.proofs.lemmas.List.{append-nil}
use Rattle.std.proofs.lemmas.List.Elements.{All-contains}
use Rattle.album_items.specs.ItemIds.{place_of}
use Rattle.album_items.specs.Openings.{Row}
use Rattle.album_items.specs.declared.values.Value.{Value}
use Rattle.album_calls.specs.Nodes.{is_part}
use Rattle.album_calls.specs.declared.messages.Body.{Body}
use Rattle.album_calls.specs.declared.messages.Body.TheVariants as body
use Rattle.album_calls.specs.declared.messages.Message.{Message}
use Rattle.album_calls.specs.declared.nodes.Node.{Node}
use Rattle.album_calls.specs.declared.nodes.Node.TheVariants.{Part, Client}
use Rattle.album_calls.specs.declared.nodes.Vote.{Vote}
use Rattle.album_calls.specs.declared.nodes.Vote.TheVariants as vote
use Rattle.album_calls.specs.declared.requests.Request.{Request}
use Rattle.album_calls.specs.declared.requests.Request.TheVariants.{Prepare, PrepareOn, Commit, Get, Check}
use Rattle.album_calls.specs.declared.replies.Reply.{Reply}
use Rattle.album_calls.specs.declared.replies.Reply.TheVariants as reply
use Rattle.album_terminate.specs.Deciding.{have_voted}
use Rattle.album_terminate.specs.declared.deciding.Decision.TheVariants as decision
use Rattle.album_terminate.specs.declared.deciding.StampState.{StampState}
use Rattle.album_terminate.specs.declared.deciding.StampState.TheVariants as state
use Rattle.album_terminate.proofs.Voting.{have_voted_decides}
use Rattle.album_versions.specs.Best.{best_of}
use Rattle.album_versions.proofs.Greatest.{best_of-passes, Contains-best_of, All-best_of}
use Rattle.album_partition.specs.declared.marks.Mark.{Mark}
use Rattle.album_partition.specs.declared.marks.Mark.TheVariants.{Prepared, Committed, Discarded, Trimmed}
use Rattle.album_partition.specs.Answers.{Action, nothing, says, get_by, marks, marks_and_says, mark_by, is_same, prepare_by, prepare_on_by, commit_by, check_by, on_prepare, on_prepare_on, on_check, on_vote_of, on_vote, on_status, on_request, on_body, action_of, with_action, after, reply_to, answer}
use Rattle.album_partition.specs.Laws.{IsTrueOf, IsClash, IsReplyTo, IsLatest, IsBest, IsReadAt, IsValueOf, IsReadOf, IsGoneFor, IsChecked, IsOutdated, IsCause}
use Rattle.album_partition.specs.Bases.{are_bases}
use Rattle.album_partition.specs.Marks.{IsPromisedAgainst, is_mark_of, commits, decided, state_of, is_unknown, is_pending, is_full, items_at, version, has_version, committed_stamps, latest}
use Rattle.album_partition.specs.Partition.{PartitionState, IsPartition, value_at, stamp_for, read_at}
use Rattle.album_items.specs.Places.{is_placed, lies_at, others_of}
use Rattle.album_partition.specs.Proper.{is_proper, is_proper_on}
use Rattle.album_partition.specs.Stored.{CanFollow}
use Rattle.album_partition.specs.Votes.{NotedVote, heard, votes_left, is_on_pending}
use Rattle.album_partition.proofs.AnswerLemmas.{IsSaid, Acts, idle, said, prepared, committed, refused, outdated, voted_committed, voted_never, voted_prepared, acts_here}
use Rattle.album_partition.proofs.GrowthLemmas.{full_still}
use Rattle.album_partition.proofs.ListLemmas.{same_or_not, list_all-contains, any_from_contains, contains_from_any, kept_in, kept_out}
use Rattle.album_partition.proofs.PartitionLemmas.{same_partition, follow_by, stays_after}
use Rattle.album_partition.proofs.TrimLemmas.{gone_trimmed, gone_unkept, gone_asks}
use Rattle.album_partition.proofs.StateLemmas.{state_push_other, unknown_tells, committed_tells, is_pending_tells, prepared_is_pending, committed_is_committed, discarded_is_discarded}

-- ---- what a reply means

said_true : (p : PartitionState) (b : Body) (r : Reply) → IsSaid p b r → IsTrueOf p.marks r
said_true p b (reply.Prepared t) h = h
said_true p b (reply.Committed t) h = h
said_true p b (reply.Discarded t) h = h
said_true p b (reply.Version i t v) h = tt
said_true p b (reply.Status t vote.Prepared) h = h
said_true p b (reply.Status t vote.Committed) h = h
said_true p b (reply.Status t vote.Never) h = h
said_true p b (reply.NotPrepared t) h = h
said_true p b reply.Clash h = tt
said_true p b (reply.Full t) h = h.1
said_true p b (reply.Gone i) h = gone_trimmed p.marks i h.0 h.2

-- what an action that is known says
reply_holds : (p : PartitionState) (e known : Action) (r sent : Reply) → e ≡ known → known.reply ≡ Some sent
    → IsTrueOf (p.marks ++ option_to_list known.mark) sent → e.reply ≡ Some r → IsTrueOf (with_action p e).marks r
reply_holds p e known r sent is says_it h f =
    let same : sent ≡ r = (let g : known.reply ≡ Some r = subst (λ (x : Action). x.reply ≡ Some r) is f in cc) in
    subst (λ (x : Action). IsTrueOf (with_action p x).marks r) (sym is) (subst (IsTrueOf (p.marks ++ option_to_list known.mark)) same h)

silent : (e known : Action) (r : Reply) {X : Type 0} → e ≡ known → known.reply ≡ None → e.reply ≡ Some r → X
silent e known r is none f = absurd (let g : known.reply ≡ Some r = subst (λ (x : Action). x.reply ≡ Some r) is f in cc)

true_by : (p : PartitionState) (from : Node) (b : Body) (e : Action) → Acts p from b e → (r : Reply) → e.reply ≡ Some r → IsTrueOf (with_action p e).marks r
true_by p from b e (idle is) r f = silent e nothing r is refl f
true_by p from b e (said sent is h) r f =
    reply_holds p e (says sent) r sent is refl (subst (λ (ms : List Mark). IsTrueOf ms sent) (sym (append-nil p.marks)) (said_true p b sent h)) f
true_by p from b e (prepared a) r f =
    reply_holds p e (marks_and_says (Prepared a.t a.ws a.is) (reply.Prepared a.t)) r (reply.Prepared a.t) a.done refl
    (inl (prepared_is_pending p.marks a.t a.ws a.is a.unknown)) f
true_by p from b e (committed a) r f =
    reply_holds p e (marks_and_says (Committed a.t) (reply.Committed a.t)) r (reply.Committed a.t) a.done refl (committed_is_committed p.marks a.t) f
true_by p from b e (refused a) r f =
    reply_holds p e (marks_and_says (Discarded a.t) (reply.Status a.t vote.Never)) r (reply.Status a.t vote.Never) a.done refl
    (discarded_is_discarded p.marks a.t (unknown_tells _ _ _ a.unknown).0) f
true_by p from b e (outdated a) r f =
    reply_holds p e (marks_and_says (Discarded a.t) (reply.Discarded a.t)) r (reply.Discarded a.t) a.done refl
    (discarded_is_discarded p.marks a.t (unknown_tells _ _ _ a.unknown).0) f
true_by p from b e (voted_committed a) r f = silent e (marks (Committed a.t)) r a.done refl f
true_by p from b e (voted_never a) r f = silent e (marks (Discarded a.t)) r a.done refl f
true_by p from b e (voted_prepared a) r f = silent e (on_vote_of p a.part a.t) r a.done refl f

-- what is answered is the reply, sent back
answered_by : (p : PartitionState) (m sent : Message) (o : Option Reply) → option_map (reply_to p m) o ≡ Some sent
    → (r : Reply) × (o ≡ Some r) × (sent ≡ reply_to p m r)
answered_by p m sent None e = absurd (cc)
answered_by p m sent (Some r) e = (r, refl, cc)

pub replies_are_true : (p : PartitionState) (m sent : Message) → answer p m ≡ Some sent
    → (r : Reply) × (sent.body ≡ body.Reply r) × IsTrueOf (after p m).marks r
replies_are_true p m sent e =
    let found = answered_by p m sent (action_of p m).reply e in
    (found.0, ap (λ (x : Message). x.body) found.2, true_by p m.from m.body (action_of p m) (acts_here p m) found.0 found.1)

-- ---- to whom it goes

pub to_the_sender : (p : PartitionState) (m sent : Message) → answer p m ≡ Some sent → IsReplyTo p m sent
to_the_sender p m sent e =
    let found = answered_by p m sent (action_of p m).reply e in
    record { sender = ap (λ (x : Message). x.from) found.2; receiver = ap (λ (x : Message). x.to) found.2; tag = ap (λ (x : Message). x.tag) found.2 }

status_silent : (p : PartitionState) (from : Node) (t : ℕ) (v : Vote) → (on_status p from t v).reply ≡ None
status_silent p from t v = go (is_pending (state_of p.marks t)) from v
  where
    part : (b : Bool) (q : ℕ) → (if b then on_vote_of p q t else nothing).reply ≡ None
    part true q = refl
    part false q = refl

    go : (b : Bool) (from : Node) (v : Vote) → (if b then on_vote p from t v else nothing).reply ≡ None
    go true (Part q) vote.Prepared = part (lies_at q p.parts (items_at p.marks t)) q
    go true (Client c) vote.Prepared = refl
    go true from vote.Committed = refl
    go true from vote.Never = refl
    go false from v = refl

replies_silent : (p : PartitionState) (from : Node) (r : Reply) → (on_body p from (body.Reply r)).reply ≡ None
replies_silent p from (reply.Status t v) = status_silent p from t v
replies_silent p from (reply.Prepared t) = refl
replies_silent p from (reply.Committed t) = refl
replies_silent p from (reply.Discarded t) = refl
replies_silent p from (reply.Version i t v) = refl
replies_silent p from (reply.NotPrepared t) = refl
replies_silent p from reply.Clash = refl
replies_silent p from (reply.Full t) = refl
replies_silent p from (reply.Gone i) = refl

same_request : (p : PartitionState) (votes : List NotedVote) (from : Node) (q : Request)
    → (on_body (record p { votes = votes }) from (body.Request q)).reply ≡ (on_body p from (body.Request q)).reply
same_request p votes from (Prepare t ws is) = refl
same_request p votes from (PrepareOn t ws is bs) = refl
same_request p votes from (Commit t) = refl
same_request p votes from (Get item stamps) = refl
same_request p votes from (Check t) = refl

same_reply : (p : PartitionState) (votes : List NotedVote) (from : Node) (b : Body) → (on_body (record p { votes = votes }) from b).reply ≡ (on_body p from b).reply
same_reply p votes from (body.Request q) = same_request p votes from q
same_reply p votes from (body.Reply r) = replies_silent (record p { votes = votes }) from r ∙ sym (replies_silent p from r)

pub votes_do_not_matter : (p : PartitionState) (m : Message) (votes : List NotedVote) → answer (record p { votes = votes }) m ≡ answer p m
votes_do_not_matter p m votes = ap (option_map (reply_to p m)) (go (is_part m.to p.number))
  where
    go : (b : Bool) → (if b then on_body (record p { votes = votes }) m.from m.body else nothing).reply ≡ (if b then on_body p m.from m.body else nothing).reply
    go true = same_reply p votes m.from m.body
    go false = refl

pub replies_are_not_answered : (p : PartitionState) (m : Message) (r : Reply) → m.body ≡ body.Reply r → answer p m ≡ None
replies_are_not_answered p m r e = ap (option_map (reply_to p m)) (go (is_part m.to p.number))
  where
    go : (b : Bool) → (if b then on_body p m.from m.body else nothing).reply ≡ None
    go true = ap (λ (x : Body). (on_body p m.from x).reply) e ∙ replies_silent p m.from r
    go false = refl

pub others_do_nothing : (p : PartitionState) (m : Message) → is_part m.to p.number ≡ false → (after p m ≡ p) × (answer p m ≡ None)
others_do_nothing p m e = (rw e (same_partition p), rw e refl)

-- ---- which votes are kept

left_is : (stamp : Option ℕ) (votes : List NotedVote) (vote : NotedVote) → Contains (votes_left stamp votes) vote → Contains votes vote
left_is None votes vote h = h
left_is (Some t) votes vote h = (kept_in (λ (v : NotedVote). not (v.stamp == t)) votes vote h).1

left_has : (stamp : Option ℕ) (votes : List NotedVote) (vote : NotedVote) → stamp ≢ Some vote.stamp → Contains votes vote
    → Contains (votes_left stamp votes) vote
left_has None votes vote other h = h
left_has (Some t) votes vote other h =
    kept_out (λ (v : NotedVote). not (v.stamp == t)) votes vote
    (same_or_not vote.stamp t (λ (e : vote.stamp ≡ t). absurd (other (ap Some (sym e)))) (λ (e : (vote.stamp == t) ≡ false). ap not e)) h

-- a stamp that is decided is pending no more
decided_is_over : (marks : List Mark) (mark : Option Mark) (t : ℕ) → IfSome mark (CanFollow marks) → decided mark ≡ Some t
    → state_of (marks ++ option_to_list mark) t ≢ state.Pending
decided_is_over marks None t may e pending = absurd (cc)
decided_is_over marks (Some (Prepared s ws is)) t may e pending = absurd (cc)
decided_is_over marks (Some (Trimmed i)) t may e pending = absurd (cc)
decided_is_over marks (Some (Committed s)) t may e pending =
    let same : s ≡ t = cc in
    let done = subst (λ (u : ℕ). state_of (marks ++ Committed s ∷ []) u ≡ state.Committed) same (committed_is_committed marks s) in
    absurd (cc)
decided_is_over marks (Some (Discarded s)) t may e pending =
    let same : s ≡ t = cc in
    let gone = subst (λ (u : ℕ). state_of (marks ++ Discarded s ∷ []) u ≡ state.Discarded) same
    (discarded_is_discarded marks s (uncommitted (list_any (commits s) marks) refl)) in
    absurd (cc)
  where
    uncommitted : (b : Bool) → list_any (commits s) marks ≡ b → list_any (commits s) marks ≡ false
    uncommitted false f = f
    uncommitted true f = absurd (let h : state_of marks s ≡ state.Committed = rw f refl in let g : is_unknown (state_of marks s) || is_pending (state_of marks s) ≡ true = may.follows in let wrong = rw h at g in cc)

pub votes_are_kept : (p : PartitionState) (m : Message) (vote : NotedVote) → IsPartition p
    → Contains (after p m).votes vote
    ↔ (Contains (p.votes ++ option_to_list (action_of p m).vote) vote × (state_of (after p m).marks vote.stamp ≡ state.Pending))
votes_are_kept p m vote h = (there, back)
  where
    noted : List NotedVote
    noted = p.votes ++ option_to_list (action_of p m).vote

    there : Contains (after p m).votes vote → Contains noted vote × (state_of (after p m).marks vote.stamp ≡ state.Pending)
    there kept = (
      left_is (decided (action_of p m).mark) noted vote kept,
      is_pending_tells (state_of (after p m).marks vote.stamp)
          (list_all-contains (is_on_pending (after p m).marks) (after p m).votes vote (stays_after p m h).votes.pending kept),
    )

    back : Contains noted vote × (state_of (after p m).marks vote.stamp ≡ state.Pending) → Contains (after p m).votes vote
    back (had, pending) =
        left_has (decided (action_of p m).mark) noted vote
        (λ e. decided_is_over p.marks (action_of p m).mark vote.stamp (follow_by p m.from m.body (action_of p m) h (acts_here p m)) e pending) had

-- ---- why a mark is made

-- what an action that is known marks
marks_by : (p : PartitionState) (m : Message) (e known : Action) (made mark : Mark) → e ≡ known → known.mark ≡ Some made
    → IsCause p m made → e.mark ≡ Some mark → IsCause p m mark
marks_by p m e known made mark is marked h f =
    subst (IsCause p m) (let g : known.mark ≡ Some mark = subst (λ (x : Action). x.mark ≡ Some mark) is f in cc) h

unmarked : (e known : Action) (mark : Mark) {X : Type 0} → e ≡ known → known.mark ≡ None → e.mark ≡ Some mark → X
unmarked e known mark is none f = absurd (let g : known.mark ≡ Some mark = subst (λ (x : Action). x.mark ≡ Some mark) is f in cc)

last_vote : (p : PartitionState) (m : Message) (part t : ℕ) (mark : Mark)
    → m.from ≡ Part part → m.body ≡ body.Reply (reply.Status t vote.Prepared)
    → lies_at part p.parts (items_at p.marks t) ≡ true → state_of p.marks t ≡ state.Pending
    → (b : Bool) → have_voted (part ∷ heard p.votes t) (others_of p.number p.parts (items_at p.marks t)) ≡ b
    → mark_by (if b then decision.Commit else decision.Wait) t ≡ Some mark → IsCause p m mark
last_vote p m part t mark sender voted due pending true all f =
    subst (IsCause p m) (let same : Committed t ≡ mark = cc in same) (
      pending,
      inr (inr (record {
        part = part;
        sender = sender;
        voted = voted;
        due = due;
        others = (have_voted_decides (part ∷ heard p.votes t) (others_of p.number p.parts (items_at p.marks t))).0 all;
      })),
    )
last_vote p m part t mark sender voted due pending false all f = absurd (cc)

cause_by : (p : PartitionState) (m : Message) (e : Action) → Acts p m.from m.body e → (mark : Mark) → e.mark ≡ Some mark → IsCause p m mark
cause_by p m e (idle is) mark f = unmarked e nothing mark is refl f
cause_by p m e (said sent is h) mark f = unmarked e (says sent) mark is refl f
cause_by p m e (prepared a) mark f =
    marks_by p m e (marks_and_says (Prepared a.t a.ws a.is) (reply.Prepared a.t)) (Prepared a.t a.ws a.is) mark a.done refl
    (record { asked = a.asked; unknown = a.unknown; proper = a.proper; room = a.room }) f
cause_by p m e (committed a) mark f =
    marks_by p m e (marks_and_says (Committed a.t) (reply.Committed a.t)) (Committed a.t) mark a.done refl (a.pending, inl a.asked) f
cause_by p m e (refused a) mark f =
    marks_by p m e (marks_and_says (Discarded a.t) (reply.Status a.t vote.Never)) (Discarded a.t) mark a.done refl
    (inl (record { asked = a.asked; unknown = a.unknown; room = a.room })) f
cause_by p m e (outdated a) mark f =
    marks_by p m e (marks_and_says (Discarded a.t) (reply.Discarded a.t)) (Discarded a.t) mark a.done refl
    (inr (inl (record {
      writes = a.ws;
      items = a.is;
      bases = a.bs;
      asked = a.asked;
      checked = a.checked;
      outdated = a.outdated;
      proper = a.proper;
      unknown = a.unknown;
      room = a.room;
    }))) f
cause_by p m e (voted_committed a) mark f = marks_by p m e (marks (Committed a.t)) (Committed a.t) mark a.done refl (a.pending, inr (inl a.voted)) f
cause_by p m e (voted_never a) mark f = marks_by p m e (marks (Discarded a.t)) (Discarded a.t) mark a.done refl (inr (inr (a.pending, a.voted))) f
cause_by p m e (voted_prepared a) mark f =
    last_vote p m a.part a.t mark a.sender a.voted a.due a.pending
    (have_voted (a.part ∷ heard p.votes a.t) (others_of p.number p.parts (items_at p.marks a.t))) refl
    (subst (λ (x : Action). x.mark ≡ Some mark) a.done f)

pub marks_are_caused : (p : PartitionState) (m : Message) (mark : Mark) → (action_of p m).mark ≡ Some mark → IsCause p m mark
marks_are_caused p m mark f = cause_by p m (action_of p m) (acts_here p m) mark f

-- ---- a promise against a stamp

promised_by : (p : PartitionState) (from : Node) (b : Body) (e : Action) (t : ℕ) → Acts p from b e → state_of p.marks t ≡ state.Unknown
    → e.reply ≡ Some (reply.Status t vote.Never) → IsPromisedAgainst (with_action p e).marks t
promised_by p from b e t (idle is) unknown f = silent e nothing (reply.Status t vote.Never) is refl f
promised_by p from b e t (said sent is h) unknown f =
    absurd (
    let same : sent ≡ reply.Status t vote.Never = (let g : Some sent ≡ Some (reply.Status t vote.Never) = subst (λ (x : Action). x.reply ≡ Some (reply.Status t vote.Never)) is f in cc) in
    let gone : state_of p.marks t ≡ state.Discarded = subst (IsSaid p b) same h in
    cc)
promised_by p from b e t (prepared a) unknown f =
    absurd (let g : Some (reply.Prepared a.t) ≡ Some (reply.Status t vote.Never) = subst (λ (x : Action). x.reply ≡ Some (reply.Status t vote.Never)) a.done f in cc)
promised_by p from b e t (committed a) unknown f =
    absurd (let g : Some (reply.Committed a.t) ≡ Some (reply.Status t vote.Never) = subst (λ (x : Action). x.reply ≡ Some (reply.Status t vote.Never)) a.done f in cc)
promised_by p from b e t (refused a) unknown f =
    let same : a.t ≡ t = (let g : Some (reply.Status a.t vote.Never) ≡ Some (reply.Status t vote.Never) = subst (λ (x : Action). x.reply ≡ Some (reply.Status t vote.Never)) a.done f in cc) in
    record {
      before = p.marks;
      later = [];
      discarded = ap (λ (x : Action). p.marks ++ option_to_list x.mark) a.done ∙ ap (λ (u : ℕ). p.marks ++ Discarded u ∷ []) same;
      unprepared = (unknown_tells _ _ _ unknown).2;
    }
promised_by p from b e t (outdated a) unknown f =
    absurd (let g : Some (reply.Discarded a.t) ≡ Some (reply.Status t vote.Never) = subst (λ (x : Action). x.reply ≡ Some (reply.Status t vote.Never)) a.done f in cc)
promised_by p from b e t (voted_committed a) unknown f = silent e (marks (Committed a.t)) (reply.Status t vote.Never) a.done refl f
promised_by p from b e t (voted_never a) unknown f = silent e (marks (Discarded a.t)) (reply.Status t vote.Never) a.done refl f
promised_by p from b e t (voted_prepared a) unknown f = silent e (on_vote_of p a.part a.t) (reply.Status t vote.Never) a.done refl f

pub never_is_a_promise : (p : PartitionState) (m : Message) (t : ℕ) → state_of p.marks t ≡ state.Unknown
    → (action_of p m).reply ≡ Some (reply.Status t vote.Never) → IsPromisedAgainst (after p m).marks t
never_is_a_promise p m t unknown f = promised_by p m.from m.body (action_of p m) t (acts_here p m) unknown f

-- ---- where there is no room

-- a message that gets this reply may also make a mark
abbrev ComesWithMark : Reply → Type 0
ComesWithMark (reply.Prepared t) = Unit {0}
ComesWithMark (reply.Committed t) = Unit {0}
ComesWithMark (reply.Discarded t) = Unit {0}
ComesWithMark (reply.Version i t v) = ⊥
ComesWithMark (reply.Status t v) = Unit {0}
ComesWithMark (reply.NotPrepared t) = ⊥
ComesWithMark reply.Clash = ⊥
ComesWithMark (reply.Full t) = ⊥
ComesWithMark (reply.Gone i) = ⊥

-- any other reply is all that the message does
only_said : (p : PartitionState) (from : Node) (b : Body) (e : Action) (r : Reply) → (ComesWithMark r → ⊥)
    → Acts p from b e → e.reply ≡ Some r → IsSaid p b r
only_said p from b e r alone (idle is) f = silent e nothing r is refl f
only_said p from b e r alone (said sent is h) f =
    let same : sent ≡ r = (let g : Some sent ≡ Some r = subst (λ (x : Action). x.reply ≡ Some r) is f in cc) in subst (IsSaid p b) same h
only_said p from b e r alone (prepared a) f =
    let same : (reply.Prepared a.t) ≡ r = (let g : Some (reply.Prepared a.t) ≡ Some r = subst (λ (x : Action). x.reply ≡ Some r) a.done f in cc) in absurd (alone (subst ComesWithMark same tt))
only_said p from b e r alone (committed a) f =
    let same : (reply.Committed a.t) ≡ r = (let g : Some (reply.Committed a.t) ≡ Some r = subst (λ (x : Action). x.reply ≡ Some r) a.done f in cc) in absurd (alone (subst ComesWithMark same tt))
only_said p from b e r alone (refused a) f =
    let same : (reply.Status a.t vote.Never) ≡ r = (let g : Some (reply.Status a.t vote.Never) ≡ Some r = subst (λ (x : Action). x.reply ≡ Some r) a.done f in cc) in absurd (alone (subst ComesWithMark same tt))
only_said p from b e r alone (outdated a) f =
    let same : (reply.Discarded a.t) ≡ r = (let g : Some (reply.Discarded a.t) ≡ Some r = subst (λ (x : Action). x.reply ≡ Some r) a.done f in cc) in absurd (alone (subst ComesWithMark same tt))
only_said p from b e r alone (voted_committed a) f = silent e (marks (Committed a.t)) r a.done refl f
only_said p from b e r alone (voted_never a) f = silent e (marks (Discarded a.t)) r a.done refl f
only_said p from b e r alone (voted_prepared a) f = silent e (on_vote_of p a.part a.t) r a.done refl f

said_here : (p : PartitionState) (m : Message) (r : Reply) → (ComesWithMark r → ⊥) → (action_of p m).reply ≡ Some r → IsSaid p m.body r
said_here p m r alone f = only_said p m.from m.body (action_of p m) r alone (acts_here p m) f

pub full_only : (p : PartitionState) (m : Message) (t : ℕ) → (action_of p m).reply ≡ Some (reply.Full t)
    → (is_full p.limit p.marks ≡ true) × (state_of p.marks t ≡ state.Unknown)
full_only p m t f = said_here p m (reply.Full t) (λ x. x) f

other : (t : ℕ) → t ≢ 0 → (t == 0) ≡ false
other t h = go (t == 0) refl
  where
    go : (b : Bool) → (t == 0) ≡ b → (t == 0) ≡ false
    go true e = absurd (h ((Decides-eqb t 0).0 e))
    go false e = e

pub full_check : (p : PartitionState) (t : ℕ) → t ≢ 0 → is_full p.limit p.marks ≡ true → state_of p.marks t ≡ state.Unknown
    → on_check p t ≡ says (reply.Full t)
full_check p t some full unknown = rw (other t some, full, unknown) refl

pub full_prepare : (p : PartitionState) (t : ℕ) (ws : List Row) (is : List ℕ)
    → is_proper p.number p.parts t ws is ≡ true → is_full p.limit p.marks ≡ true → state_of p.marks t ≡ state.Unknown
    → on_prepare p t ws is ≡ says (reply.Full t)
full_prepare p t ws is proper full unknown = rw (proper, full, unknown) refl

-- it stays so
pub still_full : (p : PartitionState) (m : Message) → IsPartition p → is_full p.limit p.marks ≡ true
    → is_full p.limit (after p m).marks ≡ true
still_full p m h full = full_still p.marks (option_to_list (action_of p m).mark) p.limit (stays_after p m h).legal full

-- a mark is of a stamp that is pending, where there is no room for another's
pending_cause : (p : PartitionState) (m : Message) (mark : Mark) (t : ℕ) → is_full p.limit p.marks ≡ true → IsCause p m mark
    → is_mark_of t mark ≡ true → state_of p.marks t ≡ state.Pending
pending_cause p m (Prepared s ws is) t full cause own = absurd (let room = cause.room in cc)
pending_cause p m (Committed s) t full cause own = subst (λ (u : ℕ). state_of p.marks u ≡ state.Pending) ((Decides-eqb s t).0 own) cause.0
pending_cause p m (Discarded s) t full cause own =
    subst (λ (u : ℕ). state_of p.marks u ≡ state.Pending) ((Decides-eqb s t).0 own)
    (⊎_elim (λ (a : IsChecked p m s). absurd (let room = a.room in cc))
    (⊎_elim (λ (a : IsOutdated p m s). absurd (let room = a.room in cc)) (λ b. b.0)) cause)
pending_cause p m (Trimmed i) t full cause own = absurd (cc)

pub still_unknown : (p : PartitionState) (m : Message) (t : ℕ) → is_full p.limit p.marks ≡ true → state_of p.marks t ≡ state.Unknown
    → state_of (after p m).marks t ≡ state.Unknown
still_unknown p m t full unknown = go (action_of p m).mark refl
  where
    go : (o : Option Mark) → (action_of p m).mark ≡ o → state_of (p.marks ++ option_to_list o) t ≡ state.Unknown
    go None e = rw (append-nil p.marks) unknown
    go (Some mark) e = state_push_other p.marks mark t (apart (is_mark_of t mark) refl) ∙ unknown
      where
        apart : (b : Bool) → is_mark_of t mark ≡ b → is_mark_of t mark ≡ false
        apart false f = f
        apart true f = absurd (let now = pending_cause p m mark t full (marks_are_caused p m mark e) f in cc)

-- ---- what is read

-- the committed stamps are those that marks commit
committed_is : (marks : List Mark) (t : ℕ) → list_any (λ s. s == t) (committed_stamps marks) ≡ list_any (commits t) marks
committed_is [] t = refl
committed_is (Prepared s ws is ∷ marks) t = committed_is marks t
committed_is (Discarded s ∷ marks) t = committed_is marks t
committed_is (Trimmed i ∷ marks) t = committed_is marks t
committed_is (Committed s ∷ marks) t = ap (λ (b : Bool). (s == t) || b) (committed_is marks t)

state_committed : (marks : List Mark) (t : ℕ) → list_any (commits t) marks ≡ true → state_of marks t ≡ state.Committed
state_committed marks t e = rw e refl

pub read_latest : (marks : List Mark) (item : ℕ) → IsLatest marks item (latest marks item)
read_latest marks item =
    record {
      committed = λ some. state_committed marks (latest marks item)
          (sym (committed_is marks (latest marks item)) ∙ any_from_contains (committed_stamps marks) (latest marks item) (Contains-best_of (has_version marks item) (committed_stamps marks) some));
      there = λ some. best_of-passes (has_version marks item) (committed_stamps marks) some;
      greatest = λ t done there.
          All-contains (λ n. has_version marks item n ≡ true → n ≤ latest marks item) (committed_stamps marks) t
          (All-best_of (has_version marks item) (committed_stamps marks))
          (contains_from_any (committed_stamps marks) t (committed_is marks t ∙ committed_tells _ _ _ done))
          there;
    }

read_best : (marks : List Mark) (item : ℕ) (stamps : List ℕ) → IsBest marks item stamps (best_of (has_version marks item) stamps)
read_best marks item stamps =
    record {
      given = λ some. Contains-best_of (has_version marks item) stamps some;
      there = λ some. best_of-passes (has_version marks item) stamps some;
      greatest = All-best_of (has_version marks item) stamps;
    }

read_for : (marks : List Mark) (item : ℕ) (stamps : List ℕ) → IsReadAt marks item stamps (stamp_for marks item stamps)
read_for marks item [] = read_latest marks item
read_for marks item (t ∷ stamps) = read_best marks item (t ∷ stamps)

has_read : (marks : List Mark) (item : ℕ) (stamps : List ℕ) → stamp_for marks item stamps ≢ 0 → has_version marks item (stamp_for marks item stamps) ≡ true
has_read marks item [] some = (read_latest marks item).there some
has_read marks item (t ∷ stamps) some = (read_best marks item (t ∷ stamps)).there some

value_read : (p : PartitionState) (item t : ℕ) → (t ≢ 0 → has_version p.marks item t ≡ true) → IsValueOf p item t (value_at p item t)
value_read p item t there =
    record {
      written = λ some. written some (version p.marks item t) refl (there some);
      first = λ zero. rw zero refl;
    }
  where
    written : t ≢ 0 → (v : Option Value) → version p.marks item t ≡ v → is_some v ≡ true → version p.marks item t ≡ Some (value_at p item t)
    written some None e f = absurd (cc)
    written some (Some v) e f = e ∙ ap Some (sym (rw (other t some, e) refl))

pub version_is_read : (p : PartitionState) (m : Message) (item t : ℕ) (v : Value) → (action_of p m).reply ≡ Some (reply.Version item t v) → IsReadOf p m item t v
version_is_read p m item t v f = read_of (said_here p m (reply.Version item t v) (λ x. x) f)
  where
    read_of : IsSaid p m.body (reply.Version item t v) → IsReadOf p m item t v
    read_of (stamps, asked, at, value) =
        record {
          stamps = stamps;
          asked = asked;
          stamp_is = subst (IsReadAt p.marks item stamps) (sym at) (read_for p.marks item stamps);
          value_is = subst (IsValueOf p item t) (sym value)
              (value_read p item t (λ (some : t ≢ 0). subst (λ (u : ℕ). has_version p.marks item u ≡ true) (sym at) (has_read p.marks item stamps (λ zero. some (at ∙ zero)))));
        }

pub gone_is_trimmed : (p : PartitionState) (m : Message) (item : ℕ) → (action_of p m).reply ≡ Some (reply.Gone item) → IsGoneFor p.marks m item
gone_is_trimmed p m item f =
    let (stamps, asked, none) = said_here p m (reply.Gone item) (λ x. x) f in record {
      stamps = stamps;
      asked = asked;
      trimmed = gone_trimmed p.marks item stamps none;
      unkept = gone_unkept p.marks item stamps none;
      some = gone_asks p.marks item stamps none;
    }

pub get_is_answered : (p : PartitionState) (m : Message) (item : ℕ) (stamps : List ℕ)
    → m.body ≡ body.Request (Get item stamps) → is_part m.to p.number ≡ true → place_of p.parts item ≡ p.number
    → ((t : ℕ) × (v : Value) × ((action_of p m).reply ≡ Some (reply.Version item t v))) ⊎ ((action_of p m).reply ≡ Some (reply.Gone item))
get_is_answered p m item stamps asked here placed = go (read_at p.marks item stamps) (
    ap (λ (b : Bool). (if b then on_body p m.from m.body else nothing).reply) here
    ∙ ap (λ (x : Body). (on_body p m.from x).reply) asked
    ∙ ap (λ (b : Bool). (if b then get_by p item (read_at p.marks item stamps) else says reply.Clash).reply) ((Decides-eqb (place_of p.parts item) p.number).1 placed)
    )
  where
    go : (o : Option ℕ) → (action_of p m).reply ≡ (get_by p item o).reply
        → ((t : ℕ) × (v : Value) × ((action_of p m).reply ≡ Some (reply.Version item t v))) ⊎ ((action_of p m).reply ≡ Some (reply.Gone item))
    go (Some t) e = inl (t, value_at p item t, e)
    go None e = inr e

-- ---- a Clash, and that each request is answered

pub clash_only : (p : PartitionState) (m : Message) → (action_of p m).reply ≡ Some reply.Clash → IsClash p m.body
clash_only p m f = said_here p m reply.Clash (λ x. x) f

prepare_replies : (full same : Bool) (s : StampState) (t : ℕ) (ws : List Row) (is : List ℕ) → is_some (prepare_by full same s t ws is).reply ≡ true
prepare_replies true same state.Unknown t ws is = refl
prepare_replies false same state.Unknown t ws is = refl
prepare_replies full true state.Pending t ws is = refl
prepare_replies full false state.Pending t ws is = refl
prepare_replies full true state.Committed t ws is = refl
prepare_replies full false state.Committed t ws is = refl
prepare_replies full same state.Discarded t ws is = refl

prepare_on_replies : (full based : Bool) (s : StampState) (t : ℕ) (ws : List Row) (is : List ℕ) → is_some (prepare_on_by full based s t ws is).reply ≡ true
prepare_on_replies true based state.Unknown t ws is = refl
prepare_on_replies false true state.Unknown t ws is = refl
prepare_on_replies false false state.Unknown t ws is = refl
prepare_on_replies full based state.Pending t ws is = refl
prepare_on_replies full based state.Committed t ws is = refl
prepare_on_replies full based state.Discarded t ws is = refl

commit_replies : (s : StampState) (t : ℕ) → is_some (commit_by s t).reply ≡ true
commit_replies state.Unknown t = refl
commit_replies state.Pending t = refl
commit_replies state.Committed t = refl
commit_replies state.Discarded t = refl

check_replies : (full : Bool) (s : StampState) (t : ℕ) → is_some (check_by full s t).reply ≡ true
check_replies true state.Unknown t = refl
check_replies false state.Unknown t = refl
check_replies full state.Pending t = refl
check_replies full state.Committed t = refl
check_replies full state.Discarded t = refl

-- one of two actions that reply replies
either : (b : Bool) (d e : Action) → is_some d.reply ≡ true → is_some e.reply ≡ true → is_some (if b then d else e).reply ≡ true
either true d e f g = f
either false d e f g = g

request_replies : (p : PartitionState) (q : Request) → is_some (on_request p q).reply ≡ true
request_replies p (Prepare t ws is) =
    either p.checked (says reply.Clash) (on_prepare p t ws is) refl
    (either (is_proper p.number p.parts t ws is) (prepare_by (is_full p.limit p.marks) (is_same p.marks t ws is) (state_of p.marks t) t ws is) (says reply.Clash)
    (prepare_replies (is_full p.limit p.marks) (is_same p.marks t ws is) (state_of p.marks t) t ws is) refl)
request_replies p (PrepareOn t ws is bs) =
    either p.checked (on_prepare_on p t ws is bs) (says reply.Clash)
    (either (is_proper_on p.number p.parts t ws is bs) (prepare_on_by (is_full p.limit p.marks) (are_bases p.marks t ws bs) (state_of p.marks t) t ws is) (says reply.Clash)
    (prepare_on_replies (is_full p.limit p.marks) (are_bases p.marks t ws bs) (state_of p.marks t) t ws is) refl) refl
request_replies p (Commit t) = either (t == 0) (says reply.Clash) (commit_by (state_of p.marks t) t) refl (commit_replies (state_of p.marks t) t)
request_replies p (Get item stamps) =
    either (is_placed p.number p.parts item) (get_by p item (read_at p.marks item stamps)) (says reply.Clash) (get_replies (read_at p.marks item stamps)) refl
  where
    get_replies : (o : Option ℕ) → is_some (get_by p item o).reply ≡ true
    get_replies None = refl
    get_replies (Some t) = refl
request_replies p (Check t) =
    either (t == 0) (says reply.Clash) (check_by (is_full p.limit p.marks) (state_of p.marks t) t) refl (check_replies (is_full p.limit p.marks) (state_of p.marks t) t)

pub requests_are_answered : (p : PartitionState) (m : Message) (q : Request) → m.body ≡ body.Request q → is_part m.to p.number ≡ true → is_some (answer p m) ≡ true
requests_are_answered p m q asked here =
    mapped (action_of p m).reply
    ∙ ap (λ (b : Bool). is_some (if b then on_body p m.from m.body else nothing).reply) here
    ∙ ap (λ (x : Body). is_some (on_body p m.from x).reply) asked
    ∙ request_replies p q
  where
    mapped : (o : Option Reply) → is_some (option_map (reply_to p m) o) ≡ is_some o
    mapped None = refl
    mapped (Some r) = refl
