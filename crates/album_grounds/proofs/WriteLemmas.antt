-- What the replies to a write's Prepares and Commits bring: `prepare_tells` and `commit_tells`. What its messages show:
-- `shows_prepares`, and `shows_commits` by `prepared_all`. And how it ends: `end_all`.
use Rattle.std.proofs.Common.{◌≡◌, ℕ, zero, suc, ◌≤◌, Bool, true, false, not, ◌==◌, ◌&&◌, ◌⊎◌, inl, inr, ⊎_elim, List, [], ◌∷◌, ◌++◌, append-nil, filter, map, All, Contains, Option, Some, None, option_map, option_to_list, if◌then◌else◌, refl, sym, ap, ◌∙◌, subst, arith, get_or}
use Rattle.std.specs.List.{list_any, find, zip}
use Rattle.std.proofs.lemmas.Bool.{and_parts, false≢true}
use Rattle.std.proofs.lemmas.Bool.Decides.{Decides-eqb}
use Rattle.std.proofs.lemmas.List.Elements.{All-map, All-contains_itself, Contains-append_right}
use Rattle.std.proofs.lemmas.List.Folds.{list_any_at}
use Rattle.std.proofs.lemmas.Slice.Eq.{slice_eq-Decides}
use Rattle.album_items.specs.ItemIds.{place_of}
use Rattle.album_items.specs.Openings.{Row}
use Rattle.album_items.specs.Places.{is_placed, places_of, rows_placed_at}
use Rattle.album_items.specs.Transactions.{items_written, are_items}
use Rattle.album_calls.specs.Nodes.{is_part}
use Rattle.album_calls.specs.Same.{same_rows, same_numbers}
use Rattle.album_calls.specs.declared.messages.Body.{Body}
use Rattle.album_calls.specs.declared.messages.Body.TheVariants as body
use Rattle.album_calls.specs.declared.messages.Message.{Message}
use Rattle.album_calls.specs.declared.nodes.Node.{Node}
use Rattle.album_calls.specs.declared.nodes.Node.TheVariants.{Part}
use Rattle.album_calls.specs.declared.requests.Request.TheVariants.{Prepare, PrepareOn}
use Rattle.album_calls.specs.declared.replies.Reply.{Reply}
use Rattle.album_calls.specs.declared.replies.Reply.TheVariants as reply
use Rattle.album_calls.proofs.Sameness.{rows_tell}
use Rattle.album_terminate.specs.declared.deciding.StampState.{StampState}
use Rattle.album_terminate.specs.declared.deciding.StampState.TheVariants as state
use Rattle.album_partition.specs.Answers.{says, nothing, is_same, prepare_by, on_prepare, on_request, on_body, action_of, with_action, after, reply_to, answer}
use Rattle.album_partition.specs.Laws.{IsTrueOf}
use Rattle.album_partition.specs.Marks.{prepares, commits, discards, state_of, is_full, mark_writes, mark_items, writes_at, items_at}
use Rattle.album_partition.specs.Partition.{PartitionState}
use Rattle.album_partition.specs.Proper.{is_proper, are_own_writes}
use Rattle.album_partition.specs.declared.marks.Mark.{Mark}
use Rattle.album_partition.specs.declared.marks.Mark.TheVariants.{Prepared}
use Rattle.album_partition.proofs.ChainLemmas.{replied_on}
use Rattle.album_partition.proofs.ListLemmas.{one_before, kept_in}
use Rattle.album_partition.proofs.LawLemmas.{replies_are_true, to_the_sender, full_only}
use Rattle.album_partition.proofs.StateLemmas.{same_stamp, committed_tells}
use Rattle.album_passes.specs.Cuts.{Cut, Announced, prefix_at, announced_for, IsNamed, IsPreparedFor, IsPreparedThroughout, IsPromisedSomewhere, IsSound, IsPrefix, Extends}
use Rattle.album_passes.proofs.ClosedLemmas.{found_in, prepares_is, discarded_tells as promised_for}
use Rattle.album_passes.proofs.PrefixLemmas.{prefix_trans, any_more}
use Rattle.album_listing.specs.ViewLookups.{stamp_seen}
use Rattle.album_permits.specs.Permits.{PermitState}
use Rattle.album_reader.proofs.Others.{is_part-own}
use Rattle.album_grounds.specs.Grounds.{items_of, write_of, IsPreparedOn, IsKept, IsWithoutRoom}
use Rattle.album_keepers.specs.Envelopes.{Shows, ShowsRequest}
use Rattle.album_keepers.specs.Replies.{IsReplied}
use Rattle.album_grounds.specs.Writes.{rows_for, IsPreparedIn, IsPreparedAt, IsCommittedAt, IsFurther, IsEndOf, AreCommits, AreAllCommitted, PrepareShows, CommitShows}
use Rattle.album_grounds.proofs.GroundLemmas.{has_more, prepared_on_more}
use Rattle.album_keepers.proofs.EnvelopeLemmas.{discarded_tells}
use Rattle.album_writer.specs.Rounds.{answered_by, prepares_left, prepares_by, prepare_stepped, commits_left, commits_by, commit_stepped}
use Rattle.album_writer.specs.Rounds.WriteStep.{Waits}
use Rattle.album_writer.specs.WriteReplies.{reply_in}
use Rattle.album_writer.specs.Writing.{WritingState, writes_in, items_in, places_in, bases_of, prepare_request, prepare_to, prepares_of, commit_to, commit_round, commits_of}
use Rattle.album_writer.specs.declared.outcomes.Outcome.{Outcome}
use Rattle.album_writer.specs.declared.outcomes.Outcome.TheVariants as outcome
use Rattle.album_writer.specs.declared.write_replies.WriteReply.{WriteReply}
use Rattle.album_writer.specs.declared.write_replies.WriteReply.TheVariants as write_reply
use Rattle.album_writer.proofs.Placing.{participant, filter-has}
use Rattle.album_writer.proofs.Strays.{reply-is, part-number}

-- ---- what a partition did with a Prepare

-- a Prepare that was the same as the one that is there is there
same_there : (ms : List Mark) (t : ℕ) (ws : List Row) (is : List ℕ) → are_items is ≡ true → is_same ms t ws is ≡ true → Contains ms (Prepared t ws is)
same_there ms t ws is some same =
    let both = and_parts (same_rows ws (writes_at ms t)) (same_numbers is (items_at ms t)) same in
    go (find (prepares t) ms) refl ((rows_tell ws (writes_at ms t)).0 both.0) (same_numbers_tell is (items_at ms t) both.1)
  where
    same_numbers_tell : (xs ys : List ℕ) → same_numbers xs ys ≡ true → xs ≡ ys
    same_numbers_tell xs ys e = (slice_eq-Decides Decides-eqb xs ys (same_numbers xs ys) refl).0 e

    go : (o : Option Mark) → find (prepares t) ms ≡ o → ws ≡ mark_writes o → is ≡ mark_items o → Contains ms (Prepared t ws is)
    go None f g h = absurd (let none : are_items [] ≡ true = subst (λ (js : List ℕ). are_items js ≡ true) h some in cc)
    go (Some m) f g h =
        let r = found_in (prepares t) ms m f in
        let x = prepares_is t m r.1 in
        let writes : ws ≡ x.0 = g ∙ ap (λ (y : Mark). mark_writes (Some y)) x.2 in
        let items : is ≡ x.1 = h ∙ ap (λ (y : Mark). mark_items (Some y)) x.2 in
        subst (λ (y : Mark). Contains ms y) (x.2 ∙ sym (ap (λ (vs : List Row). Prepared t vs x.1) writes) ∙ sym (ap (λ (js : List ℕ). Prepared t ws js) items)) r.0

prepare_leaves : (p : PartitionState) (t : ℕ) (ws : List Row) (is : List ℕ) (u : ℕ) → (on_prepare p t ws is).reply ≡ Some (reply.Prepared u)
    → Contains (with_action p (on_prepare p t ws is)).marks (Prepared t ws is)
prepare_leaves p t ws is u = go (is_proper p.number p.parts t ws is) refl
  where
    new : Contains (p.marks ++ Prepared t ws is ∷ []) (Prepared t ws is)
    new = Contains-append_right p.marks (Prepared t ws is ∷ []) (Prepared t ws is) (0, omega arith, refl)

    old : are_items is ≡ true → is_same p.marks t ws is ≡ true → Contains (p.marks ++ []) (Prepared t ws is)
    old some same = subst (λ (ms : List Mark). Contains ms (Prepared t ws is)) (sym (append-nil p.marks)) (same_there p.marks t ws is some same)

    by : are_items is ≡ true → (full same : Bool) → is_same p.marks t ws is ≡ same → (s : StampState)
        → (prepare_by full same s t ws is).reply ≡ Some (reply.Prepared u) → Contains (with_action p (prepare_by full same s t ws is)).marks (Prepared t ws is)
    by some true same g state.Unknown f = absurd (cc)
    by some false same g state.Unknown f = new
    by some full true g state.Pending f = old some g
    by some full false g state.Pending f = absurd (cc)
    by some full true g state.Committed f = old some g
    by some full false g state.Committed f = absurd (cc)
    by some full same g state.Discarded f = absurd (cc)

    go : (b : Bool) → is_proper p.number p.parts t ws is ≡ b
        → (if b then prepare_by (is_full p.limit p.marks) (is_same p.marks t ws is) (state_of p.marks t) t ws is else says reply.Clash).reply ≡ Some (reply.Prepared u)
        → Contains (with_action p (if b then prepare_by (is_full p.limit p.marks) (is_same p.marks t ws is) (state_of p.marks t) t ws is else says reply.Clash)).marks (Prepared t ws is)
    go false e f = absurd (cc)
    go true e f =
        by (and_parts (not (t == 0)) (are_items is) (and_parts (not (t == 0) && are_items is) (are_own_writes p.number p.parts ws is) e).0).1
        (is_full p.limit p.marks) (is_same p.marks t ws is) refl (state_of p.marks t) f

-- at a checked partition it clashes
request_leaves : (p : PartitionState) (t : ℕ) (ws : List Row) (is : List ℕ) (u : ℕ) → (on_request p (Prepare t ws is)).reply ≡ Some (reply.Prepared u)
    → Contains (with_action p (on_request p (Prepare t ws is))).marks (Prepared t ws is)
request_leaves p t ws is u = go p.checked
  where
    go : (b : Bool) → (if b then says reply.Clash else on_prepare p t ws is).reply ≡ Some (reply.Prepared u)
        → Contains (with_action p (if b then says reply.Clash else on_prepare p t ws is)).marks (Prepared t ws is)
    go true f = absurd (cc)
    go false f = prepare_leaves p t ws is u f

prepare_left : (p : PartitionState) (q : Message) (t : ℕ) (ws : List Row) (is : List ℕ) (u : ℕ) → q.body ≡ body.Request (Prepare t ws is)
    → (action_of p q).reply ≡ Some (reply.Prepared u) → Contains (after p q).marks (Prepared t ws is)
prepare_left p q t ws is u asked = go (is_part q.to p.number)
  where
    go : (b : Bool) → (if b then on_body p q.from q.body else nothing).reply ≡ Some (reply.Prepared u)
        → Contains (with_action p (if b then on_body p q.from q.body else nothing)).marks (Prepared t ws is)
    go false f = absurd (cc)
    go true f =
        subst (λ (x : Body). Contains (with_action p (on_body p q.from x)).marks (Prepared t ws is)) (sym asked)
        (request_leaves p t ws is u (subst (λ (x : Body). (on_body p q.from x).reply ≡ Some (reply.Prepared u)) asked f))

-- a Prepare of a write leaves what it asks for, on its bases where the write is checked
left_by : (p : PartitionState) (q : Message) (w : WritingState) (n : ℕ) → q.body ≡ body.Request (prepare_request w (rows_for w n))
    → (action_of p q).reply ≡ Some (reply.Prepared w.stamp) → IsPreparedIn (after p q).marks w n
left_by p q w n asked said = go w.checked refl asked
  where
    bases : List ℕ
    bases = bases_of w (rows_for w n)

    go : (b : Bool) → w.checked ≡ b
        → q.body ≡ body.Request (if b then PrepareOn w.stamp (rows_for w n) (items_in w) bases else Prepare w.stamp (rows_for w n) (items_in w))
        → IsPreparedIn (after p q).marks w n
    go true e asked =
        let made = replied_on p q w.stamp (rows_for w n) (items_in w) bases w.stamp asked said in
        let last : List Mark = p.marks ++ Prepared w.stamp (rows_for w n) (items_in w) ∷ [] in
        record {
          prepared = subst (λ (ms : List Mark). Contains ms (Prepared w.stamp (rows_for w n) (items_in w))) (sym made.0)
              (Contains-append_right p.marks (Prepared w.stamp (rows_for w n) (items_in w) ∷ []) (Prepared w.stamp (rows_for w n) (items_in w)) (0, omega arith, refl));
          based = λ on. record { before = p.marks; had = ([], append-nil last ∙ sym made.0); based = made.1 };
        }
    go false e asked = record {
      prepared = prepare_left p q w.stamp (rows_for w n) (items_in w) w.stamp asked said;
      based = λ on. absurd (false≢true (sym e ∙ on));
    }

-- what is prepared in a history is so in a longer one
in_more : (ms ns : List Mark) (w : WritingState) (n : ℕ) → IsPrefix ms ns → IsPreparedIn ms w n → IsPreparedIn ns w n
in_more ms ns w n p h = record {
  prepared = has_more ms ns _ p h.prepared;
  based = λ on. prepared_on_more ms ns w.stamp (rows_for w n) (items_in w) (bases_of w (rows_for w n)) p (h.based on);
}

-- a message to another partition isn't answered
to_this : (p : PartitionState) (q : Message) (r : Reply) → (action_of p q).reply ≡ Some r → q.to ≡ Part p.number
to_this p q r f = is_part-own q.to p.number (go (is_part q.to p.number) refl f)
  where
    go : (b : Bool) → is_part q.to p.number ≡ b → (if b then on_body p q.from q.body else nothing).reply ≡ Some r → is_part q.to p.number ≡ true
    go true e g = e
    go false e g = absurd (cc)

-- ---- what is heard

-- what is answered is what was done
said_so : (p : PartitionState) (q m : Message) (r : Reply) → answer p q ≡ Some m → m.body ≡ body.Reply r → (action_of p q).reply ≡ Some r
said_so p q m r f e = go (action_of p q).reply refl f
  where
    same : (s : Reply) → body.Reply s ≡ body.Reply r → s ≡ r
    same s g = cc

    go : (o : Option Reply) → (action_of p q).reply ≡ o → option_map (reply_to p q) o ≡ Some m → (action_of p q).reply ≡ Some r
    go None g h = absurd (cc)
    go (Some s) g h =
        let is : m ≡ reply_to p q s = cc in
        g ∙ ap Some (same s (sym (ap (λ (n : Message). n.body) is) ∙ e))

-- and is true then
true_so : (p : PartitionState) (q m : Message) (r : Reply) → answer p q ≡ Some m → m.body ≡ body.Reply r → IsTrueOf (after p q).marks r
true_so p q m r f e =
    let so = replies_are_true p q m f in
    subst (IsTrueOf (after p q).marks) (same so.0 (sym so.1 ∙ e)) so.2
  where
    same : (s : Reply) → body.Reply s ≡ body.Reply r → s ≡ r
    same s g = cc

-- who is sent a message, by what it is made of
made_for : (f : ℕ → Message) (ns : List ℕ) (m : Message) → Contains (map f ns) m → (n : ℕ) × (m ≡ f n)
made_for f [] m (k, l, e) = absurd (omega (arith, l))
made_for f (n ∷ ns) m (zero, l, e) = (n, sym e)
made_for f (n ∷ ns) m (suc k, l, e) = made_for f ns m (k, omega (arith, l), e)

module _ (limit : ℕ) (b d : Cut) (sent : List Message) (m : Message) (place : ℕ) (r : IsReplied limit b d sent m) (from : m.from ≡ Part place) where
  abbrev there : PartitionState
  there = r.answered.partition

  here : place ≡ there.number
  here = part-number place there.number (sym from ∙ (to_the_sender there r.request m r.answered.answered).sender)

  seen : IsPrefix (after there r.request).marks (prefix_at d there.number)
  seen = subst (λ (ms : List Mark). IsPrefix ms (prefix_at d there.number)) (sym r.answered.shown.marks) (r.seen.prefixes there.number)

  heard_committed : (t : ℕ) → m.body ≡ body.Reply (reply.Committed t) → list_any (commits t) (prefix_at d place) ≡ true
  heard_committed t says =
      let so = true_so there r.request m (reply.Committed t) r.answered.answered says in
      subst (λ (n : ℕ). list_any (commits t) (prefix_at d n) ≡ true) (sym here)
      (any_more (commits t) (after there r.request).marks (prefix_at d there.number) seen (committed_tells _ _ _ so))

  heard_discarded : (t : ℕ) → IsSound d → m.body ≡ body.Reply (reply.Discarded t) → IsPromisedSomewhere d t
  heard_discarded t sound says =
      let so = true_so there r.request m (reply.Discarded t) r.answered.answered says in
      promised_for d there.number t sound.closed
      (any_more (discards t) (after there r.request).marks (prefix_at d there.number) seen (discarded_tells _ _ _ so))

  heard_full : (permit : PermitState) (t : ℕ) → Contains (places_of d.parts (items_of permit t)) place → m.body ≡ body.Reply (reply.Full t) → IsWithoutRoom limit d permit t
  heard_full permit t of says =
      let only = full_only there r.request t (said_so there r.request m (reply.Full t) r.answered.answered says) in
      record {
        place = place;
        participant = of;
        marks = there.marks;
        had = subst (λ (n : ℕ). IsPrefix there.marks (prefix_at d n)) (sym here)
            (prefix_trans there.marks (after there r.request).marks (prefix_at d there.number) (option_to_list (action_of there r.request).mark, refl) seen);
        full = subst (λ (n : ℕ). is_full n there.marks ≡ true) r.answered.shown.room only.0;
        unknown = only.1;
      }

heard_prepared : (limit : ℕ) (b d : Cut) (begun : WritingState) (m : Message) (place : ℕ) → IsReplied limit b d (prepares_of begun) m
    → m.from ≡ Part place → m.body ≡ body.Reply (reply.Prepared begun.stamp) → IsPreparedAt d begun place
heard_prepared limit b d begun m place r from says =
    let p = r.answered.partition in
    let q = r.request in
    let asked = made_for (prepare_to begun) (places_in begun) q r.own in
    let said = said_so p q m (reply.Prepared begun.stamp) r.answered.answered says in
    let to : asked.0 ≡ p.number = part-number asked.0 p.number (sym (ap (λ (n : Message). n.to) asked.1) ∙ to_this p q (reply.Prepared begun.stamp) said) in
    let left = left_by p q begun asked.0 (ap (λ (n : Message). n.body) asked.1) said in
    let now = in_more (after p q).marks (prefix_at d p.number) begun asked.0 (seen limit b d (prepares_of begun) m place r from) left in
    subst (IsPreparedAt d begun) (sym (here limit b d (prepares_of begun) m place r from))
    (subst (λ (n : ℕ). IsPreparedIn (prefix_at d p.number) begun n) to now)

-- ---- a step of a round

-- once a partition has replied, of each the reply is outstanding, or what was asked is done
answered_further : (xs outstanding : List ℕ) (node : Node) (place : ℕ) (P Q : ℕ → Type 0) → node ≡ Part place → Q place → ((n : ℕ) → P n → Q n)
    → ((n : ℕ) → Contains xs n → Contains outstanding n ⊎ P n)
    → (n : ℕ) → Contains xs n → Contains (filter (λ place. not (is_part node place)) outstanding) n ⊎ Q n
answered_further xs outstanding node place P Q from done on h n there = ⊎_elim (go (is_part node n) refl) (λ p. inr (on n p)) (h n there)
  where
    go : (b : Bool) → is_part node n ≡ b → Contains outstanding n → Contains (filter (λ place. not (is_part node place)) outstanding) n ⊎ Q n
    go true e w = inr (subst Q (part-number place n (sym from ∙ is_part-own node n e)) done)
    go false e w = inl (filter-has (λ place. not (is_part node place)) outstanding n w (ap not e))

-- where nothing is outstanding, all is done
none_outstanding : (xs outstanding : List ℕ) (Q : ℕ → Type 0) → outstanding ≡ [] → ((n : ℕ) → Contains xs n → Contains outstanding n ⊎ Q n) → (n : ℕ) → Contains xs n → Q n
none_outstanding xs outstanding Q none h n there =
    ⊎_elim (λ w. absurd (let gone = subst (λ (ns : List ℕ). Contains ns n) none w in omega (arith, gone.1))) (λ q. q) (h n there)

prepared_on : (c d : Cut) (begun : WritingState) → Extends c d → (n : ℕ) → IsPreparedAt c begun n → IsPreparedAt d begun n
prepared_on c d begun x n h = in_more (prefix_at c n) (prefix_at d n) begun n (x.prefixes n) h

committed_on : (c d : Cut) (begun : WritingState) → Extends c d → (n : ℕ) → IsCommittedAt c begun n → IsCommittedAt d begun n
committed_on c d begun x n h = any_more (commits begun.stamp) (prefix_at c n) (prefix_at d n) (x.prefixes n) h

module _ (limit : ℕ) (b c d : Cut) (begun : WritingState) (m : Message) (x : Extends c d) where
  abbrev with : List ℕ → WritingState
  with ns = record begun { outstanding = ns }

  abbrev left : List ℕ → List ℕ
  left ns = filter (λ place. not (is_part m.from place)) ns

  -- what a reply to one of a round's Prepares shows
  pub prepare_tells : IsSound d → begun.parts ≡ d.parts → IsReplied limit b d (prepares_of begun) m
      → (w : WritingState) → IsFurther begun (IsPreparedAt c begun) w → PrepareShows limit d begun (prepare_stepped w m)
  prepare_tells sound parts r w h =
      subst (λ (v : WritingState). PrepareShows limit d begun (prepare_stepped v m)) (sym h.same) (go (reply_in (with w.outstanding) m) refl)
    where
      still : PrepareShows limit d begun (Waits (with w.outstanding))
      still = record {
        same = refl;
        done = λ n there. ⊎_elim (λ a. inl a) (λ p. inr (prepared_on c d begun x n p)) (h.done n there);
      }

      more : (place : ℕ) → m.from ≡ Part place → IsPreparedAt d begun place
          → (n : ℕ) → Contains (places_in begun) n → Contains (left w.outstanding) n ⊎ IsPreparedAt d begun n
      more place from done =
          answered_further (places_in begun) w.outstanding m.from place (IsPreparedAt c begun) (IsPreparedAt d begun) from done (prepared_on c d begun x) h.done

      by : ((n : ℕ) → Contains (places_in begun) n → Contains (left w.outstanding) n ⊎ IsPreparedAt d begun n)
          → (ns : List ℕ) → left w.outstanding ≡ ns → PrepareShows limit d begun (prepares_left (answered_by (with w.outstanding) m.from) ns)
      by now [] e = record {
        next_is = refl;
        messages_are = refl;
        prepared = none_outstanding (places_in begun) (left w.outstanding) (IsPreparedAt d begun) e now;
      }
      by now (n ∷ ns) e = record { same = refl; done = now }

      go : (what : WriteReply) → reply_in (with w.outstanding) m ≡ what → PrepareShows limit d begun (prepares_by (with w.outstanding) m.from what)
      go write_reply.Prepared e =
          let t = reply-is (with w.outstanding) m write_reply.Prepared e (λ f. absurd (cc)) in
          by (more t.0 t.1.sender (heard_prepared limit b d begun m t.0 r t.1.sender t.1.body)) (left w.outstanding) refl
      go write_reply.Committed e = still
      go write_reply.Discarded e =
          let t = reply-is (with w.outstanding) m write_reply.Discarded e (λ f. absurd (cc)) in
          (refl, heard_discarded limit b d (prepares_of begun) m t.0 r t.1.sender begun.stamp sound t.1.body)
      go write_reply.Full e =
          let t = reply-is (with w.outstanding) m write_reply.Full e (λ f. absurd (cc)) in
          let of = subst (λ (k : ℕ). Contains (places_of k (items_in begun)) t.0) parts t.1.participant in
          (refl, heard_full limit b d (prepares_of begun) m t.0 r t.1.sender begun.permit begun.stamp of t.1.body)
      go write_reply.Nothing e = still

  -- what a reply to one of a round's Commits shows
  pub commit_tells : IsReplied limit b d (commits_of begun) m
      → (w : WritingState) → IsFurther begun (IsCommittedAt c begun) w → CommitShows d begun (commit_stepped w m)
  commit_tells r w h =
      subst (λ (v : WritingState). CommitShows d begun (commit_stepped v m)) (sym h.same) (go (reply_in (with w.outstanding) m) refl)
    where
      still : CommitShows d begun (Waits (with w.outstanding))
      still = record {
        same = refl;
        done = λ n there. ⊎_elim (λ a. inl a) (λ p. inr (committed_on c d begun x n p)) (h.done n there);
      }

      more : (place : ℕ) → m.from ≡ Part place → IsCommittedAt d begun place
          → (n : ℕ) → Contains (places_in begun) n → Contains (left w.outstanding) n ⊎ IsCommittedAt d begun n
      more place from done =
          answered_further (places_in begun) w.outstanding m.from place (IsCommittedAt c begun) (IsCommittedAt d begun) from done (committed_on c d begun x) h.done

      by : ((n : ℕ) → Contains (places_in begun) n → Contains (left w.outstanding) n ⊎ IsCommittedAt d begun n)
          → (ns : List ℕ) → left w.outstanding ≡ ns → CommitShows d begun (commits_left (answered_by (with w.outstanding) m.from) ns)
      by now [] e = (refl, none_outstanding (places_in begun) (left w.outstanding) (IsCommittedAt d begun) e now)
      by now (n ∷ ns) e = record { same = refl; done = now }

      go : (what : WriteReply) → reply_in (with w.outstanding) m ≡ what → CommitShows d begun (commits_by (with w.outstanding) m.from what)
      go write_reply.Prepared e = still
      go write_reply.Committed e =
          let t = reply-is (with w.outstanding) m write_reply.Committed e (λ f. absurd (cc)) in
          by (more t.0 t.1.sender (heard_committed limit b d (commits_of begun) m t.0 r t.1.sender begun.stamp t.1.body)) (left w.outstanding) refl
      go write_reply.Discarded e = still
      go write_reply.Full e = still
      go write_reply.Nothing e = still

-- a round in which each reply is outstanding
pub begun_further : (begun : WritingState) (P : ℕ → Type 0) → begun.outstanding ≡ places_in begun → IsFurther begun P begun
begun_further begun P all = record {
  same = refl;
  done = λ n there. inl (subst (λ (ns : List ℕ). Contains ns n) (sym all) there);
}

-- ---- what a cut shows about the messages of a write

-- each write has the base that is given for it
pub pair_has : (f : Row → ℕ) (ws : List Row) (w : Row) → Contains ws w → Contains (zip ws (map f ws)) (w, f w)
pair_has f [] w (k, l, at) = absurd (omega arith)
pair_has f (x ∷ ws) w (zero, l, at) = (zero, omega arith, ap (λ (y : Row). (y, f y)) at)
pair_has f (x ∷ ws) w (suc k, l, at) = one_before (x, f x) (w, f w) (zip ws (map f ws)) (pair_has f ws w (k, omega arith, at))

pub pair_is : (f : Row → ℕ) (ws : List Row) (w : Row) (b : ℕ) → Contains (zip ws (map f ws)) (w, b) → Contains ws w × (f w ≡ b)
pair_is f [] w b (k, l, at) = absurd (omega arith)
pair_is f (x ∷ ws) w b (zero, l, at) =
    let first : x ≡ w = ap (λ (y : Row × ℕ). y.0) at in
    let second : f x ≡ b = ap (λ (y : Row × ℕ). y.1) at in
    ((zero, omega arith, first), ap f (sym first) ∙ second)
pair_is f (x ∷ ws) w b (suc k, l, at) =
    let r = pair_is f ws w b (k, omega arith, at) in (one_before x w ws r.0, r.1)

-- what is prepared at a partition is of what is announced
pub shows_prepares : (c : Cut) (w : WritingState) → announced_for c w.stamp ≡ Some (write_of w.permit w.stamp) → All (Shows c) (prepares_of w)
shows_prepares c w h = All-map (Shows c) (prepare_to w) (places_in w) (λ k e l. one (get_or (places_in w) k e) w.checked)
  where
    named : (n : ℕ) → IsNamed c w.stamp (rows_for w n) (items_in w)
    named n = record {
      all = write_of w.permit w.stamp;
      announced = h;
      items_are = refl;
      within = λ row k. (kept_in (λ (y : Row). is_placed n w.parts y.0) (writes_in w) row k).1;
    }

    seen : Row → ℕ
    seen row = stamp_seen w.permit.view.rows row.0

    one : (n : ℕ) (b : Bool)
        → ShowsRequest c (Part n) (if b then PrepareOn w.stamp (rows_for w n) (items_in w) (bases_of w (rows_for w n)) else Prepare w.stamp (rows_for w n) (items_in w))
    one n true = record {
      named = named n;
      based = λ row base k. (let r = pair_is seen (rows_for w n) row base k in
          subst (λ (y : ℕ). Contains (zip (writes_in w) (map seen (writes_in w))) (row, y)) r.1
          (pair_has seen (writes_in w) row ((named n).within row r.0)));
    }
    one n false = named n

pub prepared_all : (c : Cut) (w : WritingState) → w.parts ≡ c.parts → 1 ≤ w.parts → announced_for c w.stamp ≡ Some (write_of w.permit w.stamp)
    → ((n : ℕ) → Contains (places_in w) n → IsPreparedAt c w n) → IsPreparedThroughout c w.stamp
prepared_all c w parts some announced all = record {
  items = items_in w;
  announced = ap (option_map (λ (a : Announced). items_written a.writes)) announced;
  prepared = λ k e l. one (get_or (items_in w) k e) (All-contains_itself (items_in w) k e l);
}
  where
    one : (i : ℕ) → Contains (items_in w) i → IsPreparedFor c w.stamp i
    one i there =
        let at = (all (place_of w.parts i) ((participant w.parts (place_of w.parts i) (items_in w) some).1 (i, there, refl))).prepared in
        subst (λ (n : ℕ). list_any (prepares w.stamp) (prefix_at c (place_of n i)) ≡ true) parts
        (list_any_at (prepares w.stamp) (prefix_at c (place_of w.parts i)) at.0 _ at.1 (ap (prepares w.stamp) at.2 ∙ same_stamp w.stamp))

pub shows_commits : (c : Cut) (w : WritingState) → IsPreparedThroughout c w.stamp → All (Shows c) (commits_of w)
shows_commits c w h = All-map (Shows c) (commit_to w) (places_in w) (λ k e l. h)

-- ---- how a write ends

-- what is prepared and committed at each participant is kept
kept_end : (c d : Cut) (w : WritingState) → Extends c d → w.parts ≡ c.parts → w.checked ≡ c.checked
    → ((n : ℕ) → Contains (places_in w) n → IsPreparedAt c w n)
    → ((n : ℕ) → Contains (places_in w) n → IsCommittedAt d w n) → IsKept d w.permit w.stamp
kept_end c d w x parts checked prepared committed = λ place of.
    let same : w.parts ≡ d.parts = parts ∙ sym x.parts in
    let own : Contains (places_in w) place = subst (λ (k : ℕ). Contains (places_of k (items_in w)) place) (sym same) of in
    record {
      prepared = subst (λ (k : ℕ). Contains (prefix_at d place) (Prepared w.stamp (rows_placed_at place k (writes_in w)) (items_in w))) same
          (prepared_on c d w x place (prepared place own)).prepared;
      based = λ on. subst (λ (k : ℕ). IsPreparedOn (prefix_at d place) w.stamp (rows_placed_at place k (writes_in w)) (items_in w) (bases_of w (rows_placed_at place k (writes_in w)))) same
          ((prepared_on c d w x place (prepared place own)).based (checked ∙ sym x.checked ∙ on));
      committed = committed place own;
    }

-- ---- the end of the round of Commits

pub end_all : (limit : ℕ) (c d : Cut) (begun next : WritingState) → AreCommits c begun next (commits_of (commit_round begun)) → Extends c d → begun.parts ≡ c.parts → begun.checked ≡ c.checked
    → (o : Outcome) → AreAllCommitted d next o → IsEndOf limit d begun o
end_all limit c d begun next are x parts checked o h = go o (subst (λ (w : WritingState). AreAllCommitted d w o) are.next_is h)
  where
    go : (o : Outcome) → AreAllCommitted d (commit_round begun) o → IsEndOf limit d begun o
    go (outcome.Committed t) (same, all) = (same, kept_end c d begun x parts checked are.prepared all)
    go (outcome.Aborted t) none = absurd none
    go (outcome.Full t) none = absurd none
