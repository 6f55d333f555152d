-- What is kept as a partition takes a message, or is swept.
use Rattle.std.proofs.Common.{◌≡◌, ℕ, ◌<◌, ◌≤◌, ◌+◌, Bool, true, false, eqb, ◌==◌, not, List, [], ◌∷◌, ◌++◌, Option, Some, None, option_to_list, option_map, Result, Ok, Err, ◌⊎◌, inl, inr, ⊎_elim, sym, ap, ◌∙◌, subst, refl, arith, append-nil, true≢false, le_refl, le_trans, ltb-true, lt-ltb, if◌then◌else◌}
use Rattle.std.proofs.lemmas.List.{length-append, append_assoc}
use Rattle.std.specs.List.{list_any, find, slice_get}
use Rattle.album_stamps.specs.Outcome.{◌>>=◌}
use Rattle.album_stamps.specs.declared.refusals.Refusal.{Refusal}
use Rattle.album_stamps.specs.declared.refusals.Refusal.TheVariants as refusal
use Rattle.album_items.specs.ItemIds.{place_of}
use Rattle.album_items.specs.Openings.{Row}
use Rattle.album_items.specs.declared.openings.Opening.{Opening}
use Rattle.album_items.specs.declared.values.Value.{Value}
use Rattle.album_calls.specs.declared.messages.Body.{Body}
use Rattle.album_calls.specs.declared.messages.Body.TheVariants as body
use Rattle.album_calls.specs.declared.messages.Message.{Message}
use Rattle.album_calls.specs.declared.nodes.Node.{Node}
use Rattle.album_calls.specs.declared.nodes.Node.TheVariants.{Part, Client as ToClient}
use Rattle.album_calls.specs.declared.nodes.Vote.TheVariants as vote
use Rattle.album_calls.specs.declared.requests.Request.TheVariants.{Check}
use Rattle.album_calls.specs.declared.replies.Reply.{Reply}
use Rattle.album_calls.specs.declared.replies.Reply.TheVariants as reply
use Rattle.album_terminate.specs.Asking.{check_to}
use Rattle.album_terminate.specs.declared.deciding.StampState.TheVariants as state
use Rattle.album_partition.specs.declared.marks.Mark.{Mark}
use Rattle.album_partition.specs.declared.marks.Mark.TheVariants.{Prepared, Committed, Discarded, Trimmed}
use Rattle.album_partition.specs.Votes.{NotedVote}
use Rattle.album_partition.specs.Answers.{action_of, after, answer, reply_to}
use Rattle.album_partition.specs.Sweeps.{sent_by}
use Rattle.album_partition.specs.Trims.{with_mark}
use Rattle.album_partition.specs.Bases.{are_bases}
use Rattle.album_partition.specs.Partition.{PartitionState, IsPartition, stamp_for}
use Rattle.album_partition.specs.Marks.{prepares, commits, discards, decided, state_of, is_pending, is_full, load, is_legal, has_version, latest, floor, version, value_in, items_at, mark_items, IsPromisedAgainst}
use Rattle.album_items.specs.Places.{is_placed, others_of}
use Rattle.album_partition.proofs.PartitionLemmas.{stays_after, trims_by}
use Rattle.album_partition.proofs.LoadLemmas.{committed_counts, discarded_counts}
use Rattle.album_partition.proofs.StateLemmas.{state_push_other, unknown_tells, pending_tells, is_pending_tells}
use Rattle.album_versions.specs.Best.{best_of}
use Rattle.album_reader.specs.Rounds.{RoundState}
use Rattle.album_writer.specs.Writing.{WritingState}
use Rattle.album_items.specs.Transactions.{items_written}
use Rattle.album_client.specs.declared.clients.Phase.{Phase}
use Rattle.album_client.specs.declared.clients.Phase.TheVariants as phase
use Rattle.album_world.proofs.ListLemmas.{In}
use Rattle.album_world.specs.State.{marks_of, history_in, client_at}
use Rattle.album_world.specs.Past.{World, last_begun}
use Rattle.album_world.specs.Changes.{Change}
use Rattle.album_world.specs.Changes.Change.{AtPart}
use Rattle.album_world.specs.Changes.{sweeps, trims}
use Rattle.album_world.specs.Runs.{changed, changed_by}
use Rattle.album_permits.specs.declared.events.Event.TheVariants as event
use Rattle.album_world.specs.Committing.{history}
use Rattle.album_world.proofs.ListLemmas.{in_cases, in_map, in_nil, in_one, find_push, set_same, set_other, none_some, some_same, same_or_not, any_in, in_any, any_more, true_or_false}
use Rattle.album_world.proofs.MarkLemmas.{IsPreparedIn, prepared_in, commits_is, discards_is, wrote, wrote_more, version_is, some_is, is_some_of, best_least, best_is, latest_least, latest_is, stamp_for_best}
use Rattle.album_world.proofs.PlaceLemmas.{other_item, left_noted}
use Rattle.album_world.proofs.Invariant.{IsKept, IsPlaced, IsPlacedAt, IsPrepareOf, IsBasedIn, IsSettled, IsAgainst, bases_for, IsFine, IsTagged, IsSound, GetsWith, AnswersWith, IsAsked, IsAnswered, HasBegun, FirstRound, SecondRound, IsCollectedStamp, IsFetching, IsRound, IsWriting, HasPrepared, HasCommitted, IsDoing}
use Rattle.album_world.proofs.GrowthLemmas.{Grows, any_grows, answers_more, prepared_grows, fine_grows, tagged_grows, begun_grows, first_round_grows, second_round_grows, founds_grows, stamp_grows, has_fresh_grows, read_grows, answer_grows, drawn_grows, sound_grows, settled_grows, against_grows, prepare_grows, based_grows}
use Rattle.album_world.proofs.WroteLemmas.{apart}
use Rattle.album_world.proofs.ActLemmas.{IsMarked, action_is}
use Rattle.album_world.proofs.ActLemmas.IsMarked.{no_mark, made_prepared, made_committed, made_refused, made_discarded, made_trimmed}

-- ---- a decision never makes room

pub commit_full : (limit : ℕ) (ms : List Mark) (t : ℕ) → is_legal ms ≡ true → state_of ms t ≡ state.Pending
    → is_full limit ms ≡ true → is_full limit (ms ++ Committed t ∷ []) ≡ true
commit_full limit ms t legal pending f =
    let a = committed_counts ms t legal pending in
    let b = length-append ms (Committed t ∷ []) in
    let c = ltb-true limit (load ms + 2) f in
    lt-ltb limit (load (ms ++ Committed t ∷ []) + 2) (omega (arith, a, b, c))

pub discard_full : (limit : ℕ) (ms : List Mark) (t : ℕ) → is_legal ms ≡ true → state_of ms t ≡ state.Pending
    → is_full limit ms ≡ true → is_full limit (ms ++ Discarded t ∷ []) ≡ true
discard_full limit ms t legal pending f =
    let a = discarded_counts ms t legal pending in
    let b = length-append ms (Discarded t ∷ []) in
    let c = ltb-true limit (load ms + 2) f in
    lt-ltb limit (load (ms ++ Discarded t ∷ []) + 2) (omega (arith, a, b, c))

pending_unknown : (ms : List Mark) (s t : ℕ) {R : Type 0} → state_of ms s ≡ state.Pending
    → state_of ms t ≡ state.Unknown → s ≡ t → R
pending_unknown ms s t e f q = let g : state_of ms t ≡ state.Pending = subst
    (λ (z : ℕ). state_of ms z ≡ state.Pending) q e in absurd (cc)

pending_not : (ms : List Mark) (s t : ℕ) → state_of ms s ≡ state.Pending → state_of ms t ≡ state.Unknown
    → eqb s t ≡ false
pending_not ms s t e f = ⊎_elim (λ (q : s ≡ t). pending_unknown ms s t e f q) (λ n. n) (same_or_not s t)

-- ---- the replies of a partition to a reader

-- in round one
first_now : (o : Opening) (w : World) → IsKept o w → (began : List PartitionState) → ((p : ℕ) → HasBegun w began p)
    → (i : ℕ) → FirstRound o w began i (latest (history w (place_of o.parts i)) i)
first_now o w k began begun i =
    let p = place_of o.parts i in
    let b = begun p in
    record {
      fresh = record {
        at = λ t v h e.
            let c : list_any (commits t) (history w p) ≡ true = subst
            (λ (z : List Mark). list_any (commits t) z ≡ true) (sym b.is)
            (any_more (commits t) (history_in began p) b.more h) in
            let d : list_any (discards t) (history w p) ≡ false = kept_there p t c in
            let x : wrote (history w p) t i ≡ Some v = subst (λ (z : List Mark). wrote z t i ≡ Some v) (sym b.is)
            (wrote_more (history_in began p) b.more t i v e) in
            latest_least (history w p) t i v c (version_is (history w p) i t d ∙ x);
      };
      committed = ⊎_elim inl (λ h. inr (p, h.0)) (latest_is (history w p) i);
    }
  where
    kept_there : (p t : ℕ) → list_any (commits t) (history w p) ≡ true → list_any (discards t) (history w p) ≡ false
    kept_there p t c = ⊎_elim
        (λ (d : list_any (discards t) (history w p) ≡ true). absurd
        (apart o w k t ((k.sound p).discarded t d) ((k.sound p).committed t c)))
        (λ n. n)
        (true_or_false (list_any (discards t) (history w p)))

-- and in round two
second_now : (o : Opening) (w : World) → IsKept o w → (c : ℕ) (began : List PartitionState) (r : RoundState)
    (ts : List ℕ) → IsFetching o w c began r ts → (i : ℕ) → In i r.items
    → SecondRound o w began ts i (stamp_for (history w (place_of o.parts i)) i ts)
second_now o w k c began r ts f i l =
    let p = place_of o.parts i in
    let ms = history w p in
    let h = f.fresh i l in
    let is : stamp_for ms i ts ≡ best_of (has_version ms i) ts = stamp_for_best ms i ts h.stamp h.in_them in
    subst (λ (z : ℕ). SecondRound o w began ts i z) (sym is)
    (record {
      fresh = record { at = λ t v d e. le_trans (h.fresh.at t v d e) (least h.stamp h.in_them h.here) };
      from = ⊎_elim inl (λ d. inr d.0) (best_is (has_version ms i) ts);
      above = λ t d. ⊎_elim inl
          (λ (s : IsCollectedStamp o w t). inr (record {
            of = s.settled.of;
            begun = s.settled.begun;
            stamp = s.settled.stamp;
            bound = λ e. let v = some_is (value_in s.settled.of.writes i) e in at_least t d s.settled v.0
                (s.settled.ready i v.0 v.1);
          }))
          (f.stamps t d);
    })
  where
    at_least : (t : ℕ) → In t ts → IsSettled o w t → (v : Value) → wrote (history w (place_of o.parts i)) t i ≡ Some v
        → t ≤ best_of (has_version (history w (place_of o.parts i)) i) ts
    at_least t d s v e = best_least (has_version (history w (place_of o.parts i)) i) ts t d
        (is_some_of (version (history w (place_of o.parts i)) i t) v
        (version_is (history w (place_of o.parts i)) i t undiscarded ∙ e))
      where
        undiscarded : list_any (discards t) (history w (place_of o.parts i)) ≡ false
        undiscarded = ⊎_elim
            (λ (q : list_any (discards t) (history w (place_of o.parts i)) ≡ true). absurd
            (apart o w k t ((k.sound (place_of o.parts i)).discarded t q) s))
            (λ n. n)
            (true_or_false (list_any (discards t) (history w (place_of o.parts i))))

    least : (s : ℕ) → In s ts → (s ≡ 0) ⊎ ((v : Value) × (wrote (history w (place_of o.parts i)) s i ≡ Some v))
        → s ≤ best_of (has_version (history w (place_of o.parts i)) i) ts
    least s d h = ⊎_elim
        (λ (z : s ≡ 0). omega arith)
        (λ (v : (v : Value) × (wrote (history w (place_of o.parts i)) s i ≡ Some v)). ⊎_elim
        (λ (z : s ≡ 0). omega arith)
        (λ (q : IsCollectedStamp o w s). at_least s d q.settled v.0 v.1)
        (f.stamps s d))
        h

-- where no vote is noted
no_more : (votes : List NotedVote) (n : NotedVote) → In n votes → In n (votes ++ [])
no_more votes n l = subst (λ (a : List NotedVote). In n a) (sym (append-nil votes)) l

-- a message that partition p sends; its reply to a reader is what p reads for it
pub record IsSaid (o : Opening) (w next : World) (p : ℕ) (n : Message) : Type 1 where
  pub to : Node
  pub tag : ℕ
  pub body : Body
  pub is : n ≡ record { from = Part p; to = to; tag = tag; body = body }
  pub tagged : IsTagged w to tag
  pub fine : IsFine o next (Part p) to body
  pub gives : (c : ℕ) (ts : List ℕ) (P : ℕ → ℕ → Type 0) → to ≡ ToClient c → IsAsked w c tag ts
      → ((i : ℕ) → place_of o.parts i ≡ p → P i (stamp_for (history w p) i ts)) → AnswersWith P body

-- partition p, which is h, becomes h', by a mark and a vote, and sends messages
module _ (o : Opening) (w : World) (k : IsKept o w) (p : ℕ) (h : PartitionState)
    (got : slice_get w.now.partitions p ≡ Some h) (h' : PartitionState) (x : Option Mark) (y : Option NotedVote)
    (placed : IsPlaced o p h') (marks : h'.marks ≡ h.marks ++ option_to_list x)
    (votes : (n : NotedVote) → In n h'.votes → In n (h.votes ++ option_to_list y))
    (marked : IsMarked o w p h.marks x) (noted : (n : NotedVote) → y ≡ Some n
    → IsPreparedIn (history w n.part) n.stamp) (sent : List Message) where
  abbrev next : World
  next = changed w (AtPart p h' sent)

  was : history w p ≡ h.marks
  was = ap marks_of got

  sound_was : IsSound o w p h.marks
  sound_was = subst (IsSound o w p) was (k.sound p)

  here_now : history next p ≡ h.marks ++ option_to_list x
  here_now = ap marks_of (set_same w.now.partitions p h h' got) ∙ marks

  part_cases : (q : ℕ) → ((q ≡ p) × (slice_get next.now.partitions q ≡ Some h')) ⊎
      (slice_get next.now.partitions q ≡ slice_get w.now.partitions q)
  part_cases q = ⊎_elim
      (λ (e : q ≡ p). inl (
        e,
        subst (λ (z : ℕ). slice_get next.now.partitions z ≡ Some h') (sym e)
            (set_same w.now.partitions p h h' got),
      ))
      inr (set_other w.now.partitions p q h')

  history_cases : (q : ℕ) → ((q ≡ p) × (history next q ≡ h.marks ++ option_to_list x) × (history w q ≡ h.marks)) ⊎
      (history next q ≡ history w q)
  history_cases q = ⊎_elim
      (λ (c : (q ≡ p) × (slice_get next.now.partitions q ≡ Some h')). inl
      (c.0, ap marks_of c.1 ∙ marks, subst (λ (z : ℕ). history w z ≡ h.marks) (sym c.0) was))
      (λ c. inr (ap marks_of c))
      (part_cases q)

  stays_full : (z : Option Mark) → IsMarked o w p h.marks z → (t : ℕ) → state_of h.marks t ≡ state.Unknown
      → is_full o.limit h.marks ≡ true → (state_of (h.marks ++ option_to_list z) t ≡ state.Unknown) ×
      (is_full o.limit (h.marks ++ option_to_list z) ≡ true)
  stays_full None no_mark t u f = rw append-nil (u, f)
  stays_full z (made_prepared e n d b) t u f = absurd (true≢false (sym f ∙ n))
  stays_full z (made_refused e n d) t u f = absurd (true≢false (sym f ∙ n))
  stays_full z (made_committed {t = s} e d) t u f = (
    state_push_other h.marks (Committed s) t (pending_not h.marks s t e u)
        ∙ u,
    commit_full o.limit h.marks s sound_was.legal e f,
  )
  stays_full z (made_discarded {t = s} e d) t u f = (
    state_push_other h.marks (Discarded s) t (pending_not h.marks s t e u)
        ∙ u,
    discard_full o.limit h.marks s sound_was.legal e f,
  )
  stays_full z (made_trimmed n) t u f = absurd (true≢false (sym f ∙ n))

  legal_now : is_legal (h.marks ++ option_to_list x) ≡ true
  legal_now = subst (λ (z : List Mark). is_legal z ≡ true) marks placed.is.legal

  pub grows : Grows o w next
  grows = record {
    more = λ q. ⊎_elim
        (λ (c : (q ≡ p) × (history next q ≡ h.marks ++ option_to_list x) × (history w q ≡ h.marks)).
        (option_to_list x, c.1 ∙ ap (λ (z : List Mark). z ++ option_to_list x) (sym c.2)))
        (λ c. ([], c ∙ sym (append-nil _)))
        (history_cases q);
    transactions = λ r l. l;
    full = λ q t l. ⊎_elim
        (λ (c : (q ≡ p) × (history next q ≡ h.marks ++ option_to_list x) × (history w q ≡ h.marks)).
        let s = stays_full x marked t (subst (λ (z : List Mark). state_of z t ≡ state.Unknown) c.2 l.unknown)
        (subst (λ (z : List Mark). is_full o.limit z ≡ true) c.2 l.full) in
        record {
          unknown = subst (λ (z : List Mark). state_of z t ≡ state.Unknown) (sym c.1) s.0;
          full = subst
              (λ (z : List Mark). is_full o.limit z ≡ true) (sym c.1) s.1;
        })
        (λ c. record {
          unknown = subst (λ (z : List Mark). state_of z t ≡ state.Unknown) (sym c) l.unknown;
          full = subst (λ (z : List Mark). is_full o.limit z ≡ true) (sym c) l.full;
        })
        (history_cases q);
    tags = λ c. le_refl _;
    clocks = λ c. le_refl _;
  }

  -- a sound history with one more mark
  sound_push : (m : Mark) → is_legal (h.marks ++ m ∷ []) ≡ true
      → ((u : ℕ) (vs : List Row) (ks : List ℕ) → m ≡ Prepared u vs ks → IsPrepareOf o next p u vs ks)
      → (o.checked ≡ true → (u : ℕ) (vs : List Row) (ks : List ℕ) → m ≡ Prepared u vs ks
      → IsBasedIn o next p (h.marks ++ m ∷ []) u vs ks)
      → ((u : ℕ) → m ≡ Committed u → IsSettled o next u) → ((u : ℕ) → m ≡ Discarded u → IsAgainst o next u)
      → IsSound o next p (h.marks ++ m ∷ [])
  sound_push m legal fp fb fc fd = record {
    legal = legal;
    prepared = λ u l. ⊎_elim
        (λ (e : find (prepares u) h.marks ≡ Some (Prepared u l.writes l.items)).
        prepare_grows o w next grows p u l.writes l.items
        (sound_was.prepared u (record { writes = l.writes; items = l.items; found = e })))
        (λ (e : (m ≡ Prepared u l.writes l.items) × (prepares u m ≡ true)). fp u l.writes l.items e.0)
        (find_push (prepares u) h.marks m (Prepared u l.writes l.items) l.found);
    based = λ on u l. ⊎_elim
        (λ (e : find (prepares u) h.marks ≡ Some (Prepared u l.writes l.items)).
        based_push u l.writes l.items
        (sound_was.based on u (record { writes = l.writes; items = l.items; found = e })))
        (λ (e : (m ≡ Prepared u l.writes l.items) × (prepares u m ≡ true)). fb on u l.writes l.items e.0)
        (find_push (prepares u) h.marks m (Prepared u l.writes l.items) l.found);
    committed = λ u l. ⊎_elim
        (λ e. settled_grows o w next grows u (sound_was.committed u e))
        (λ e. fc u (commits_is u m e))
        (push_cases (commits u) h.marks m l);
    discarded = λ u l. ⊎_elim
        (λ e. against_grows o w next grows u (sound_was.discarded u e))
        (λ e. fd u (discards_is u m e))
        (push_cases (discards u) h.marks m l);
  }
    where
      based_push : (u : ℕ) (vs : List Row) (ks : List ℕ) → IsBasedIn o w p h.marks u vs ks
          → IsBasedIn o next p (h.marks ++ m ∷ []) u vs ks
      based_push u vs ks b =
          let more = based_grows o w next grows p h.marks u vs ks b in
          record {
            is = more.is;
            before = more.before;
            later = more.later ++ m ∷ [];
            all = ap (λ (z : List Mark). z ++ m ∷ []) more.all
                ∙ append_assoc more.before (Prepared u vs ks ∷ more.later) (m ∷ []);
            based = more.based;
          }

      push_cases : (test : Mark → Bool) (ms : List Mark) (z : Mark) → list_any test (ms ++ z ∷ []) ≡ true
          → (list_any test ms ≡ true) ⊎ (test z ≡ true)
      push_cases test ms z l =
          let a = in_any test (ms ++ z ∷ []) l in
          ⊎_elim (λ i. inl (any_in test ms i a.2)) (λ i. inr (subst (λ (s : Mark). test s ≡ true) (in_one i) a.2))
          (in_cases ms (z ∷ []) a.1)

  prepared_same : {t u : ℕ} {ws vs : List Row} {js ks : List ℕ} → Prepared t ws js ≡ Prepared u vs ks
      → (t ≡ u) × (ws ≡ vs) × (js ≡ ks)
  prepared_same e = (cc, cc, cc)

  committed_same : {s t : ℕ} → Committed s ≡ Committed t → s ≡ t
  committed_same e = cc

  discarded_same : {s t : ℕ} → Discarded s ≡ Discarded t → s ≡ t
  discarded_same e = cc

  prepared_committed : {s t : ℕ} {ws : List Row} {js : List ℕ} {R : Type 0} → Prepared s ws js ≡ Committed t → R
  prepared_committed e = absurd (cc)

  prepared_discarded : {s t : ℕ} {ws : List Row} {js : List ℕ} {R : Type 0} → Prepared s ws js ≡ Discarded t → R
  prepared_discarded e = absurd (cc)

  committed_discarded : {s t : ℕ} {R : Type 0} → Committed s ≡ Discarded t → R
  committed_discarded e = absurd (cc)

  trimmed_prepared : {i t : ℕ} {ws : List Row} {js : List ℕ} {R : Type 0} → Trimmed i ≡ Prepared t ws js → R
  trimmed_prepared e = absurd (cc)

  trimmed_committed : {i t : ℕ} {R : Type 0} → Trimmed i ≡ Committed t → R
  trimmed_committed e = absurd (cc)

  trimmed_discarded : {i t : ℕ} {R : Type 0} → Trimmed i ≡ Discarded t → R
  trimmed_discarded e = absurd (cc)

  sound_here : (z : Option Mark) → IsMarked o w p h.marks z → history next p ≡ h.marks ++ option_to_list z
      → is_legal (h.marks ++ option_to_list z) ≡ true → IsSound o next p (h.marks ++ option_to_list z)
  sound_here None no_mark e l = rw append-nil (sound_grows o w next grows p h.marks sound_was)
  sound_here z (made_prepared {t} {ws} {js} u n d b) e l =
      sound_push (Prepared t ws js) l (λ u vs ks q. prepares_for u vs ks q)
      (λ on u vs ks q. let r = prepared_same q in
      record {
        is = prepares_for u vs ks q;
        before = h.marks;
        later = [];
        all = ap (λ (m : Mark). h.marks ++ m ∷ []) q;
        based = sym (ap (λ (x : ℕ × List Row). are_bases h.marks x.0 x.1 (bases_for d.of.permit x.1)) (λ i. (r.0 i, r.1 i)))
            ∙ b on;
      })
      (λ u q. prepared_committed q) (λ u q. prepared_discarded q)
    where
      prepares_for : (u : ℕ) (vs : List Row) (ks : List ℕ) → Prepared t ws js ≡ Prepared u vs ks
          → IsPrepareOf o next p u vs ks
      prepares_for u vs ks q =
          let r = prepared_same q in
          record {
            of = d.of;
            begun = d.begun;
            stamp = d.stamp ∙ r.0;
            writes = sym r.1 ∙ d.writes;
            items = sym r.2
                ∙ d.items;
          }
  sound_here z (made_committed {t} u d) e l =
      sound_push (Committed t) l
      (λ u vs ks q. prepared_committed (sym q)) (λ on u vs ks q. prepared_committed (sym q))
      (λ u q. subst (λ (s : ℕ). IsSettled o next s) (committed_same q) (settled_grows o w next grows t d))
      (λ u q. committed_discarded q)
  sound_here z (made_refused {t} u n d) e l =
      sound_push (Discarded t) l
      (λ u vs ks q. prepared_discarded (sym q)) (λ on u vs ks q. prepared_discarded (sym q))
      (λ u q. committed_discarded (sym q))
      (λ v q. subst (λ (s : ℕ). IsAgainst o next s) (discarded_same q) (refused t u d e))
    where
      refused : (t : ℕ) → state_of h.marks t ≡ state.Unknown → IsPlacedAt o w p t
          → history next p ≡ h.marks ++ Discarded t ∷ [] → IsAgainst o next t
      refused t u d q = record {
        of = d.of;
        begun = d.begun;
        stamp = d.stamp;
        item = d.item;
        in_them = d.in_them;
        promised = subst (λ (z : ℕ). IsPromisedAgainst (history next z) t) (sym d.at)
            (record { before = h.marks; later = []; discarded = q; unprepared = (unknown_tells _ _ _ u).2 });
      }
  sound_here z (made_discarded {t} u d) e l =
      sound_push (Discarded t) l
      (λ u vs ks q. prepared_discarded (sym q)) (λ on u vs ks q. prepared_discarded (sym q))
      (λ u q. committed_discarded (sym q))
      (λ v q. subst (λ (s : ℕ). IsAgainst o next s) (discarded_same q) (against_grows o w next grows t d))
  sound_here z (made_trimmed {i} n) e l = sound_push (Trimmed i) l (λ u vs ks q. trimmed_prepared q)
      (λ on u vs ks q. trimmed_prepared q)
      (λ u q. trimmed_committed q) (λ u q. trimmed_discarded q)

  sound_all : (q : ℕ) → IsSound o next q (history next q)
  sound_all q = ⊎_elim
      (λ (c : (q ≡ p) × (history next q ≡ h.marks ++ option_to_list x) × (history w q ≡ h.marks)).
      subst (λ (z : ℕ). IsSound o next z (history next z)) (sym c.0)
      (subst (λ (z : List Mark). IsSound o next p z) (sym here_now) (sound_here x marked here_now legal_now)))
      (λ (c : history next q ≡ history w q). subst (λ (z : List Mark). IsSound o next q z) (sym c)
      (sound_grows o w next grows q (history w q) (k.sound q)))
      (history_cases q)

  placed_all : (q : ℕ) (z : PartitionState) → slice_get next.now.partitions q ≡ Some z → IsPlaced o q z
  placed_all q z e = ⊎_elim
      (λ (c : (q ≡ p) × (slice_get next.now.partitions q ≡ Some h')). subst (λ (a : PartitionState). IsPlaced o q a)
      (some_same (sym c.1 ∙ e)) (subst (λ (a : ℕ). IsPlaced o a h') (sym c.0) placed))
      (λ (c : slice_get next.now.partitions q ≡ slice_get w.now.partitions q). k.placed q z (sym c ∙ e))
      (part_cases q)

  in_option : {n : NotedVote} (z : Option NotedVote) → In n (option_to_list z) → z ≡ Some n
  in_option None l = in_nil l
  in_option (Some a) l = ap Some (sym (in_one l))

  noted_all : (q : ℕ) (z : PartitionState) → slice_get next.now.partitions q ≡ Some z → (n : NotedVote) → In n z.votes
      → IsPreparedIn (history next n.part) n.stamp
  noted_all q z e n l = prepared_grows o w next grows n.part n.stamp (⊎_elim
      (λ (c : (q ≡ p) × (slice_get next.now.partitions q ≡ Some h')).
      ⊎_elim
      (λ i. k.noted p h got n i)
      (λ i. noted n (in_option y i))
      (in_cases h.votes (option_to_list y)
      (votes n
      (subst (λ (a : PartitionState). In n a.votes) (some_same (sym e ∙ c.1)) l))))
      (λ (c : slice_get next.now.partitions q ≡ slice_get w.now.partitions q). k.noted q z (sym c ∙ e) n l)
      (part_cases q))

  module _ (said : (n : Message) → In n sent → IsSaid o w next p n) where
    part_not_client : {q c : ℕ} {R : Type 0} → Part q ≡ ToClient c → R
    part_not_client e = absurd (cc)

    asked_all : (c g : ℕ) (ts : List ℕ) → IsAsked w c g ts → IsAsked next c g ts
    asked_all c g ts asked = record {
      at = λ n l f t. ⊎_elim
          (λ i. asked.at n i f t)
          (λ i. let s = said n i in part_not_client (ap (λ (z : Message). z.from) (sym s.is) ∙ f))
          (in_cases w.now.messages sent l);
    }

    answered_all : (c g : ℕ) (ts : List ℕ) (P Q : ℕ → ℕ → Type 0) → IsAsked w c g ts → IsAnswered w c g P
        → ((i s : ℕ) → P i s → Q i s) → ((i : ℕ) → place_of o.parts i ≡ p → Q i (stamp_for (history w p) i ts))
        → IsAnswered next c g Q
    answered_all c g ts P Q asked answered more now = record {
      at = λ n l f t. ⊎_elim
          (λ i. answers_more P Q more n.body (answered.at n i f t))
          (λ i. let s = said n i in
          subst (λ (z : Message). AnswersWith Q z.body) (sym s.is)
          (s.gives c ts Q (ap (λ (z : Message). z.to) (sym s.is) ∙ f)
          (subst (λ (z : ℕ). IsAsked w c z ts) (sym (ap (λ (z : Message). z.tag) (sym s.is) ∙ t)) asked) now))
          (in_cases w.now.messages sent l);
    }

    round_all : (c : ℕ) (began : List PartitionState) (r : RoundState) → ((q : ℕ) → HasBegun w began q)
        → (f : Option (List ℕ)) → IsRound o w c began r f → IsRound o next c began r f
    round_all c began r begun None d = record {
      asked = asked_all c r.asker.tag [] d.asked;
      answered = answered_all c r.asker.tag [] (FirstRound o w began) (FirstRound o next began) d.asked d.answered
          (λ i s e. first_round_grows o w next grows began i s e)
          (λ i e. first_round_grows o w next grows began i _
          (subst (λ (z : ℕ). FirstRound o w began i (latest (history w z) i)) e (first_now o w k began begun i)));
      founds = founds_grows o w next grows (FirstRound o w began) (FirstRound o next began)
          (λ i s e. first_round_grows o w next grows began i s e) r.answers d.founds;
    }
    round_all c began r begun (Some ts) d = record {
      asked = asked_all c r.asker.tag ts d.asked;
      answered = answered_all c r.asker.tag ts (λ i s. In i r.items → SecondRound o w began ts i s)
          (λ i s. In i r.items → SecondRound o next began ts i s) d.asked d.answered
          (λ i s e l. second_round_grows o w next grows began ts i s (e l))
          (λ i e l. second_round_grows o w next grows began ts i _
          (subst (λ (z : ℕ). SecondRound o w began ts i (stamp_for (history w z) i ts)) e
          (second_now o w k c began r ts d i l)));
      founds = founds_grows o w next grows (SecondRound o w began ts) (SecondRound o next began ts)
          (λ i s e. second_round_grows o w next grows began ts i s e) r.answers d.founds;
      stamps = λ t l. stamp_grows o w next grows t (d.stamps t l);
      fresh = λ i l. has_fresh_grows o w next grows began ts i (d.fresh i l);
    }

    writing_all : (c : ℕ) (z : WritingState) (P Q : ℕ → ℕ → Type 0) → ((q t : ℕ) → P q t → Q q t)
        → IsWriting o w c z P → IsWriting o next c z Q
    writing_all c z P Q more d = record {
      of = d.of;
      begun = d.begun;
      stamp = d.stamp;
      parts = d.parts;
      client = d.client;
      given = λ q l. ⊎_elim inl (λ e. inr (more q z.stamp e)) (d.given q l);
    }

    doing_all : (c : ℕ) (began : List PartitionState) (f : Phase) → IsDoing o w c began f → IsDoing o next c began f
    doing_all c began (phase.Idle tag) d = tt
    doing_all c began (phase.Reads pending_ask round) d = record {
      low = d.low;
      high = d.high;
      parts = d.parts;
      client = d.client;
      own = d.own;
      begun = λ q. begun_grows o w next grows began q (d.begun q);
      round = round_all c began round d.begun round.stamps d.round;
    }
    doing_all c began (phase.Prepares z) d = writing_all c z (HasPrepared w) (HasPrepared next)
        (λ q t e. prepared_grows o w next grows q t e) d
    doing_all c began (phase.Commits z) d = writing_all c z (HasCommitted w) (HasCommitted next)
        (λ q t e. any_grows o w next grows (commits t) q e) d

    pub at_part_kept : IsKept o next
    at_part_kept = record {
      placed = placed_all;
      sound = sound_all;
      noted = noted_all;
      fine = λ n l. ⊎_elim
          (λ i. fine_grows o w next grows n.from n.to n.body (k.fine n i))
          (λ i. let s = said n i in subst (λ (z : Message). IsFine o next z.from z.to z.body) (sym s.is) s.fine)
          (in_cases w.now.messages sent l);
      from = λ n l. ⊎_elim
          (λ i. tagged_grows o w next grows n.from n.tag (k.from n i))
          (λ i. let s = said n i in subst (λ (z : Message). IsTagged next z.from z.tag) (sym s.is) tt)
          (in_cases w.now.messages sent l);
      to = λ n l. ⊎_elim
          (λ i. tagged_grows o w next grows n.to n.tag (k.to n i))
          (λ i. let s = said n i in subst (λ (z : Message). IsTagged next z.to z.tag) (sym s.is)
          (tagged_grows o w next grows s.to s.tag s.tagged))
          (in_cases w.now.messages sent l);
      drawn = λ r l. drawn_grows o w next grows r (k.drawn r l);
      unique = k.unique;
      clients = λ c. let d = k.clients c in
          record {
            number = d.number;
            clock = d.clock;
            phase = doing_all c (last_begun w.past.begun c).partitions
                (client_at w.now.clients c).phase d.phase;
          };
      reads = λ f rows l e. read_grows o w next grows f.begun.partitions rows (k.reads f rows l e);
      answers = λ t l. answer_grows o w next grows t.answer (k.answers t l);
    }

-- ---- partition p takes m

placed_after : (o : Opening) (p : ℕ) (h : PartitionState) (m : Message) → IsPlaced o p h → IsPlaced o p (after h m)
placed_after o p h m d = record {
  number = d.number;
  parts = d.parts;
  limit = d.limit;
  values = d.values;
  checked = d.checked;
  is = stays_after h m d.is;
}

in_answer : (h : PartitionState) (m n : Message) (f : Option Reply)
    → In n (option_to_list (option_map (reply_to h m) f)) → (r : Reply) × (f ≡ Some r) × (n ≡ reply_to h m r)
in_answer h m n None l = in_nil l
in_answer h m n (Some r) l = (r, refl, in_one l)

pub part_kept : (o : Opening) → 0 < o.parts → (w : World) → IsKept o w → (p : ℕ) (m : Message) → In m w.now.messages
    → m.to ≡ Part p → (h : PartitionState) → slice_get w.now.partitions p ≡ Some h
    → IsKept o (changed w (AtPart p (after h m) (option_to_list (answer h m))))
part_kept o some w k p m sent to h got =
    let e = action_of h m in
    let f = action_is o some w k p h got m sent to in
    let d = k.placed p h got in
    let d' = placed_after o p h m d in
    let replies = option_to_list (answer h m) in
    let noted = left_noted (decided e.mark) (h.votes ++ option_to_list e.vote) in
    let g = grows o w k p h got (after h m) e.mark e.vote d' refl noted f.marked f.noted replies in
    at_part_kept o w k p h got (after h m) e.mark e.vote d' refl noted f.marked f.noted replies
    (λ n l.
    let r = in_answer h m n e.reply l in
    record {
      to = m.from;
      tag = m.tag;
      body = body.Reply r.0;
      is = r.2 ∙ ap (λ (z : ℕ). let a : Message =
          record { from = Part z; to = m.from; tag = m.tag; body = body.Reply r.0 } in a) d.number;
      tagged = k.from m sent;
      fine = f.replied (changed w (AtPart p (after h m) replies)) g
          (here_now o w k p h got (after h m) e.mark e.vote d' refl noted f.marked f.noted replies) r.0 r.1;
      gives = λ c ts P from asked now. f.gives P
          (λ i ss q d. subst (λ (z : List ℕ). P i (stamp_for h.marks i z))
          (sym (subst (GetsWith ts) q (asked.at m sent from refl)))
          (subst (λ (z : List Mark). P i (stamp_for z i ts)) (ap marks_of got) (now i d)))
          r.0 r.1;
    })

-- ---- a sweep at partition p

pub sweep_kept : (o : Opening) (w : World) → IsKept o w → (p t : ℕ) (h : PartitionState)
    → slice_get w.now.partitions p ≡ Some h → IsKept o (changed_by w (event.Sweep p t) (sweeps p t (Some h)))
sweep_kept o w k p t h got = go (is_pending (state_of h.marks t)) refl
  where
    d : IsPlaced o p h
    d = k.placed p h got

    sends_all : Result (List Message) Refusal → Result Change Refusal
    sends_all r = r >>= λ messages. Ok (AtPart p h messages)

    sends : (sent : List Message) → ((n : Message) → In n sent → IsSaid o w (changed w (AtPart p h sent)) p n)
        → IsKept o (changed w (AtPart p h sent))
    sends sent said = at_part_kept o w k p h got h None None d (sym (append-nil _)) (no_more h.votes) no_mark
        (λ n e. none_some e) sent said

    grown : (sent : List Message) → Grows o w (changed w (AtPart p h sent))
    grown sent = grows o w k p h got h None None d (sym (append-nil _)) (no_more h.votes) no_mark
        (λ n e. none_some e) sent

    part_apart : {q c : ℕ} {R : Type 0} → Part q ≡ ToClient c → R
    part_apart e = absurd (cc)

    prepared : state_of h.marks t ≡ state.Pending → IsPreparedIn h.marks t
    prepared e = prepared_in h.marks t (pending_tells _ _ _ e).2

    tell : (qs : List ℕ) → state_of h.marks t ≡ state.Pending
        → ((q : ℕ) → In q qs → In q (others_of h.number h.parts (items_at h.marks t)))
        → IsKept o (changed w (AtPart p h (sent_by h.number t qs)))
    tell [] e l =
        let sent = sent_by h.number t [] in
        sends sent (λ n i. record {
          to = Part h.number;
          tag = 0;
          body = body.Reply (reply.Status t vote.Prepared);
          is = in_one i ∙ ap (λ (z : ℕ). let a : Message =
              record { from = Part z; to = Part h.number; tag = 0; body = body.Reply (reply.Status t vote.Prepared) }
              in a) d.number;
          tagged = tt;
          fine = prepared_grows o w (changed w (AtPart p h sent)) (grown sent) p t
              (subst (λ (z : List Mark). IsPreparedIn z t) (sym (ap marks_of got)) (prepared e));
          gives = λ c ts P e. part_apart e;
        })
    tell (q ∷ qs) e l =
        let sent = sent_by h.number t (q ∷ qs) in
        let a = prepared e in
        let s = (subst (IsSound o w p) (ap marks_of got) (k.sound p)).prepared t a in
        sends sent (λ n i.
        let r = in_map (check_to h.number t) (q ∷ qs) i in
        let is : items_at h.marks t ≡ items_written s.of.writes = ap mark_items a.found ∙ s.items in
        let j = other_item h.parts h.number (items_written s.of.writes) r.0
        (subst (λ (z : List ℕ). In r.0 (others_of h.number h.parts z)) is (l r.0 r.1)) in
        record {
          to = Part r.0;
          tag = 0;
          body = body.Request (Check t);
          is = r.2 ∙ ap (λ (z : ℕ). check_to z t r.0) d.number;
          tagged = tt;
          fine = record {
            of = s.of;
            begun = s.begun;
            stamp = s.stamp;
            item = j.item;
            in_them = j.in_them;
            at = sym (ap (λ (z : ℕ). place_of z j.item) d.parts) ∙ j.at;
          };
          gives = λ c ts P e. part_apart e;
        })

    go : (b : Bool) → is_pending (state_of h.marks t) ≡ b
        → IsKept o (changed_by w (event.Sweep p t)
        (sends_all (if b then Ok (sent_by h.number t (others_of h.number h.parts (items_at h.marks t))) else Err
        refusal.NotPrepared)))
    go true e = tell (others_of h.number h.parts (items_at h.marks t)) (is_pending_tells (state_of h.marks t) e)
        (λ q l. l)
    go false e = k

-- ---- a trim at partition p

abbrev trims_to : ℕ → PartitionState → Result (Option Mark) Refusal → Result Change Refusal
trims_to p h r = (r >>= λ mark. Ok (with_mark h mark)) >>= λ changed. Ok (AtPart p changed [])

pub trim_kept : (o : Opening) (w : World) → IsKept o w → (p i : ℕ) (h : PartitionState)
    → slice_get w.now.partitions p ≡ Some h → IsKept o (changed_by w (event.Trim p i) (trims p i (Some h)))
trim_kept o w k p i h got = go (is_placed h.number h.parts i) refl (floor h.marks i == latest h.marks i)
    (is_full h.limit h.marks) refl
  where
    d : IsPlaced o p h
    d = k.placed p h got

    makes : (x : Option Mark) → IsMarked o w p h.marks x → IsPartition (with_mark h x)
        → IsKept o (changed w (AtPart p (with_mark h x) []))
    makes x marked is =
        at_part_kept o w k p h got (with_mark h x) x None
        (record { number = d.number; parts = d.parts; limit = d.limit; values = d.values; checked = d.checked; is = is })
        refl (no_more h.votes) marked (λ n e. none_some e) [] (λ n l. absurd (in_nil l))

    nothing_made : IsPartition (with_mark h None)
    nothing_made = subst IsPartition
        (ap (λ (z : List Mark). let a : PartitionState = record h { marks = z } in a) (sym (append-nil h.marks))) d.is

    go : (a : Bool) → is_placed h.number h.parts i ≡ a → (b c : Bool) → is_full h.limit h.marks ≡ c
        → IsKept o (changed_by w (event.Trim p i)
        (trims_to p h (if not a then Err refusal.Clash else if b then Ok None else if c then Err refusal.Full else
        Ok (Some (Trimmed i)))))
    go false l b c e = k
    go true l true c e = makes None no_mark nothing_made
    go true l false true e = k
    go true l false false e = makes (Some (Trimmed i))
        (made_trimmed (sym (ap (λ (z : ℕ). is_full z h.marks) d.limit) ∙ e)) (trims_by h i d.is l e).0
