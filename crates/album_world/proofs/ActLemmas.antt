-- What a partition does with a message that is fine.
use Rattle.std.proofs.Common.{◌≡◌, ℕ, ◌<◌, Bool, true, false, cond, eqb, ◌==◌, List, [], ◌∷◌, ◌++◌, Option, Some, None, is_some, option_to_list, ◌⊎◌, inl, inr, ⊎_elim, sym, ap, ◌∙◌, subst, refl, eqb-true, eq-eqb, if◌then◌else◌}
use Rattle.std.proofs.lemmas.Bool.{eqb-false, false≢true}
use Rattle.std.specs.List.{list_any, slice_get}
use Rattle.std.specs.Option.{unwrap_or}
use Rattle.album_items.specs.ItemIds.{place_of}
use Rattle.album_items.specs.Openings.{Row}
use Rattle.album_items.specs.declared.openings.Opening.{Opening}
use Rattle.album_items.specs.declared.values.Value.{Value}
use Rattle.album_items.specs.declared.values.Value.TheVariants.{Missing}
use Rattle.album_calls.specs.Nodes.{is_part}
use Rattle.album_calls.specs.declared.messages.Body.{Body}
use Rattle.album_calls.specs.declared.messages.Body.TheVariants as body
use Rattle.album_calls.specs.declared.messages.Message.{Message}
use Rattle.album_calls.specs.declared.nodes.Node.{Node}
use Rattle.album_calls.specs.declared.nodes.Node.TheVariants.{Part, Client as ToClient}
use Rattle.album_calls.specs.declared.nodes.Vote.{Vote}
use Rattle.album_calls.specs.declared.nodes.Vote.TheVariants as vote
use Rattle.album_calls.specs.declared.requests.Request.{Request}
use Rattle.album_calls.specs.declared.requests.Request.TheVariants.{Prepare, PrepareOn, Commit, Get, Check}
use Rattle.album_calls.specs.declared.replies.Reply.{Reply}
use Rattle.album_calls.specs.declared.replies.Reply.TheVariants as reply
use Rattle.album_terminate.specs.Deciding.{have_voted}
use Rattle.album_terminate.specs.declared.deciding.Decision.TheVariants as decision
use Rattle.album_terminate.specs.declared.deciding.StampState.{StampState}
use Rattle.album_terminate.specs.declared.deciding.StampState.TheVariants as state
use Rattle.album_partition.specs.declared.marks.Mark.{Mark}
use Rattle.album_partition.specs.declared.marks.Mark.TheVariants.{Prepared, Committed, Discarded, Trimmed}
use Rattle.album_partition.specs.Votes.{NotedVote, new_vote, heard, has_vote}
use Rattle.album_partition.specs.Answers.{Action, nothing, says, marks, marks_and_says, prepare_by, prepare_on_by, on_prepare, commit_by, check_by, get_by, on_get, mark_by, on_vote_of, on_prepared, on_vote, on_status, on_request, on_reply, on_body, action_of}
use Rattle.album_partition.specs.Partition.{PartitionState, value_at, stamp_for, read_at}
use Rattle.album_partition.specs.Bases.{are_bases}
use Rattle.album_partition.specs.Proper.{is_proper, is_proper_on}
use Rattle.album_partition.specs.Marks.{prepares, commits, state_by, state_of, is_pending, is_full, value_in, version, mark_items, items_at, IsPromisedAgainst}
use Rattle.album_items.specs.Places.{lies_at, others_of}
use Rattle.album_partition.proofs.StateLemmas.{unknown_tells, pending_tells, committed_tells, is_pending_tells}
use Rattle.album_partition.proofs.BaseLemmas.{outdated_here}
use Rattle.album_partition.proofs.LegalLemmas.{committed_was_prepared}
use Rattle.album_partition.proofs.TrimLemmas.{read_high}
use Rattle.album_items.specs.Transactions.{items_written}
use Rattle.album_world.proofs.ListLemmas.{In}
use Rattle.album_world.proofs.ListLemmas.In.{here}
use Rattle.album_world.specs.State.{marks_of}
use Rattle.album_world.specs.Past.{World}
use Rattle.album_world.specs.Committing.{history}
use Rattle.album_world.proofs.ListLemmas.{within, in_right, any_in, same_or_not, some_same, none_some}
use Rattle.album_world.proofs.MarkLemmas.{IsPreparedIn, prepared_in, wrote, version_wrote, some_is, stamp_for_is}
use Rattle.album_world.proofs.PlaceLemmas.{item_in, other_in, given_is, IsNoted}
use Rattle.album_world.proofs.Invariant.{IsKept, IsPrepareOf, IsPrepareOnOf, bases_for, IsSettled, IsAgainst, IsPlacedAt, IsVote, IsValue, IsSay, IsFine, IsSound, IsPlaced, SaysWith}
use Rattle.album_world.proofs.GrowthLemmas.{Grows, prepared_grows, any_grows, settled_grows, against_grows, value_grows}
use Rattle.album_world.proofs.WroteLemmas.{written_here}

pub discarded_tells : (a b c : Bool) → state_by a b c ≡ state.Discarded → b ≡ true
discarded_tells true b c e = absurd (cc)
discarded_tells false true c e = refl
discarded_tells false false true e = absurd (cc)
discarded_tells false false false e = absurd (cc)

-- the mark that a partition with these marks makes
pub data IsMarked (o : Opening) (w : World) (p : ℕ) (ms : List Mark) : Option Mark → Type 0 where
  no_mark : IsMarked o w p ms None
  made_prepared : {t : ℕ} {ws : List Row} {js : List ℕ} → state_of ms t ≡ state.Unknown → is_full o.limit ms ≡ false
      → (d : IsPrepareOf o w p t ws js) → (o.checked ≡ true → are_bases ms t ws (bases_for d.of.permit ws) ≡ true)
      → IsMarked o w p ms (Some (Prepared t ws js))
  made_committed : {t : ℕ} → state_of ms t ≡ state.Pending → IsSettled o w t → IsMarked o w p ms (Some (Committed t))
  made_refused : {t : ℕ} → state_of ms t ≡ state.Unknown → is_full o.limit ms ≡ false → IsPlacedAt o w p t
      → IsMarked o w p ms (Some (Discarded t))
  made_discarded : {t : ℕ} → state_of ms t ≡ state.Pending → IsAgainst o w t → IsMarked o w p ms (Some (Discarded t))
  made_trimmed : {i : ℕ} → is_full o.limit ms ≡ false → IsMarked o w p ms (Some (Trimmed i))

pub record IsAction (o : Opening) (w : World) (p : ℕ) (ms : List Mark) (m : Message) (e : Action) : Type 1 where
  pub marked : IsMarked o w p ms e.mark
  pub noted : (n : NotedVote) → e.vote ≡ Some n → IsPreparedIn (history w n.part) n.stamp
  pub replied : (v : World) → Grows o w v → history v p ≡ ms ++ option_to_list e.mark → (r : Reply) → e.reply ≡ Some r
      → IsSay o v (Part p) r
  pub gives : (P : ℕ → ℕ → Type 0)
      → ((i : ℕ) (ts : List ℕ) → m.body ≡ body.Request (Get i ts) → place_of o.parts i ≡ p → P i (stamp_for ms i ts))
      → (r : Reply) → e.reply ≡ Some r → SaysWith P r

module _ (o : Opening) (w : World) (p : ℕ) (ms : List Mark) (m : Message) where
  silent_action : IsAction o w p ms m nothing
  silent_action = record {
    marked = no_mark;
    noted = λ n h. none_some h;
    replied = λ v g e r h. none_some h;
    gives = λ P f r h. none_some h;
  }

  says_action : (b : Reply) → ((v : World) → Grows o w v → IsSay o v (Part p) b)
      → ((P : ℕ → ℕ → Type 0) → SaysWith P b) → IsAction o w p ms m (says b)
  says_action b fine quiet = record {
    marked = no_mark;
    noted = λ n h. none_some h;
    replied = λ v g e r h. subst (IsSay o v (Part p)) (some_same h) (fine v g);
    gives = λ P f r h. subst (SaysWith P) (some_same h) (quiet P);
  }

  marks_action : (x : Mark) (b : Reply) → IsMarked o w p ms (Some x)
      → ((v : World) → Grows o w v → history v p ≡ ms ++ x ∷ [] → IsSay o v (Part p) b)
      → ((P : ℕ → ℕ → Type 0) → SaysWith P b) → IsAction o w p ms m (marks_and_says x b)
  marks_action x b marked fine quiet = record {
    marked = marked;
    noted = λ n h. none_some h;
    replied = λ v g e r h. subst (IsSay o v (Part p)) (some_same h) (fine v g e);
    gives = λ P f r h. subst (SaysWith P) (some_same h) (quiet P);
  }

  mark_action : (x : Mark) → IsMarked o w p ms (Some x) → IsAction o w p ms m (marks x)
  mark_action x marked = record {
    marked = marked;
    noted = λ n h. none_some h;
    replied = λ v g e r h. none_some h;
    gives = λ P f r h. none_some h;
  }

  else_action : (b : Bool) (e f : Action) → (b ≡ true → IsAction o w p ms m e) → IsAction o w p ms m f
      → IsAction o w p ms m (cond b e f)
  else_action true e f h l = h refl
  else_action false e f h l = l

  clash_action : IsAction o w p ms m (says reply.Clash)
  clash_action = says_action reply.Clash (λ v g. tt) (λ P. tt)

-- partition p takes m
module _ (o : Opening) (some : 0 < o.parts) (w : World) (k : IsKept o w) (p : ℕ) (h : PartitionState)
    (got : slice_get w.now.partitions p ≡ Some h) (m : Message) (sent : In m w.now.messages) (to : m.to ≡ Part p) where
  here_is : history w p ≡ h.marks
  here_is = ap marks_of got

  placed : IsPlaced o p h
  placed = k.placed p h got

  sound : IsSound o w p h.marks
  sound = subst (IsSound o w p) here_is (k.sound p)

  given : (b : Body) → m.body ≡ b → IsFine o w m.from (Part p) b
  given b e = subst (λ (z : Body). IsFine o w m.from (Part p) z) e
      (subst (λ (z : Node). IsFine o w m.from z m.body) to (k.fine m sent))

  now_prepared : (t : ℕ) → IsPreparedIn h.marks t → IsPreparedIn (history w p) t
  now_prepared t d = subst (λ (z : List Mark). IsPreparedIn z t) (sym here_is) d

  is_prepared : (t : ℕ) (s : StampState) → state_of h.marks t ≡ s → (s ≡ state.Pending) ⊎ (s ≡ state.Committed)
      → IsPreparedIn h.marks t
  is_prepared t s e c = prepared_in h.marks t (⊎_elim
      (λ (q : s ≡ state.Pending). (pending_tells _ _ _ (e ∙ q)).2)
      (λ (q : s ≡ state.Committed). committed_was_prepared h.marks t sound.legal (committed_tells _ _ _ (e ∙ q)))
      c)

  full_here : is_full h.limit h.marks ≡ is_full o.limit h.marks
  full_here = ap (λ (z : ℕ). is_full z h.marks) placed.limit

  did_prepare : (t : ℕ) → IsPreparedIn h.marks t → IsAction o w p h.marks m (says (reply.Prepared t))
  did_prepare t d = says_action o w p h.marks m (reply.Prepared t)
      (λ v g. prepared_grows o w v g p t (now_prepared t d)) (λ P. tt)

  against_of : (t : ℕ) → state_of h.marks t ≡ state.Discarded → IsAgainst o w t
  against_of t e = sound.discarded t (discarded_tells _ _ _ e)

  did_discard : (t : ℕ) → state_of h.marks t ≡ state.Discarded → IsAction o w p h.marks m (says (reply.Discarded t))
  did_discard t e = says_action o w p h.marks m (reply.Discarded t) (λ v g. against_grows o w v g t (against_of t e))
      (λ P. tt)

  no_room : (t : ℕ) → state_of h.marks t ≡ state.Unknown → is_full h.limit h.marks ≡ true
      → IsAction o w p h.marks m (says (reply.Full t))
  no_room t u f = says_action o w p h.marks m (reply.Full t)
      (λ v g. g.full p t (record {
        unknown = subst (λ (z : List Mark). state_of z t ≡ state.Unknown) (sym here_is) u;
        full = subst (λ (z : List Mark). is_full o.limit z ≡ true) (sym here_is) (sym full_here ∙ f);
      }))
      (λ P. tt)

  -- what is prepared is said so
  says_prepared : (t : ℕ) (ws : List Row) (js : List ℕ) (v : World) → history v p ≡ h.marks ++ Prepared t ws js ∷ []
      → IsSay o v (Part p) (reply.Prepared t)
  says_prepared t ws js v q = prepared_in (history v p) t
      (subst (λ (z : List Mark). list_any (prepares t) z ≡ true) (sym q)
      (any_in (prepares t) (h.marks ++ Prepared t ws js ∷ []) (in_right h.marks here) (eq-eqb t t refl)))

  prepare_action : (t : ℕ) (ws : List Row) (js : List ℕ) → m.body ≡ body.Request (Prepare t ws js) → h.checked ≡ false
      → (full same : Bool) → is_full h.limit h.marks ≡ full → (s : StampState) → state_of h.marks t ≡ s
      → IsAction o w p h.marks m (prepare_by full same s t ws js)
  prepare_action t ws js e free true same f state.Unknown u = no_room t u f
  prepare_action t ws js e free false same f state.Unknown u =
      marks_action o w p h.marks m (Prepared t ws js) (reply.Prepared t)
      (made_prepared u (sym full_here ∙ f) (given (body.Request (Prepare t ws js)) e)
      (λ on. absurd (false≢true (sym free ∙ (placed.checked ∙ on)))))
      (λ v g q. says_prepared t ws js v q) (λ P. tt)
  prepare_action t ws js e free full same f state.Pending u =
      else_action o w p h.marks m same _ _ (λ q. did_prepare t (is_prepared t state.Pending u (inl refl)))
      (clash_action o w p h.marks m)
  prepare_action t ws js e free full same f state.Committed u =
      else_action o w p h.marks m same _ _ (λ q. did_prepare t (is_prepared t state.Committed u (inr refl)))
      (clash_action o w p h.marks m)
  prepare_action t ws js e free full same f state.Discarded u = did_discard t u

  is_committed : (t : ℕ) → state_of h.marks t ≡ state.Committed → list_any (commits t) (history w p) ≡ true
  is_committed t e = subst (λ (z : List Mark). list_any (commits t) z ≡ true) (sym here_is) (committed_tells _ _ _ e)

  commit_action : (t : ℕ) → m.body ≡ body.Request (Commit t) → (s : StampState) → state_of h.marks t ≡ s
      → IsAction o w p h.marks m (commit_by s t)
  commit_action t e state.Unknown u = says_action o w p h.marks m (reply.NotPrepared t) (λ v g. tt) (λ P. tt)
  commit_action t e state.Pending u =
      marks_action o w p h.marks m (Committed t) (reply.Committed t)
      (made_committed u (given (body.Request (Commit t)) e))
      (λ v g q. subst (λ (z : List Mark). list_any (commits t) z ≡ true) (sym q)
      (any_in (commits t) (h.marks ++ Committed t ∷ []) (in_right h.marks here) (eq-eqb t t refl)))
      (λ P. tt)
  commit_action t e state.Committed u = says_action o w p h.marks m (reply.Committed t)
      (λ v g. any_grows o w v g (commits t) p (is_committed t u)) (λ P. tt)
  commit_action t e state.Discarded u = did_discard t u

  -- what is refused by a partition of one of its items is against it
  pub against_here : (v : World) (t : ℕ) → Grows o w v → IsPlacedAt o w p t → state_of h.marks t ≡ state.Unknown
      → history v p ≡ h.marks ++ Discarded t ∷ [] → IsAgainst o v t
  against_here v t g d u q = record {
    of = d.of;
    begun = g.transactions d.of d.begun;
    stamp = d.stamp;
    item = d.item;
    in_them = d.in_them;
    promised = subst (λ (z : ℕ). IsPromisedAgainst (history v z) t) (sym d.at)
        (record { before = h.marks; later = []; discarded = q; unprepared = (unknown_tells _ _ _ u).2 });
  }

  -- a checked Prepare: one whose bases aren't the latest versions writes something here
  prepare_on_action : (t : ℕ) (ws : List Row) (js bs : List ℕ) → m.body ≡ body.Request (PrepareOn t ws js bs)
      → is_proper_on h.number h.parts t ws js bs ≡ true → (full based : Bool) → is_full h.limit h.marks ≡ full
      → are_bases h.marks t ws bs ≡ based → (s : StampState) → state_of h.marks t ≡ s
      → IsAction o w p h.marks m (prepare_on_by full based s t ws js)
  prepare_on_action t ws js bs e l true based f b state.Unknown u = no_room t u f
  prepare_on_action t ws js bs e l false true f b state.Unknown u =
      let d : IsPrepareOnOf o w p t ws js bs = given (body.Request (PrepareOn t ws js bs)) e in
      marks_action o w p h.marks m (Prepared t ws js) (reply.Prepared t)
      (made_prepared u (sym full_here ∙ f) d.is (λ on. ap (are_bases h.marks t ws) (sym d.bases) ∙ b))
      (λ v g q. says_prepared t ws js v q) (λ P. tt)
  prepare_on_action t ws js bs e l false false f b state.Unknown u =
      let d : IsPrepareOnOf o w p t ws js bs = given (body.Request (PrepareOn t ws js bs)) e in
      let old = outdated_here h.marks h.number h.parts t ws js bs b l in
      let at : IsPlacedAt o w p t = record {
        of = d.is.of;
        begun = d.is.begun;
        stamp = d.is.stamp;
        item = old.0;
        in_them = subst (In old.0) d.is.items (within js old.1);
        at = sym (ap (λ (z : ℕ). place_of z old.0) placed.parts) ∙ old.2 ∙ placed.number;
      } in
      marks_action o w p h.marks m (Discarded t) (reply.Discarded t) (made_refused u (sym full_here ∙ f) at)
      (λ v g q. against_here v t g at u q) (λ P. tt)
  prepare_on_action t ws js bs e l full based f b state.Pending u = clash_action o w p h.marks m
  prepare_on_action t ws js bs e l full based f b state.Committed u = clash_action o w p h.marks m
  prepare_on_action t ws js bs e l full based f b state.Discarded u = did_discard t u

  check_action : (t : ℕ) → m.body ≡ body.Request (Check t) → (full : Bool) → is_full h.limit h.marks ≡ full
      → (s : StampState) → state_of h.marks t ≡ s → IsAction o w p h.marks m (check_by full s t)
  check_action t e true f state.Unknown u = no_room t u f
  check_action t e false f state.Unknown u =
      let d = given (body.Request (Check t)) e in
      marks_action o w p h.marks m (Discarded t) (reply.Status t vote.Never) (made_refused u (sym full_here ∙ f) d)
      (λ v g q. against_here v t g d u q) (λ P. tt)
  check_action t e full f state.Pending u =
      says_action o w p h.marks m (reply.Status t vote.Prepared)
      (λ v g. prepared_grows o w v g p t (now_prepared t (is_prepared t state.Pending u (inl refl)))) (λ P. tt)
  check_action t e full f state.Committed u =
      says_action o w p h.marks m (reply.Status t vote.Committed)
      (λ v g. settled_grows o w v g t (sound.committed t (committed_tells _ _ _ u))) (λ P. tt)
  check_action t e full f state.Discarded u =
      says_action o w p h.marks m (reply.Status t vote.Never) (λ v g. against_grows o w v g t (against_of t u))
      (λ P. tt)

  -- all others are prepared, and so is p
  settled_by_votes : (t q : ℕ) → state_of h.marks t ≡ state.Pending → IsPreparedIn (history w q) t
      → have_voted (q ∷ heard h.votes t) (others_of h.number h.parts (items_at h.marks t)) ≡ true → IsSettled o w t
  settled_by_votes t q u d all =
      let a = is_prepared t state.Pending u (inl refl) in
      let s = sound.prepared t a in
      record {
        of = s.of;
        begun = s.begun;
        stamp = s.stamp;
        ready = λ i v e. subst (λ (z : ℕ). wrote (history w (place_of o.parts i)) z i ≡ Some v) s.stamp
            (written_here o w k s.of s.begun i v e
            (subst (λ (z : ℕ). IsPreparedIn (history w (place_of o.parts i)) z) (sym s.stamp)
            (there a s i (item_in s.of.writes i v e))));
      }
    where
      there : (a : IsPreparedIn h.marks t) (s : IsPrepareOf o w p t a.writes a.items) (i : ℕ)
          → In i (items_written s.of.writes) → IsPreparedIn (history w (place_of o.parts i)) t
      there a s i l = ⊎_elim
          (λ (e : place_of o.parts i ≡ p). subst (λ (z : ℕ). IsPreparedIn (history w z) t) (sym e) (now_prepared t a))
          (λ (ne : eqb (place_of o.parts i) p ≡ false).
          let is : items_at h.marks t ≡ items_written s.of.writes = ap mark_items a.found ∙ s.items in
          let other : In (place_of o.parts i) (others_of h.number h.parts (items_at h.marks t)) =
          subst (λ (z : ℕ). In (place_of o.parts i) (others_of h.number z (items_at h.marks t))) (sym placed.parts)
          (subst (λ (z : ℕ). In (place_of o.parts i) (others_of z o.parts (items_at h.marks t))) (sym placed.number)
          (subst (λ (z : List ℕ). In (place_of o.parts i) (others_of p o.parts z)) (sym is)
          (other_in o.parts p (items_written s.of.writes) i some l ne))) in
          ⊎_elim
          (λ (e : place_of o.parts i ≡ q). subst (λ (z : ℕ). IsPreparedIn (history w z) t) (sym e) d)
          (λ (n : IsNoted h.votes t (place_of o.parts i)).
          subst (λ (z : ℕ). IsPreparedIn (history w z) t) n.part
          (subst (λ (z : ℕ). IsPreparedIn (history w n.by.part) z) n.stamp (k.noted p h got n.by n.noted)))
          (given_is q t (place_of o.parts i) h.votes _ all other))
          (same_or_not (place_of o.parts i) p)

  new_is : (t q : ℕ) (n : NotedVote) → new_vote h.votes t q ≡ Some n → IsPreparedIn (history w q) t
      → IsPreparedIn (history w n.part) n.stamp
  new_is t q n e d = go (has_vote h.votes t q) e
    where
      go : (b : Bool) → (if b then None else Some (let one : NotedVote = record { stamp = t; part = q } in one)) ≡
          Some n → IsPreparedIn (history w n.part) n.stamp
      go true f = none_some f
      go false f = subst (λ (z : NotedVote). IsPreparedIn (history w z.part) z.stamp) (some_same f) d

  part_action : (t q : ℕ) → state_of h.marks t ≡ state.Pending → IsPreparedIn (history w q) t
      → IsAction o w p h.marks m (on_vote_of h q t)
  part_action t q u d = go (have_voted (q ∷ heard h.votes t) (others_of h.number h.parts (items_at h.marks t))) refl
    where
      go : (b : Bool) → have_voted (q ∷ heard h.votes t) (others_of h.number h.parts (items_at h.marks t)) ≡ b
          → IsAction o w p h.marks m
          (record {
            mark = mark_by (if b then decision.Commit else decision.Wait) t;
            vote = new_vote h.votes t q;
            reply = None;
          })
      go true e = record {
        marked = made_committed u (settled_by_votes t q u d e);
        noted = λ n f. new_is t q n f d;
        replied = λ v g f r l. none_some l;
        gives = λ P f r l. none_some l;
      }
      go false e = record {
        marked = no_mark;
        noted = λ n f. new_is t q n f d;
        replied = λ v g f r l. none_some l;
        gives = λ P f r l. none_some l;
      }

  prepared_action : (n : Node) (t : ℕ) → state_of h.marks t ≡ state.Pending → IsVote o w n t vote.Prepared
      → IsAction o w p h.marks m (on_prepared h n t)
  prepared_action (Part q) t u d = else_action o w p h.marks m (lies_at q h.parts (items_at h.marks t)) _ _
      (λ l. part_action t q u d) (silent_action o w p h.marks m)
  prepared_action (ToClient c) t u d = silent_action o w p h.marks m

  vote_action : (t : ℕ) (x : Vote) → state_of h.marks t ≡ state.Pending → IsVote o w m.from t x
      → IsAction o w p h.marks m (on_vote h m.from t x)
  vote_action t vote.Prepared u d = prepared_action m.from t u d
  vote_action t vote.Committed u d = mark_action o w p h.marks m (Committed t) (made_committed u d)
  vote_action t vote.Never u d = mark_action o w p h.marks m (Discarded t) (made_discarded u d)

  status_action : (t : ℕ) (x : Vote) → m.body ≡ body.Reply (reply.Status t x)
      → IsAction o w p h.marks m (on_status h m.from t x)
  status_action t x e = else_action o w p h.marks m (is_pending (state_of h.marks t)) _ _
      (λ l. vote_action t x (is_pending_tells (state_of h.marks t) l) (given (body.Reply (reply.Status t x)) e))
      (silent_action o w p h.marks m)

  -- the value that is read at a stamp
  read_value : (i s : ℕ) → place_of o.parts i ≡ p → (s ≡ 0) ⊎ (is_some (version h.marks i s) ≡ true)
      → IsValue o w i s (value_at h i s)
  read_value i s at l = ⊎_elim
      (λ (e : s ≡ 0). inl (e, rw (eq-eqb s 0 e) (ap (λ (f : Option Value). unwrap_or f Missing) (placed.values i at))))
      (λ (ne : eqb s 0 ≡ false). inr (
        eqb-false s 0 ne,
        ⊎_elim
            (λ (e : s ≡ 0). absurd (eqb-false s 0 ne e))
            (λ (v : is_some (version h.marks i s) ≡ true).
            let x = some_is (version h.marks i s) v in
            let is : value_at h i s ≡ x.0 = value_of ne x.0 x.1 in
            subst (λ (z : ℕ). wrote (history w z) s i ≡ Some (value_at h i s)) (sym at)
            (subst (λ (z : List Mark). wrote z s i ≡ Some (value_at h i s)) (sym here_is)
            (version_wrote h.marks i s x.0 x.1 ∙ ap Some (sym is))))
            l,
      ))
      (same_or_not s 0)
    where
      value_of : eqb s 0 ≡ false → (x : Value) → version h.marks i s ≡ Some x → value_at h i s ≡ x
      value_of ne x e = ap (λ (b : Bool). unwrap_or (if b then value_in h.items i else version h.marks i s) Missing)
          ne ∙ ap (λ (f : Option Value). unwrap_or f Missing) e

  get_action : (i : ℕ) (ts : List ℕ) → m.body ≡ body.Request (Get i ts) → IsAction o w p h.marks m (on_get h i ts)
  get_action i ts e = else_action o w p h.marks m (place_of h.parts i == h.number) _ _
      (λ b. go (sym (ap (λ (z : ℕ). place_of z i) placed.parts) ∙ eqb-true (place_of h.parts i) h.number b
      ∙ placed.number) (read_at h.marks i ts) refl)
      (clash_action o w p h.marks m)
    where
      go : place_of o.parts i ≡ p → (f : Option ℕ) → read_at h.marks i ts ≡ f → IsAction o w p h.marks m (get_by h i f)
      go at None q = says_action o w p h.marks m (reply.Gone i) (λ v g. tt) (λ P. tt)
      go at (Some s) q =
          let is : stamp_for h.marks i ts ≡ s = sym (read_high h.marks i ts s q).1 in
          record {
            marked = no_mark;
            noted = λ n l. none_some l;
            replied = λ v g n r l. subst (IsSay o v (Part p)) (some_same l)
                (value_grows o w v g i s (value_at h i s)
                (read_value i s at (subst (λ (z : ℕ). (z ≡ 0) ⊎ (is_some (version h.marks i z) ≡ true)) is
                (stamp_for_is h.marks i ts))));
            gives = λ P f r l. subst (SaysWith P) (some_same l) (subst (λ (z : ℕ). P i z) is (f i ts e at));
          }

  request_action : (r : Request) → m.body ≡ body.Request r → IsAction o w p h.marks m (on_request h r)
  request_action (Prepare t ws js) e = go h.checked refl
    where
      go : (b : Bool) → h.checked ≡ b
          → IsAction o w p h.marks m (if b then says reply.Clash else on_prepare h t ws js)
      go true on = clash_action o w p h.marks m
      go false free = else_action o w p h.marks m (is_proper h.number h.parts t ws js) _ _
          (λ l. prepare_action t ws js e free _ _ refl _ refl)
          (clash_action o w p h.marks m)
  request_action (PrepareOn t ws js bs) e = else_action o w p h.marks m h.checked _ _
      (λ on. else_action o w p h.marks m (is_proper_on h.number h.parts t ws js bs) _ _
      (λ l. prepare_on_action t ws js bs e l _ _ refl refl _ refl)
      (clash_action o w p h.marks m))
      (clash_action o w p h.marks m)
  request_action (Commit t) e = else_action o w p h.marks m (t == 0) _ _ (λ l. clash_action o w p h.marks m)
      (commit_action t e _ refl)
  request_action (Get i ts) e = get_action i ts e
  request_action (Check t) e = else_action o w p h.marks m (t == 0) _ _ (λ l. clash_action o w p h.marks m)
      (check_action t e _ refl _ refl)

  reply_action : (r : Reply) → m.body ≡ body.Reply r → IsAction o w p h.marks m (on_reply h m.from r)
  reply_action (reply.Status t x) e = status_action t x e
  reply_action (reply.Prepared t) e = silent_action o w p h.marks m
  reply_action (reply.Committed t) e = silent_action o w p h.marks m
  reply_action (reply.Discarded t) e = silent_action o w p h.marks m
  reply_action (reply.Version i t v) e = silent_action o w p h.marks m
  reply_action (reply.NotPrepared t) e = silent_action o w p h.marks m
  reply_action reply.Clash e = silent_action o w p h.marks m
  reply_action (reply.Full t) e = silent_action o w p h.marks m
  reply_action (reply.Gone i) e = silent_action o w p h.marks m

  body_action : (b : Body) → m.body ≡ b → IsAction o w p h.marks m (on_body h m.from b)
  body_action (body.Request r) e = request_action r e
  body_action (body.Reply r) e = reply_action r e

  pub action_is : IsAction o w p h.marks m (action_of h m)
  action_is = else_action o w p h.marks m (is_part m.to h.number) _ _ (λ l. body_action m.body refl)
      (silent_action o w p h.marks m)
