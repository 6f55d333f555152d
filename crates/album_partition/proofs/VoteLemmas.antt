-- The votes stay as they have to be, as one mark or one vote more is kept. PartitionLemmas needs `votes_with_mark`,
-- `votes_with_vote` and `left-push`; `Partition::on_vote_of` needs `heard_already`.
use Rattle.std.proofs.Common.{◌≡◌, ℕ, Bool, true, false, ◌==◌, ◌&&◌, ◌||◌, not, cond, All, List, [], ◌∷◌, ◌++◌, map, filter, Option, Some, None, refl, sym, ap, ◌∙◌, subst}
use Rattle.std.specs.List.{list_any, list_all, find}
use Rattle.std.specs.Option.{option_or}
use Rattle.std.proofs.lemmas.Bool.{not-true}
use Rattle.std.proofs.lemmas.Bool.Decides.{Decides-eqb}
use Rattle.std.proofs.lemmas.List.Elements.{All-filter}
use Rattle.std.proofs.lemmas.List.{append-nil}
use Rattle.std.proofs.lemmas.List.Folds.{find-append}
use Rattle.album_terminate.specs.Deciding.{have_voted}
use Rattle.album_terminate.specs.declared.deciding.StampState.TheVariants as state
use Rattle.album_partition.specs.declared.marks.Mark.{Mark}
use Rattle.album_partition.specs.declared.marks.Mark.TheVariants.{Prepared, Committed, Discarded, Trimmed}
use Rattle.album_partition.specs.Marks.{is_mark_of, prepares, decided, state_of, is_pending, may_follow, mark_items, items_at}
use Rattle.album_items.specs.Places.{lies_at, others_of}
use Rattle.album_partition.specs.Votes.{NotedVote, has_vote, heard, votes_left, same_vote, is_due, is_on_pending, AreVotes}
use Rattle.album_partition.proofs.ListLemmas.{same_or_not, turned, no_two-push, no_two-filter, list_all-push, list_all-weaker, list_all-two, list_all-filter, list_all-any, any_before}
use Rattle.album_partition.proofs.StateLemmas.{any_push, find_push_no, find_none, prepares_no, state_push_other, is_unknown_tells, same_stamp}

-- ---- one mark more

-- the items that are prepared at a stamp stay
pub items_stay : (marks : List Mark) (mark : Mark) (t : ℕ) → list_any (prepares t) marks ≡ true → items_at (marks ++ mark ∷ []) t ≡ items_at marks t
items_stay marks mark t e = ap mark_items (find-append (prepares t) marks (mark ∷ []) ∙ there (prepares t) marks e (find (prepares t) (mark ∷ [])))
  where
    there : (f : Mark → Bool) (ms : List Mark) → list_any f ms ≡ true → (later : Option Mark) → option_or (find f ms) later ≡ find f ms
    there f [] e later = absurd (cc)
    there f (m ∷ ms) e later = go (f m) e (there f ms)
      where
        go : (b : Bool) → b || list_any f ms ≡ true → (list_any f ms ≡ true → (later : Option Mark) → option_or (find f ms) later ≡ find f ms) → option_or (cond b (Some m) (find f ms)) later ≡ cond b (Some m) (find f ms)
        go true e h = refl
        go false e h = h e later

-- a vote that is due is on a stamp that is prepared
pub due_is_prepared : (parts : ℕ) (marks : List Mark) (vote : NotedVote) → is_due parts marks vote ≡ true → list_any (prepares vote.stamp) marks ≡ true
due_is_prepared parts marks vote e = go (list_any (prepares vote.stamp) marks) refl
  where
    go : (b : Bool) → list_any (prepares vote.stamp) marks ≡ b → list_any (prepares vote.stamp) marks ≡ true
    go true f = f
    go false f = absurd (let none : lies_at vote.part parts (items_at marks vote.stamp) ≡ false = rw (find_none (prepares vote.stamp) marks f) refl in cc)

due-push : (parts : ℕ) (marks : List Mark) (mark : Mark) (vote : NotedVote) → is_due parts marks vote ≡ true → is_due parts (marks ++ mark ∷ []) vote ≡ true
due-push parts marks mark vote e = rw (items_stay marks mark vote.stamp (due_is_prepared parts marks vote e)) e

-- where no vote is on the mark's stamp, they stay
votes_past : (number parts : ℕ) (marks : List Mark) (votes : List NotedVote) (mark : Mark)
    → list_all (λ vote. not (is_mark_of vote.stamp mark)) votes ≡ true → AreVotes number parts marks votes → AreVotes number parts (marks ++ mark ∷ []) votes
votes_past number parts marks votes mark apart h =
    record {
      once = h.once;
      due = list_all-weaker (is_due parts marks) (is_due parts (marks ++ mark ∷ [])) (due-push parts marks mark) votes h.due;
      pending = list_all-two (λ vote. not (is_mark_of vote.stamp mark)) (is_on_pending marks) (is_on_pending (marks ++ mark ∷ []))
          (λ vote other pending. ap is_pending (state_push_other marks mark vote.stamp (not-true (is_mark_of vote.stamp mark) other)) ∙ pending)
          votes apart h.pending;
      open_still = λ t pending voted. go t (other t voted) pending voted;
    }
  where
    other : (t : ℕ) → list_any (λ vote. vote.stamp == t) votes ≡ true → is_mark_of t mark ≡ false
    other t voted =
        let found = list_all-any (λ vote. not (is_mark_of vote.stamp mark)) (λ vote. vote.stamp == t) votes apart voted in
        subst (λ (u : ℕ). is_mark_of u mark ≡ false) ((Decides-eqb found.0.stamp t).0 found.2) (not-true (is_mark_of found.0.stamp mark) found.1)

    go : (t : ℕ) → is_mark_of t mark ≡ false → state_of (marks ++ mark ∷ []) t ≡ state.Pending
        → list_any (λ vote. vote.stamp == t) votes ≡ true
        → have_voted (heard votes t) (others_of number parts (items_at (marks ++ mark ∷ []) t)) ≡ false
    go t e pending voted =
        let items : items_at (marks ++ mark ∷ []) t ≡ items_at marks t = ap mark_items (find_push_no (prepares t) marks mark (prepares_no mark t e)) in
        rw items (h.open_still t (sym (state_push_other marks mark t e) ∙ pending) voted)

heard_left : (votes : List NotedVote) (t s : ℕ) → (s == t) ≡ false → heard (votes_left (Some t) votes) s ≡ heard votes s
heard_left [] t s apart = refl
heard_left (v ∷ votes) t s apart = go (v.stamp == t) refl (heard_left votes t s apart)
  where
    left : List NotedVote
    left = votes_left (Some t) votes

    both : (b : Bool) → heard left s ≡ heard votes s
        → map (λ u. u.part) (cond b (v ∷ filter (λ u. u.stamp == s) left) (filter (λ u. u.stamp == s) left))
        ≡ map (λ u. u.part) (cond b (v ∷ filter (λ u. u.stamp == s) votes) (filter (λ u. u.stamp == s) votes))
    both true h = ap (λ (ps : List ℕ). v.part ∷ ps) h
    both false h = h

    go : (b : Bool) → (v.stamp == t) ≡ b → heard left s ≡ heard votes s → heard (cond (not b) (v ∷ left) left) s ≡ heard (v ∷ votes) s
    go true e h =
        let other : (v.stamp == s) ≡ false = subst (λ (u : ℕ). (u == s) ≡ false) (sym ((Decides-eqb v.stamp t).0 e)) (turned s t apart) in
        rw other h
    go false e h = both (v.stamp == s) h

-- those that are left are votes too, and none is on the stamp
votes_without : (number parts : ℕ) (marks : List Mark) (votes : List NotedVote) (t : ℕ)
    → AreVotes number parts marks votes → AreVotes number parts marks (votes_left (Some t) votes)
votes_without number parts marks votes t h =
    record {
      once = no_two-filter same_vote (λ vote. not (vote.stamp == t)) votes h.once;
      due = list_all-filter (is_due parts marks) (is_due parts marks) (λ vote. not (vote.stamp == t)) (λ vote other e. e) votes h.due;
      pending = list_all-filter (is_on_pending marks) (is_on_pending marks) (λ vote. not (vote.stamp == t)) (λ vote other e. e) votes h.pending;
      open_still = λ s pending voted. rw (heard_left votes t s (other s voted)) (h.open_still s pending (any_before (λ vote. vote.stamp == s) (λ vote. not (vote.stamp == t)) votes voted));
    }
  where
    other : (s : ℕ) → list_any (λ vote. vote.stamp == s) (votes_left (Some t) votes) ≡ true → (s == t) ≡ false
    other s voted =
        let others = list_all-filter (is_due parts marks) (λ vote. not (vote.stamp == t)) (λ vote. not (vote.stamp == t)) (λ vote e due. e) votes h.due in
        let found = list_all-any (λ vote. not (vote.stamp == t)) (λ vote. vote.stamp == s) (votes_left (Some t) votes) others voted in
        subst (λ (u : ℕ). (u == t) ≡ false) ((Decides-eqb found.0.stamp s).0 found.2) (not-true (found.0.stamp == t) found.1)

none_on : (number parts : ℕ) (marks : List Mark) (votes : List NotedVote) (t : ℕ) → AreVotes number parts marks votes
    → list_all (λ vote. not (t == vote.stamp)) (votes_left (Some t) votes) ≡ true
none_on number parts marks votes t h =
    list_all-filter (is_due parts marks) (λ vote. not (t == vote.stamp)) (λ vote. not (vote.stamp == t))
    (λ vote e due. ap not (turned vote.stamp t (not-true (vote.stamp == t) e))) votes h.due

pub votes_with_mark : (number parts : ℕ) (marks : List Mark) (votes : List NotedVote) (mark : Mark)
    → may_follow marks mark ≡ true → AreVotes number parts marks votes → AreVotes number parts (marks ++ mark ∷ []) (votes_left (decided (Some mark)) votes)
votes_with_mark number parts marks votes (Prepared t ws is) may h =
    votes_past number parts marks votes (Prepared t ws is)
    (list_all-weaker (is_on_pending marks) (λ vote. not (t == vote.stamp)) known votes h.pending) h
  where
    known : (vote : NotedVote) → is_on_pending marks vote ≡ true → not (t == vote.stamp) ≡ true
    known vote pending = same_or_not t vote.stamp
        (λ (e : t ≡ vote.stamp). absurd (
        let unknown : state_of marks t ≡ state.Unknown = is_unknown_tells (state_of marks t) may in
        let there : is_pending (state_of marks t) ≡ true = subst (λ (u : ℕ). is_pending (state_of marks u) ≡ true) (sym e) pending in
        let wrong = rw unknown at there in
        cc))
        (λ (e : (t == vote.stamp) ≡ false). ap not e)
votes_with_mark number parts marks votes (Committed t) may h =
    votes_past number parts marks (votes_left (Some t) votes) (Committed t)
    (none_on number parts marks votes t h) (votes_without number parts marks votes t h)
votes_with_mark number parts marks votes (Discarded t) may h =
    votes_past number parts marks (votes_left (Some t) votes) (Discarded t)
    (none_on number parts marks votes t h) (votes_without number parts marks votes t h)
votes_with_mark number parts marks votes (Trimmed i) may h =
    votes_past number parts marks votes (Trimmed i)
    (list_all-weaker (is_on_pending marks) (λ vote. true) (λ vote pending. refl) votes h.pending) h

-- what holds of all votes holds of those that are left
pub All-votes_left : (P : NotedVote → Type 0) (stamp : Option ℕ) (votes : List NotedVote) → All P votes → All P (votes_left stamp votes)
All-votes_left P None votes h = h
All-votes_left P (Some t) votes h = All-filter (λ (vote : NotedVote). not (vote.stamp == t)) P votes h

-- ---- one vote more

heard-push : (votes : List NotedVote) (vote : NotedVote) (t : ℕ) → heard (votes ++ vote ∷ []) t ≡ heard votes t ++ map (λ v. v.part) (filter (λ v. v.stamp == t) (vote ∷ []))
heard-push [] vote t = refl
heard-push (v ∷ votes) vote t = go (v.stamp == t) (heard-push votes vote t)
  where
    go : (b : Bool) → heard (votes ++ vote ∷ []) t ≡ heard votes t ++ map (λ v. v.part) (filter (λ v. v.stamp == t) (vote ∷ []))
        → map (λ v. v.part) (cond b (v ∷ filter (λ v. v.stamp == t) (votes ++ vote ∷ [])) (filter (λ v. v.stamp == t) (votes ++ vote ∷ [])))
        ≡ map (λ v. v.part) (cond b (v ∷ filter (λ v. v.stamp == t) votes) (filter (λ v. v.stamp == t) votes)) ++ map (λ v. v.part) (filter (λ v. v.stamp == t) (vote ∷ []))
    go true h = ap (λ (ps : List ℕ). v.part ∷ ps) h
    go false h = h

-- the order of those that were heard does not matter
have_voted-push : (heard others : List ℕ) (part : ℕ) → have_voted (heard ++ part ∷ []) others ≡ have_voted (part ∷ heard) others
have_voted-push heard [] part = refl
have_voted-push heard (other ∷ others) part =
    rw (any_push (λ p. p == other) heard part ∙ turn (list_any (λ p. p == other) heard) (part == other), have_voted-push heard others part) refl
  where
    turn : (a b : Bool) → (a || b) ≡ (b || a)
    turn true true = refl
    turn true false = refl
    turn false true = refl
    turn false false = refl

pub votes_with_vote : (number parts : ℕ) (marks : List Mark) (votes : List NotedVote) (vote : NotedVote)
    → has_vote votes vote.stamp vote.part ≡ false
    → is_due parts marks vote ≡ true
    → state_of marks vote.stamp ≡ state.Pending
    → have_voted (vote.part ∷ heard votes vote.stamp) (others_of number parts (items_at marks vote.stamp)) ≡ false
    → AreVotes number parts marks votes → AreVotes number parts marks (votes ++ vote ∷ [])
votes_with_vote number parts marks votes vote new due on_pending waits h =
    record {
      once = no_two-push same_vote votes vote h.once new;
      due = list_all-push (is_due parts marks) votes vote h.due due;
      pending = list_all-push (is_on_pending marks) votes vote h.pending (ap is_pending on_pending);
      open_still = λ t pending voted. go t (vote.stamp == t) refl pending (sym (any_push (λ v. v.stamp == t) votes vote) ∙ voted);
    }
  where
    go : (t : ℕ) (b : Bool) → (vote.stamp == t) ≡ b → state_of marks t ≡ state.Pending
        → list_any (λ v. v.stamp == t) votes || (vote.stamp == t) ≡ true
        → have_voted (heard (votes ++ vote ∷ []) t) (others_of number parts (items_at marks t)) ≡ false
    go t true e pending voted =
        let same : vote.stamp ≡ t = (Decides-eqb vote.stamp t).0 e in
        let one : map (λ v. v.part) (filter (λ v. v.stamp == t) (vote ∷ [])) ≡ vote.part ∷ [] = rw e refl in
        ap (λ (ps : List ℕ). have_voted ps (others_of number parts (items_at marks t))) (heard-push votes vote t ∙ ap (λ (ps : List ℕ). heard votes t ++ ps) one)
        ∙ have_voted-push (heard votes t) (others_of number parts (items_at marks t)) vote.part
        ∙ subst (λ (u : ℕ). have_voted (vote.part ∷ heard votes u) (others_of number parts (items_at marks u)) ≡ false) same waits
    go t false e pending voted =
        let none : map (λ v. v.part) (filter (λ v. v.stamp == t) (vote ∷ [])) ≡ [] = rw e refl in
        ap (λ (ps : List ℕ). have_voted ps (others_of number parts (items_at marks t))) (heard-push votes vote t ∙ ap (λ (ps : List ℕ). heard votes t ++ ps) none ∙ append-nil (heard votes t))
        ∙ h.open_still t pending (other (list_any (λ v. v.stamp == t) votes) voted)
      where
        other : (a : Bool) → a || (vote.stamp == t) ≡ true → a ≡ true
        other true g = refl
        other false g = absurd (cc)

-- the last vote goes with those before it
pub left-push : (votes : List NotedVote) (t part : ℕ) → votes_left (Some t) (votes ++ record { stamp = t; part = part } ∷ []) ≡ votes_left (Some t) votes
left-push [] t part = rw (same_stamp t) refl
left-push (v ∷ votes) t part = go (not (v.stamp == t)) (left-push votes t part)
  where
    go : (b : Bool) → votes_left (Some t) (votes ++ record { stamp = t; part = part } ∷ []) ≡ votes_left (Some t) votes
        → cond b (v ∷ votes_left (Some t) (votes ++ record { stamp = t; part = part } ∷ [])) (votes_left (Some t) (votes ++ record { stamp = t; part = part } ∷ []))
        ≡ cond b (v ∷ votes_left (Some t) votes) (votes_left (Some t) votes)
    go true h = ap (λ (vs : List NotedVote). v ∷ vs) h
    go false h = h

-- ---- a vote that was heard already

-- the one that votes is among those that were heard, and so another one is not
pub heard_already : (number parts : ℕ) (marks : List Mark) (votes : List NotedVote) (t part : ℕ)
    → AreVotes number parts marks votes → state_of marks t ≡ state.Pending → has_vote votes t part ≡ true
    → have_voted (part ∷ heard votes t) (others_of number parts (items_at marks t)) ≡ false
heard_already number parts marks votes t part h pending e =
    once_more (heard votes t) (others_of number parts (items_at marks t)) (is_heard votes e) ∙ h.open_still t pending (is_voted votes e)
  where
    is_voted : (vs : List NotedVote) → has_vote vs t part ≡ true → list_any (λ vote. vote.stamp == t) vs ≡ true
    is_voted [] e = absurd (cc)
    is_voted (v ∷ vs) e = go (v.stamp == t) (v.part == part) e (is_voted vs)
      where
        go : (a b : Bool) → (a && b) || has_vote vs t part ≡ true → (has_vote vs t part ≡ true → list_any (λ vote. vote.stamp == t) vs ≡ true) → a || list_any (λ vote. vote.stamp == t) vs ≡ true
        go true b e h = refl
        go false b e h = h e

    is_heard : (vs : List NotedVote) → has_vote vs t part ≡ true → list_any (λ p. p == part) (heard vs t) ≡ true
    is_heard [] e = absurd (cc)
    is_heard (v ∷ vs) e = go (v.stamp == t) (v.part == part) refl e (is_heard vs)
      where
        go : (a b : Bool) → (v.part == part) ≡ b → (a && b) || has_vote vs t part ≡ true → (has_vote vs t part ≡ true → list_any (λ p. p == part) (heard vs t) ≡ true)
            → list_any (λ p. p == part) (map (λ v. v.part) (cond a (v ∷ filter (λ v. v.stamp == t) vs) (filter (λ v. v.stamp == t) vs))) ≡ true
        go true true f e h = rw f refl
        go true false f e h = rw f (h e)
        go false b f e h = h e

    once_more : (ps others : List ℕ) → list_any (λ p. p == part) ps ≡ true → have_voted (part ∷ ps) others ≡ have_voted ps others
    once_more ps [] e = refl
    once_more ps (other ∷ others) e = rw (is (part == other) refl, once_more ps others e) refl
      where
        is : (b : Bool) → (part == other) ≡ b → ((part == other) || list_any (λ p. p == other) ps) ≡ list_any (λ p. p == other) ps
        is true f = rw f (sym (subst (λ (u : ℕ). list_any (λ p. p == u) ps ≡ true) ((Decides-eqb part other).0 f) e))
        is false f = rw f refl
