-- That the owner's cut has what backs each mark that a partition makes. `PartitionKeeper` cites the lemmas that are
-- `pub`; the main one is `mark_backed`.
use Rattle.std.proofs.Common.{◌≡◌, ⊎_elim, ℕ, zero, suc, ◌<◌, ◌≤◌, Bool, true, false, ◌==◌, List, [], ◌∷◌, ◌++◌, map, filter, length, get_or, if◌then◌else◌, All, Contains, Option, Some, None, option_to_list, refl, sym, ap, ◌∙◌, subst, arith, append-nil, length-append}
use Rattle.std.specs.List.{list_any}
use Rattle.std.proofs.lemmas.Bool.Decides.{Decides-eqb}
use Rattle.std.proofs.lemmas.List.Elements.{All-nil, All-cons, All-head, All-tail, All-append, All-contains, All-weaker}
use Rattle.std.proofs.lemmas.List.Folds.{Any-from_list_any}
use Rattle.album_items.specs.ItemIds.{place_of}
use Rattle.album_items.specs.Places.{is_placed, lies_at, others_of, rows_placed_at}
use Rattle.atomic_table.specs.Seated.{TableId}
use Rattle.album_calls.specs.Nodes.{is_part}
use Rattle.album_calls.specs.declared.messages.Body.{Body}
use Rattle.album_calls.specs.declared.messages.Body.TheVariants as body
use Rattle.album_calls.specs.declared.messages.Message.{Message}
use Rattle.album_calls.specs.declared.nodes.Node.{Node}
use Rattle.album_calls.specs.declared.nodes.Node.TheVariants.{Part, Client}
use Rattle.album_calls.specs.declared.nodes.Vote.{Vote}
use Rattle.album_calls.specs.declared.nodes.Vote.TheVariants as vote
use Rattle.album_calls.specs.declared.requests.Request.TheVariants.{Prepare, PrepareOn, Commit, Check}
use Rattle.album_calls.specs.declared.replies.Reply.TheVariants as reply
use Rattle.album_partition.specs.Answers.{Action, nothing, on_body, action_of, after}
use Rattle.album_partition.specs.Bases.{are_bases, extends, MayAppend}
use Rattle.album_partition.specs.Laws.{IsCause, IsBased, IsOutdated}
use Rattle.album_partition.specs.Proper.{is_proper, is_proper_on}
use Rattle.album_partition.proofs.BaseLemmas.{outdated_here, asked_extends}
use Rattle.album_partition.specs.Marks.{prepares, decided, items_at, is_legal, load}
use Rattle.album_partition.specs.Partition.{PartitionState}
use Rattle.album_partition.specs.Votes.{NotedVote, has_vote, new_vote, heard}
use Rattle.album_partition.specs.declared.marks.Mark.{Mark}
use Rattle.album_partition.specs.declared.marks.Mark.TheVariants.{Prepared, Committed, Discarded, Trimmed}
use Rattle.album_partition.proofs.AnswerLemmas.{Acts, idle, said, prepared, committed, refused, outdated, voted_committed, voted_never, voted_prepared, acts_here}
use Rattle.album_partition.proofs.LegalLemmas.{follows}
use Rattle.album_partition.proofs.LawLemmas.{marks_are_caused}
use Rattle.album_partition.proofs.StateLemmas.{unknown_tells, pending_tells}
use Rattle.album_partition.proofs.VoteLemmas.{All-votes_left}
use Rattle.album_passes.specs.Cuts.{Cut, prefix_at, IsBacked, IsSound, Extends}
use Rattle.album_passes.specs.Changes.{marked_cut}
use Rattle.album_passes.proofs.ClosedLemmas.{items_of_named, committed_tells, discarded_tells, discarded_backs, votes_back}
use Rattle.album_passes.proofs.CutLemmas.{backed_marked}
use Rattle.album_passes.proofs.PreparedLemmas.{plain_backs, checked_backs}
use Rattle.album_passes.proofs.PrefixLemmas.{any_more}
use Rattle.album_passes.specs.Owner.{OwnerState}
use Rattle.album_keepers.specs.Keepers.{AreShown, IsNext, KeeperState, IsKeeper}
use Rattle.album_keepers.specs.Envelopes.{ShowsVote, ShowsCheck, ShowsBody, Shows, IsShown}

-- ---- what a message's cut shows, by what the message is

shown_as : (c : Cut) (m : Message) (b : Body) → m.body ≡ b → Shows c m → ShowsBody c m.from m.to b
shown_as c m b e h = subst (λ (x : Body). ShowsBody c m.from m.to x) e h

-- who votes is a partition
voter : (c : Cut) (n : Node) (t : ℕ) (v : Vote) → ShowsVote c n t v → (q : ℕ) × (n ≡ Part q) × ShowsVote c (Part q) t v
voter c (Part q) t v h = (q, refl, h)
voter c (Client k) t v h = absurd h

-- ---- the votes that were heard

-- what holds of each vote that is noted, holds of each partition that was heard
all_heard : (P : ℕ → ℕ → Type 0) (votes : List NotedVote) (t : ℕ) → All (λ (v : NotedVote). P v.stamp v.part) votes
    → All (P t) (heard votes t)
all_heard P [] t h = All-nil (P t)
all_heard P (v ∷ votes) t h = go (v.stamp == t) refl (all_heard P votes t (All-tail (λ (x : NotedVote). P x.stamp x.part) v votes h))
  where
    go : (b : Bool) → (v.stamp == t) ≡ b → All (P t) (heard votes t)
        → All (P t) (map (λ (x : NotedVote). x.part) (if b then v ∷ filter (λ (x : NotedVote). x.stamp == t) votes else filter (λ (x : NotedVote). x.stamp == t) votes))
    go true e rest =
        let here : P t v.part = subst (λ (s : ℕ). P s v.part) ((Decides-eqb v.stamp t).0 e) (All-head (λ (x : NotedVote). P x.stamp x.part) v votes h) in
        All-cons (P t) v.part (heard votes t) here rest
    go false e rest = rest

-- ---- what each mark is backed by

-- some item of a list that lies at a partition
item_there : (p parts : ℕ) (is : List ℕ) → lies_at p parts is ≡ true → (i : ℕ) × Contains is i × (place_of parts i ≡ p)
item_there p parts is e =
    let x = Any-from_list_any (is_placed p parts) is e in
    (x.1, (x.0, x.2, x.3), (Decides-eqb (place_of parts x.1) p).0 x.4)

-- a message that makes a mark is sent to the partition
is_here : (p : PartitionState) (m : Message) (mark : Mark) → (action_of p m).mark ≡ Some mark → is_part m.to p.number ≡ true
is_here p m mark e = go (is_part m.to p.number) e
  where
    go : (b : Bool) → (if b then on_body p m.from m.body else nothing).mark ≡ Some mark → b ≡ true
    go true f = refl
    go false f = absurd (cc (f))

-- what a Check's cut shows of the partition to which it is sent
check_here : (c : Cut) (n : Node) (p t : ℕ) → is_part n p ≡ true → ShowsCheck c n t → ShowsCheck c (Part p) t
check_here c (Part q) p t e h = subst (λ (x : ℕ). ShowsCheck c (Part x) t) ((Decides-eqb q p).0 e) h
check_here c (Client k) p t e h = absurd (cc (e))

cause_backs : (limit : ℕ) (c : Cut) (p : PartitionState) (m : Message) → IsSound c → p.number < c.parts → IsShown limit c p
    → p.checked ≡ c.checked → AreShown c p.votes → Shows c m → (mark : Mark) → is_part m.to p.number ≡ true → IsCause p m mark
    → IsBacked (marked_cut c p.number mark) mark
cause_backs limit c p m s inside shown same votes h (Prepared t ws is) here a = ⊎_elim
    (λ plain. plain_backs c p.number t ws is (sym same ∙ plain.1) (shown_as c m (body.Request (Prepare t ws is)) plain.0 h))
    (λ (on : IsBased p m.body t ws is).
    let wide = s.wide in
    checked_backs c p.number t ws is on.bases (omega arith)
    (subst (λ (n : ℕ). is_proper p.number n t ws is ≡ true) shown.parts a.proper)
    (shown_as c m (body.Request (PrepareOn t ws is on.bases)) on.asked h)
    (subst (λ (ms : List Mark). are_bases ms t ws on.bases ≡ true) shown.marks on.based))
    a.asked
cause_backs limit c p m s inside shown same votes h (Committed t) here why =
    backed_marked c p.number (Committed t) (⊎_elim
    (λ asked. shown_as c m (body.Request (Commit t)) asked h)
    (λ voted. ⊎_elim
    (λ told. let v = voter c m.from t vote.Committed (shown_as c m (body.Reply (reply.Status t vote.Committed)) told h) in
    committed_tells c v.0 t s.closed v.2)
    (λ last.
    let told = shown_as c m (body.Reply (reply.Status t vote.Prepared)) last.voted h in
    let theirs : list_any (prepares t) (prefix_at c last.part) ≡ true = subst (λ (n : Node). ShowsVote c n t vote.Prepared) last.sender told in
    let own : list_any (prepares t) (prefix_at c p.number) ≡ true = ap (list_any (prepares t)) (sym shown.marks) ∙ (pending_tells _ _ _ why.0).2 in
    let heard_all = All-cons (λ (q : ℕ). list_any (prepares t) (prefix_at c q) ≡ true) last.part (heard p.votes t) theirs
    (all_heard (λ (u q : ℕ). list_any (prepares u) (prefix_at c q) ≡ true) p.votes t votes) in
    let others : All (λ (q : ℕ). list_any (prepares t) (prefix_at c q) ≡ true) (others_of p.number p.parts (items_at p.marks t)) =
    All-weaker (Contains (last.part ∷ heard p.votes t)) (λ (q : ℕ). list_any (prepares t) (prefix_at c q) ≡ true)
    (λ q k. All-contains (λ (q : ℕ). list_any (prepares t) (prefix_at c q) ≡ true) (last.part ∷ heard p.votes t) q heard_all k)
    (others_of p.number p.parts (items_at p.marks t)) last.others in
    votes_back c p.number t s inside own
    (subst (λ (y : ℕ × List Mark). All (λ (q : ℕ). list_any (prepares t) (prefix_at c q) ≡ true) (others_of p.number y.0 (items_at y.1 t)))
    (λ i. (shown.parts i, shown.marks i)) others))
    voted)
    why.1)
cause_backs limit c p m s inside shown same votes h (Discarded t) here why = ⊎_elim
    (λ checked.
    let k = check_here c m.to p.number t here (shown_as c m (body.Request (Check t)) checked.asked h) in
    let i = item_there p.number c.parts k.items k.placed in
    let none : list_any (prepares t) (prefix_at c p.number) ≡ false = ap (list_any (prepares t)) (sym shown.marks) ∙ (unknown_tells _ _ _ checked.unknown).2 in
    let wide = s.wide in
    discarded_backs c p.number t k.items i.0 (omega arith) k.announced i.1 i.2 none)
    (λ rest. ⊎_elim
    (λ (old : IsOutdated p m t).
    let i = outdated_here p.marks p.number c.parts t old.writes old.items old.bases old.outdated
    (subst (λ (n : ℕ). is_proper_on p.number n t old.writes old.items old.bases ≡ true) shown.parts old.proper) in
    let none : list_any (prepares t) (prefix_at c p.number) ≡ false = ap (list_any (prepares t)) (sym shown.marks) ∙ (unknown_tells _ _ _ old.unknown).2 in
    let wide = s.wide in
    discarded_backs c p.number t old.items i.0 (omega arith)
    (items_of_named c t old.writes old.items (shown_as c m (body.Request (PrepareOn t old.writes old.items old.bases)) old.asked h).named)
    i.1 i.2 none)
    (λ voted.
    let v = voter c m.from t vote.Never (shown_as c m (body.Reply (reply.Status t vote.Never)) voted.1 h) in
    backed_marked c p.number (Discarded t) (discarded_tells c v.0 t s.closed v.2))
    rest)
    why
cause_backs limit c p m s inside shown same votes h (Trimmed i) here a = absurd a

-- each mark that a message makes is backed, where the message's cut shows what it has to
pub mark_backed : (limit : ℕ) (c : Cut) (p : PartitionState) (m : Message) → IsSound c → p.number < c.parts → IsShown limit c p
    → p.checked ≡ c.checked → AreShown c p.votes → Shows c m → (mark : Mark) → (action_of p m).mark ≡ Some mark
    → IsBacked (marked_cut c p.number mark) mark
mark_backed limit c p m s inside shown same votes h mark e =
    cause_backs limit c p m s inside shown same votes h mark (is_here p m mark e) (marks_are_caused p m mark e)

-- ---- the votes that are noted

none_some : {A : Type 0} {x : A} {R : Type 0} → None ≡ Some x → R
none_some e = absurd (cc (e))

-- a vote that is noted is the message's
noted_from : (p : PartitionState) (from : Node) (b : Body) (e : Action) → Acts p from b e → (v : NotedVote) → e.vote ≡ Some v
    → (from ≡ Part v.part) × (b ≡ body.Reply (reply.Status v.stamp vote.Prepared))
noted_from p from b e (idle is) v f = none_some (ap (λ (x : Action). x.vote) (sym is) ∙ f)
noted_from p from b e (said r is h) v f = none_some (ap (λ (x : Action). x.vote) (sym is) ∙ f)
noted_from p from b e (prepared a) v f = none_some (ap (λ (x : Action). x.vote) (sym a.done) ∙ f)
noted_from p from b e (committed a) v f = none_some (ap (λ (x : Action). x.vote) (sym a.done) ∙ f)
noted_from p from b e (refused a) v f = none_some (ap (λ (x : Action). x.vote) (sym a.done) ∙ f)
noted_from p from b e (outdated a) v f = none_some (ap (λ (x : Action). x.vote) (sym a.done) ∙ f)
noted_from p from b e (voted_committed a) v f = none_some (ap (λ (x : Action). x.vote) (sym a.done) ∙ f)
noted_from p from b e (voted_never a) v f = none_some (ap (λ (x : Action). x.vote) (sym a.done) ∙ f)
noted_from p from b e (voted_prepared a) v f =
    let g : new_vote p.votes a.t a.part ≡ Some v = ap (λ (x : Action). x.vote) (sym a.done) ∙ f in
    let same = go (has_vote p.votes a.t a.part) g in
    (a.sender ∙ ap (λ (x : NotedVote). Part x.part) same, a.voted ∙ ap (λ (x : NotedVote). body.Reply (reply.Status x.stamp vote.Prepared)) same)
  where
    go : (b : Bool) → (if b then None else Some (record { stamp = a.t; part = a.part })) ≡ Some v → record { stamp = a.t; part = a.part } ≡ v
    go true g = none_some g
    go false g = cc (g)

vote_shown : (c : Cut) (p : PartitionState) (m : Message) → Shows c m → (o : Option NotedVote) → (action_of p m).vote ≡ o
    → AreShown c (option_to_list o)
vote_shown c p m h None e = All-nil _
vote_shown c p m h (Some v) e =
    let n = noted_from p m.from m.body (action_of p m) (acts_here p m) v e in
    let told = shown_as c m (body.Reply (reply.Status v.stamp vote.Prepared)) n.1 h in
    All-cons (λ (x : NotedVote). list_any (prepares x.stamp) (prefix_at c x.part) ≡ true) v []
    (subst (λ (k : Node). ShowsVote c k v.stamp vote.Prepared) n.0 told) (All-nil _)

-- what the votes report stays shown as the cut grows
pub shown_more : (c d : Cut) → Extends c d → (votes : List NotedVote) → AreShown c votes → AreShown d votes
shown_more c d x votes h =
    All-weaker (λ (v : NotedVote). list_any (prepares v.stamp) (prefix_at c v.part) ≡ true) (λ (v : NotedVote). list_any (prepares v.stamp) (prefix_at d v.part) ≡ true)
    (λ v e. any_more (prepares v.stamp) (prefix_at c v.part) (prefix_at d v.part) (x.prefixes v.part) e) votes h

-- after a message, what is left of the votes that were noted and of the message's own is shown
pub votes_shown : (c : Cut) (p : PartitionState) (m : Message) → Shows c m → AreShown c p.votes → AreShown c (after p m).votes
votes_shown c p m h votes =
    All-votes_left (λ (v : NotedVote). list_any (prepares v.stamp) (prefix_at c v.part) ≡ true) (decided (action_of p m).mark)
    (p.votes ++ option_to_list (action_of p m).vote)
    (All-append (λ (v : NotedVote). list_any (prepares v.stamp) (prefix_at c v.part) ≡ true) p.votes (option_to_list (action_of p m).vote)
    votes (vote_shown c p m h (action_of p m).vote refl))

-- ---- one mark more

push_at : (ms : List Mark) (k : ℕ) (x d : Mark) → k ≡ length ms → get_or (ms ++ x ∷ []) k d ≡ x
push_at [] k x d e = ap (λ (n : ℕ). get_or (x ∷ []) n d) e
push_at (m ∷ ms) zero x d e = absurd (omega arith)
push_at (m ∷ ms) (suc k) x d e = push_at ms k x d (omega arith)

-- where there are no more marks than in the prefix, it is they
pub next_none : (c : Cut) (p : ℕ) (ms : List Mark) → IsNext c p ms → length ms ≤ length (prefix_at c p) → ms ≡ prefix_at c p
next_none c p ms n few = go n.mark refl
  where
    go : (o : Option Mark) → n.mark ≡ o → ms ≡ prefix_at c p
    go None e = n.added ∙ ap (λ (x : Option Mark). prefix_at c p ++ option_to_list x) e ∙ append-nil (prefix_at c p)
    go (Some x) e =
        let is : ms ≡ prefix_at c p ++ x ∷ [] = n.added ∙ ap (λ (y : Option Mark). prefix_at c p ++ option_to_list y) e in
        absurd (let long = ap length is ∙ length-append (prefix_at c p) (x ∷ []) in omega arith)

-- where there are more, it is the one mark
pub record IsMade (c : Cut) (p : ℕ) (ms : List Mark) (m : Mark) : Type 0 where
  pub added : ms ≡ prefix_at c p ++ m ∷ []
  pub backed : IsBacked (marked_cut c p m) m
  pub chained : c.checked ≡ true → extends (prefix_at c p) m ≡ true

pub next_some : (c : Cut) (p : ℕ) (ms : List Mark) (k : ℕ) (m : Mark) → IsNext c p ms → k ≡ length (prefix_at c p) → k < length ms
    → m ≡ get_or ms k m → IsMade c p ms m
next_some c p ms k m n at more is = go n.mark refl
  where
    go : (o : Option Mark) → n.mark ≡ o → IsMade c p ms m
    go None e =
        let same : ms ≡ prefix_at c p = n.added ∙ ap (λ (x : Option Mark). prefix_at c p ++ option_to_list x) e ∙ append-nil (prefix_at c p) in
        absurd (let long = ap length same in omega arith)
    go (Some x) e =
        let added : ms ≡ prefix_at c p ++ x ∷ [] = n.added ∙ ap (λ (y : Option Mark). prefix_at c p ++ option_to_list y) e in
        let one : m ≡ x = is ∙ ap (λ (ns : List Mark). get_or ns k m) added ∙ push_at (prefix_at c p) k x m at in
        record {
          added = added ∙ ap (λ (y : Mark). prefix_at c p ++ y ∷ []) (sym one);
          backed = subst (λ (y : Mark). IsBacked (marked_cut c p y) y) (sym one) (n.backed x e);
          chained = λ on. subst (λ (y : Mark). extends (prefix_at c p) y ≡ true) (sym one) (n.chained x e on);
        }

-- it may follow the others, and there is room for it
pub made_follows : (c : Cut) (p : ℕ) (ms : List Mark) (m : Mark) → IsMade c p ms m → is_legal ms ≡ true → MayAppend c.checked (prefix_at c p) m
made_follows c p ms m made legal =
    record { follows = follows (prefix_at c p) [] m (ap is_legal (sym made.added) ∙ legal); chains = made.chained }

pub made_fits : (c : Cut) (p : ℕ) (ms : List Mark) (m : Mark) (limit : ℕ) → IsMade c p ms m → load ms ≤ limit → length (prefix_at c p) < limit
made_fits c p ms m limit made room =
    let long = ap length made.added ∙ length-append (prefix_at c p) (m ∷ []) in omega arith

-- ---- what is true of a keeper

-- what the cut shows of a partition, once this has other marks
shown_on : (limit : ℕ) (c d : Cut) (p q : PartitionState) → IsShown limit c p → Extends c d → q.number ≡ p.number → q.parts ≡ p.parts
    → q.limit ≡ p.limit → q.items ≡ p.items → q.marks ≡ prefix_at d q.number → IsShown limit d q
shown_on limit c d p q s x number parts room items marks = record {
  parts = parts ∙ s.parts ∙ sym x.parts;
  room = room ∙ s.room;
  items = items ∙ s.items ∙ (λ i. rows_placed_at (sym number i) (sym x.parts i) (sym x.opening i));
  marks = marks;
}

pub keeper_on : (table : TableId) (limit : ℕ) (k : KeeperState) (q : PartitionState) (o : OwnerState) → IsKeeper table limit k
    → o.table ≡ k.owner.table → o.part ≡ k.owner.part → Extends k.owner.cut o.cut → q.number ≡ k.partition.number
    → q.parts ≡ k.partition.parts → q.limit ≡ k.partition.limit → q.items ≡ k.partition.items → q.checked ≡ k.partition.checked → q.marks ≡ prefix_at o.cut q.number
    → AreShown o.cut q.votes → IsKeeper table limit (record { partition = q; owner = o })
keeper_on table limit k q o is same part x number parts room items checked marks votes = record {
  of = same ∙ is.of;
  own = part ∙ is.own ∙ sym number;
  shown = shown_on limit k.owner.cut o.cut k.partition q is.shown x number parts room items marks;
  voted = votes;
  checked = checked ∙ is.checked ∙ sym x.checked;
}

-- ---- a message

-- the mark that a message makes at a checked partition extends its marks
message_extends : (p : PartitionState) (m : Message) → p.checked ≡ true → (made : Mark) → (action_of p m).mark ≡ Some made → extends p.marks made ≡ true
message_extends p m checked made e = go made (marks_are_caused p m made e)
  where
    go : (x : Mark) → IsCause p m x → extends p.marks x ≡ true
    go (Prepared t ws is) a = asked_extends p m.body t ws is a.asked checked
    go (Committed t) a = refl
    go (Discarded t) a = refl
    go (Trimmed i) a = refl

-- the mark that a message makes is the next one
pub message_next : (table : TableId) (limit : ℕ) (k : KeeperState) (m : Message) (q : PartitionState) → IsKeeper table limit k
    → IsSound k.owner.cut → k.owner.part < k.owner.cut.parts → Shows k.owner.cut m → q ≡ after k.partition m
    → IsNext k.owner.cut k.owner.part q.marks
message_next table limit k m q is sound inside shows done =
    let own : k.partition.number ≡ k.owner.part = sym is.own in
    record {
      mark = (action_of k.partition m).mark;
      added = ap (λ (x : PartitionState). x.marks) done
          ∙ ap (λ (ms : List Mark). ms ++ option_to_list (action_of k.partition m).mark) (is.shown.marks ∙ ap (prefix_at k.owner.cut) own);
      backed = λ made e. subst (λ (n : ℕ). IsBacked (marked_cut k.owner.cut n made) made) own
          (mark_backed limit k.owner.cut k.partition m sound (subst (λ (n : ℕ). n < k.owner.cut.parts) is.own inside) is.shown is.checked is.voted shows made e);
      chained = λ made e on. subst (λ (ms : List Mark). extends ms made ≡ true) (is.shown.marks ∙ ap (prefix_at k.owner.cut) own)
          (message_extends k.partition m (is.checked ∙ on) made e);
    }

-- and once the owner has it too, the keeper is one
pub keeper_after : (table : TableId) (limit : ℕ) (k : KeeperState) (m : Message) (q : PartitionState) (o : OwnerState) → IsKeeper table limit k
    → Shows k.owner.cut m → q ≡ after k.partition m → o.table ≡ k.owner.table → o.part ≡ k.owner.part → Extends k.owner.cut o.cut
    → q.marks ≡ prefix_at o.cut k.owner.part → IsKeeper table limit (record { partition = q; owner = o })
keeper_after table limit k m q o is shows done same part x marks =
    keeper_on table limit k q o is same part x
    (ap (λ (y : PartitionState). y.number) done) (ap (λ (y : PartitionState). y.parts) done)
    (ap (λ (y : PartitionState). y.limit) done) (ap (λ (y : PartitionState). y.items) done) (ap (λ (y : PartitionState). y.checked) done)
    (marks ∙ ap (prefix_at o.cut) (is.own ∙ sym (ap (λ (y : PartitionState). y.number) done)))
    (subst (λ (y : PartitionState). AreShown o.cut y.votes) (sym done) (shown_more k.owner.cut o.cut x (after k.partition m).votes (votes_shown k.owner.cut k.partition m shows is.voted)))
