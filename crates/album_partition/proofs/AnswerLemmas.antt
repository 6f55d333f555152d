-- What a message can do, read off the table of answers once: `acts` is what the laws and PartitionLemmas cite.
use Rattle.std.proofs.Common.{◌≡◌, ◌⊎◌, ℕ, Bool, true, false, ◌==◌, List, Option, Some, None, length, refl, inl, inr, if◌then◌else◌}
use Rattle.std.proofs.lemmas.Bool.{and_parts}
use Rattle.std.proofs.lemmas.Bool.Decides.{Decides-eqb}
use Rattle.album_items.specs.ItemIds.{place_of}
use Rattle.album_items.specs.Openings.{Row}
use Rattle.album_calls.specs.Nodes.{is_part}
use Rattle.album_calls.specs.declared.messages.Body.{Body}
use Rattle.album_calls.specs.declared.messages.Body.TheVariants as body
use Rattle.album_calls.specs.declared.messages.Message.{Message}
use Rattle.album_calls.specs.declared.nodes.Node.{Node}
use Rattle.album_calls.specs.declared.nodes.Node.TheVariants.{Part, Client}
use Rattle.album_calls.specs.declared.nodes.Vote.{Vote}
use Rattle.album_calls.specs.declared.nodes.Vote.TheVariants as vote
use Rattle.album_calls.specs.declared.requests.Request.TheVariants.{Prepare, PrepareOn, Commit, Get, Check}
use Rattle.album_calls.specs.declared.replies.Reply.{Reply}
use Rattle.album_calls.specs.declared.replies.Reply.TheVariants as reply
use Rattle.album_terminate.specs.declared.deciding.StampState.{StampState}
use Rattle.album_terminate.specs.declared.deciding.StampState.TheVariants as state
use Rattle.album_partition.specs.declared.marks.Mark.TheVariants.{Prepared, Committed, Discarded}
use Rattle.album_partition.specs.Answers.{Action, nothing, says, marks, marks_and_says, is_same, prepare_by, prepare_on_by, on_prepare, on_prepare_on, on_request, commit_by, on_commit, check_by, on_check, get_by, on_get, on_vote_of, on_prepared, on_vote, on_status, on_body, action_of}
use Rattle.album_partition.specs.Laws.{IsClash, AsksFor}
use Rattle.album_partition.specs.Bases.{are_bases}
use Rattle.album_partition.specs.Marks.{state_of, is_pending, is_full, items_at}
use Rattle.album_partition.specs.Partition.{PartitionState, value_at, stamp_for, read_at}
use Rattle.album_items.specs.Places.{is_placed, lies_at}
use Rattle.album_partition.specs.Proper.{is_proper, is_proper_on}
use Rattle.album_partition.proofs.StateLemmas.{is_pending_tells}
use Rattle.album_partition.proofs.TrimLemmas.{read_high}

-- ---- what is so where a reply is all

abbrev pub IsSaid : PartitionState → Body → Reply → Type 0
IsSaid p b (reply.Prepared t) = (state_of p.marks t ≡ state.Pending) ⊎ (state_of p.marks t ≡ state.Committed)
IsSaid p b (reply.Committed t) = state_of p.marks t ≡ state.Committed
IsSaid p b (reply.Discarded t) = state_of p.marks t ≡ state.Discarded
IsSaid p b (reply.Status t vote.Prepared) = state_of p.marks t ≡ state.Pending
IsSaid p b (reply.Status t vote.Committed) = state_of p.marks t ≡ state.Committed
IsSaid p b (reply.Status t vote.Never) = state_of p.marks t ≡ state.Discarded
IsSaid p b (reply.NotPrepared t) = state_of p.marks t ≡ state.Unknown
IsSaid p b (reply.Full t) = (is_full p.limit p.marks ≡ true) × (state_of p.marks t ≡ state.Unknown)
IsSaid p b (reply.Version item t value) =
    (stamps : List ℕ) × (b ≡ body.Request (Get item stamps)) × (t ≡ stamp_for p.marks item stamps) × (value ≡ value_at p item t)
IsSaid p b reply.Clash = IsClash p b
IsSaid p b (reply.Gone item) = (stamps : List ℕ) × (b ≡ body.Request (Get item stamps)) × (read_at p.marks item stamps ≡ None)

-- ---- each way in which a message can act

-- a Prepare that is followed
pub record IsPrepared (p : PartitionState) (b : Body) (e : Action) : Type 0 where
  pub t : ℕ
  pub ws : List Row
  pub is : List ℕ
  pub asked : AsksFor p b t ws is
  pub done : e ≡ marks_and_says (Prepared t ws is) (reply.Prepared t)
  pub proper : is_proper p.number p.parts t ws is ≡ true
  pub room : is_full p.limit p.marks ≡ false
  pub unknown : state_of p.marks t ≡ state.Unknown

-- a Commit of a pending stamp
pub record IsCommitted (p : PartitionState) (b : Body) (e : Action) : Type 0 where
  pub t : ℕ
  pub asked : b ≡ body.Request (Commit t)
  pub done : e ≡ marks_and_says (Committed t) (reply.Committed t)
  pub some : (t == 0) ≡ false
  pub pending : state_of p.marks t ≡ state.Pending

-- a Check of an unknown stamp
pub record IsRefused (p : PartitionState) (b : Body) (e : Action) : Type 0 where
  pub t : ℕ
  pub asked : b ≡ body.Request (Check t)
  pub done : e ≡ marks_and_says (Discarded t) (reply.Status t vote.Never)
  pub some : (t == 0) ≡ false
  pub room : is_full p.limit p.marks ≡ false
  pub unknown : state_of p.marks t ≡ state.Unknown

-- a checked Prepare of an unknown stamp, which is made on another version than the latest
pub record IsRefusedOn (p : PartitionState) (b : Body) (e : Action) : Type 0 where
  pub t : ℕ
  pub ws : List Row
  pub is : List ℕ
  pub bs : List ℕ
  pub checked : p.checked ≡ true
  pub asked : b ≡ body.Request (PrepareOn t ws is bs)
  pub done : e ≡ marks_and_says (Discarded t) (reply.Discarded t)
  pub outdated : are_bases p.marks t ws bs ≡ false
  pub proper : is_proper_on p.number p.parts t ws is bs ≡ true
  pub room : is_full p.limit p.marks ≡ false
  pub unknown : state_of p.marks t ≡ state.Unknown

-- a vote Committed, or Never, on a pending stamp
pub record IsVotedCommitted (p : PartitionState) (b : Body) (e : Action) : Type 0 where
  pub t : ℕ
  pub voted : b ≡ body.Reply (reply.Status t vote.Committed)
  pub done : e ≡ marks (Committed t)
  pub pending : state_of p.marks t ≡ state.Pending

pub record IsVotedNever (p : PartitionState) (b : Body) (e : Action) : Type 0 where
  pub t : ℕ
  pub voted : b ≡ body.Reply (reply.Status t vote.Never)
  pub done : e ≡ marks (Discarded t)
  pub pending : state_of p.marks t ≡ state.Pending

-- a vote Prepared of one of the partitions of a pending stamp's items
pub record IsVotedPrepared (p : PartitionState) (from : Node) (b : Body) (e : Action) : Type 0 where
  pub t : ℕ
  pub part : ℕ
  pub sender : from ≡ Part part
  pub voted : b ≡ body.Reply (reply.Status t vote.Prepared)
  pub done : e ≡ on_vote_of p part t
  pub due : lies_at part p.parts (items_at p.marks t) ≡ true
  pub pending : state_of p.marks t ≡ state.Pending

pub data Acts (p : PartitionState) (from : Node) (b : Body) (e : Action) : Type 0 where
  idle : e ≡ nothing → Acts p from b e
  said : (r : Reply) → e ≡ says r → IsSaid p b r → Acts p from b e
  prepared : IsPrepared p b e → Acts p from b e
  committed : IsCommitted p b e → Acts p from b e
  refused : IsRefused p b e → Acts p from b e
  outdated : IsRefusedOn p b e → Acts p from b e
  voted_committed : IsVotedCommitted p b e → Acts p from b e
  voted_never : IsVotedNever p b e → Acts p from b e
  voted_prepared : IsVotedPrepared p from b e → Acts p from b e

-- ---- row by row

prepare_acts : (p : PartitionState) (from : Node) (t : ℕ) (ws : List Row) (is : List ℕ)
    → p.checked ≡ false → is_proper p.number p.parts t ws is ≡ true
    → (full : Bool) → is_full p.limit p.marks ≡ full
    → (same : Bool) → is_same p.marks t ws is ≡ same
    → (s : StampState) → state_of p.marks t ≡ s
    → Acts p from (body.Request (Prepare t ws is)) (prepare_by full same s t ws is)
prepare_acts p from t ws is free proper true f same g state.Unknown e = said (reply.Full t) refl (f, e)
prepare_acts p from t ws is free proper false f same g state.Unknown e =
    prepared (record { t = t; ws = ws; is = is; asked = inl (refl, free); done = refl; proper = proper; room = f; unknown = e })
prepare_acts p from t ws is free proper full f true g state.Pending e = said (reply.Prepared t) refl (inl e)
prepare_acts p from t ws is free proper full f false g state.Pending e = said reply.Clash refl (inr (inl (g, inl e)))
prepare_acts p from t ws is free proper full f true g state.Committed e = said (reply.Prepared t) refl (inr e)
prepare_acts p from t ws is free proper full f false g state.Committed e = said reply.Clash refl (inr (inl (g, inr e)))
prepare_acts p from t ws is free proper full f same g state.Discarded e = said (reply.Discarded t) refl e

to_prepare_acts : (p : PartitionState) (from : Node) (t : ℕ) (ws : List Row) (is : List ℕ)
    → Acts p from (body.Request (Prepare t ws is)) (on_request p (Prepare t ws is))
to_prepare_acts p from t ws is = free p.checked refl
  where
    go : p.checked ≡ false → (b : Bool) → is_proper p.number p.parts t ws is ≡ b
        → Acts p from (body.Request (Prepare t ws is))
        (if b then prepare_by (is_full p.limit p.marks) (is_same p.marks t ws is) (state_of p.marks t) t ws is else says reply.Clash)
    go f true e = prepare_acts p from t ws is f e (is_full p.limit p.marks) refl (is_same p.marks t ws is) refl (state_of p.marks t) refl
    go f false e = said reply.Clash refl (inl e)

    free : (b : Bool) → p.checked ≡ b
        → Acts p from (body.Request (Prepare t ws is)) (if b then says reply.Clash else on_prepare p t ws is)
    free true e = said reply.Clash refl (inr (inr e))
    free false e = go e (is_proper p.number p.parts t ws is) refl

prepare_on_acts : (p : PartitionState) (from : Node) (t : ℕ) (ws : List Row) (is bs : List ℕ)
    → p.checked ≡ true → is_proper_on p.number p.parts t ws is bs ≡ true
    → (full : Bool) → is_full p.limit p.marks ≡ full
    → (based : Bool) → are_bases p.marks t ws bs ≡ based
    → (s : StampState) → state_of p.marks t ≡ s
    → Acts p from (body.Request (PrepareOn t ws is bs)) (prepare_on_by full based s t ws is)
prepare_on_acts p from t ws is bs checked proper true f based g state.Unknown e = said (reply.Full t) refl (f, e)
prepare_on_acts p from t ws is bs checked proper false f true g state.Unknown e =
    prepared (record {
      t = t;
      ws = ws;
      is = is;
      asked = inr (record { bases = bs; checked = checked; asked = refl; based = g });
      done = refl;
      proper = (and_parts (is_proper p.number p.parts t ws is) (length ws == length bs) proper).0;
      room = f;
      unknown = e;
    })
prepare_on_acts p from t ws is bs checked proper false f false g state.Unknown e =
    outdated (record { t = t; ws = ws; is = is; bs = bs; checked = checked; asked = refl; done = refl; outdated = g; proper = proper; room = f; unknown = e })
prepare_on_acts p from t ws is bs checked proper full f based g state.Pending e = said reply.Clash refl (inr (inl (inl e)))
prepare_on_acts p from t ws is bs checked proper full f based g state.Committed e = said reply.Clash refl (inr (inl (inr e)))
prepare_on_acts p from t ws is bs checked proper full f based g state.Discarded e = said (reply.Discarded t) refl e

to_prepare_on_acts : (p : PartitionState) (from : Node) (t : ℕ) (ws : List Row) (is bs : List ℕ)
    → Acts p from (body.Request (PrepareOn t ws is bs)) (on_request p (PrepareOn t ws is bs))
to_prepare_on_acts p from t ws is bs = checked p.checked refl
  where
    go : p.checked ≡ true → (b : Bool) → is_proper_on p.number p.parts t ws is bs ≡ b
        → Acts p from (body.Request (PrepareOn t ws is bs))
        (if b then prepare_on_by (is_full p.limit p.marks) (are_bases p.marks t ws bs) (state_of p.marks t) t ws is else says reply.Clash)
    go c true e = prepare_on_acts p from t ws is bs c e (is_full p.limit p.marks) refl (are_bases p.marks t ws bs) refl (state_of p.marks t) refl
    go c false e = said reply.Clash refl (inl e)

    checked : (b : Bool) → p.checked ≡ b
        → Acts p from (body.Request (PrepareOn t ws is bs)) (if b then on_prepare_on p t ws is bs else says reply.Clash)
    checked true e = go e (is_proper_on p.number p.parts t ws is bs) refl
    checked false e = said reply.Clash refl (inr (inr e))

commit_acts : (p : PartitionState) (from : Node) (t : ℕ) → (t == 0) ≡ false
    → (s : StampState) → state_of p.marks t ≡ s → Acts p from (body.Request (Commit t)) (commit_by s t)
commit_acts p from t some state.Unknown e = said (reply.NotPrepared t) refl e
commit_acts p from t some state.Pending e = committed (record { t = t; asked = refl; done = refl; some = some; pending = e })
commit_acts p from t some state.Committed e = said (reply.Committed t) refl e
commit_acts p from t some state.Discarded e = said (reply.Discarded t) refl e

to_commit_acts : (p : PartitionState) (from : Node) (t : ℕ) → Acts p from (body.Request (Commit t)) (on_commit p t)
to_commit_acts p from t = go (t == 0) refl
  where
    go : (b : Bool) → (t == 0) ≡ b → Acts p from (body.Request (Commit t)) (if b then says reply.Clash else commit_by (state_of p.marks t) t)
    go true e = said reply.Clash refl ((Decides-eqb t 0).0 e)
    go false e = commit_acts p from t e (state_of p.marks t) refl

check_acts : (p : PartitionState) (from : Node) (t : ℕ) → (t == 0) ≡ false
    → (full : Bool) → is_full p.limit p.marks ≡ full
    → (s : StampState) → state_of p.marks t ≡ s → Acts p from (body.Request (Check t)) (check_by full s t)
check_acts p from t some true f state.Unknown e = said (reply.Full t) refl (f, e)
check_acts p from t some false f state.Unknown e = refused (record { t = t; asked = refl; done = refl; some = some; room = f; unknown = e })
check_acts p from t some full f state.Pending e = said (reply.Status t vote.Prepared) refl e
check_acts p from t some full f state.Committed e = said (reply.Status t vote.Committed) refl e
check_acts p from t some full f state.Discarded e = said (reply.Status t vote.Never) refl e

to_check_acts : (p : PartitionState) (from : Node) (t : ℕ) → Acts p from (body.Request (Check t)) (on_check p t)
to_check_acts p from t = go (t == 0) refl
  where
    go : (b : Bool) → (t == 0) ≡ b
        → Acts p from (body.Request (Check t)) (if b then says reply.Clash else check_by (is_full p.limit p.marks) (state_of p.marks t) t)
    go true e = said reply.Clash refl ((Decides-eqb t 0).0 e)
    go false e = check_acts p from t e (is_full p.limit p.marks) refl (state_of p.marks t) refl

to_get_acts : (p : PartitionState) (from : Node) (item : ℕ) (stamps : List ℕ) → Acts p from (body.Request (Get item stamps)) (on_get p item stamps)
to_get_acts p from item stamps = go (is_placed p.number p.parts item) refl (read_at p.marks item stamps) refl
  where
    go : (b : Bool) → is_placed p.number p.parts item ≡ b → (o : Option ℕ) → read_at p.marks item stamps ≡ o
        → Acts p from (body.Request (Get item stamps)) (if b then get_by p item o else says reply.Clash)
    go true here (Some t) e = said (reply.Version item t (value_at p item t)) refl (stamps, refl, (read_high p.marks item stamps t e).1, refl)
    go true here None e = said (reply.Gone item) refl (stamps, refl, e)
    go false here o e =
        said reply.Clash refl
        (λ (placed : place_of p.parts item ≡ p.number). absurd (let there = (Decides-eqb (place_of p.parts item) p.number).1 placed in cc))

prepared_acts : (p : PartitionState) (from : Node) (t : ℕ) → state_of p.marks t ≡ state.Pending
    → Acts p from (body.Reply (reply.Status t vote.Prepared)) (on_prepared p from t)
prepared_acts p (Client client) t pending = idle refl
prepared_acts p (Part part) t pending = go (lies_at part p.parts (items_at p.marks t)) refl
  where
    go : (b : Bool) → lies_at part p.parts (items_at p.marks t) ≡ b
        → Acts p (Part part) (body.Reply (reply.Status t vote.Prepared)) (if b then on_vote_of p part t else nothing)
    go true e = voted_prepared (record { t = t; part = part; sender = refl; voted = refl; done = refl; due = e; pending = pending })
    go false e = idle refl

vote_acts : (p : PartitionState) (from : Node) (t : ℕ) (v : Vote) → state_of p.marks t ≡ state.Pending
    → Acts p from (body.Reply (reply.Status t v)) (on_vote p from t v)
vote_acts p from t vote.Prepared pending = prepared_acts p from t pending
vote_acts p from t vote.Committed pending = voted_committed (record { t = t; voted = refl; done = refl; pending = pending })
vote_acts p from t vote.Never pending = voted_never (record { t = t; voted = refl; done = refl; pending = pending })

status_acts : (p : PartitionState) (from : Node) (t : ℕ) (v : Vote) → Acts p from (body.Reply (reply.Status t v)) (on_status p from t v)
status_acts p from t v = go (is_pending (state_of p.marks t)) refl
  where
    go : (b : Bool) → is_pending (state_of p.marks t) ≡ b → Acts p from (body.Reply (reply.Status t v)) (if b then on_vote p from t v else nothing)
    go true e = vote_acts p from t v (is_pending_tells (state_of p.marks t) e)
    go false e = idle refl

-- ---- the whole table

pub acts : (p : PartitionState) (from : Node) (b : Body) → Acts p from b (on_body p from b)
acts p from (body.Request (Prepare t ws is)) = to_prepare_acts p from t ws is
acts p from (body.Request (PrepareOn t ws is bs)) = to_prepare_on_acts p from t ws is bs
acts p from (body.Request (Commit t)) = to_commit_acts p from t
acts p from (body.Request (Get item stamps)) = to_get_acts p from item stamps
acts p from (body.Request (Check t)) = to_check_acts p from t
acts p from (body.Reply (reply.Status t v)) = status_acts p from t v
acts p from (body.Reply (reply.Prepared t)) = idle refl
acts p from (body.Reply (reply.Committed t)) = idle refl
acts p from (body.Reply (reply.Discarded t)) = idle refl
acts p from (body.Reply (reply.Version i t v)) = idle refl
acts p from (body.Reply (reply.NotPrepared t)) = idle refl
acts p from (body.Reply reply.Clash) = idle refl
acts p from (body.Reply (reply.Full t)) = idle refl
acts p from (body.Reply (reply.Gone i)) = idle refl

-- a message to another node does nothing
pub acts_here : (p : PartitionState) (message : Message) → Acts p message.from message.body (action_of p message)
acts_here p message = go (is_part message.to p.number)
  where
    go : (b : Bool) → Acts p message.from message.body (if b then on_body p message.from message.body else nothing)
    go true = acts p message.from message.body
    go false = idle refl

-- ---- a Prepare of an unknown stamp, for `Partition::on_prepare`

pub unknown_prepared : (p : PartitionState) (t : ℕ) (ws : List Row) (is : List ℕ)
    → is_proper p.number p.parts t ws is ≡ true → state_of p.marks t ≡ state.Unknown
    → prepare_by (is_full p.limit p.marks) (is_same p.marks t ws is) state.Unknown t ws is ≡ on_prepare p t ws is
unknown_prepared p t ws is proper unknown = rw (proper, unknown) refl
