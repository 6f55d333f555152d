-- What lasts as the world grows.
use Rattle.std.proofs.Common.{◌≡◌, ℕ, ◌≤◌, Bool, true, List, ◌++◌, Option, Some, ◌⊎◌, inl, inr, ⊎_elim, sym, ap, ◌∙◌, subst, append_assoc, le_trans}
use Rattle.std.specs.List.{list_any}
use Rattle.album_items.specs.ItemIds.{place_of}
use Rattle.album_items.specs.Openings.{Row}
use Rattle.album_items.specs.declared.openings.Opening.{Opening}
use Rattle.album_items.specs.declared.values.Value.{Value}
use Rattle.album_calls.specs.declared.messages.Body.{Body}
use Rattle.album_calls.specs.declared.messages.Body.TheVariants as body
use Rattle.album_calls.specs.declared.nodes.Node.{Node}
use Rattle.album_calls.specs.declared.nodes.Node.TheVariants.{Part, Client as ToClient}
use Rattle.album_calls.specs.declared.nodes.Vote.{Vote}
use Rattle.album_calls.specs.declared.nodes.Vote.TheVariants as vote
use Rattle.album_calls.specs.declared.requests.Request.{Request}
use Rattle.album_calls.specs.declared.requests.Request.TheVariants.{Prepare, PrepareOn, Commit, Get, Check}
use Rattle.album_calls.specs.declared.replies.Reply.{Reply}
use Rattle.album_calls.specs.declared.replies.Reply.TheVariants as reply
use Rattle.album_partition.specs.declared.marks.Mark.{Mark}
use Rattle.album_partition.specs.Partition.{PartitionState}
use Rattle.album_partition.specs.Marks.{commits, IsPromisedAgainst}
use Rattle.album_partition.proofs.GrowthLemmas.{promised_stays}
use Rattle.album_reader.specs.Answers.{ReadVersion}
use Rattle.album_permits.specs.declared.answers.Answer.{Answer}
use Rattle.album_permits.specs.declared.answers.Answer.TheVariants as answer
use Rattle.album_client.specs.Steps.{Transaction}
use Rattle.album_world.proofs.ListLemmas.{In}
use Rattle.album_world.specs.State.{client_at, history_in}
use Rattle.album_world.specs.Past.{World}
use Rattle.album_world.specs.Committing.{history, IsCommitted}
use Rattle.album_world.proofs.ListLemmas.{any_more}
use Rattle.album_world.proofs.MarkLemmas.{IsPreparedIn, prepared_more, wrote, wrote_more}
use Rattle.album_world.proofs.Invariant.{IsPrepareOf, IsPrepareOnOf, IsBasedIn, IsSettled, IsAgainst, IsPlacedAt, IsVote, IsFullFor, IsValue, IsZeroOrCommitted, IsNoLater, IsAsk, IsSay, IsFine, IsTagged, tag_at, HasBegun, FirstRound, SecondRound, IsCollectedStamp, HasFresh, AreFound, IsRead, IsAnswer, IsDrawn, IsSound, SaysWith, AnswersWith}

-- w2 comes after w1
pub record Grows (o : Opening) (w1 w2 : World) : Type 0 where
  pub more : (p : ℕ) → (ms : List Mark) × (history w2 p ≡ history w1 p ++ ms)
  pub transactions : (r : Transaction) → In r w1.past.transactions → In r w2.past.transactions
  pub full : (p t : ℕ) → IsFullFor o w1 p t → IsFullFor o w2 p t
  pub tags : (c : ℕ) → tag_at w1 c ≤ tag_at w2 c
  pub clocks : (c : ℕ) → (client_at w1.now.clients c).clock.counter ≤ (client_at w2.now.clients c).clock.counter

module _ (o : Opening) (w1 w2 : World) (g : Grows o w1 w2) where
  pub wrote_grows : (p t i : ℕ) (v : Value) → wrote (history w1 p) t i ≡ Some v → wrote (history w2 p) t i ≡ Some v
  wrote_grows p t i v h = subst (λ (z : List Mark). wrote z t i ≡ Some v) (sym (g.more p).1)
      (wrote_more (history w1 p) (g.more p).0 t i v h)

  pub any_grows : (test : Mark → Bool) (p : ℕ) → list_any test (history w1 p) ≡ true
      → list_any test (history w2 p) ≡ true
  any_grows test p h = subst (λ (z : List Mark). list_any test z ≡ true) (sym (g.more p).1)
      (any_more test (history w1 p) (g.more p).0 h)

  pub committed_grows : (t : ℕ) → IsCommitted w1 t → IsCommitted w2 t
  committed_grows t c = (c.0, any_grows (commits t) c.0 c.1)

  pub prepared_grows : (p t : ℕ) → IsPreparedIn (history w1 p) t → IsPreparedIn (history w2 p) t
  prepared_grows p t h = subst (λ (z : List Mark). IsPreparedIn z t) (sym (g.more p).1)
      (prepared_more (history w1 p) (g.more p).0 t h)

  pub prepare_grows : (p t : ℕ) (ws : List Row) (js : List ℕ) → IsPrepareOf o w1 p t ws js → IsPrepareOf o w2 p t ws js
  prepare_grows p t ws js h = record {
    of = h.of;
    begun = g.transactions h.of h.begun;
    stamp = h.stamp;
    writes = h.writes;
    items = h.items;
  }

  prepare_on_grows : (p t : ℕ) (ws : List Row) (js bs : List ℕ) → IsPrepareOnOf o w1 p t ws js bs
      → IsPrepareOnOf o w2 p t ws js bs
  unfolding prepare_grows
  prepare_on_grows p t ws js bs h = record { is = prepare_grows p t ws js h.is; bases = h.bases }

  pub based_grows : (p : ℕ) (ms : List Mark) (t : ℕ) (ws : List Row) (js : List ℕ) → IsBasedIn o w1 p ms t ws js
      → IsBasedIn o w2 p ms t ws js
  unfolding prepare_grows
  based_grows p ms t ws js h =
      record { is = prepare_grows p t ws js h.is; before = h.before; later = h.later; all = h.all; based = h.based }

  pub settled_grows : (t : ℕ) → IsSettled o w1 t → IsSettled o w2 t
  settled_grows t h = record {
    of = h.of;
    begun = g.transactions h.of h.begun;
    stamp = h.stamp;
    ready = λ i v e. wrote_grows (place_of o.parts i) t i v (h.ready i v e);
  }

  pub against_grows : (t : ℕ) → IsAgainst o w1 t → IsAgainst o w2 t
  against_grows t h =
      let p = place_of o.parts h.item in
      record {
        of = h.of;
        begun = g.transactions h.of h.begun;
        stamp = h.stamp;
        item = h.item;
        in_them = h.in_them;
        promised = subst (λ (z : List Mark). IsPromisedAgainst z t) (sym (g.more p).1)
            (promised_stays (history w1 p) (g.more p).0 t h.promised);
      }

  pub placed_grows : (p t : ℕ) → IsPlacedAt o w1 p t → IsPlacedAt o w2 p t
  placed_grows p t h = record {
    of = h.of;
    begun = g.transactions h.of h.begun;
    stamp = h.stamp;
    item = h.item;
    in_them = h.in_them;
    at = h.at;
  }

  vote_grows : (from : Node) (t : ℕ) (v : Vote) → IsVote o w1 from t v → IsVote o w2 from t v
  vote_grows (Part p) t vote.Prepared h = prepared_grows p t h
  vote_grows (ToClient c) t vote.Prepared h = tt
  vote_grows from t vote.Committed h = settled_grows t h
  vote_grows from t vote.Never h = against_grows t h

  pub value_grows : (i t : ℕ) (v : Value) → IsValue o w1 i t v → IsValue o w2 i t v
  value_grows i t v h = ⊎_elim inl (λ k. inr (k.0, wrote_grows (place_of o.parts i) t i v k.1)) h

  pub zero_grows : (t : ℕ) → IsZeroOrCommitted w1 t → IsZeroOrCommitted w2 t
  zero_grows t h = ⊎_elim inl (λ c. inr (committed_grows t c)) h

  pub no_later_grows : (i s t : ℕ) → (t ≡ 0) ⊎ IsNoLater w1 i s t → (t ≡ 0) ⊎ IsNoLater w2 i s t
  no_later_grows i s t h = ⊎_elim inl
      (λ (n : IsNoLater w1 i s t). inr
      (record { of = n.of; begun = g.transactions n.of n.begun; stamp = n.stamp; bound = n.bound })) h

  ask_grows : (to : Node) (r : Request) → IsAsk o w1 to r → IsAsk o w2 to r
  ask_grows (Part p) (Prepare t ws js) h = prepare_grows p t ws js h
  ask_grows (ToClient c) (Prepare t ws js) h = tt
  ask_grows (Part p) (PrepareOn t ws js bs) h = prepare_on_grows p t ws js bs h
  ask_grows (ToClient c) (PrepareOn t ws js bs) h = tt
  ask_grows to (Commit t) h = settled_grows t h
  ask_grows to (Get i ts) h = tt
  ask_grows (Part p) (Check t) h = placed_grows p t h
  ask_grows (ToClient c) (Check t) h = tt

  pub say_grows : (from : Node) (r : Reply) → IsSay o w1 from r → IsSay o w2 from r
  say_grows (Part p) (reply.Prepared t) h = prepared_grows p t h
  say_grows (ToClient c) (reply.Prepared t) h = tt
  say_grows (Part p) (reply.Committed t) h = any_grows (commits t) p h
  say_grows (ToClient c) (reply.Committed t) h = tt
  say_grows from (reply.Discarded t) h = against_grows t h
  say_grows from (reply.Version i t v) h = value_grows i t v h
  say_grows from (reply.Status t v) h = vote_grows from t v h
  say_grows from (reply.NotPrepared t) h = tt
  say_grows from reply.Clash h = tt
  say_grows (Part p) (reply.Full t) h = g.full p t h
  say_grows (ToClient c) (reply.Full t) h = tt
  say_grows from (reply.Gone i) h = tt

  pub fine_grows : (from to : Node) (b : Body) → IsFine o w1 from to b → IsFine o w2 from to b
  fine_grows from to (body.Request r) h = ask_grows to r h
  fine_grows from to (body.Reply r) h = say_grows from r h

  pub tagged_grows : (n : Node) (t : ℕ) → IsTagged w1 n t → IsTagged w2 n t
  tagged_grows (Part p) t h = tt
  tagged_grows (ToClient c) t h = le_trans h (g.tags c)

  pub begun_grows : (began : List PartitionState) (p : ℕ) → HasBegun w1 began p → HasBegun w2 began p
  begun_grows began p h = record {
    more = h.more ++ (g.more p).0;
    is = (g.more p).1 ∙ ap (λ (z : List Mark). z ++ (g.more p).0) h.is ∙ append_assoc (history_in began p) h.more
        (g.more p).0;
    committed = h.committed;
  }

  pub first_round_grows : (began : List PartitionState) (i s : ℕ) → FirstRound o w1 began i s
      → FirstRound o w2 began i s
  first_round_grows began i s h = record { fresh = h.fresh; committed = zero_grows s h.committed }

  pub second_round_grows : (began : List PartitionState) (ts : List ℕ) (i s : ℕ) → SecondRound o w1 began ts i s
      → SecondRound o w2 began ts i s
  second_round_grows began ts i s h =
      record { fresh = h.fresh; from = h.from; above = λ t k. no_later_grows i s t (h.above t k) }

  pub founds_grows : (P Q : ℕ → ℕ → Type 0) → ((i s : ℕ) → P i s → Q i s) → (founds : List (Option ReadVersion))
      → AreFound o w1 P founds → AreFound o w2 Q founds
  founds_grows P Q more founds h = λ f k. let a = h f k in
      (more f.item f.stamp a.0, value_grows f.item f.stamp f.value a.1)

  pub stamp_grows : (t : ℕ) → (t ≡ 0) ⊎ IsCollectedStamp o w1 t → (t ≡ 0) ⊎ IsCollectedStamp o w2 t
  stamp_grows t h = ⊎_elim inl
      (λ (c : IsCollectedStamp o w1 t). inr
      (record { settled = settled_grows t c.settled; committed = committed_grows t c.committed })) h

  pub has_fresh_grows : (began : List PartitionState) (ts : List ℕ) (i : ℕ) → HasFresh o w1 began ts i
      → HasFresh o w2 began ts i
  has_fresh_grows began ts i h = record {
    stamp = h.stamp;
    in_them = h.in_them;
    fresh = h.fresh;
    here = ⊎_elim inl (λ v. inr (v.0, wrote_grows (place_of o.parts i) h.stamp i v.0 v.1)) h.here;
  }

  pub read_grows : (began : List PartitionState) (fs : List ReadVersion) → IsRead o w1 began fs → IsRead o w2 began fs
  read_grows began fs h = record {
    found = λ f k. let d = h.found f k in
        record {
          fresh = d.fresh;
          value = value_grows f.item f.stamp f.value d.value;
          committed = zero_grows f.stamp d.committed;
        };
    above = λ f e k l. no_later_grows f.item f.stamp e.stamp (h.above f e k l);
    begun = λ p. begun_grows began p (h.begun p);
  }

  pub answer_grows : (a : Answer) → IsAnswer o w1 a → IsAnswer o w2 a
  answer_grows (answer.Served served) h = tt
  answer_grows (answer.Denied reasons) h = tt
  answer_grows (answer.Missing object) h = tt
  answer_grows (answer.Busy why) h = tt
  answer_grows (answer.Committed t) h = record {
    of = h.of;
    begun = g.transactions h.of h.begun;
    stamp = h.stamp;
    at = λ p k. any_grows (commits t) p (h.at p k);
  }
  answer_grows (answer.Aborted t) h = against_grows t h
  answer_grows (answer.Unsettled t why) h = (
    let u = h.0 in record {
      of = u.of;
      begun = g.transactions u.of u.begun;
      stamp = u.stamp;
      part = u.part;
      one_of = u.one_of;
      full = g.full u.part t u.full;
    },
    h.1,
  )
  answer_grows (answer.Refused why) h = tt

  pub drawn_grows : (r : Transaction) → IsDrawn o.first w1 r → IsDrawn o.first w2 r
  drawn_grows r h = record {
    counter = h.counter;
    client = h.client;
    is = h.is;
    rises = h.rises;
    low = h.low;
    high = h.high;
    old = le_trans h.old (g.clocks h.client);
  }

  -- what is sound and unchanged stays so
  pub sound_grows : (p : ℕ) (ms : List Mark) → IsSound o w1 p ms → IsSound o w2 p ms
  sound_grows p ms h = record {
    legal = h.legal;
    prepared = λ t k. prepare_grows p t k.writes k.items (h.prepared t k);
    based = λ on t k. based_grows p ms t k.writes k.items (h.based on t k);
    committed = λ t k. settled_grows t (h.committed t k);
    discarded = λ t k. against_grows t (h.discarded t k);
  }

says_more : (P Q : ℕ → ℕ → Type 0) → ((i s : ℕ) → P i s → Q i s) → (r : Reply) → SaysWith P r → SaysWith Q r
says_more P Q more (reply.Version i t v) h = more i t h
says_more P Q more (reply.Prepared t) h = tt
says_more P Q more (reply.Committed t) h = tt
says_more P Q more (reply.Discarded t) h = tt
says_more P Q more (reply.Status t v) h = tt
says_more P Q more (reply.NotPrepared t) h = tt
says_more P Q more reply.Clash h = tt
says_more P Q more (reply.Full t) h = tt
says_more P Q more (reply.Gone i) h = tt

pub answers_more : (P Q : ℕ → ℕ → Type 0) → ((i s : ℕ) → P i s → Q i s) → (b : Body) → AnswersWith P b → AnswersWith Q b
answers_more P Q more (body.Request r) h = tt
answers_more P Q more (body.Reply r) h = says_more P Q more r h
