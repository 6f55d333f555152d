-- What is kept as a client is stopped, and as a request is taken.
use Rattle.std.proofs.Common.{ℕ, List, [], ◌∷◌, Option, Some, None, inl, inr, ⊎_elim, sym, append-nil, le_refl}
use Rattle.album_items.specs.declared.openings.Opening.{Opening}
use Rattle.album_partition.specs.Partition.{PartitionState}
use Rattle.album_partition.specs.Marks.{commits}
use Rattle.album_reader.specs.Rounds.{RoundState}
use Rattle.album_writer.specs.Writing.{WritingState}
use Rattle.album_client.specs.declared.clients.Phase.{Phase}
use Rattle.album_client.specs.declared.clients.Phase.TheVariants as phase
use Rattle.album_world.specs.State.{client_at, with_number}
use Rattle.album_world.specs.Past.{Asked, World, last_begun}
use Rattle.album_world.specs.Changes.Change.{Stops}
use Rattle.album_world.specs.Runs.{changed}
use Rattle.album_world.specs.Committing.{history}
use Rattle.album_world.proofs.ListLemmas.{In}
use Rattle.album_world.proofs.Invariant.{IsKept, FirstRound, SecondRound, IsRound, IsWriting, HasPrepared, HasCommitted, IsDoing}
use Rattle.album_world.proofs.GrowthLemmas.{Grows, any_grows, answers_more, prepared_grows, fine_grows, tagged_grows, begun_grows, first_round_grows, second_round_grows, founds_grows, stamp_grows, has_fresh_grows, read_grows, answer_grows, drawn_grows, sound_grows}

-- who was stopped, and what was asked, is nothing to what is kept
module _ (o : Opening) (w : World) (k : IsKept o w) (stopped : List ℕ) (asked : List Asked) where
  abbrev next : World
  next = record { now = record w.now { stopped = stopped }; past = record w.past { asked = asked } }

  grows : Grows o w next
  grows = record {
    more = λ p. ([], sym (append-nil _));
    transactions = λ r h. h;
    full = λ p u h. record { unknown = h.unknown; full = h.full };
    tags = λ d. le_refl _;
    clocks = λ d. le_refl _;
  }

  round_lasts : (d : ℕ) (began : List PartitionState) (r : RoundState) (f : Option (List ℕ)) → IsRound o w d began r f
      → IsRound o next d began r f
  round_lasts d began r None h = record {
    asked = record { at = h.asked.at };
    answered = record {
      at = λ n l f e. answers_more (FirstRound o w began) (FirstRound o next began)
          (λ i s q. first_round_grows o w next grows began i s q) n.body (h.answered.at n l f e);
    };
    founds = founds_grows o w next grows (FirstRound o w began) (FirstRound o next began)
        (λ i s q. first_round_grows o w next grows began i s q) r.answers h.founds;
  }
  round_lasts d began r (Some ts) h = record {
    asked = record { at = h.asked.at };
    answered = record {
      at = λ n l f e. answers_more (λ i s. In i r.items → SecondRound o w began ts i s)
          (λ i s. In i r.items → SecondRound o next began ts i s)
          (λ i s q j. second_round_grows o w next grows began ts i s (q j)) n.body (h.answered.at n l f e);
    };
    founds = founds_grows o w next grows (SecondRound o w began ts) (SecondRound o next began ts)
        (λ i s q. second_round_grows o w next grows began ts i s q) r.answers h.founds;
    stamps = λ u l. stamp_grows o w next grows u (h.stamps u l);
    fresh = λ i l. has_fresh_grows o w next grows began ts i (h.fresh i l);
  }

  writing_lasts : (d : ℕ) (x : WritingState) (P Q : ℕ → ℕ → Type 0) → ((q u : ℕ) → P q u → Q q u)
      → IsWriting o w d x P → IsWriting o next d x Q
  writing_lasts d x P Q more h = record {
    of = h.of;
    begun = h.begun;
    stamp = h.stamp;
    parts = h.parts;
    client = h.client;
    given = λ q l. ⊎_elim inl (λ e. inr (more q x.stamp e)) (h.given q l);
  }

  doing_lasts : (d : ℕ) (began : List PartitionState) (f : Phase) → IsDoing o w d began f → IsDoing o next d began f
  doing_lasts d began (phase.Idle tag) h = tt
  doing_lasts d began (phase.Reads pending_ask r) h = record {
    low = h.low;
    high = h.high;
    parts = h.parts;
    client = h.client;
    own = h.own;
    begun = λ p. begun_grows o w next grows began p (h.begun p);
    round = round_lasts d began r r.stamps h.round;
  }
  doing_lasts d began (phase.Prepares x) h = writing_lasts d x (HasPrepared w) (HasPrepared next)
      (λ q u e. prepared_grows o w next grows q u e) h
  doing_lasts d began (phase.Commits x) h = writing_lasts d x (HasCommitted w) (HasCommitted next)
      (λ q u e. any_grows o w next grows (commits u) q e) h

  same_kept : IsKept o next
  same_kept = record {
    placed = k.placed;
    sound = λ p. sound_grows o w next grows p (history w p) (k.sound p);
    noted = λ p h e n l. prepared_grows o w next grows n.part n.stamp (k.noted p h e n l);
    fine = λ m l. fine_grows o w next grows m.from m.to m.body (k.fine m l);
    from = λ m l. tagged_grows o w next grows m.from m.tag (k.from m l);
    to = λ m l. tagged_grows o w next grows m.to m.tag (k.to m l);
    drawn = λ r l. drawn_grows o w next grows r (k.drawn r l);
    unique = k.unique;
    clients = λ d. let q = k.clients d in
        record {
          number = q.number;
          clock = q.clock;
          phase = doing_lasts d (last_begun w.past.begun d).partitions
              (client_at w.now.clients d).phase q.phase;
        };
    reads = λ f rows l e. read_grows o w next grows f.begun.partitions rows (k.reads f rows l e);
    answers = λ t l. answer_grows o w next grows t.answer (k.answers t l);
  }

pub stop_kept : (o : Opening) (w : World) → IsKept o w → (c : ℕ) → IsKept o (changed w (Stops c))
stop_kept o w k c = same_kept o w k (with_number c w.now.stopped) w.past.asked

pub request_kept : (o : Opening) (w : World) → IsKept o w → (a : Asked)
    → IsKept o (record w { past = record w.past { asked = a ∷ w.past.asked } })
request_kept o w k a = same_kept o w k w.now.stopped (a ∷ w.past.asked)
