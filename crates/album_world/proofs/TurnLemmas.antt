-- What is kept as a client has its turn.
use Rattle.std.proofs.Common.{◌≡◌, ℕ, ◌<◌, ◌≤◌, ◌+◌, ◌*◌, Bool, true, false, cond, eqb, List, [], ◌∷◌, Option, Some, None, option_to_list, option_map, ◌⊎◌, inl, inr, ⊎_elim, sym, ap, ◌∙◌, subst, refl, arith, append-nil, le_refl}
use Rattle.album_items.specs.declared.openings.Opening.{Opening}
use Rattle.album_calls.specs.declared.messages.Body.{Body}
use Rattle.album_calls.specs.declared.messages.Message.{Message}
use Rattle.album_calls.specs.declared.nodes.Node.TheVariants.{Part, Client as ToClient}
use Rattle.album_partition.specs.Partition.{PartitionState}
use Rattle.album_partition.specs.Marks.{commits}
use Rattle.album_reader.specs.Answers.{ReadVersion}
use Rattle.album_reader.specs.Rounds.{RoundState}
use Rattle.album_writer.specs.Writing.{WritingState}
use Rattle.album_permits.specs.declared.answers.Answer.{Answer}
use Rattle.album_client.specs.declared.clients.Phase.{Phase}
use Rattle.album_client.specs.declared.clients.Phase.TheVariants as phase
use Rattle.album_client.specs.Clients.{Client, tag_of}
use Rattle.album_client.specs.Steps.{Transaction, Ended, TransitionState}
use Rattle.album_world.proofs.ListLemmas.{In}
use Rattle.album_world.specs.State.{client_at}
use Rattle.album_world.specs.Past.{World, Begun, Read, PastAnswer, last_begun}
use Rattle.album_world.specs.Changes.Change.{AtClient}
use Rattle.album_world.specs.Runs.{changed, read_over, reads_after, nth_after, past_answer}
use Rattle.album_world.specs.Committing.{history}
use Rattle.album_world.proofs.ListLemmas.{in_left, in_cases, in_option, in_mapped, some_same, same_or_not, apart}
use Rattle.album_world.proofs.ClientLemmas.{client_same, client_other}
use Rattle.album_world.proofs.Invariant.{IsKept, IsFine, IsTagged, tag_at, FirstRound, SecondRound, IsRound, IsWriting, HasPrepared, HasCommitted, IsDoing, IsClient, IsAnswer, IsRead}
use Rattle.album_world.proofs.GrowthLemmas.{Grows, any_grows, answers_more, prepared_grows, fine_grows, tagged_grows, begun_grows, first_round_grows, second_round_grows, founds_grows, stamp_grows, has_fresh_grows, read_grows, answer_grows, drawn_grows, sound_grows}

pub begun_other : (b : Bool) (c d n : ℕ) (ps : List PartitionState) (bs : List Begun) → eqb c d ≡ false
    → last_begun (cond b (record { client = c; nth = n; partitions = ps } ∷ bs) bs) d ≡ last_begun bs d
begun_other true c d n ps bs e = rw e refl
begun_other false c d n ps bs e = refl

part_not_client : {p c : ℕ} {R : Type 0} → Part p ≡ ToClient c → R
part_not_client e = absurd (cc)

client_is : {c d : ℕ} → ToClient c ≡ ToClient d → c ≡ d
client_is e = cc

-- a message that client c sends in the turn
pub record IsSent (o : Opening) (w : World) (c g : ℕ) (m : Message) : Type 0 where
  pub part : ℕ
  pub body : Body
  pub is : m ≡ record { from = ToClient c; to = Part part; tag = g; body = body }
  pub fine : IsFine o w (ToClient c) (Part part) body

pub record IsNew (c first counter : ℕ) (t : TransitionState) (r : Transaction) : Type 0 where
  pub at : ℕ
  pub is : r.stamp ≡ at * 65536 + c
  pub rises : first < at
  pub above : counter < at
  pub low : 0 < c
  pub high : c < 65536
  pub drawn : at ≤ t.client.clock.counter

module _ (o : Opening) (w : World) (k : IsKept o w) (c : ℕ) (t : TransitionState) (number : t.client.number ≡ c)
    (own : t.client.clock.client ≡ c) where
  abbrev pub next : World
  next = changed w (AtClient c t)

  abbrev pub old : Client
  old = client_at w.now.clients c

  pub same_now : client_at next.now.clients c ≡ t.client
  same_now = client_same w.now.clients t.client c number

  pub client_cases : (d : ℕ) → ((c ≡ d) × (client_at next.now.clients d ≡ t.client)) ⊎
      ((eqb c d ≡ false) × (client_at next.now.clients d ≡ client_at w.now.clients d))
  client_cases d = ⊎_elim
      (λ (e : c ≡ d). inl (e, subst (λ (z : ℕ). client_at next.now.clients z ≡ t.client) e same_now))
      (λ (ne : eqb c d ≡ false). inr
      (ne, client_other w.now.clients t.client d (subst (λ (z : ℕ). eqb z d ≡ false) (sym number) ne)))
      (same_or_not c d)

  pub turn_grows : tag_of old.phase ≤ tag_of t.client.phase → old.clock.counter ≤ t.client.clock.counter
      → Grows o w next
  turn_grows tag clock = record {
    more = λ p. ([], sym (append-nil _));
    transactions = λ r h. in_left (option_to_list t.writes) h;
    full = λ p u h. record { unknown = h.unknown; full = h.full };
    tags = λ d. ⊎_elim
        (λ (e : (c ≡ d) × (client_at next.now.clients d ≡ t.client)).
        subst (λ (z : Client). tag_at w d ≤ tag_of z.phase) (sym e.1)
        (subst (λ (z : ℕ). tag_at w z ≤ tag_of t.client.phase) e.0 tag))
        (λ (e : (eqb c d ≡ false) × (client_at next.now.clients d ≡ client_at w.now.clients d)).
        subst (λ (z : Client). tag_at w d ≤ tag_of z.phase) (sym e.1) (le_refl _))
        (client_cases d);
    clocks = λ d. ⊎_elim
        (λ (e : (c ≡ d) × (client_at next.now.clients d ≡ t.client)).
        subst (λ (z : Client). (client_at w.now.clients d).clock.counter ≤ z.clock.counter) (sym e.1)
        (subst (λ (z : ℕ). (client_at w.now.clients z).clock.counter ≤ t.client.clock.counter) e.0 clock))
        (λ (e : (eqb c d ≡ false) × (client_at next.now.clients d ≡ client_at w.now.clients d)).
        subst (λ (z : Client). (client_at w.now.clients d).clock.counter ≤ z.clock.counter) (sym e.1) (le_refl _))
        (client_cases d);
  }

  module _ (gr : Grows o w next) (d : ℕ) (began : List PartitionState) (nf : (m : Message) → In m t.sent
      → m.from ≡ ToClient d → ⊥) (nt : (m : Message) → In m t.sent → m.to ≡ ToClient d → ⊥) where
    round_lasts : (r : RoundState) (f : Option (List ℕ)) → IsRound o w d began r f → IsRound o next d began r f
    round_lasts r None h = record {
      asked = record {
        at = λ n l f e. ⊎_elim (λ i. h.asked.at n i f e) (λ i. absurd (nf n i f))
            (in_cases w.now.messages t.sent l);
      };
      answered = record {
        at = λ n l f e. ⊎_elim
            (λ i. answers_more (FirstRound o w began) (FirstRound o next began)
            (λ i s q. first_round_grows o w next gr began i s q) n.body (h.answered.at n i f e))
            (λ i. absurd (nt n i f)) (in_cases w.now.messages t.sent l);
      };
      founds = founds_grows o w next gr (FirstRound o w began) (FirstRound o next began)
          (λ i s q. first_round_grows o w next gr began i s q) r.answers h.founds;
    }
    round_lasts r (Some ts) h = record {
      asked = record {
        at = λ n l f e. ⊎_elim (λ i. h.asked.at n i f e) (λ i. absurd (nf n i f))
            (in_cases w.now.messages t.sent l);
      };
      answered = record {
        at = λ n l f e. ⊎_elim
            (λ i. answers_more (λ i s. In i r.items → SecondRound o w began ts i s)
            (λ i s. In i r.items → SecondRound o next began ts i s)
            (λ i s q j. second_round_grows o w next gr began ts i s (q j)) n.body (h.answered.at n i f e))
            (λ i. absurd (nt n i f)) (in_cases w.now.messages t.sent l);
      };
      founds = founds_grows o w next gr (SecondRound o w began ts) (SecondRound o next began ts)
          (λ i s q. second_round_grows o w next gr began ts i s q) r.answers h.founds;
      stamps = λ u l. stamp_grows o w next gr u (h.stamps u l);
      fresh = λ i l. has_fresh_grows o w next gr began ts i (h.fresh i l);
    }

    writing_lasts : (x : WritingState) (P Q : ℕ → ℕ → Type 0) → ((q u : ℕ) → P q u → Q q u) → IsWriting o w d x P
        → IsWriting o next d x Q
    writing_lasts x P Q more h = record {
      of = h.of;
      begun = gr.transactions h.of h.begun;
      stamp = h.stamp;
      parts = h.parts;
      client = h.client;
      given = λ q l. ⊎_elim inl (λ e. inr (more q x.stamp e)) (h.given q l);
    }

    -- what a client does lasts where it sends and is sent nothing
    pub doing_lasts : (f : Phase) → IsDoing o w d began f → IsDoing o next d began f
    doing_lasts (phase.Idle tag) h = tt
    doing_lasts (phase.Reads pending_ask r) h = record {
      low = h.low;
      high = h.high;
      parts = h.parts;
      client = h.client;
      own = h.own;
      begun = λ p. begun_grows o w next gr began p (h.begun p);
      round = round_lasts r r.stamps h.round;
    }
    doing_lasts (phase.Prepares x) h = writing_lasts x (HasPrepared w) (HasPrepared next)
        (λ q u e. prepared_grows o w next gr q u e) h
    doing_lasts (phase.Commits x) h = writing_lasts x (HasCommitted w) (HasCommitted next)
        (λ q u e. any_grows o w next gr (commits u) q e) h

  pub not_same : (r s : Transaction) → In r w.past.transactions → IsNew c o.first old.clock.counter t s → r.stamp ≡ s.stamp → ⊥
  not_same r s h n e =
      let d = k.drawn r h in
      let a : d.counter * 65536 + d.client ≡ n.at * 65536 + c = sym d.is ∙ e ∙ n.is in
      let up : old.clock.counter < n.at = n.above in
      let lo : d.client < 65536 = d.high in
      let hi : c < 65536 = n.high in
      let same : d.client ≡ c = omega arith in
      let b : d.counter ≤ old.clock.counter = subst (λ (z : ℕ). d.counter ≤ (client_at w.now.clients z).clock.counter)
      same d.old in
      omega arith

  pub turn_kept : tag_of old.phase ≤ tag_of t.client.phase → old.clock.counter ≤ t.client.clock.counter
      → ((m : Message) → In m t.sent → IsSent o next c (tag_of t.client.phase) m)
      → IsDoing o next c (last_begun next.past.begun c).partitions t.client.phase
      → ((r : Transaction) → t.writes ≡ Some r → IsNew c o.first old.clock.counter t r)
      → ((e : Ended) (rows : List ReadVersion) → t.over ≡ Some e → e.rows ≡ Some rows
      → IsRead o w (last_begun w.past.begun c).partitions rows)
      → ((a : Answer) → t.answer ≡ Some a → IsAnswer o w a)
      → IsKept o next
  turn_kept tag clock sent does drawn reads answers =
      let gr = turn_grows tag clock in
      record {
        placed = k.placed;
        sound = λ p. sound_grows o w next gr p (history w p) (k.sound p);
        noted = λ p h e n l. prepared_grows o w next gr n.part n.stamp (k.noted p h e n l);
        fine = λ m h. ⊎_elim
            (λ l. fine_grows o w next gr m.from m.to m.body (k.fine m l))
            (λ l. let s = sent m l in subst (λ (z : Message). IsFine o next z.from z.to z.body) (sym s.is) s.fine)
            (in_cases w.now.messages t.sent h);
        from = λ m h. ⊎_elim
            (λ l. tagged_grows o w next gr m.from m.tag (k.from m l))
            (λ l. let s = sent m l in subst (λ (z : Message). IsTagged next z.from z.tag) (sym s.is)
            (subst (λ (z : Client). tag_of t.client.phase ≤ tag_of z.phase) (sym same_now) (le_refl _)))
            (in_cases w.now.messages t.sent h);
        to = λ m h. ⊎_elim
            (λ l. tagged_grows o w next gr m.to m.tag (k.to m l))
            (λ l. let s = sent m l in subst (λ (z : Message). IsTagged next z.to z.tag) (sym s.is) tt)
            (in_cases w.now.messages t.sent h);
        drawn = λ r h. ⊎_elim
            (λ l. drawn_grows o w next gr r (k.drawn r l))
            (λ l. let n = drawn r (in_option t.writes l) in record {
              counter = n.at;
              client = c;
              is = n.is;
              rises = n.rises;
              low = n.low;
              high = n.high;
              old = subst (λ (z : Client). n.at ≤ z.clock.counter) (sym same_now) n.drawn;
            })
            (in_cases w.past.transactions (option_to_list t.writes) h);
        unique = λ r s h l e. ⊎_elim
            (λ i. ⊎_elim
            (λ j. k.unique r s i j e)
            (λ j. absurd (not_same r s i (drawn s (in_option t.writes j)) e))
            (in_cases w.past.transactions (option_to_list t.writes) l))
            (λ i. ⊎_elim
            (λ j. absurd (not_same s r j (drawn r (in_option t.writes i)) (sym e)))
            (λ j. some_same (sym (in_option t.writes i) ∙ in_option t.writes j))
            (in_cases w.past.transactions (option_to_list t.writes) l))
            (in_cases w.past.transactions (option_to_list t.writes) h);
        clients = λ d. ⊎_elim
            (λ (e : (c ≡ d) × (client_at next.now.clients d ≡ t.client)).
            subst (λ (z : Client). IsClient o next d z (last_begun next.past.begun d).partitions) (sym e.1)
            (subst (λ (z : ℕ). IsClient o next z t.client (last_begun next.past.begun z).partitions) e.0
            (record { number = number; clock = own; phase = does })))
            (λ (e : (eqb c d ≡ false) × (client_at next.now.clients d ≡ client_at w.now.clients d)).
            let x = client_at w.now.clients d in
            let q = k.clients d in
            subst (λ (z : Client). IsClient o next d z (last_begun next.past.begun d).partitions) (sym e.1)
            (subst (λ (z : Begun). IsClient o next d x z.partitions)
            (sym (begun_other t.reads c d (nth_after w.past c t.over) w.now.partitions w.past.begun e.0))
            (record {
              number = q.number;
              clock = q.clock;
              phase = doing_lasts gr d (last_begun w.past.begun d).partitions
                  (λ m l f. let s = sent m l in apart c d e.0 (client_is (ap (λ (z : Message). z.from) (sym s.is) ∙ f)))
                  (λ m l f. let s = sent m l in part_not_client (ap (λ (z : Message). z.to) (sym s.is) ∙ f))
                  x.phase q.phase;
            })))
            (client_cases d);
        reads = λ f rows h e. ⊎_elim
            (λ l.
            let q = in_mapped (read_over (last_begun w.past.begun c)) t.over l in
            subst (λ (z : Read). IsRead o next z.begun.partitions rows) (sym q.2)
            (read_grows o w next gr (last_begun w.past.begun c).partitions rows
            (reads q.0 rows q.1 (ap (λ (z : Read). z.rows) (sym q.2) ∙ e))))
            (λ l. read_grows o w next gr f.begun.partitions rows (k.reads f rows l e))
            (in_cases (option_to_list (option_map (read_over (last_begun w.past.begun c)) t.over)) w.past.reads h);
        answers = λ a h. ⊎_elim
            (λ l. answer_grows o w next gr a.answer (k.answers a l))
            (λ l.
            let q = in_mapped (past_answer (reads_after w.past c t) c) t.answer l in
            subst (λ (z : PastAnswer). IsAnswer o next z.answer) (sym q.2) (answer_grows o w next gr q.0 (answers q.0 q.1)))
            (in_cases w.past.answers (option_to_list (option_map (past_answer (reads_after w.past c t) c) t.answer)) h);
      }
