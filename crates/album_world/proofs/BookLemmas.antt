-- What led to each write, to each answer and to each note, and that it lasts.
use Rattle.std.proofs.Common.{◌≡◌, ℕ, ◌<◌, ◌≤◌, ◌+◌, ◌*◌, Bool, true, false, cond, eqb, nat_lt, List, [], ◌∷◌, ◌++◌, Option, Some, None, option_to_list, option_map, inl, inr, ⊎_elim, sym, ap, ◌∙◌, subst, refl, arith, eqb-true, ltb-true, le_refl, le_trans, if◌then◌else◌}
use Rattle.album_stamps.specs.declared.limits.TheConstants.{CLIENTS, MAX_READS}
use Rattle.album_stamps.specs.declared.refusals.Refusal.{Refusal}
use Rattle.album_stamps.specs.declared.refusals.Refusal.TheVariants as refusal
use Rattle.album_items.specs.declared.openings.Opening.{Opening}
use Rattle.album_calls.specs.declared.messages.Message.{Message}
use Rattle.album_partition.specs.Partition.{PartitionState}
use Rattle.album_reader.specs.Answers.{ReadVersion}
use Rattle.album_views.specs.Checks.{refusal_of}
use Rattle.album_views.specs.Views.{IsView}
use Rattle.album_views.specs.declared.viewing.Why.{Why}
use Rattle.album_permits.specs.Permits.{PermitState, IsPermit, permit_on}
use Rattle.album_permits.specs.declared.findings.Finding.TheVariants as finding
use Rattle.album_permits.specs.declared.notes.Note.{Note}
use Rattle.album_writer.specs.Writing.{WritingState, places_in}
use Rattle.album_permits.specs.declared.answers.Answer.{Answer}
use Rattle.album_permits.specs.declared.answers.Answer.TheVariants as answer
use Rattle.album_client.specs.declared.clients.Phase.{Phase}
use Rattle.album_client.specs.declared.clients.Phase.TheVariants as phase
use Rattle.album_client.specs.Terms.{Terms, terms_of}
use Rattle.album_client.specs.PendingAsks.{PendingAsk}
use Rattle.album_client.specs.Clients.{Client}
use Rattle.album_client.specs.Steps.{Transaction, Ended, TransitionState}
use Rattle.album_world.specs.State.{client_at, with_number}
use Rattle.album_world.specs.Past.{World, Asked, Begun, Read, PastAnswer, Noted, last_begun, last_read}
use Rattle.album_world.specs.Changes.Change.{AtPart, AtClient, Stops}
use Rattle.album_world.specs.Runs.{changed, read_over, reads_after, nth_after, past_answer, noted_of}
use Rattle.album_world.specs.Committing.{parts_of}
use Rattle.album_permits.specs.Meaning.{Finds, Notes}
use Rattle.album_world.specs.Viewed.{IsOnView}
use Rattle.album_world.specs.Rulings.{IsServedBy, IsBegunBy, HasNotes, IsNotedFor}
use Rattle.album_world.specs.Granted.{IsDrawnBy, IsGranted}
use Rattle.album_world.specs.Outcomes.{IsRepliedFull, IsAlbumFull, IsSpent, IsRefusedFor}
use Rattle.album_world.specs.Busy.{HasCause}
use Rattle.album_world.proofs.ListLemmas.{In, contains, within, in_left, in_right, in_cases, in_option, in_mapped, self_eqb, and_right}
use Rattle.album_world.proofs.Invariant.{IsKept}
use Rattle.album_world.proofs.TurnLemmas.{IsNew, client_cases, begun_other}
use Rattle.album_views.specs.ReadSets.{looker_of}
use Rattle.album_eval.specs.declared.policies.Policy.{Policy}

-- ---- the invariant

-- the write was begun by this permit, and a participant replied that it is full
pub record IsBegunFull (t : Terms) (w : World) (c s : ℕ) (permit : PermitState) : Type 0 where
  pub begun : IsBegunBy w c s permit
  pub full : IsRepliedFull t w begun.by

-- what led to an answer
abbrev pub IsLed : Terms → World → PastAnswer → Answer → Type 0
IsLed t w given (answer.Served served) = IsOnView t w given.client given.last (λ case. IsServedBy case served)
IsLed t w given (answer.Denied reasons) = IsOnView t w given.client given.last
    (λ case. Finds case (finding.Denied reasons))
IsLed t w given (answer.Missing object) = IsOnView t w given.client given.last
    (λ case. Finds case (finding.Missing object))
IsLed t w given (answer.Busy why) = HasCause t.policy w given why
IsLed t w given (answer.Committed s) = IsOnView t w given.client given.last (IsBegunBy w given.client s)
IsLed t w given (answer.Aborted s) = IsOnView t w given.client given.last (IsBegunBy w given.client s)
IsLed t w given (answer.Unsettled s why) = IsOnView t w given.client given.last (IsBegunFull t w given.client s)
IsLed t w given (answer.Refused why) = IsOnView t w given.client given.last
    (λ case. IsPermit case × IsRefusedFor w given.client why case)

-- a client's write was begun on the view that it had read last
pub record IsWriteOn (t : Terms) (w : World) (c : ℕ) (z : WritingState) (T : Transaction → Type 0) : Type 0 where
  pub read : Read
  pub rows : List ReadVersion
  pub last : last_read w.past.reads c ≡ Some read
  pub made : In read w.past.reads
  pub own : read.begun.client ≡ c
  pub shown : read.rows ≡ Some rows
  pub view : IsView (record { looker = looker_of t.policy read.principal; ask = read.ask; rows = rows })
  pub granted : IsPermit (permit_on t.policy read.principal read.ask rows)
  pub by : Transaction
  pub begun : In by w.past.transactions
  pub stamp : by.stamp ≡ z.stamp
  pub client : by.client ≡ c
  pub permit : by.permit ≡ permit_on t.policy read.principal read.ask rows
  pub parts : places_in z ≡ parts_of t by
  pub writer : z.client ≡ c
  pub notes : Noted
  pub noted : In notes w.past.noted
  pub notes_own : notes.client ≡ c
  pub notes_last : notes.last ≡ Some read
  pub is : T by

-- the viewing counts the reads that were made for the ask before this one
pub record IsCount (w : World) (c : ℕ) (pending_ask : PendingAsk) : Type 0 where
  pub taken : refusal_of pending_ask.viewing.ask pending_ask.principal ≡ None
  pub count : (last_begun w.past.begun c).nth ≡ pending_ask.viewing.reads + 1
  pub few : pending_ask.viewing.reads < MAX_READS

abbrev pub IsAt : Terms → World → ℕ → Phase → Type 0
IsAt t w c (phase.Idle tag) = Unit {0}
IsAt t w c (phase.Reads pending_ask round) = IsCount w c pending_ask
IsAt t w c (phase.Prepares z) = IsWriteOn t w c z (λ by. by.tag ≡ z.tag)
IsAt t w c (phase.Commits z) = IsWriteOn t w c z (λ by. Unit {0})

pub record IsBooked (t : Terms) (w : World) : Type 0 where
  pub granted : (by : Transaction) → In by w.past.transactions → IsGranted t w by
  pub led : (given : PastAnswer) → In given w.past.answers → IsLed t w given given.answer
  pub noting : (given : PastAnswer) → In given w.past.answers → IsNotedFor w given given.answer
  pub noted : (n : Noted) → In n w.past.noted → IsOnView t w n.client n.last (λ case. Notes case n.notes)
  pub at : (c : ℕ) → IsAt t w c (client_at w.now.clients c).phase

-- ---- what lasts

pub record Adds (w1 w2 : World) : Type 0 where
  pub transactions : (r : Transaction) → In r w1.past.transactions → In r w2.past.transactions
  pub reads : (f : Read) → In f w1.past.reads → In f w2.past.reads
  pub noted : (n : Noted) → In n w1.past.noted → In n w2.past.noted
  pub messages : (m : Message) → In m w1.now.messages → In m w2.now.messages
  pub clocks : (c : ℕ) → (client_at w1.now.clients c).clock.counter ≤ (client_at w2.now.clients c).clock.counter
  pub unused : (d s : ℕ) → IsDrawnBy w1 d s → (r : Transaction) → In r w2.past.transactions → r.stamp ≡ s
      → In r w1.past.transactions

module _ (t : Terms) (w1 w2 : World) (g : Adds w1 w2) where
  drawn_adds : (d s : ℕ) → IsDrawnBy w1 d s → IsDrawnBy w2 d s
  drawn_adds d s h = record { counter = h.counter; is = h.is; known = h.known; old = le_trans h.old (g.clocks d) }

  pub granted_adds : (r : Transaction) → IsGranted t w1 r → IsGranted t w2 r
  granted_adds r h = record {
    read = h.read;
    rows = h.rows;
    made = contains (g.reads h.read (within _ h.made));
    own = h.own;
    shown = h.shown;
    on = h.on;
    view = h.view;
    granted = h.granted;
    writes = h.writes;
    drawn = drawn_adds r.client r.stamp h.drawn;
    later = h.later;
  }

  pub view_adds : (c : ℕ) (last : Option Read) (P Q : PermitState → Type 0) → ((case : PermitState) → P case → Q case)
      → IsOnView t w1 c last P → IsOnView t w2 c last Q
  view_adds c last P Q more h = record {
    read = h.read;
    rows = h.rows;
    last_is = h.last_is;
    made = contains (g.reads h.read (within _ h.made));
    own = h.own;
    shown = h.shown;
    view = h.view;
    holds = more _ h.holds;
  }

  abbrev begun_adds : (c s : ℕ) (case : PermitState) → IsBegunBy w1 c s case → IsBegunBy w2 c s case
  begun_adds c s case h =
      record {
        granted = h.granted;
        by = h.by;
        begun = contains (g.transactions h.by (within _ h.begun));
        own = h.own;
        at = h.at;
        with_it = h.with_it;
      }

  full_adds : (r : Transaction) → IsRepliedFull t w1 r → IsRepliedFull t w2 r
  full_adds r h = record {
    message = h.message;
    part = h.part;
    sent = contains (g.messages h.message (within _ h.sent));
    of = h.of;
    from = h.from;
    to = h.to;
    tag = h.tag;
    says = h.says;
  }

  refused_adds : (c : ℕ) (why : Refusal) (case : PermitState) → IsRefusedFor w1 c why case → IsRefusedFor w2 c why case
  refused_adds c why case h = ⊎_elim
      (λ (d : (why ≡ refusal.AlbumFull) × IsAlbumFull w1 c case). inl (
        d.0,
        record {
          stamp = d.1.stamp;
          full = d.1.full;
          drawn = drawn_adds c d.1.stamp d.1.drawn;
          unused = λ r l e. d.1.unused r (contains (g.unused c d.1.stamp d.1.drawn r (within _ l) e)) e;
        },
      ))
      (λ (d : (why ≡ refusal.StampsSpent) × IsSpent w1 c). inr (d.0, le_trans d.1 (g.clocks c)))
      h

  cause_adds : (policy : Policy) (given : PastAnswer) (why : Why) → HasCause policy w1 given why
      → HasCause policy w2 given why
  cause_adds policy given why h =
      record {
        read = h.read;
        last_is = h.last_is;
        made = contains (g.reads h.read (within _ h.made));
        own = h.own;
        cause = h.cause;
      }

  pub led_adds : (given : PastAnswer) (a : Answer) → IsLed t w1 given a → IsLed t w2 given a
  led_adds given (answer.Served served) h = view_adds given.client given.last _ _ (λ case e. e) h
  led_adds given (answer.Denied reasons) h = view_adds given.client given.last _ _ (λ case e. e) h
  led_adds given (answer.Missing object) h = view_adds given.client given.last _ _ (λ case e. e) h
  led_adds given (answer.Busy why) h = cause_adds t.policy given why h
  led_adds given (answer.Committed s) h = view_adds given.client given.last (IsBegunBy w1 given.client s)
      (IsBegunBy w2 given.client s) (begun_adds given.client s) h
  led_adds given (answer.Aborted s) h = view_adds given.client given.last (IsBegunBy w1 given.client s)
      (IsBegunBy w2 given.client s) (begun_adds given.client s) h
  led_adds given (answer.Unsettled s why) h =
      view_adds given.client given.last (IsBegunFull t w1 given.client s) (IsBegunFull t w2 given.client s)
      (λ case e. record { begun = begun_adds given.client s case e.begun; full = full_adds e.begun.by e.full }) h
  led_adds given (answer.Refused why) h =
      view_adds given.client given.last (λ case. IsPermit case × IsRefusedFor w1 given.client why case)
      (λ case. IsPermit case × IsRefusedFor w2 given.client why case)
      (λ case e. (e.0, refused_adds given.client why case e.1)) h

  notes_add : (given : PastAnswer) → HasNotes w1 given → HasNotes w2 given
  notes_add given h = record {
    noted = h.noted;
    kept = contains (g.noted h.noted (within _ h.kept));
    own = h.own;
    same = h.same;
  }

  pub noting_adds : (given : PastAnswer) (a : Answer) → IsNotedFor w1 given a → IsNotedFor w2 given a
  noting_adds given (answer.Served served) h = notes_add given h
  noting_adds given (answer.Denied reasons) h = notes_add given h
  noting_adds given (answer.Missing object) h = notes_add given h
  noting_adds given (answer.Busy why) h = tt
  noting_adds given (answer.Committed s) h = notes_add given h
  noting_adds given (answer.Aborted s) h = notes_add given h
  noting_adds given (answer.Unsettled s why) h = notes_add given h
  noting_adds given (answer.Refused why) h = notes_add given h

  pub write_adds : (c : ℕ) (z : WritingState) (T : Transaction → Type 0)
      → last_read w2.past.reads c ≡ last_read w1.past.reads c → IsWriteOn t w1 c z T → IsWriteOn t w2 c z T
  write_adds c z T same h = record {
    read = h.read;
    rows = h.rows;
    last = same ∙ h.last;
    made = g.reads h.read h.made;
    own = h.own;
    shown = h.shown;
    view = h.view;
    granted = h.granted;
    by = h.by;
    begun = g.transactions h.by h.begun;
    stamp = h.stamp;
    client = h.client;
    permit = h.permit;
    parts = h.parts;
    writer = h.writer;
    notes = h.notes;
    noted = g.noted h.notes h.noted;
    notes_own = h.notes_own;
    notes_last = h.notes_last;
    is = h.is;
  }

  pub at_adds : (c : ℕ) (f : Phase) → last_begun w2.past.begun c ≡ last_begun w1.past.begun c
      → last_read w2.past.reads c ≡ last_read w1.past.reads c → IsAt t w1 c f → IsAt t w2 c f
  at_adds c (phase.Idle tag) n same h = tt
  at_adds c (phase.Reads pending_ask round) n same h =
      record { taken = h.taken; count = ap (λ (z : Begun). z.nth) n ∙ h.count; few = h.few }
  at_adds c (phase.Prepares z) n same h = write_adds c z (λ by. by.tag ≡ z.tag) same h
  at_adds c (phase.Commits z) n same h = write_adds c z (λ by. Unit {0}) same h

-- where notes were made, whatever the answer is
pub noting_by : (w : World) (given : PastAnswer) (a : Answer) → HasNotes w given → IsNotedFor w given a
noting_by w given (answer.Served served) h = h
noting_by w given (answer.Denied reasons) h = h
noting_by w given (answer.Missing object) h = h
noting_by w given (answer.Busy why) h = tt
noting_by w given (answer.Committed s) h = h
noting_by w given (answer.Aborted s) h = h
noting_by w given (answer.Unsettled s why) h = h
noting_by w given (answer.Refused why) h = h

-- ---- at a partition, and at a stop

same_booked : (t : Terms) (w next : World) → Adds w next → IsBooked t w
    → ((r : Transaction) → In r next.past.transactions → In r w.past.transactions)
    → ((given : PastAnswer) → In given next.past.answers → In given w.past.answers)
    → ((n : Noted) → In n next.past.noted → In n w.past.noted)
    → ((c : ℕ) → IsAt t next c (client_at next.now.clients c).phase) → IsBooked t next
same_booked t w next g b rs ts ns at = record {
  granted = λ r l. granted_adds t w next g r (b.granted r (rs r l));
  led = λ given l. led_adds t w next g given given.answer (b.led given (ts given l));
  noting = λ given l. noting_adds t w next g given given.answer (b.noting given (ts given l));
  noted = λ n l. view_adds t w next g n.client n.last (λ case. Notes case n.notes) (λ case. Notes case n.notes)
      (λ case e. e) (b.noted n (ns n l));
  at = at;
}

part_adds : (w : World) (p : ℕ) (h : PartitionState) (sent : List Message) → Adds w (changed w (AtPart p h sent))
part_adds w p h sent = record {
  transactions = λ r l. l;
  reads = λ f l. l;
  noted = λ n l. l;
  messages = λ m l. in_left sent l;
  clocks = λ c. le_refl _;
  unused = λ d s b r l e. l;
}

pub part_booked : (t : Terms) (w : World) → IsBooked t w → (p : ℕ) (h : PartitionState) (sent : List Message)
    → IsBooked t (changed w (AtPart p h sent))
part_booked t w b p h sent =
    let next = changed w (AtPart p h sent) in
    let g = part_adds w p h sent in
    same_booked t w next g b (λ r l. l) (λ given l. l) (λ n l. l)
    (λ c. at_adds t w next g c (client_at w.now.clients c).phase refl refl (b.at c))

-- who was stopped, and what was asked, is nothing to what is booked
module _ (t : Terms) (w : World) (b : IsBooked t w) (stopped : List ℕ) (asked : List Asked) where
  abbrev alike : World
  alike = record { now = record w.now { stopped = stopped }; past = record w.past { asked = asked } }

  alike_adds : Adds w alike
  alike_adds = record {
    transactions = λ r l. l;
    reads = λ f l. l;
    noted = λ n l. l;
    messages = λ m l. l;
    clocks = λ c. le_refl _;
    unused = λ d s b r l e. l;
  }

  still_booked : IsBooked t alike
  still_booked = same_booked t w alike alike_adds b (λ r l. l) (λ given l. l) (λ n l. l)
      (λ d. at_adds t w alike alike_adds d (client_at w.now.clients d).phase refl refl (b.at d))

pub stop_booked : (t : Terms) (w : World) → IsBooked t w → (c : ℕ) → IsBooked t (changed w (Stops c))
stop_booked t w b c = still_booked t w b (with_number c w.now.stopped) w.past.asked

pub request_booked : (t : Terms) (w : World) → IsBooked t w → (a : Asked)
    → IsBooked t (record w { past = record w.past { asked = a ∷ w.past.asked } })
request_booked t w b a = still_booked t w b w.now.stopped (a ∷ w.past.asked)

-- ---- a client's turn

pub begun_client : (bs : List Begun) (c : ℕ) → (last_begun bs c).client ≡ c
begun_client [] c = refl
begun_client (a ∷ bs) c = go (eqb a.client c) refl (begun_client bs c)
  where
    go : (b : Bool) → eqb a.client c ≡ b → (last_begun bs c).client ≡ c → (cond b a (last_begun bs c)).client ≡ c
    go true e rest = eqb-true a.client c e
    go false e rest = rest

pub last_other : (c d : ℕ) (begun : Begun) (e : Option Ended) (fs : List Read) → begun.client ≡ c → eqb c d ≡ false
    → last_read (option_to_list (option_map (read_over begun) e) ++ fs) d ≡ last_read fs d
last_other c d begun None fs is ne = refl
last_other c d begun (Some e) fs is ne = rw (subst (λ (z : ℕ). eqb z d ≡ false) (sym is) ne) refl

pub last_here : (c : ℕ) (begun : Begun) (e : Ended) (fs : List Read) → begun.client ≡ c
    → last_read (read_over begun e ∷ fs) c ≡ Some (read_over begun e)
last_here c begun e fs is = ap (λ (b : Bool). if b then Some (read_over begun e) else last_read fs c)
    (ap (λ (z : ℕ). eqb z c) is ∙ self_eqb c)

module _ (o : Opening) (w : World) (k : IsKept o w) (b : IsBooked (terms_of o) w) (c : ℕ) (t : TransitionState)
    (number : t.client.number ≡ c) (own : t.client.clock.client ≡ c) where
  abbrev next : World
  next = changed w (AtClient c t)

  abbrev old : Client
  old = client_at w.now.clients c

  abbrev begun_here : Begun
  begun_here = last_begun w.past.begun c

  module _ (up : old.clock.counter ≤ t.client.clock.counter) (news : (r : Transaction) → t.writes ≡ Some r
      → IsNew c o.first old.clock.counter t r) where
    -- a stamp that was drawn before isn't that of a write that begins now
    not_new : (d s : ℕ) → IsDrawnBy w d s → (r : Transaction) → t.writes ≡ Some r → r.stamp ≡ s → ⊥
    not_new d s h r l e =
        let n = news r l in
        let a : h.counter * 65536 + d ≡ n.at * 65536 + c = sym h.is ∙ sym e ∙ n.is in
        let above : old.clock.counter < n.at = n.above in
        let lo : d < 65536 = ltb-true d CLIENTS (and_right (nat_lt 0 d) (nat_lt d CLIENTS) h.known) in
        let hi : c < 65536 = n.high in
        let same : d ≡ c = omega arith in
        let q : h.counter ≤ old.clock.counter = subst
        (λ (z : ℕ). h.counter ≤ (client_at w.now.clients z).clock.counter) same h.old in
        omega arith

    pub turn_adds : Adds w next
    turn_adds = record {
      transactions = λ r l. in_left (option_to_list t.writes) l;
      reads = λ f l. in_right (option_to_list (option_map (read_over begun_here) t.over)) l;
      noted = λ n l. in_left (option_to_list (option_map (noted_of (reads_after w.past c t) c) t.noted)) l;
      messages = λ m l. in_left t.sent l;
      clocks = λ d. ⊎_elim
          (λ (e : (c ≡ d) × (client_at next.now.clients d ≡ t.client)).
          subst (λ (z : Client). (client_at w.now.clients d).clock.counter ≤ z.clock.counter) (sym e.1)
          (subst (λ (z : ℕ). (client_at w.now.clients z).clock.counter ≤ t.client.clock.counter) e.0 up))
          (λ (e : (eqb c d ≡ false) × (client_at next.now.clients d ≡ client_at w.now.clients d)).
          subst (λ (z : Client). (client_at w.now.clients d).clock.counter ≤ z.clock.counter) (sym e.1) (le_refl _))
          (client_cases o w k c t number own d);
      unused = λ d s h r l e. ⊎_elim (λ i. i) (λ i. absurd (not_new d s h r (in_option t.writes i) e))
          (in_cases w.past.transactions (option_to_list t.writes) l);
    }

    pub turn_booked : IsAt (terms_of o) next c t.client.phase
        → ((r : Transaction) → t.writes ≡ Some r → IsGranted (terms_of o) next r)
        → ((a : Answer) → t.answer ≡ Some a → IsLed (terms_of o) next (past_answer (reads_after w.past c t) c a) a)
        → ((a : Answer) → t.answer ≡ Some a → IsNotedFor next (past_answer (reads_after w.past c t) c a) a)
        → ((n : List Note) → t.noted ≡ Some n → IsOnView (terms_of o) next c (last_read (reads_after w.past c t) c)
        (λ case. Notes case n)) → IsBooked (terms_of o) next
    turn_booked does begins answers noting notes = record {
      granted = λ r h. ⊎_elim (λ l. granted_adds (terms_of o) w next turn_adds r (b.granted r l))
          (λ l. begins r (in_option t.writes l)) (in_cases w.past.transactions (option_to_list t.writes) h);
      led = λ a h. ⊎_elim
          (λ l. led_adds (terms_of o) w next turn_adds a a.answer (b.led a l))
          (λ l. let q = in_mapped (past_answer (reads_after w.past c t) c) t.answer l in
          subst (λ (z : PastAnswer). IsLed (terms_of o) next z z.answer) (sym q.2) (answers q.0 q.1))
          (in_cases w.past.answers (option_to_list (option_map (past_answer (reads_after w.past c t) c) t.answer)) h);
      noting = λ a h. ⊎_elim
          (λ l. noting_adds (terms_of o) w next turn_adds a a.answer (b.noting a l))
          (λ l. let q = in_mapped (past_answer (reads_after w.past c t) c) t.answer l in
          subst (λ (z : PastAnswer). IsNotedFor next z z.answer) (sym q.2) (noting q.0 q.1))
          (in_cases w.past.answers (option_to_list (option_map (past_answer (reads_after w.past c t) c) t.answer)) h);
      noted = λ a h. ⊎_elim
          (λ l. view_adds (terms_of o) w next turn_adds a.client a.last (λ case. Notes case a.notes)
          (λ case. Notes case a.notes) (λ case e. e) (b.noted a l))
          (λ l. let q = in_mapped (noted_of (reads_after w.past c t) c) t.noted l in
          subst (λ (z : Noted). IsOnView (terms_of o) next z.client z.last (λ case. Notes case z.notes)) (sym q.2)
          (notes q.0 q.1))
          (in_cases w.past.noted (option_to_list (option_map (noted_of (reads_after w.past c t) c) t.noted)) h);
      at = λ d. ⊎_elim
          (λ (e : (c ≡ d) × (client_at next.now.clients d ≡ t.client)).
          subst (λ (z : Client). IsAt (terms_of o) next d z.phase) (sym e.1)
          (subst (λ (z : ℕ). IsAt (terms_of o) next z t.client.phase) e.0 does))
          (λ (e : (eqb c d ≡ false) × (client_at next.now.clients d ≡ client_at w.now.clients d)).
          subst (λ (z : Client). IsAt (terms_of o) next d z.phase) (sym e.1)
          (at_adds (terms_of o) w next turn_adds d (client_at w.now.clients d).phase
          (begun_other t.reads c d (nth_after w.past c t.over) w.now.partitions w.past.begun e.0)
          (last_other c d begun_here t.over w.past.reads (begun_client w.past.begun c) e.0) (b.at d)))
          (client_cases o w k c t number own d);
    }
