-- What is true of each request: its reads, its write and its answer are for it alone. Each turn of a client keeps that.
use Rattle.std.proofs.Common.{◌≡◌, ℕ, ◌≤◌, Bool, true, false, eqb, List, [], ◌∷◌, ◌++◌, length, Option, Some, None, option_to_list, option_map, ◌⊎◌, inl, inr, ⊎_elim, sym, ap, ◌∙◌, subst, refl, arith, eqb-true, append-nil, if◌then◌else◌}
use Rattle.album_items.specs.declared.openings.Opening.{Opening}
use Rattle.album_writer.specs.Writing.{WritingState}
use Rattle.album_permits.specs.declared.answers.Answer.{Answer}
use Rattle.album_client.specs.declared.clients.Phase.{Phase}
use Rattle.album_client.specs.declared.clients.Phase.TheVariants as phase
use Rattle.album_client.specs.PendingAsks.{PendingAsk}
use Rattle.album_client.specs.Clients.{Client}
use Rattle.album_client.specs.Steps.{Transaction, Ended, TransitionState}
use Rattle.album_world.specs.State.{client_at}
use Rattle.album_world.specs.Past.{World, Asked, Begun, Read, PastAnswer, last_asked, last_begun, last_read}
use Rattle.album_world.specs.Changes.Change.{AtClient}
use Rattle.album_world.specs.Runs.{changed, read_over, reads_after, nth_after, past_answer, asked_on, asked_after}
use Rattle.album_world.specs.Requests.{AreAtOrAfter, HasBegun, IsAnsweredLast}
use Rattle.album_world.proofs.ListLemmas.{In, in_left, in_right, in_cases, in_option, option_in, in_mapped, in_uncons, in_nil, some_same, none_some, apart}
use Rattle.album_world.proofs.ListLemmas.In.{here, there}
use Rattle.album_world.proofs.Invariant.{IsKept}
use Rattle.album_world.proofs.TurnLemmas.{client_cases, begun_other}
use Rattle.album_world.proofs.BookLemmas.{begun_client, last_other}

-- ---- the invariant

pub record IsReadOf (w : World) (a : Asked) (f : Read) : Type 0 where
  pub made : In f w.past.reads
  pub own : f.begun.client ≡ a.client
  pub ask : f.ask ≡ a.ask
  pub principal : f.principal ≡ a.principal
  pub later : AreAtOrAfter f.begun.partitions a.partitions

pub record IsWriteOf (w : World) (a : Asked) (r : Transaction) : Type 0 where
  pub begun : In r w.past.transactions
  pub own : r.client ≡ a.client
  pub ask : r.permit.view.ask ≡ a.ask
  pub principal : r.permit.principal ≡ a.principal

pub record IsAnswerOf (w : World) (a : Asked) (x : Answer) : Type 0 where
  pub given : In (past_answer a.reads a.client x) w.past.answers
  pub last : last_read a.reads a.client ≡ None → ⊥
  pub begun : HasBegun a.writes x

-- the reads, writes and answers of a request are for it alone; there is at most one write and at most one answer
pub record IsAlone (w : World) (a : Asked) : Type 0 where
  pub reads : (f : Read) → In f a.reads → IsReadOf w a f
  pub writes : (r : Transaction) → In r a.writes → IsWriteOf w a r
  pub one_write : length a.writes ≤ 1
  pub one_answer : length a.answers ≤ 1
  pub answers : (x : Answer) → In x a.answers → IsAnswerOf w a x

pub record IsToOne (w : World) (x : PastAnswer) : Type 0 where
  pub asked : Asked
  pub made : In asked w.past.asked
  pub answers : In x.answer asked.answers
  pub is : x ≡ past_answer asked.reads asked.client x.answer

pub record IsForOne (w : World) (r : Transaction) : Type 0 where
  pub asked : Asked
  pub made : In asked w.past.asked
  pub writes : In r asked.writes

-- a client that reads has not answered its last request
pub record ReadsFor (w : World) (c : ℕ) (pending_ask : PendingAsk) : Type 0 where
  pub asked : Asked
  pub last : last_asked w.past.asked c ≡ Some asked
  pub ask : asked.ask ≡ pending_ask.viewing.ask
  pub principal : asked.principal ≡ pending_ask.principal
  pub unwritten : asked.writes ≡ []
  pub unanswered : asked.answers ≡ []
  pub later : AreAtOrAfter (last_begun w.past.begun c).partitions asked.partitions

-- nor has one that writes, which began the write for it
pub record WritesFor (w : World) (c : ℕ) (z : WritingState) : Type 0 where
  pub asked : Asked
  pub last : last_asked w.past.asked c ≡ Some asked
  pub unanswered : asked.answers ≡ []
  pub by : Transaction
  pub written : asked.writes ≡ by ∷ []
  pub at : by.stamp ≡ z.stamp
  pub read : last_read asked.reads c ≡ last_read w.past.reads c
  pub some : last_read w.past.reads c ≡ None → ⊥

-- the last request of one that is idle is answered
abbrev pub IsUnder : World → ℕ → Phase → Type 0
IsUnder w c (phase.Idle tag) = (a : Asked) → last_asked w.past.asked c ≡ Some a → length a.answers ≡ 1
IsUnder w c (phase.Reads pending_ask round) = ReadsFor w c pending_ask
IsUnder w c (phase.Prepares z) = WritesFor w c z
IsUnder w c (phase.Commits z) = WritesFor w c z

-- those before the last one of a client are answered
abbrev pub AreInTurn : List Asked → Type 0
AreInTurn [] = Unit {0}
AreInTurn (a ∷ more) =
    ((b : Asked) → In b more → a.client ≡ b.client → length b.answers ≡ 1) × AreInTurn more

-- all this, but for one client that is having its turn
pub record IsRequestedBut (w : World) (c : ℕ) : Type 0 where
  pub alone : (a : Asked) → In a w.past.asked → IsAlone w a
  pub given : (x : PastAnswer) → In x w.past.answers → IsToOne w x
  pub begun : (r : Transaction) → In r w.past.transactions → IsForOne w r
  pub turns : AreInTurn w.past.asked
  pub at : (d : ℕ) → eqb c d ≡ false → IsUnder w d (client_at w.now.clients d).phase

pub record IsRequested (w : World) : Type 0 where
  pub alone : (a : Asked) → In a w.past.asked → IsAlone w a
  pub given : (x : PastAnswer) → In x w.past.answers → IsToOne w x
  pub begun : (r : Transaction) → In r w.past.transactions → IsForOne w r
  pub turns : AreInTurn w.past.asked
  pub at : (c : ℕ) → IsUnder w c (client_at w.now.clients c).phase

-- ---- the last request, and how it continues

pub last_in : (xs : List Asked) (c : ℕ) (a : Asked) → last_asked xs c ≡ Some a → In a xs × (a.client ≡ c)
last_in [] c a e = none_some e
last_in (b ∷ xs) c a e = go (eqb b.client c) refl e (last_in xs c a)
  where
    go : (f : Bool) → eqb b.client c ≡ f → (if f then Some b else last_asked xs c) ≡ Some a
        → (last_asked xs c ≡ Some a → In a xs × (a.client ≡ c)) → In a (b ∷ xs) × (a.client ≡ c)
    go true q h rest = (
      subst (λ (z : Asked). In z (b ∷ xs)) (some_same h) here,
      ap (λ (z : Asked). z.client) (sym (some_same h)) ∙ eqb-true b.client c q,
    )
    go false q h rest = let r = rest h in (there r.0, r.1)

module _ (begun : Begun) (c : ℕ) (t : TransitionState) where
  abbrev on : Asked → Asked
  on a = asked_on begun t a

  abbrev after : List Asked → List Asked
  after xs = asked_after begun c t xs

  pub last_on : (xs : List Asked) (a : Asked) → last_asked xs c ≡ Some a → last_asked (after xs) c ≡ Some (on a)
  last_on [] a e = none_some e
  last_on (b ∷ xs) a e = go (eqb b.client c) refl e (last_on xs a)
    where
      go : (f : Bool) → eqb b.client c ≡ f → (if f then Some b else last_asked xs c) ≡ Some a
          → (last_asked xs c ≡ Some a → last_asked (after xs) c ≡ Some (on a))
          → last_asked (if f then on b ∷ xs else b ∷ after xs) c ≡ Some (on a)
      go true q h rest = rw q (ap (λ (z : Asked). Some (on z)) (some_same h))
      go false q h rest = rw q (rest h)

  pub last_beside : (xs : List Asked) (d : ℕ) → eqb c d ≡ false → last_asked (after xs) d ≡ last_asked xs d
  last_beside [] d ne = refl
  last_beside (b ∷ xs) d ne = go (eqb b.client c) refl (last_beside xs d ne)
    where
      go : (f : Bool) → eqb b.client c ≡ f → last_asked (after xs) d ≡ last_asked xs d
          → last_asked (if f then on b ∷ xs else b ∷ after xs) d ≡ last_asked (b ∷ xs) d
      go true q rest =
          let n : eqb b.client d ≡ false = subst (λ (z : ℕ). eqb z d ≡ false) (sym (eqb-true b.client c q)) ne in
          rw n refl
      go false q rest = ap (λ (z : Option Asked). if eqb b.client d then Some b else z) rest

  -- a request stays as it is, or is the last one of the client
  pub stays_or_last : (xs : List Asked) (a : Asked) → In a xs → In a (after xs) ⊎ (last_asked xs c ≡ Some a)
  stays_or_last [] a h = in_nil h
  stays_or_last (b ∷ xs) a h = go (eqb b.client c) refl (in_uncons h) (stays_or_last xs a)
    where
      go : (f : Bool) → eqb b.client c ≡ f → (a ≡ b) ⊎ In a xs
          → (In a xs → In a (after xs) ⊎ (last_asked xs c ≡ Some a))
          → In a (if f then on b ∷ xs else b ∷ after xs) ⊎ ((if f then Some b else last_asked xs c) ≡ Some a)
      go true q (inl e) rest = inr (ap Some (sym e))
      go true q (inr i) rest = inl (there i)
      go false q (inl e) rest = inl (subst (λ (z : Asked). In z (b ∷ after xs)) (sym e) here)
      go false q (inr i) rest = ⊎_elim (λ j. inl (there j)) inr (rest i)

  -- and each was there, or is the last one with what this turn adds to it
  pub was_or_on : (xs : List Asked) (a b : Asked) → last_asked xs c ≡ Some b → In a (after xs) → In a xs ⊎ (a ≡ on b)
  was_or_on [] a b e h = in_nil h
  was_or_on (d ∷ xs) a b e h = go (eqb d.client c) refl e h (was_or_on xs a b)
    where
      go : (f : Bool) → eqb d.client c ≡ f → (if f then Some d else last_asked xs c) ≡ Some b
          → In a (if f then on d ∷ xs else d ∷ after xs)
          → (last_asked xs c ≡ Some b → In a (after xs) → In a xs ⊎ (a ≡ on b)) → In a (d ∷ xs) ⊎ (a ≡ on b)
      go true q k i rest = ⊎_elim (λ (s : a ≡ on d). inr (s ∙ ap on (some_same k))) (λ j. inl (there j)) (in_uncons i)
      go false q k i rest = ⊎_elim
          (λ (s : a ≡ d). inl (subst (λ (z : Asked). In z (d ∷ xs)) (sym s) here))
          (λ j. ⊎_elim (λ l. inl (there l)) inr (rest k j)) (in_uncons i)

  pub on_in : (xs : List Asked) (a : Asked) → last_asked xs c ≡ Some a → In (on a) (after xs)
  on_in xs a e = (last_in (after xs) c (on a) (last_on xs a e)).0

  pub turns_after : (xs : List Asked) (b : Asked) → last_asked xs c ≡ Some b → AreInTurn xs → AreInTurn (after xs)
  turns_after [] b e h = none_some e
  turns_after (a ∷ xs) b e h = go (eqb a.client c) refl e (turns_after xs b)
    where
      go : (f : Bool) → eqb a.client c ≡ f → (if f then Some a else last_asked xs c) ≡ Some b
          → (last_asked xs c ≡ Some b → AreInTurn xs → AreInTurn (after xs))
          → AreInTurn (if f then on a ∷ xs else a ∷ after xs)
      go true q k rest = (λ d i s. h.0 d i s, h.1)
      go false q k rest = (
        λ d i s. ⊎_elim (λ j. h.0 d j s)
            (λ (n : d ≡ on b). apart a.client c q
            (s ∙ ap (λ (z : Asked). z.client) n ∙ (last_in xs c b k).1))
            (was_or_on xs d b k i),
        rest k h.1,
      )

-- a client whose last request is answered has no other that isn't
pub all_answered : (xs : List Asked) (c : ℕ) → AreInTurn xs
    → ((a : Asked) → last_asked xs c ≡ Some a → length a.answers ≡ 1) → (b : Asked) → In b xs → c ≡ b.client
    → length b.answers ≡ 1
all_answered [] c h last b i e = in_nil i
all_answered (a ∷ xs) c h last b i e = go (eqb a.client c) refl last (in_uncons i) (all_answered xs c h.1)
  where
    go : (f : Bool) → eqb a.client c ≡ f
        → ((d : Asked) → (if f then Some a else last_asked xs c) ≡ Some d → length d.answers ≡ 1) → (b ≡ a) ⊎ In b xs
        → (((d : Asked) → last_asked xs c ≡ Some d → length d.answers ≡ 1) → (b : Asked) → In b xs → c ≡ b.client
        → length b.answers ≡ 1) → length b.answers ≡ 1
    go true q l (inl s) rest = subst (λ (z : Asked). length z.answers ≡ 1) (sym s) (l a refl)
    go true q l (inr j) rest = h.0 b j (eqb-true a.client c q ∙ e)
    go false q l (inl s) rest = apart a.client c q (ap (λ (z : Asked). z.client) (sym s) ∙ sym e)
    go false q l (inr j) rest = rest l b j e

-- ---- what lasts

-- what was answered, read and begun is there still
pub record Lasts (w1 w2 : World) : Type 0 where
  pub transactions : (r : Transaction) → In r w1.past.transactions → In r w2.past.transactions
  pub reads : (f : Read) → In f w1.past.reads → In f w2.past.reads
  pub given : (x : PastAnswer) → In x w1.past.answers → In x w2.past.answers

module _ (w1 w2 : World) (l : Lasts w1 w2) where
  read_lasts : (a : Asked) (f : Read) → IsReadOf w1 a f → IsReadOf w2 a f
  read_lasts a f h = record {
    made = l.reads f h.made;
    own = h.own;
    ask = h.ask;
    principal = h.principal;
    later = h.later;
  }

  write_lasts : (a : Asked) (r : Transaction) → IsWriteOf w1 a r → IsWriteOf w2 a r
  write_lasts a r h =
      record { begun = l.transactions r h.begun; own = h.own; ask = h.ask; principal = h.principal }

  pub alone_lasts : (a : Asked) → IsAlone w1 a → IsAlone w2 a
  alone_lasts a h = record {
    reads = λ f i. read_lasts a f (h.reads f i);
    writes = λ r i. write_lasts a r (h.writes r i);
    one_write = h.one_write;
    one_answer = h.one_answer;
    answers = λ x i. let q = h.answers x i in
        record { given = l.given _ q.given; last = q.last; begun = q.begun };
  }

-- ---- a client's turn

-- what a turn does that is for the request
pub record IsTurnFor (w : World) (c : ℕ) (t : TransitionState) (b : Asked) : Type 0 where
  pub over : (e : Ended) → t.over ≡ Some e → (e.ask ≡ b.ask) × (e.principal ≡ b.principal) ×
      AreAtOrAfter (last_begun w.past.begun c).partitions b.partitions
  pub writes : (r : Transaction) → t.writes ≡ Some r
      → (b.writes ≡ []) × (r.client ≡ c) × (r.permit.view.ask ≡ b.ask) × (r.permit.principal ≡ b.principal)
  pub begun : (x : Answer) → t.answer ≡ Some x → HasBegun (b.writes ++ option_to_list t.writes) x
  pub read : (x : Answer) → t.answer ≡ Some x
      → last_read (asked_on (last_begun w.past.begun c) t b).reads c ≡ last_read (reads_after w.past c t) c
  pub some : (x : Answer) → t.answer ≡ Some x → last_read (reads_after w.past c t) c ≡ None → ⊥

few_more : {A : Type 0} (xs : List A) (o : Option A) → (xs ≡ []) ⊎ ((o ≡ None) × (length xs ≤ 1))
    → length (xs ++ option_to_list o) ≤ 1
few_more xs None (inl e) = subst (λ (z : List _). length (z ++ []) ≤ 1) (sym e) (omega arith)
few_more xs (Some x) (inl e) = subst (λ (z : List _). length (z ++ x ∷ []) ≤ 1) (sym e) (omega arith)
few_more xs o (inr h) = subst (λ (z : Option _). length (xs ++ option_to_list z) ≤ 1) (sym h.0)
    (subst (λ (z : List _). length z ≤ 1) (sym (append-nil xs)) h.1)

module _ (o : Opening) (w : World) (k : IsKept o w) (c : ℕ) (q : IsRequestedBut w c) (t : TransitionState)
    (number : t.client.number ≡ c) (own : t.client.clock.client ≡ c) (b : Asked)
    (last : last_asked w.past.asked c ≡ Some b) (unanswered : b.answers ≡ []) (h : IsTurnFor w c t b) where
  abbrev pub next : World
  next = changed w (AtClient c t)

  abbrev begun_here : Begun
  begun_here = last_begun w.past.begun c

  abbrev now_on : Asked
  now_on = asked_on begun_here t b

  mine : b.client ≡ c
  mine = (last_in w.past.asked c b last).1

  was : In b w.past.asked
  was = (last_in w.past.asked c b last).0

  lasts : Lasts w next
  lasts = record {
    transactions = λ r i. in_left (option_to_list t.writes) i;
    reads = λ f i. in_right (option_to_list (option_map (read_over begun_here) t.over)) i;
    given = λ x i. in_left (option_to_list (option_map (past_answer (reads_after w.past c t) c) t.answer)) i;
  }

  pub on_last : last_asked next.past.asked c ≡ Some now_on
  on_last = last_on begun_here c t w.past.asked b last

  read_on : (f : Read) → In f (option_to_list (option_map (read_over begun_here) t.over)) → IsReadOf next now_on f
  read_on f i =
      let p = in_mapped (read_over begun_here) t.over i in
      let e = h.over p.0 p.1 in
      record {
        made = in_left w.past.reads i;
        own = ap (λ (z : Read). z.begun.client) p.2 ∙ begun_client w.past.begun c ∙ sym mine;
        ask = ap (λ (z : Read). z.ask) p.2 ∙ e.0;
        principal = ap (λ (z : Read). z.principal) p.2 ∙ e.1;
        later = subst (λ (z : Read). AreAtOrAfter z.begun.partitions b.partitions) (sym p.2) e.2;
      }

  -- what was read for it before is of it still
  same_read : (f : Read) → IsReadOf next b f → IsReadOf next now_on f
  same_read f d = record { made = d.made; own = d.own; ask = d.ask; principal = d.principal; later = d.later }

  same_write : (r : Transaction) → IsWriteOf next b r → IsWriteOf next now_on r
  same_write r d = record { begun = d.begun; own = d.own; ask = d.ask; principal = d.principal }

  write_on : (r : Transaction) → t.writes ≡ Some r → IsWriteOf next now_on r
  write_on r e =
      let d = h.writes r e in
      record {
        begun = in_right w.past.transactions (option_in t.writes e);
        own = d.1 ∙ sym mine;
        ask = d.2;
        principal = d.3;
      }

  one_here : (f : Option Transaction) → t.writes ≡ f → (b.writes ≡ []) ⊎ ((f ≡ None) × (length b.writes ≤ 1))
  one_here None e = inr (refl, (q.alone b was).one_write)
  one_here (Some r) e = inl (h.writes r e).0

  given_here : (x : Answer) → t.answer ≡ Some x → past_answer now_on.reads now_on.client x ≡ past_answer (reads_after w.past c t) c x
  given_here x e =
      ap (λ (z : ℕ). past_answer now_on.reads z x) mine
      ∙ ap (λ (z : Option Read). let d : PastAnswer = record { client = c; last = z; answer = x } in d) (h.read x e)

  answer_in : (x : Answer) → In x now_on.answers → t.answer ≡ Some x
  answer_in x i = ⊎_elim
      (λ j. in_nil (subst (λ (z : List Answer). In x z) unanswered j))
      (λ j. in_option t.answer j)
      (in_cases b.answers (option_to_list t.answer) i)

  answer_given : (x : Answer) → t.answer ≡ Some x → In (past_answer (reads_after w.past c t) c x) next.past.answers
  answer_given x e = in_right w.past.answers (go t.answer e)
    where
      go : (f : Option Answer) → f ≡ Some x → In (past_answer (reads_after w.past c t) c x)
          (option_to_list (option_map (past_answer (reads_after w.past c t) c) f))
      go None e = none_some e
      go (Some y) e = subst (λ (z : Answer). In (past_answer (reads_after w.past c t) c z)
          (past_answer (reads_after w.past c t) c y ∷ [])) (some_same e) here

  alone_now : IsAlone next now_on
  alone_now =
      let old = alone_lasts w next lasts b (q.alone b was) in
      record {
        reads = λ f i. ⊎_elim (λ j. read_on f j) (λ j. same_read f (old.reads f j))
            (in_cases (option_to_list (option_map (read_over begun_here) t.over)) b.reads i);
        writes = λ r i. ⊎_elim (λ j. same_write r (old.writes r j)) (λ j. write_on r (in_option t.writes j))
            (in_cases b.writes (option_to_list t.writes) i);
        one_write = few_more b.writes t.writes (one_here t.writes refl);
        one_answer = few_more b.answers t.answer (inl unanswered);
        answers = λ x i. let e = answer_in x i in
            record {
              given = subst (λ (z : PastAnswer). In z next.past.answers) (sym (given_here x e)) (answer_given x e);
              last = λ none. h.some x e (sym (h.read x e)
                  ∙ subst (λ (z : ℕ). last_read now_on.reads z ≡ None) mine none);
              begun = h.begun x e;
            };
      }

  -- an answer that was given before is to the same request as before
  given_lasts : (x : PastAnswer) → IsToOne w x → IsToOne next x
  given_lasts x d = record {
    asked = d.asked;
    made = ⊎_elim (λ i. i)
        (λ e. in_nil (subst (λ (z : List Answer). In x.answer z)
        (ap (λ (z : Asked). z.answers) (some_same (sym e ∙ last)) ∙ unanswered) d.answers))
        (stays_or_last begun_here c t w.past.asked d.asked d.made);
    answers = d.answers;
    is = d.is;
  }

  begun_lasts : (r : Transaction) → IsForOne w r → IsForOne next r
  begun_lasts r d = ⊎_elim
      (λ i. record { asked = d.asked; made = i; writes = d.writes })
      (λ e. record {
        asked = now_on;
        made = on_in begun_here c t w.past.asked b last;
        writes = in_left (option_to_list t.writes)
            (subst (λ (z : Asked). In r z.writes) (some_same (sym e ∙ last)) d.writes);
      })
      (stays_or_last begun_here c t w.past.asked d.asked d.made)

  writes_beside : (d : ℕ) → eqb c d ≡ false → (z : WritingState) → WritesFor w d z → WritesFor next d z
  writes_beside d ne z u =
      let same = last_other c d begun_here t.over w.past.reads (begun_client w.past.begun c) ne in
      record {
        asked = u.asked;
        last = last_beside begun_here c t w.past.asked d ne ∙ u.last;
        unanswered = u.unanswered;
        by = u.by;
        written = u.written;
        at = u.at;
        read = u.read ∙ sym same;
        some = λ none. u.some (sym same ∙ none);
      }

  -- what another client does is under its own request
  beside : (d : ℕ) → eqb c d ≡ false → (f : Phase) → IsUnder w d f → IsUnder next d f
  beside d ne (phase.Idle tag) u = λ a e. u a (sym (last_beside begun_here c t w.past.asked d ne) ∙ e)
  beside d ne (phase.Reads pending_ask round) u = record {
    asked = u.asked;
    last = last_beside begun_here c t w.past.asked d ne ∙ u.last;
    ask = u.ask;
    principal = u.principal;
    unwritten = u.unwritten;
    unanswered = u.unanswered;
    later = subst (λ (z : Begun). AreAtOrAfter z.partitions u.asked.partitions)
        (sym (begun_other t.reads c d (nth_after w.past c t.over) w.now.partitions w.past.begun ne)) u.later;
  }
  beside d ne (phase.Prepares z) u = writes_beside d ne z u
  beside d ne (phase.Commits z) u = writes_beside d ne z u

  pub turn_requested : IsUnder next c t.client.phase → IsRequested next
  turn_requested does = record {
    alone = λ a i. ⊎_elim
        (λ j. alone_lasts w next lasts a (q.alone a j))
        (λ (e : a ≡ now_on). subst (IsAlone next) (sym e) alone_now)
        (was_or_on begun_here c t w.past.asked a b last i);
    given = λ x i. ⊎_elim
        (λ j. given_lasts x (q.given x j))
        (λ j. let p = in_mapped (past_answer (reads_after w.past c t) c) t.answer j in
        subst (IsToOne next) (sym p.2)
        (record {
          asked = now_on;
          made = on_in begun_here c t w.past.asked b last;
          answers = in_right b.answers (option_in t.answer p.1);
          is = sym (given_here p.0 p.1);
        }))
        (in_cases w.past.answers (option_to_list (option_map (past_answer (reads_after w.past c t) c) t.answer)) i);
    begun = λ r i. ⊎_elim
        (λ j. begun_lasts r (q.begun r j))
        (λ j. record {
          asked = now_on;
          made = on_in begun_here c t w.past.asked b last;
          writes = in_right b.writes j;
        })
        (in_cases w.past.transactions (option_to_list t.writes) i);
    turns = turns_after begun_here c t w.past.asked b last q.turns;
    at = λ d. ⊎_elim
        (λ (e : (c ≡ d) × (client_at next.now.clients d ≡ t.client)).
        subst (λ (z : Client). IsUnder next d z.phase) (sym e.1)
        (subst (λ (z : ℕ). IsUnder next z t.client.phase) e.0 does))
        (λ (e : (eqb c d ≡ false) × (client_at next.now.clients d ≡ client_at w.now.clients d)).
        subst (λ (z : Client). IsUnder next d z.phase) (sym e.1)
        (beside d e.0 (client_at w.now.clients d).phase (q.at d e.0)))
        (client_cases o w k c t number own d);
  }

  pub turn_answers : (x : Answer) → t.answer ≡ Some x → IsAnsweredLast next c x
  turn_answers x e = record {
    asked = now_on;
    last = on_last;
    one = ap (λ (z : List Answer). z ++ option_to_list t.answer) unanswered
        ∙ ap (λ (z : Option Answer). option_to_list z) e;
  }

  -- an answered request is what an idle client has
  pub idle_under : (x : Answer) → t.answer ≡ Some x → (a : Asked) → last_asked next.past.asked c ≡ Some a
      → length a.answers ≡ 1
  idle_under x e a is =
      let r = turn_answers x e in
      ap (λ (z : Asked). length z.answers) (sym (some_same (sym r.last ∙ is))) ∙ ap length r.one
