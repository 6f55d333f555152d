-- The outputs of an event are in the past after it, and stay there, and each transition of a client is tidy.
use Rattle.std.proofs.Common.{◌≡◌, ℕ, zero, suc, ◌+◌, Bool, true, List, [], ◌∷◌, ◌++◌, map, length, Option, Some, None, option_to_list, option_map, unwrap_or, Result, Ok, Err, ⊎_elim, sym, ap, ◌∙◌, subst, refl, Contains, if◌then◌else◌}
use Rattle.album_stamps.specs.declared.refusals.Refusal.{Refusal}
use Rattle.album_permits.specs.declared.notes.Note.{Note}
use Rattle.album_client.specs.Terms.{Terms}
use Rattle.album_client.specs.Steps.{TransitionState}
use Rattle.album_permits.specs.declared.events.Event.{Event}
use Rattle.album_permits.specs.declared.answers.Answer.{Answer}
use Rattle.album_permits.specs.declared.outs.Out.TheVariants as out
use Rattle.album_world.specs.State.{Now}
use Rattle.album_world.specs.Past.{World, Begun, last_begun}
use Rattle.album_world.specs.Events.{IsNoteKept, IsRemembered}
use Rattle.album_world.specs.Changes.{Change, change_of}
use Rattle.album_world.specs.Changes.Change.{Nothing, AtPart, AtClient, Stops}
use Rattle.album_world.specs.Runs.{changed, changed_by, happens, requested, numbers_after, sent_after, outs_of, outs_by, event_outputs, run, reads_after, read_over, nth_after, past_answer, noted_of}
use Rattle.album_world.proofs.ListLemmas.{In, contains, within, in_left, in_right, in_cases, in_map, in_mapped, mapped_in, in_one, in_nil, self_eqb}

-- ---- outputs

sent_answer : {c n : ℕ} {a : Answer} {R : Type 0} → out.Answered c a ≡ out.Sent n → R
sent_answer e = absurd (cc)

noted_answer : {c d : ℕ} {a : Answer} {n : Note} {R : Type 0} → out.Answered c a ≡ out.Noted d n → R
noted_answer e = absurd (cc)

sent_note : {c m : ℕ} {n : Note} {R : Type 0} → out.Noted c n ≡ out.Sent m → R
sent_note e = absurd (cc)

answer_note : {c d : ℕ} {a : Answer} {n : Note} {R : Type 0} → out.Noted d n ≡ out.Answered c a → R
answer_note e = absurd (cc)

answered_same : {c d : ℕ} {a b : Answer} → out.Answered c a ≡ out.Answered d b → (c ≡ d) × (a ≡ b)
answered_same e = (cc, cc)

noted_same : {c d : ℕ} {a b : Note} → out.Noted c a ≡ out.Noted d b → (c ≡ d) × (a ≡ b)
noted_same e = (cc, cc)

no_answer : {c : ℕ} {a : Answer} {R : Type 0} (first count : ℕ) → In (out.Answered c a) (numbers_after first count) → R
no_answer first zero h = in_nil h
no_answer first (suc count) h = ⊎_elim (λ l. no_answer first count l) (λ l. sent_answer (in_one l))
    (in_cases (numbers_after first count) (out.Sent (first + count + 1) ∷ []) h)

no_note : {c : ℕ} {n : Note} {R : Type 0} (first count : ℕ) → In (out.Noted c n) (numbers_after first count) → R
no_note first zero h = in_nil h
no_note first (suc count) h = ⊎_elim (λ l. no_note first count l) (λ l. sent_note (in_one l))
    (in_cases (numbers_after first count) (out.Sent (first + count + 1) ∷ []) h)

-- the change is a turn of the client, and the answer is its own
abbrev pub GivesAnswer : Change → ℕ → Answer → Type 0
GivesAnswer Nothing c a = ⊥
GivesAnswer (AtPart p held sent) c a = ⊥
GivesAnswer (AtClient d t) c a = (c ≡ d) × (t.answer ≡ Some a)
GivesAnswer (Stops d) c a = ⊥

pub answer_of_change : (now : Now) (ch : Change) (c : ℕ) (a : Answer) → In (out.Answered c a) (outs_of now ch)
    → GivesAnswer ch c a
answer_of_change now Nothing c a h = in_nil h
answer_of_change now (Stops d) c a h = in_nil h
answer_of_change now (AtPart p held sent) c a h = no_answer (length now.messages) (length sent) h
answer_of_change now (AtClient d t) c a h = ⊎_elim
    (λ l. let q = in_map (out.Noted d) (unwrap_or t.noted []) l in noted_answer q.2)
    (λ l. ⊎_elim
    (λ i. no_answer (length now.messages) (length t.sent) i)
    (λ i.
    let q = in_mapped (out.Answered d) t.answer i in
    let s = answered_same q.2 in
    (s.0, q.1 ∙ ap Some (sym s.1)))
    (in_cases (sent_after (length now.messages) t.sent) (option_to_list (option_map (out.Answered d) t.answer)) l))
    (in_cases (map (out.Noted d) (unwrap_or t.noted []))
    (sent_after (length now.messages) t.sent ++ option_to_list (option_map (out.Answered d) t.answer)) h)

answer_in : (w : World) (ch : Change) (c : ℕ) (a : Answer) → GivesAnswer ch c a
    → In (past_answer (changed w ch).past.reads c a) (changed w ch).past.answers
answer_in w Nothing c a h = absurd h
answer_in w (Stops d) c a h = absurd h
answer_in w (AtPart p held sent) c a h = absurd h
answer_in w (AtClient d t) c a h =
    let fs = reads_after w.past d t in
    in_right w.past.answers
    (subst (λ (z : ℕ). In (past_answer fs z a) (option_to_list (option_map (past_answer fs d) t.answer))) (sym h.0)
    (mapped_in (past_answer fs d) t.answer h.1))

pub answers_are_kept : (t : Terms) (w : World) (e : Event) (c : ℕ) (a : Answer)
    → Contains (event_outputs t w e) (out.Answered c a)
    → Contains (happens t w e).past.answers (past_answer (happens t w e).past.reads c a)
answers_are_kept t w e c a h = go (change_of t w.now e) (within _ h)
  where
    go : (f : Result Change Refusal) → In (out.Answered c a) (outs_by w.now f)
        → Contains (changed_by w e f).past.answers (past_answer (changed_by w e f).past.reads c a)
    go (Ok ch) h = contains (answer_in (requested w e) ch c a (answer_of_change w.now ch c a h))
    go (Err r) h = in_nil h

note_in : (w : World) (ch : Change) (c : ℕ) (n : Note) → In (out.Noted c n) (outs_of w.now ch)
    → IsNoteKept (changed w ch) c n
note_in w Nothing c n h = in_nil h
note_in w (Stops d) c n h = in_nil h
note_in w (AtPart p held sent) c n h = no_note (length w.now.messages) (length sent) h
note_in w (AtClient d t) c n h = ⊎_elim
    (λ l. let q = in_map (out.Noted d) (unwrap_or t.noted []) l in noted (noted_same q.2) q.1)
    (λ l. ⊎_elim
    (λ i. no_note (length w.now.messages) (length t.sent) i)
    (λ i. let q = in_mapped (out.Answered d) t.answer i in answer_note q.2)
    (in_cases (sent_after (length w.now.messages) t.sent) (option_to_list (option_map (out.Answered d) t.answer)) l))
    (in_cases (map (out.Noted d) (unwrap_or t.noted []))
    (sent_after (length w.now.messages) t.sent ++ option_to_list (option_map (out.Answered d) t.answer)) h)
  where
    by : (f : Option (List Note)) → t.noted ≡ f → (m : Note) → In m (unwrap_or f []) → (c ≡ d) × (n ≡ m)
        → IsNoteKept (changed w (AtClient d t)) c n
    by None e m i s = in_nil i
    by (Some ns) e m i s = record {
      noted = noted_of (reads_after w.past d t) c ns;
      kept = contains (in_right w.past.noted
          (subst (λ (z : ℕ). In (noted_of (reads_after w.past d t) z ns)
          (option_to_list (option_map (noted_of (reads_after w.past d t) d) t.noted))) (sym s.0)
          (mapped_in (noted_of (reads_after w.past d t) d) t.noted e)));
      own = refl;
      last_is = refl;
      among = contains (subst (λ (z : Note). In z ns) (sym s.1) i);
    }

    noted : {m : Note} → (c ≡ d) × (n ≡ m) → In m (unwrap_or t.noted []) → IsNoteKept (changed w (AtClient d t)) c n
    noted {m} s i = by t.noted refl m i s

pub notes_are_kept : (t : Terms) (w : World) (e : Event) (c : ℕ) (n : Note) → Contains (event_outputs t w e) (out.Noted c n)
    → IsNoteKept (happens t w e) c n
notes_are_kept t w e c n h = go (change_of t w.now e) (within _ h)
  where
    go : (f : Result Change Refusal) → In (out.Noted c n) (outs_by w.now f) → IsNoteKept (changed_by w e f) c n
    go (Ok ch) h = note_in (requested w e) ch c n h
    go (Err r) h = in_nil h

-- ---- the past stays

remembered_at : (w : World) (ch : Change) → IsRemembered w (changed w ch)
remembered_at w Nothing = record { transactions = λ r l. l; reads = λ r l. l; answers = λ r l. l; noted = λ r l. l }
remembered_at w (AtPart p h sent) = record {
  transactions = λ r l. l;
  reads = λ r l. l;
  answers = λ r l. l;
  noted = λ r l. l;
}
remembered_at w (Stops d) = record { transactions = λ r l. l; reads = λ r l. l; answers = λ r l. l; noted = λ r l. l }
remembered_at w (AtClient d t) = record {
  transactions = λ r l. contains (in_left (option_to_list t.writes) (within _ l));
  reads = λ r l. contains (in_right (option_to_list (option_map (read_over (last_begun w.past.begun d)) t.over))
      (within _ l));
  answers = λ r l. contains
      (in_left (option_to_list (option_map (past_answer (reads_after w.past d t) d) t.answer)) (within _ l));
  noted = λ r l. contains
      (in_left (option_to_list (option_map (noted_of (reads_after w.past d t) d) t.noted)) (within _ l));
}

remembered_by : (w : World) (e : Event) (f : Result Change Refusal) → IsRemembered w (changed_by w e f)
remembered_by w e (Ok ch) = let a = remembered_at (requested w e) ch in
    record { transactions = a.transactions; reads = a.reads; answers = a.answers; noted = a.noted }
remembered_by w e (Err r) = record { transactions = λ r l. l; reads = λ r l. l; answers = λ r l. l; noted = λ r l. l }

pub all_is_remembered : (t : Terms) (w : World) (es : List Event) → IsRemembered w (run t w es)
all_is_remembered t w [] = record { transactions = λ r l. l; reads = λ r l. l; answers = λ r l. l; noted = λ r l. l }
all_is_remembered t w (e ∷ es) =
    let a = remembered_by w e (change_of t w.now e) in
    let d = all_is_remembered t (happens t w e) es in
    record {
      transactions = λ r l. d.transactions r (a.transactions r l);
      reads = λ r l. d.reads r (a.reads r l);
      answers = λ r l. d.answers r (a.answers r l);
      noted = λ r l. d.noted r (a.noted r l);
    }

-- ---- a read that begins

pub read_keeps_partitions : (w : World) (c : ℕ) (t : TransitionState) → t.reads ≡ true
    → (last_begun (changed w (AtClient c t)).past.begun c).partitions ≡ w.now.partitions
read_keeps_partitions w c t e =
    ap (λ (f : Bool). (last_begun
    (if f then (let s : Begun =
    record { client = c; nth = nth_after w.past c t.over; partitions = w.now.partitions } in s) ∷ w.past.begun
    else w.past.begun) c).partitions) e
    ∙ ap (λ (f : Bool). (if f then
    (let s : Begun = record { client = c; nth = nth_after w.past c t.over; partitions = w.now.partitions } in s)
    else last_begun w.past.begun c).partitions) (self_eqb c)
