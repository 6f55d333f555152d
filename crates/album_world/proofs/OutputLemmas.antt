-- Each output is given once: by a change, by an event, by a run.
use Rattle.std.proofs.Common.{◌≡◌, ℕ, zero, suc, ◌+◌, List, [], ◌∷◌, ◌++◌, map, length, Option, Some, None, option_to_list, option_map, unwrap_or, Result, Ok, Err, sym, ap, ◌∙◌, refl, arith}
use Rattle.std.specs.List.{range_with_len, filter_map, flat_map}
use Rattle.std.proofs.lemmas.Grind.{flat_map-append}
use Rattle.std.proofs.lemmas.List.{map-append, append_assoc, append-nil, length-append}
use Rattle.std.proofs.lemmas.List.Elements.{filter_map-append}
use Rattle.album_stamps.specs.declared.refusals.Refusal.{Refusal}
use Rattle.album_permits.specs.declared.notes.Note.{Note}
use Rattle.album_permits.specs.declared.answers.Answer.{Answer}
use Rattle.album_permits.specs.declared.events.Event.{Event}
use Rattle.album_permits.specs.declared.outs.Out.{Out}
use Rattle.album_permits.specs.declared.outs.Out.TheVariants as out
use Rattle.album_client.specs.Terms.{Terms}
use Rattle.album_world.specs.Past.{World, Read}
use Rattle.album_client.specs.Steps.{TransitionState}
use Rattle.album_world.specs.Changes.{Change, change_of}
use Rattle.album_world.specs.Changes.Change.{Nothing, AtPart, AtClient, Stops}
use Rattle.album_world.specs.Runs.{changed, changed_by, happens, requested, numbers_after, sent_after, outs_of, outs_of_transition, outs_by, event_outputs, run, reads_after, past_answer, noted_of}
use Rattle.album_world.specs.OutputsOnce.{output_answer, output_note, output_number, run_outputs, answer_of, notes_of, all_answers, all_notes, all_numbers, AreGivenOnce}

-- ---- messages

range_end : (a n : ℕ) → range_with_len a (suc n) ≡ range_with_len a n ++ (a + n) ∷ []
range_end a zero = let same : a ≡ a + zero = omega arith in ap (λ (x : ℕ). x ∷ []) same
range_end a (suc n) =
    let same : a + 1 + n ≡ a + suc n = omega arith in
    ap (λ (xs : List ℕ). a ∷ xs) (range_end (a + 1) n ∙ ap (λ (x : ℕ). range_with_len (a + 1) n ++ x ∷ []) same)

-- messages are neither answers nor notes
no_answers : (before count : ℕ) → filter_map output_answer (numbers_after before count) ≡ []
no_answers before zero = refl
no_answers before (suc count) =
    filter_map-append output_answer (numbers_after before count) (out.Sent (before + count + 1) ∷ [])
    ∙ ap (λ (xs : List (ℕ × Answer)). xs ++ []) (no_answers before count)

no_notes : (before count : ℕ) → filter_map output_note (numbers_after before count) ≡ []
no_notes before zero = refl
no_notes before (suc count) =
    filter_map-append output_note (numbers_after before count) (out.Sent (before + count + 1) ∷ [])
    ∙ ap (λ (xs : List (ℕ × Note)). xs ++ []) (no_notes before count)

-- and their outputs are their numbers
numbers_given : (before count : ℕ)
    → range_with_len 1 (before + count)
    ≡ range_with_len 1 before ++ filter_map output_number (numbers_after before count)
numbers_given before zero =
    let none : before + zero ≡ before = omega arith in
    ap (λ (n : ℕ). range_with_len 1 n) none ∙ sym (append-nil (range_with_len 1 before))
numbers_given before (suc count) =
    let first = range_with_len 1 before in
    let given = filter_map output_number (numbers_after before count) in
    let more : before + suc count ≡ suc (before + count) = omega arith in
    let last : 1 + (before + count) ≡ before + count + 1 = omega arith in
    ap (λ (n : ℕ). range_with_len 1 n) more
    ∙ range_end 1 (before + count)
    ∙ ap (λ (xs : List ℕ). xs ++ (1 + (before + count)) ∷ []) (numbers_given before count)
    ∙ append_assoc first given ((1 + (before + count)) ∷ [])
    ∙ ap (λ (n : ℕ). first ++ (given ++ n ∷ [])) last
    ∙ ap (λ (xs : List ℕ). first ++ xs)
    (sym (filter_map-append output_number (numbers_after before count) (out.Sent (before + count + 1) ∷ [])))

-- ---- notes

noted_no_answer : (client : ℕ) (notes : List Note) → filter_map output_answer (map (out.Noted client) notes) ≡ []
noted_no_answer client [] = refl
noted_no_answer client (note ∷ notes) = noted_no_answer client notes

noted_no_number : (client : ℕ) (notes : List Note) → filter_map output_number (map (out.Noted client) notes) ≡ []
noted_no_number client [] = refl
noted_no_number client (note ∷ notes) = noted_no_number client notes

noted_notes : (client : ℕ) (notes : List Note)
    → filter_map output_note (map (out.Noted client) notes) ≡ map (λ (note : Note). (client, note)) notes
noted_notes client [] = refl
noted_notes client (note ∷ notes) = ap (λ (xs : List (ℕ × Note)). (client, note) ∷ xs) (noted_notes client notes)

-- ---- a turn

-- what is found in the outputs of a transition is found in its notes, then in its messages, then in its answer
in_parts : {X : Type 0} (h : Out → Option X) (before client : ℕ) (turn : TransitionState)
    → filter_map h (outs_of_transition before client turn)
    ≡ filter_map h (map (out.Noted client) (unwrap_or turn.noted []))
    ++ (filter_map h (sent_after before turn.sent)
    ++ filter_map h (option_to_list (option_map (out.Answered client) turn.answer)))
in_parts {X} h before client turn =
    let noted = map (out.Noted client) (unwrap_or turn.noted []) in
    let answered = option_to_list (option_map (out.Answered client) turn.answer) in
    filter_map-append h noted (sent_after before turn.sent ++ answered)
    ∙ ap (λ (xs : List X). filter_map h noted ++ xs) (filter_map-append h (sent_after before turn.sent) answered)

answers_of_turn : (reads : List Read) (before client : ℕ) (turn : TransitionState)
    → map answer_of (option_to_list (option_map (past_answer reads client) turn.answer))
    ≡ filter_map output_answer (outs_of_transition before client turn)
answers_of_turn reads before client turn =
    by turn.answer
    ∙ sym (ap (λ (xs : List (ℕ × Answer)). xs ++ answered) (no_answers before (length turn.sent)))
    ∙ sym (ap (λ (xs : List (ℕ × Answer)). xs ++ (filter_map output_answer (sent_after before turn.sent) ++ answered))
    (noted_no_answer client (unwrap_or turn.noted [])))
    ∙ sym (in_parts output_answer before client turn)
  where
    answered : List (ℕ × Answer)
    answered = filter_map output_answer (option_to_list (option_map (out.Answered client) turn.answer))

    by : (answer : Option Answer)
        → map answer_of (option_to_list (option_map (past_answer reads client) answer))
        ≡ filter_map output_answer (option_to_list (option_map (out.Answered client) answer))
    by None = refl
    by (Some answer) = refl

notes_of_turn : (reads : List Read) (before client : ℕ) (turn : TransitionState)
    → flat_map notes_of (option_to_list (option_map (noted_of reads client) turn.noted))
    ≡ filter_map output_note (outs_of_transition before client turn)
notes_of_turn reads before client turn =
    by turn.noted
    ∙ sym (noted_notes client (unwrap_or turn.noted []))
    ∙ sym (append-nil noted)
    ∙ ap (λ (xs : List (ℕ × Note)). noted ++ xs) (sym (none turn.answer))
    ∙ sym (ap (λ (xs : List (ℕ × Note)). noted ++ (xs ++ answered)) (no_notes before (length turn.sent)))
    ∙ sym (in_parts output_note before client turn)
  where
    noted : List (ℕ × Note)
    noted = filter_map output_note (map (out.Noted client) (unwrap_or turn.noted []))

    answered : List (ℕ × Note)
    answered = filter_map output_note (option_to_list (option_map (out.Answered client) turn.answer))

    by : (notes : Option (List Note))
        → flat_map notes_of (option_to_list (option_map (noted_of reads client) notes))
        ≡ map (λ (note : Note). (client, note)) (unwrap_or notes [])
    by None = refl
    by (Some notes) = append-nil (map (λ (note : Note). (client, note)) notes)

    none : (answer : Option Answer)
        → filter_map output_note (option_to_list (option_map (out.Answered client) answer)) ≡ []
    none None = refl
    none (Some answer) = refl

numbers_of_turn : (before client : ℕ) (turn : TransitionState)
    → filter_map output_number (sent_after before turn.sent)
    ≡ filter_map output_number (outs_of_transition before client turn)
numbers_of_turn before client turn =
    sym (append-nil sent)
    ∙ ap (λ (xs : List ℕ). sent ++ xs) (sym (none turn.answer))
    ∙ sym (ap (λ (xs : List ℕ). xs ++ (sent ++ answered)) (noted_no_number client (unwrap_or turn.noted [])))
    ∙ sym (in_parts output_number before client turn)
  where
    sent : List ℕ
    sent = filter_map output_number (sent_after before turn.sent)

    answered : List ℕ
    answered = filter_map output_number (option_to_list (option_map (out.Answered client) turn.answer))

    none : (answer : Option Answer)
        → filter_map output_number (option_to_list (option_map (out.Answered client) answer)) ≡ []
    none None = refl
    none (Some answer) = refl

-- ---- a change

-- there are no outputs, and nothing is more
nothing_given : (w : World) → AreGivenOnce w w []
nothing_given w = record {
  answers = sym (append-nil (all_answers w));
  notes = sym (append-nil (all_notes w));
  numbers = sym (append-nil (all_numbers w));
}

given_by_change : (w : World) (ch : Change) → AreGivenOnce w (changed w ch) (outs_of w.now ch)
given_by_change w Nothing = nothing_given w
given_by_change w (Stops client) = record {
  answers = sym (append-nil (all_answers w));
  notes = sym (append-nil (all_notes w));
  numbers = sym (append-nil (all_numbers w));
}
given_by_change w (AtPart part held sent) = record {
  answers = sym (append-nil (all_answers w))
      ∙ ap (λ (xs : List (ℕ × Answer)). all_answers w ++ xs) (sym (no_answers (length w.now.messages) (length sent)));
  notes = sym (append-nil (all_notes w))
      ∙ ap (λ (xs : List (ℕ × Note)). all_notes w ++ xs) (sym (no_notes (length w.now.messages) (length sent)));
  numbers = ap (λ (n : ℕ). range_with_len 1 n) (length-append w.now.messages sent)
      ∙ numbers_given (length w.now.messages) (length sent);
}
given_by_change w (AtClient client turn) =
    let before = length w.now.messages in
    let reads = reads_after w.past client turn in
    record {
      answers = map-append answer_of w.past.answers (option_to_list (option_map (past_answer reads client) turn.answer))
          ∙ ap (λ (xs : List (ℕ × Answer)). all_answers w ++ xs) (answers_of_turn reads before client turn);
      notes = flat_map-append notes_of w.past.noted
          (option_to_list (option_map (noted_of reads client) turn.noted))
          ∙ ap (λ (xs : List (ℕ × Note)). all_notes w ++ xs) (notes_of_turn reads before client turn);
      numbers = ap (λ (n : ℕ). range_with_len 1 n) (length-append w.now.messages turn.sent)
          ∙ numbers_given before (length turn.sent)
          ∙ ap (λ (xs : List ℕ). all_numbers w ++ xs) (numbers_of_turn before client turn);
    }

-- ---- an event, and a run

pub given_by_event : (t : Terms) (w : World) (e : Event) → AreGivenOnce w (happens t w e) (event_outputs t w e)
given_by_event t w e = go (change_of t w.now e)
  where
    go : (f : Result Change Refusal) → AreGivenOnce w (changed_by w e f) (outs_by w.now f)
    go (Ok ch) =
        let q = given_by_change (requested w e) ch in
        record { answers = q.answers; notes = q.notes; numbers = q.numbers }
    go (Err r) = nothing_given w

-- the outputs from one world to the next, and from that on, are those from the first on
given_on : (a b c : World) (xs ys : List Out) → AreGivenOnce a b xs → AreGivenOnce b c ys → AreGivenOnce a c (xs ++ ys)
given_on a b c xs ys h k = record {
  answers = more output_answer (all_answers a) (all_answers b) (all_answers c) h.answers k.answers;
  notes = more output_note (all_notes a) (all_notes b) (all_notes c) h.notes k.notes;
  numbers = more output_number (all_numbers a) (all_numbers b) (all_numbers c) h.numbers k.numbers;
}
  where
    more : {X : Type 0} (h : Out → Option X) (a b c : List X) → b ≡ a ++ filter_map h xs → c ≡ b ++ filter_map h ys
        → c ≡ a ++ filter_map h (xs ++ ys)
    more {X} h a b c d e =
        e
        ∙ ap (λ (zs : List X). zs ++ filter_map h ys) d
        ∙ append_assoc a (filter_map h xs) (filter_map h ys)
        ∙ ap (λ (zs : List X). a ++ zs) (sym (filter_map-append h xs ys))

pub given_by_run : (t : Terms) (w : World) (es : List Event) → AreGivenOnce w (run t w es) (run_outputs t w es)
given_by_run t w [] = nothing_given w
given_by_run t w (e ∷ es) =
    given_on w (happens t w e) (run t (happens t w e) es) (event_outputs t w e) (run_outputs t (happens t w e) es)
    (given_by_event t w e) (given_by_run t (happens t w e) es)
