-- Each output is given once: outputs are exactly what the past, and the messages sent, have more after them.
use Rattle.std.specs.Prelude.{◌≡◌, ℕ, List, [], ◌∷◌, ◌++◌, map, length, Option, Some, None}
use Rattle.std.specs.List.{range_with_len, filter_map, flat_map}
use Rattle.album_permits.specs.declared.notes.Note.{Note}
use Rattle.album_permits.specs.declared.answers.Answer.{Answer}
use Rattle.album_permits.specs.declared.events.Event.{Event}
use Rattle.album_permits.specs.declared.outs.Out.{Out}
use Rattle.album_permits.specs.declared.outs.Out.TheVariants as out
use Rattle.album_client.specs.Terms.{Terms}
use Rattle.album_world.specs.Past.{PastAnswer, Noted, World}
use Rattle.album_world.specs.Runs.{happens, event_outputs}

-- ---- one output

-- the answer that an output is, with its client
abbrev pub output_answer : Out → Option (ℕ × Answer)
output_answer (out.Sent number) = None
output_answer (out.Noted client note) = None
output_answer (out.Answered client answer) = Some (client, answer)

-- the note that an output is, with the client of its ask
abbrev pub output_note : Out → Option (ℕ × Note)
output_note (out.Sent number) = None
output_note (out.Noted client note) = Some (client, note)
output_note (out.Answered client answer) = None

-- the number of the message that an output is
abbrev pub output_number : Out → Option ℕ
output_number (out.Sent number) = Some number
output_number (out.Noted client note) = None
output_number (out.Answered client answer) = None

-- the outputs of these events, one after the other
abbrev pub run_outputs : Terms → World → List Event → List Out
run_outputs terms world [] = []
run_outputs terms world (event ∷ events) =
    event_outputs terms world event ++ run_outputs terms (happens terms world event) events

-- ---- all outputs so far

-- an answer, with its client
abbrev pub answer_of : PastAnswer → ℕ × Answer
answer_of given = (given.client, given.answer)

-- the notes of one ruling, each with the client
abbrev pub notes_of : Noted → List (ℕ × Note)
notes_of noted = map (λ note. (noted.client, note)) noted.notes

-- all answers so far, each with the client
abbrev pub all_answers : World → List (ℕ × Answer)
all_answers world = map answer_of world.past.answers

-- all notes so far, each with the client
abbrev pub all_notes : World → List (ℕ × Note)
all_notes world = flat_map notes_of world.past.noted

-- the numbers of all messages so far, which count from 1
abbrev pub all_numbers : World → List ℕ
all_numbers world = range_with_len 1 (length world.now.messages)

-- The outputs between two worlds are, in order, exactly what the later one has more of each kind. So no answer, no note
-- and no message is output twice, and none is left out.
pub record AreGivenOnce (old new : World) (outs : List Out) : Type 0 where
  pub answers : all_answers new ≡ all_answers old ++ filter_map output_answer outs
  pub notes : all_notes new ≡ all_notes old ++ filter_map output_note outs
  pub numbers : all_numbers new ≡ all_numbers old ++ filter_map output_number outs
