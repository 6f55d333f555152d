-- What contracts see of a world, what a step does, and which pasts may lead to it.
use Rattle.std.specs.Prelude.{◌≡◌, ◌≢◌, ℕ, true, ◌++◌, List, [], ◌∷◌, Result, Ok, Err, IsOk, Contains, if◌then◌else◌}
use Rattle.album_stamps.specs.declared.refusals.Refusal.{Refusal}
use Rattle.album_stamps.specs.declared.refusals.Refusal.TheVariants.{OutOfMemory, BadOpening}
use Rattle.album_items.specs.Openings.{is_opening, is_base_opening}
use Rattle.album_items.specs.declared.openings.Opening.{Opening}
use Rattle.album_permits.specs.declared.notes.Note.{Note}
use Rattle.album_client.specs.Terms.{Terms, terms_of}
use Rattle.album_permits.specs.declared.events.Event.{Event}
use Rattle.album_permits.specs.declared.answers.Answer.{Answer}
use Rattle.album_permits.specs.declared.outs.Out.{Out}
use Rattle.album_permits.specs.declared.outs.Out.TheVariants as out
use Rattle.album_world.specs.State.{Now}
use Rattle.album_world.specs.Past.{World}
use Rattle.album_world.specs.Changes.{Change, change_of}
use Rattle.album_world.specs.Runs.{now_after, outs_of, run_of, start, past_answer}
use Rattle.album_world.specs.Events.{IsNoteKept}
use Rattle.album_world.specs.Requests.{IsAnsweredLast}

-- what contracts see of a world: the terms on which it opened, and what it keeps
pub record WorldState : Type 0 where
  pub terms : Terms
  pub kept : Now

-- a world as it opens
abbrev pub first_world : Opening → WorldState
first_world opening = record { terms = terms_of opening; kept = (start opening).now }

-- where the opening passes its check
abbrev pub opened : Opening → Result WorldState Refusal
opened opening = if is_opening opening then Ok (first_world opening) else Err BadOpening

-- ---- a step

-- this is changed, and these are its outputs
pub record IsChanged (old : Now) (change : Change) (new : Now) (outs : List Out) : Type 0 where
  pub kept : new ≡ now_after old change
  pub outputs : outs ≡ outs_of old change

-- the change that is due is made, and these are its outputs
pub record IsMade (due : Result Change Refusal) (old new : Now) (outs : List Out) : Type 0 where
  pub change : Change
  pub is : due ≡ Ok change
  pub kept : new ≡ now_after old change
  pub outputs : outs ≡ outs_of old change

-- the event is done: its change is made, and these are its outputs
abbrev pub IsDone : Terms → Now → Event → Now → List Out → Type 0
IsDone terms old event new outs = IsMade (change_of terms old event) old new outs

-- The event is refused: nothing is changed. The reason is that of the definition, or else memory ran out, which comes
-- last.
pub record IsRefused (terms : Terms) (old : Now) (event : Event) (new : Now) (why : Refusal) : Type 0 where
  pub kept : new ≡ old
  pub refused : why ≢ OutOfMemory → change_of terms old event ≡ Err why
  pub memory : why ≡ OutOfMemory → IsOk (change_of terms old event)

-- the event is done, or it is refused
abbrev pub IsStepped :
    {Outs : Type 0} → (Outs → List Out) → Terms → Now → Event → Now → Result Outs Refusal → Type 0
IsStepped view terms old event new (Ok outs) = IsDone terms old event new (view outs)
IsStepped view terms old event new (Err why) = IsRefused terms old event new why

-- one event after the other is done or refused
abbrev pub AreStepped :
    {Outs : Type 0} → (Outs → List Out) → Terms → Now → List Event → Now → List (Result Outs Refusal) → Type 0
AreStepped view terms old [] new [] = new ≡ old
AreStepped view terms old [] new (result ∷ results) = ⊥
AreStepped view terms old (event ∷ events) new [] = ⊥
AreStepped view terms old (event ∷ events) new (result ∷ results) =
    (next : Now) × IsStepped view terms old event next result × AreStepped view terms next events new results

-- the events that were done
abbrev pub done_of : {Outs : Type 0} → List Event → List (Result Outs Refusal) → List Event
done_of [] results = []
done_of (event ∷ events) [] = []
done_of (event ∷ events) (Ok outs ∷ results) = event ∷ done_of events results
done_of (event ∷ events) (Err why ∷ results) = done_of events results

-- ---- the past

-- From this opening, on which partitions may open, these events lead to the world that is seen. (Code keeps none of
-- them: they are one of the pasts that the world may have.)
pub record LeadsTo (opening : Opening) (events : List Event) (world : WorldState) : Type 0 where
  pub passes : is_base_opening opening ≡ true
  pub terms : world.terms ≡ terms_of opening
  pub kept : world.kept ≡ (run_of opening events).now

-- the world has a past
pub record IsReached (world : WorldState) : Type 0 where
  pub opening : Opening
  pub events : List Event
  pub leads : LeadsTo opening events world

-- each past that the world may have has the property
abbrev pub OfEachPast : WorldState → (Opening → World → Type 0) → Type 0
OfEachPast world Holds =
    (opening : Opening) (events : List Event) → LeadsTo opening events world → Holds opening (run_of opening events)

-- The outputs of the past's last event are in the past: each answer and each note, with the read that its client had
-- made last. And each answer is the only one to its client's last request.
pub record IsInPast (past : World) (outs : List Out) : Type 0 where
  pub answers :
      (client : ℕ) (answer : Answer) → Contains outs (out.Answered client answer)
      → Contains past.past.answers (past_answer past.past.reads client answer)
  pub notes :
      (client : ℕ) (note : Note) → Contains outs (out.Noted client note) → IsNoteKept past client note
  pub requests :
      (client : ℕ) (answer : Answer) → Contains outs (out.Answered client answer) → IsAnsweredLast past client answer

-- each past that the world may have had, extended by the event, is one of the new world, and has the outputs
abbrev pub IsExtendedBy : WorldState → Event → WorldState → List Out → Type 0
IsExtendedBy old event new outs =
    (opening : Opening) (events : List Event) → LeadsTo opening events old
    → LeadsTo opening (events ++ event ∷ []) new × IsInPast (run_of opening (events ++ event ∷ [])) outs

-- The outputs of each of these events that was done are in the past up to that event.
abbrev pub AreInPast :
    {Outs : Type 0} → (Outs → List Out) → Opening → List Event → List Event → List (Result Outs Refusal) → Type 0
AreInPast view opening before [] results = Unit {0}
AreInPast view opening before (event ∷ events) [] = Unit {0}
AreInPast view opening before (event ∷ events) (Ok outs ∷ results) =
    IsInPast (run_of opening (before ++ event ∷ [])) (view outs)
    × AreInPast view opening (before ++ event ∷ []) events results
AreInPast view opening before (event ∷ events) (Err why ∷ results) = AreInPast view opening before events results

-- the same for several events, without those that are refused
abbrev pub AreExtendedBy :
    {Outs : Type 0} → (Outs → List Out) → WorldState → List Event → WorldState → List (Result Outs Refusal) → Type 0
AreExtendedBy view old events new results =
    (opening : Opening) (before : List Event) → LeadsTo opening before old
    → LeadsTo opening (before ++ done_of events results) new × AreInPast view opening before events results
