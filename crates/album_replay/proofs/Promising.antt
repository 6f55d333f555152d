-- What a replay prints is as it is promised: for the law, and for `replay`.
use Rattle.std.proofs.Common.{◌≡◌, ◌+◌, ℕ, List, [], ◌∷◌, ◌++◌, map, filter, Bool, true, false, not, Option, Some, None, Result, Ok, Err, inl, inr, ⊎_elim, refl, sym, ap, ◌∙◌, subst, append_assoc, append-nil, Contains, if◌then◌else◌}
use Rattle.std.specs.Bool.{MatchBool}
use Rattle.std.specs.List.{flat_map}
use Rattle.std.specs.Option.{IfSome}
use Rattle.std.proofs.lemmas.Grind.{flat_map-append}
use Rattle.std.proofs.lemmas.List.{map-append}
use Rattle.std.proofs.lemmas.List.Elements.{filter-append}
use Rattle.album_stamps.specs.declared.refusals.Refusal.{Refusal}
use Rattle.album_stamps.specs.declared.refusals.Refusal.TheVariants.{OutOfMemory, BadOpening, BadRequest}
use Rattle.album_items.specs.Openings.{is_opening, is_base_opening}
use Rattle.album_items.proofs.BaseLemmas.{opening_is_base}
use Rattle.album_items.specs.declared.openings.Opening.{Opening}
use Rattle.album_calls.specs.declared.messages.Message.{Message}
use Rattle.album_client.specs.Terms.{terms_of}
use Rattle.album_world.specs.State.{Now}
use Rattle.album_world.specs.Past.{World}
use Rattle.album_world.specs.Changes.{Change, change_of}
use Rattle.album_world.specs.Runs.{now_after, outs_of, run_of, start, outs_by}
use Rattle.album_world.specs.Seen.{IsInPast}
use Rattle.album_permits.specs.declared.events.Event.{Event}
use Rattle.album_permits.specs.declared.outs.Out.{Out}
use Rattle.album_permits.specs.declared.outs.Out.TheVariants as out
use Rattle.album_world.proofs.StoryLemmas.{run_more, in_past_given}
use Rattle.album_world.proofs.AnsweredLemmas.{answers_are_to_requests}
use Rattle.album_world.proofs.UpdateLemmas.{no_update_is_lost}
use Rattle.album_world.proofs.PromiseLemmas.{rulings_hold, writes_are_granted, views_are_read_atomic, views_are_fresh, outcomes_are_true, busy_has_its_cause}
use Rattle.album_world.proofs.ListLemmas.{In, contains, within, in_cases, in_nil, in_uncons, in_map}
use Rattle.album_wire.specs.EventLine.{deliveries}
use Rattle.album_lines.specs.Lines.{Line, is_blank, lines_of}
use Rattle.album_lines.specs.Output.{refusal_line}
use Rattle.album_wire.specs.OutJson.{out_line}
use Rattle.album_wire.specs.ShownStamps.{out_shown}
use Rattle.album_wire.specs.declared.event_shape.Spelled.{Spelled}
use Rattle.album_wire.specs.declared.event_shape.Spelled.TheVariants as spelled
use Rattle.album_wire.specs.declared.opening_line.OpeningLine.{OpeningLine}
use Rattle.album_wire.specs.declared.opening_line.OpeningLine.TheVariants as line
use Rattle.album_wire.specs.declared.opening_shape.Header.{Header}
use Rattle.album_wire.specs.FirstValues.{ValuesSaid, no_values, with_value, opening_of}
use Rattle.album_replay.specs.Replay.{Epoch, epoch_after, Stage, Unopened, BeingOpened, Running, Over, Step, refused, silently, first_line, later_line, opened_by, message_shown, event_text, delivery_text, Happens, Delivers, Runs, opening_line_read, event_line_read, read_in, IsOpened, IsPrinted, IsRun, IsRestart, Takes, IsStep, Replays, IsReplay, end_text, Showing, showing, showing_of}
use Rattle.album_replay.specs.Promise.{IsCarriedOver, Opens, opening_said, ItemSaid, item_said, with_items, events_read, events_spelled, AreAmong, Spell, IsSpelledBy, AllHold, IsOf, Printed, Refused, Restarted, Output, text_of, IsRight, IsAsPromised}
use Rattle.album_replay.specs.Promise.AreAmong.{nothing, taken, left}
use Rattle.album_replay.specs.Promise.Opens.{First, Next}
use Rattle.album_restarts.specs.Next.{IsNextOpening}
use Rattle.album_restarts.proofs.BaseLemmas.{next_base}
use Rattle.album_restarts.proofs.NextLemmas.{rows_carried, stamps_carried}
use Rattle.album_judge.specs.Writes.{Writes}

-- ---- some of the events

among_none : (es : List Event) → AreAmong [] es
among_none [] = nothing
among_none (e ∷ es) = left (among_none es)

more_after : {some all : List Event} (others : List Event) → AreAmong some all → AreAmong some (all ++ others)
more_after others nothing = among_none others
more_after others (taken h) = taken (more_after others h)
more_after others (left h) = left (more_after others h)

among_more : (some all others : List Event) → AreAmong some all → AreAmong some (all ++ others)
among_more some all others h = more_after others h

one_after : {some all : List Event} (e : Event) → AreAmong some all → AreAmong (some ++ e ∷ []) (all ++ e ∷ [])
one_after e nothing = taken nothing
one_after e (taken h) = taken (one_after e h)
one_after e (left h) = left (one_after e h)

among_one : (some all : List Event) (e : Event) → AreAmong some all → AreAmong (some ++ e ∷ []) (all ++ e ∷ [])
among_one some all e h = one_after e h

-- ---- parts of a text

-- the text is that of parts, and each of them is right by the input
pub record Parts (input : List Line) (text : List ℕ) : Type 0 where
  pub parts : List Printed
  pub whole : text ≡ flat_map text_of parts
  pub right : (part : Printed) → In part parts → IsRight input part

no_parts : (input : List Line) → Parts input []
no_parts input = record { parts = []; whole = refl; right = λ part i. in_nil i }

join_parts : (input : List Line) (text others : List ℕ) → Parts input text → Parts input others
    → Parts input (text ++ others)
join_parts input text others a b = record {
  parts = a.parts ++ b.parts;
  whole = ap (λ (z : List ℕ). z ++ others) a.whole ∙ ap (λ (z : List ℕ). flat_map text_of a.parts ++ z) b.whole
      ∙ sym (flat_map-append text_of a.parts b.parts);
  right = λ part i. ⊎_elim (λ j. a.right part j) (λ j. b.right part j) (in_cases a.parts b.parts i);
}

refused_part : (input : List Line) (r : Refusal) → Parts input (refusal_line r)
refused_part input r = record {
  parts = Refused r ∷ [];
  whole = sym (append-nil (refusal_line r));
  right = λ part i. ⊎_elim (λ (e : part ≡ Refused r). subst (IsRight input) (sym e) tt) (λ j. in_nil j) (in_uncons i);
}

text_map : (outs : List Out) (of : Out → Printed) (line_of : Out → List ℕ) → ((output : Out) → text_of (of output) ≡ line_of output)
    → flat_map line_of outs ≡ flat_map text_of (map of outs)
text_map [] of line_of same = refl
text_map (output ∷ outs) of line_of same =
    ap (λ (z : List ℕ). z ++ flat_map line_of outs) (sym (same output))
    ∙ ap (λ (z : List ℕ). text_of (of output) ++ z) (text_map outs of line_of same)

-- ---- a world that is spelled

all_hold : (o : Opening) (es : List Event) → is_base_opening o ≡ true → AllHold o (run_of o es)
all_hold o es is = record {
  rulings_hold = rulings_hold o es is;
  writes_are_granted = writes_are_granted o es is;
  views_are_read_atomic = views_are_read_atomic o es is;
  views_are_fresh = views_are_fresh o es is;
  outcomes_are_true = outcomes_are_true o es is;
  no_update_is_lost = no_update_is_lost o es is;
  busy_has_its_cause = busy_has_its_cause o es is;
  answers_are_to_requests = answers_are_to_requests o es is;
}

is_of : (w : World) (outs : List Out) → IsInPast w outs → (output : Out) → Contains outs output → IsOf w output
is_of w outs h (out.Sent n) i = tt
is_of w outs h (out.Noted c n) i = h.notes c n i
is_of w outs h (out.Answered c a) i = (h.requests c a i, h.answers c a i)

-- ---- the epoch that runs

-- each epoch opens on a base
opens_base : (lines : List Line) (number : ℕ) (o : Opening) → Opens lines number o → is_base_opening o ≡ true
opens_base _ _ _ (First lines o h) = opening_is_base o h.passes
opens_base _ _ _ (Next lines others line number o n es opens among said over) =
    next_base o n es (opens_base lines number o opens) over.leaves

-- lines that have been read, of an input, and the epoch that the first of them led to
module _ (input lines later first others : List Line) (before : input ≡ lines ++ later) (split : lines ≡ first ++ others)
    (number : ℕ) (o : Opening) (opens : Opens first number o) where
  -- the outputs of the event are of the world after it
  event_parts : (es all : List Event) (e : Event) (trace : Bool) → AreAmong (es ++ e ∷ []) (events_spelled o.root others)
      → (ch : Change) → change_of (terms_of o) (run_of o es).now e ≡ Ok ch
      → Parts input (flat_map (λ output. out_line (out_shown o.stamps output)
      (message_shown trace (now_after (run_of o es).now ch) output)) (outs_of (run_of o es).now ch))
  event_parts es all e trace among ch is =
      let w = run_of o es in
      let outs = outs_of w.now ch in
      let shown : Out → Option Message = λ output. message_shown trace (now_after w.now ch) output in
      let of : Out → Printed = λ output. Output lines number o (es ++ e ∷ []) output (shown output) in
      let past : IsInPast (run_of o (es ++ e ∷ [])) outs = subst (IsInPast (run_of o (es ++ e ∷ [])))
      (ap (outs_by w.now) is) (in_past_given o es (opens_base first number o opens) e) in
      record {
        parts = map of outs;
        whole = text_map outs of (λ output. out_line (out_shown o.stamps output) (shown output)) (λ output. refl);
        right = λ part i.
            let d = in_map of outs i in
            subst (IsRight input) (sym d.2)
            (record {
              later = later;
              before = before;
              spelled = record { first = first; others = others; split = split; opens = opens; among = among };
              hold = all_hold o (es ++ e ∷ []) (opens_base first number o opens);
              is = is_of (run_of o (es ++ e ∷ [])) outs past d.0 (contains d.1);
            });
      }

  -- what is known once an event has happened: the world runs by some of the events, and the text is that of parts
  pub record Goes (es all : List Event) (next : World) (text : List ℕ) : Type 0 where
    pub some : List Event
    pub now : next ≡ run_of o some
    pub among : AreAmong some all
    pub parts : Parts input text

  module _ (text_by : Showing → Now → Result Change Refusal → List ℕ)
      (says : (trace : Bool) (now : Now) (ch : Change)
      → text_by (showing trace o.stamps) now (Ok ch) ≡ flat_map (λ output. out_line (out_shown o.stamps output)
      (message_shown trace (now_after now ch) output)) (outs_of now ch))
      (refuses : (trace : Bool) (now : Now) (r : Refusal) → Parts input (text_by (showing trace o.stamps) now (Err r))) where
    happens_parts : (es all rest : List Event) (e : Event) (trace : Bool) → AreAmong es all
        → events_spelled o.root others ≡ (all ++ e ∷ []) ++ rest → (next : World) (text : List ℕ)
        → Happens text_by (terms_of o) (showing trace o.stamps) (run_of o es) e next text → Goes es (all ++ e ∷ []) next text
    happens_parts es all rest e trace among here next text (inl h) = record {
      some = es ++ e ∷ [];
      now = h.0 ∙ sym (run_more (terms_of o) (start o) es e);
      among = among_one es all e among;
      parts = subst (Parts input) (sym h.1) (go (change_of (terms_of o) (run_of o es).now e) refl);
    }
      where
        go : (f : Result Change Refusal) → change_of (terms_of o) (run_of o es).now e ≡ f
            → Parts input (text_by (showing trace o.stamps) (run_of o es).now f)
        go (Ok ch) is = subst (Parts input) (sym (says trace (run_of o es).now ch))
            (event_parts es all e trace
            (subst (AreAmong (es ++ e ∷ [])) (sym here)
            (among_more (es ++ e ∷ []) (all ++ e ∷ []) rest (among_one es all e among))) ch is)
        go (Err r) is = refuses trace (run_of o es).now r
    happens_parts es all rest e trace among here next text (inr h) = record {
      some = es;
      now = h.0;
      among = among_more es all (e ∷ []) among;
      parts = subst (Parts input) (sym h.1) (refused_part input OutOfMemory);
    }

  delivers_parts : (events es all : List Event) (trace : Bool) → AreAmong es all
      → events_spelled o.root others ≡ all ++ events → (next : World) (text : List ℕ)
      → Delivers (terms_of o) (showing trace o.stamps) (run_of o es) events next text → Goes es (all ++ events) next text
  delivers_parts [] es all trace among here next text h = record {
    some = es;
    now = h.0;
    among = among_more es all [] among;
    parts = subst (Parts input) (sym h.1) (no_parts input);
  }
  delivers_parts (e ∷ events) es all trace among here next text h =
      let at : events_spelled o.root others ≡ (all ++ e ∷ []) ++ events = here ∙ sym (append_assoc all (e ∷ []) events) in
      let one = happens_parts delivery_text (λ t n ch. refl) (λ t n r. no_parts input) es all events e trace among at h.0 h.1 h.3 in
      let more = delivers_parts events one.some (all ++ e ∷ []) trace one.among at next h.2
      (subst (λ (z : World). Delivers (terms_of o) (showing trace o.stamps) z events next h.2) one.now h.4) in
      record {
        some = more.some;
        now = more.now;
        among = subst (AreAmong more.some) (append_assoc all (e ∷ []) events) more.among;
        parts = subst (Parts input) (sym h.5) (join_parts input h.1 h.2 one.parts more.parts);
      }

-- ---- what lines say, with one line more

said_more : (lines : List Line) (l : Line) (b : Bool) → is_blank l ≡ b
    → opening_said (lines ++ l ∷ []) ≡ opening_said lines ++ (if b then [] else opening_line_read l ∷ [])
said_more lines l b e =
    ap (map opening_line_read) (filter-append (λ (k : Line). not (is_blank k)) lines (l ∷ []))
    ∙ map-append opening_line_read (filter (λ (k : Line). not (is_blank k)) lines)
    (filter (λ (k : Line). not (is_blank k)) (l ∷ []))
    ∙ ap (λ (z : List (Result OpeningLine Refusal)). opening_said lines ++ z) (go b e)
  where
    go : (b : Bool) → is_blank l ≡ b → map opening_line_read (filter (λ (k : Line). not (is_blank k)) (l ∷ []))
        ≡ (if b then [] else opening_line_read l ∷ [])
    go true e = rw e refl
    go false e = rw e refl

abbrev events_on : Option (List ℕ) → Bool → Line → List Event
events_on root b l = if b then [] else events_read (event_line_read root l)

spelled_more : (root : Option (List ℕ)) (lines : List Line) (l : Line) (b : Bool) → is_blank l ≡ b
    → events_spelled root (lines ++ l ∷ []) ≡ events_spelled root lines ++ events_on root b l
spelled_more root lines l b e =
    flat_map-append (λ (k : Line). if is_blank k then [] else events_read (event_line_read root k)) lines (l ∷ [])
    ∙ ap (λ (z : List Event). events_spelled root lines ++ z)
    (append-nil (if is_blank l then [] else events_read (event_line_read root l)) ∙ ap (λ (f : Bool). events_on root f l) e)

-- one more item
with_more : (values : ValuesSaid) (items : List ItemSaid) (one : ItemSaid)
    → with_items values (items ++ one ∷ []) ≡ with_value (with_items values items) one.item one.stamp one.value
with_more values [] one = refl
with_more values (said ∷ items) one = with_more (with_value values said.item said.stamp said.value) items one

-- ---- the stage of a replay

-- the lines that were read spell the world
pub record RunsIt (done : List Line) (epoch : Epoch) (world : World) : Type 0 where
  pub events : List Event
  pub spelled : Spell done epoch.number epoch.opening events
  pub now : world ≡ run_of epoch.opening events

-- the lines that were read say the header and these items
pub record SaysIt (done : List Line) (header : Header) (values : ValuesSaid) : Type 0 where
  pub items : List ItemSaid
  pub said : opening_said done ≡ Ok (line.Open header) ∷ map item_said items
  pub are : values ≡ with_items no_values items

abbrev StandsBy : List Line → Stage → Type 0
StandsBy done Unopened = opening_said done ≡ []
StandsBy done (BeingOpened header values) = SaysIt done header values
StandsBy done (Running epoch world) = RunsIt done epoch world
StandsBy done Over = Unit {0}

-- a line is taken: what is printed of it, and the stage of the replay then
pub record IsTaken (input done : List Line) (step : Step) : Type 0 where
  pub stands : StandsBy done step.next
  pub parts : Parts input step.text

over_taken : (input done : List Line) (r : Refusal) (step : Step) → step ≡ refused r → IsTaken input done step
over_taken input done r step e =
    subst (IsTaken input done) (sym e) (record { stands = tt; parts = refused_part input r })

silent_taken : (input done : List Line) (stage : Stage) (step : Step) → StandsBy done stage → step ≡ silently stage
    → IsTaken input done step
silent_taken input done stage step h e =
    subst (IsTaken input done) (sym e) (record { stands = h; parts = no_parts input })

module _ (input done : List Line) (l : Line) (later : List Line) (before : input ≡ (done ++ l ∷ []) ++ later) where
  abbrev now_done : List Line
  now_done = done ++ l ∷ []

  -- a blank line
  blank_stands : is_blank l ≡ true → (stage : Stage) → StandsBy done stage → StandsBy now_done stage
  blank_stands e Unopened h = said_more done l true e ∙ append-nil (opening_said done) ∙ h
  blank_stands e (BeingOpened header values) h = record {
    items = h.items;
    said = said_more done l true e ∙ append-nil (opening_said done) ∙ h.said;
    are = h.are;
  }
  blank_stands e (Running epoch world) h =
      let s = h.spelled in
      record {
        events = h.events;
        spelled = record {
          first = s.first;
          others = s.others ++ l ∷ [];
          split = ap (λ (z : List Line). z ++ l ∷ []) s.split ∙ append_assoc s.first s.others (l ∷ []);
          opens = s.opens;
          among = subst (AreAmong h.events) (sym (spelled_more epoch.opening.root s.others l true e))
              (among_more h.events (events_spelled epoch.opening.root s.others) [] s.among);
        };
        now = h.now;
      }
  blank_stands e Over h = tt

  module _ (dark : is_blank l ≡ false) where
    said_now : opening_said now_done ≡ opening_said done ++ opening_line_read l ∷ []
    said_now = said_more done l false dark

    -- the first line of an opening
    first_taken : StandsBy done Unopened → (r : Result OpeningLine Refusal) → opening_line_read l ≡ r → (step : Step)
        → step ≡ opened_by first_line r → IsTaken input now_done step
    first_taken h (Ok (line.Open header)) e step is = silent_taken input now_done (BeingOpened header no_values) step
        (record {
          items = [];
          said =
              said_now ∙ ap (λ (z : List (Result OpeningLine Refusal)). z ++ opening_line_read l ∷ []) h
              ∙ ap (λ (z : Result OpeningLine Refusal). z ∷ []) e;
          are = refl;
        }) is
    first_taken h (Ok (line.Item item stamp value)) e step is = over_taken input now_done BadRequest step is
    first_taken h (Ok line.Begin) e step is = over_taken input now_done BadRequest step is
    first_taken h (Err r) e step is = over_taken input now_done r step is

    -- a later one
    later_said : (header : Header) (values : ValuesSaid) (h : StandsBy done (BeingOpened header values))
        → (said : OpeningLine) → opening_line_read l ≡ Ok said
        → opening_said now_done ≡ (Ok (line.Open header) ∷ map item_said h.items) ++ Ok said ∷ []
    later_said header values h said e =
        said_now ∙ ap (λ (z : List (Result OpeningLine Refusal)). z ++ opening_line_read l ∷ []) h.said
        ∙ ap (λ (z : Result OpeningLine Refusal). (Ok (line.Open header) ∷ map item_said h.items) ++ z ∷ []) e

    later_taken : (header : Header) (values : ValuesSaid) → StandsBy done (BeingOpened header values)
        → (r : Result OpeningLine Refusal) → opening_line_read l ≡ r → (step : Step)
        → step ≡ opened_by (later_line header values) r → IsTaken input now_done step
    later_taken header values h (Ok (line.Open other)) e step is = over_taken input now_done BadRequest step is
    later_taken header values h (Ok (line.Item item stamp value)) e step is =
        let one : ItemSaid = record { item = item; stamp = stamp; value = value } in
        silent_taken input now_done (BeingOpened header (with_value values item stamp value)) step
        (record {
          items = h.items ++ one ∷ [];
          said =
              later_said header values h (line.Item item stamp value) e
              ∙ ap (λ (z : List (Result OpeningLine Refusal)). Ok (line.Open header) ∷ z)
              (sym (map-append item_said h.items (one ∷ [])));
          are = ap (λ (v : ValuesSaid). with_value v item stamp value) h.are ∙ sym (with_more no_values h.items one);
        }) is
    later_taken header values h (Ok line.Begin) e step is = go (is_opening (opening_of header values)) refl is
      where
        o : Opening
        o = opening_of header values

        epoch : Epoch
        epoch = record { opening = o; number = 1; trace = header.trace }

        go : (b : Bool) → is_opening o ≡ b
            → step ≡ (if b then silently (Running epoch (start o)) else refused BadOpening)
            → IsTaken input now_done step
        go true passes k = silent_taken input now_done (Running epoch (start o)) step
            (record {
              events = [];
              spelled = record {
                first = now_done;
                others = [];
                split = sym (append-nil now_done);
                opens = First now_done o (record {
                  header = header;
                  items = h.items;
                  said = later_said header values h line.Begin e;
                  is = ap (opening_of header) h.are;
                  passes = passes;
                });
                among = nothing;
              };
              now = refl;
            }) k
        go false passes k = over_taken input now_done BadOpening step k
    later_taken header values h (Err r) e step is = over_taken input now_done r step is

    -- a line of events
    module _ (epoch : Epoch) (es : List Event) (s : Spell done epoch.number epoch.opening es) where
      abbrev o : Opening
      o = epoch.opening

      abbrev others_now : List Line
      others_now = s.others ++ l ∷ []

      split_now : now_done ≡ s.first ++ others_now
      split_now = ap (λ (z : List Line). z ++ l ∷ []) s.split ∙ append_assoc s.first s.others (l ∷ [])

      -- the stage once some of the line's events have happened
      stands_now : (line_events : List Event)
          → events_spelled o.root others_now ≡ events_spelled epoch.opening.root s.others ++ line_events → (next : World) (text : List ℕ)
          → Goes input now_done later s.first others_now before split_now epoch.number o s.opens es
          (events_spelled epoch.opening.root s.others ++ line_events) next text
          → RunsIt now_done epoch next
      stands_now line_events here next text g = record {
        events = g.some;
        spelled = record {
          first = s.first;
          others = others_now;
          split = split_now;
          opens = s.opens;
          among = subst (AreAmong g.some) (sym here) g.among;
        };
        now = g.now;
      }

      -- nothing has happened
      still_now : (next : World) → next ≡ run_of o es → RunsIt now_done epoch next
      still_now next same = record {
        events = es;
        spelled = record {
          first = s.first;
          others = others_now;
          split = split_now;
          opens = s.opens;
          among = subst (AreAmong es) (sym (spelled_more epoch.opening.root s.others l false dark))
              (among_more es (events_spelled epoch.opening.root s.others) (events_read (event_line_read epoch.opening.root l)) s.among);
        };
        now = same;
      }

      pub record IsRunOn (next : World) (text : List ℕ) : Type 0 where
        pub stands : RunsIt now_done epoch next
        pub parts : Parts input text

      runs_on : (r : Result Spelled Refusal) → event_line_read epoch.opening.root l ≡ r → (next : World) (text : List ℕ)
          → Runs (terms_of o) (showing epoch.trace o.stamps) (run_of o es) r next text → IsRunOn next text
      runs_on (Ok (spelled.One e)) read next text h =
          let here : events_spelled o.root others_now ≡ events_spelled epoch.opening.root s.others ++ e ∷ [] =
          spelled_more epoch.opening.root s.others l false dark ∙ ap (λ (z : Result Spelled Refusal). events_spelled epoch.opening.root s.others ++ events_read z) read in
          let g = happens_parts input now_done later s.first others_now before split_now epoch.number o s.opens event_text
          (λ t n ch. refl) (λ t n r. refused_part input r) es (events_spelled epoch.opening.root s.others) [] e epoch.trace s.among
          (here ∙ sym (append-nil (events_spelled epoch.opening.root s.others ++ e ∷ []))) next text h in
          record { stands = stands_now (e ∷ []) here next text g; parts = g.parts }
      runs_on (Ok (spelled.Range a b)) read next text h =
          let here : events_spelled o.root others_now ≡ events_spelled epoch.opening.root s.others ++ deliveries a b =
          spelled_more epoch.opening.root s.others l false dark ∙ ap (λ (z : Result Spelled Refusal). events_spelled epoch.opening.root s.others ++ events_read z) read in
          let g = delivers_parts input now_done later s.first others_now before split_now epoch.number o s.opens
          (deliveries a b) es (events_spelled epoch.opening.root s.others) epoch.trace s.among here next text h in
          record { stands = stands_now (deliveries a b) here next text g; parts = g.parts }
      runs_on (Ok spelled.Restart) read next text h = absurd h
      runs_on (Err r) read next text h = record {
        stands = still_now next h.0;
        parts = subst (Parts input) (sym h.1) (refused_part input r);
      }

      printed_on : (next : World) (text : List ℕ) → IsPrinted (terms_of o) (showing epoch.trace o.stamps) (read_in epoch l) (run_of o es) next text
          → IsRunOn next text
      printed_on next text (inl h) = runs_on (event_line_read epoch.opening.root l) refl next text h
      printed_on next text (inr h) = record {
        stands = still_now next h.0;
        parts = subst (Parts input) (sym h.1) (refused_part input OutOfMemory);
      }

    run_taken : (epoch : Epoch) (world : World) → RunsIt done epoch world → (step : Step)
        → IsRun epoch world l step → IsTaken input now_done step
    run_taken epoch world h step r =
        let printed : IsPrinted (terms_of epoch.opening) (showing_of epoch) (read_in epoch l) (run_of epoch.opening h.events) r.world_then step.text =
        subst (λ (w : World). IsPrinted (terms_of epoch.opening) (showing_of epoch) (read_in epoch l) w r.world_then step.text) h.now r.printed in
        let on = printed_on epoch h.events h.spelled r.world_then step.text printed in
        record { stands = subst (StandsBy now_done) (sym r.runs) on.stands; parts = on.parts }

    -- a restart
    module _ (epoch : Epoch) (world : World) (h : RunsIt done epoch world) (step : Step) (r : IsRestart epoch world l step) where
      over : IsCarriedOver epoch.opening h.events r.next
      over =
          let leaves = subst (λ (w : World). IsNextOpening epoch.opening w.now r.next) h.now r.leaves in
          let base = opens_base h.spelled.first epoch.number epoch.opening h.spelled.opens in
          record {
            leaves = leaves;
            rows = rows_carried epoch.opening r.next h.events base leaves;
            stamps = stamps_carried epoch.opening r.next h.events base leaves;
          }

      opens_now : Opens now_done (epoch.number + 1) r.next
      opens_now =
          let s = h.spelled in
          let split : now_done ≡ s.first ++ s.others ++ l ∷ [] = ap (λ (z : List Line). z ++ l ∷ []) s.split in
          subst (λ (z : List Line). Opens z (epoch.number + 1) r.next) (sym split)
          (Next s.first s.others l epoch.number epoch.opening r.next h.events s.opens s.among r.said over)

      runs_now : RunsIt now_done (epoch_after epoch r.next) (start r.next)
      runs_now = record {
        events = [];
        spelled = record {
          first = now_done;
          others = [];
          split = sym (append-nil now_done);
          opens = opens_now;
          among = nothing;
        };
        now = refl;
      }

      abbrev part : Printed
      part = Restarted now_done (epoch.number + 1) r.next

      restart_taken : IsTaken input now_done step
      restart_taken = record {
        stands = subst (StandsBy now_done) (sym r.opens) runs_now;
        parts = subst (Parts input) (sym r.printed) (record {
          parts = part ∷ [];
          whole = sym (append-nil (text_of part));
          right = λ p i. ⊎_elim
              (λ (e : p ≡ part). subst (IsRight input) (sym e)
              (record { later = later; before = before; opens = opens_now }))
              (λ j. in_nil j) (in_uncons i);
        });
      }

    opened_taken : (says : Step) (step : Step) → IsOpened says step
        → ((s : Step) → s ≡ says → IsTaken input now_done s) → IsTaken input now_done step
    opened_taken says step (inl e) h = h step e
    opened_taken says step (inr e) h = over_taken input now_done OutOfMemory step e

    dark_taken : (stage : Stage) → StandsBy done stage → (step : Step) → Takes stage l step → IsTaken input now_done step
    dark_taken Unopened h step t = opened_taken _ step t (first_taken h (opening_line_read l) refl)
    dark_taken (BeingOpened header values) h step t =
        opened_taken _ step t (later_taken header values h (opening_line_read l) refl)
    dark_taken (Running epoch world) h step (inl t) = run_taken epoch world h step t
    dark_taken (Running epoch world) h step (inr t) = restart_taken epoch world h step t
    dark_taken Over h step t = silent_taken input now_done Over step tt t

  line_taken : (stage : Stage) → StandsBy done stage → (step : Step) → IsStep stage l step → IsTaken input now_done step
  line_taken stage h step i = go (is_blank l) refl i
    where
      go : (b : Bool) → is_blank l ≡ b → MatchBool b (step ≡ silently stage) (Takes stage l step)
          → IsTaken input now_done step
      go true e t = silent_taken input now_done stage step (blank_stands e stage h) t
      go false e t = dark_taken e stage h step t

-- ---- all lines

pub record AreTaken (input done : List Line) (last : Stage) (text : List ℕ) : Type 0 where
  pub stands : StandsBy done last
  pub parts : Parts input text

lines_taken : (input done lines : List Line) → input ≡ done ++ lines → (stage : Stage) → StandsBy done stage
    → (last : Stage) (text : List ℕ) → Replays stage lines last text → AreTaken input input last text
lines_taken input done [] is stage h last text r = record {
  stands = subst (λ (z : Stage). StandsBy input z) (sym r.0)
      (subst (λ (z : List Line). StandsBy z stage) (sym (is ∙ append-nil done)) h);
  parts = subst (Parts input) (sym r.1) (no_parts input);
}
lines_taken input done (l ∷ lines) is stage h last text r =
    let before : input ≡ (done ++ l ∷ []) ++ lines = is ∙ sym (append_assoc done (l ∷ []) lines) in
    let one = line_taken input done l lines before stage h r.0 r.2 in
    let more = lines_taken input (done ++ l ∷ []) lines before r.0.next one.stands last r.1 r.3 in
    record {
      stands = more.stands;
      parts = subst (Parts input) (sym r.4) (join_parts input r.0.text r.1 one.parts more.parts);
    }

end_parts : (input : List Line) (last : Stage) → Parts input (end_text last)
end_parts input Unopened = refused_part input BadOpening
end_parts input (BeingOpened header values) = refused_part input BadOpening
end_parts input (Running epoch world) = no_parts input
end_parts input Over = no_parts input

pub as_promised : (input text : List ℕ) → IsReplay input text → IsAsPromised input text
as_promised input text r =
    let all = lines_taken (lines_of input) [] (lines_of input) refl Unopened refl r.last r.front r.lines in
    let parts = join_parts (lines_of input) r.front (end_text r.last) all.parts (end_parts (lines_of input) r.last) in
    record {
      parts = parts.parts;
      whole = r.whole ∙ parts.whole;
      right = λ part i. parts.right part (within _ i);
    }

pub runs_what_lines_spell : (lines : List Line) (epoch : Epoch) (world : World) (text : List ℕ)
    → Replays Unopened lines (Running epoch world) text → IsSpelledBy lines epoch world
runs_what_lines_spell lines epoch world text r =
    let h = (lines_taken lines [] lines refl Unopened refl (Running epoch world) text r).stands in
    record { events = h.events; spelled = h.spelled; is = h.now }

-- a text that is written keeps the promise
pub promised : (input a b : Option (List ℕ)) → IfSome input (λ i. Writes (IsReplay i) a b)
    → IfSome input (λ i. Writes (IsAsPromised i) a b)
promised None a b h = h
promised (Some i) a b h = (h.0, as_promised i h.0 h.1, h.2)
