-- What a line makes of the stage of a replay. For the methods of `Stage`, and for `take_lines` and `finish`.
use Rattle.std.proofs.Common.{◌≡◌, ◌≢◌, ◌⊎◌, ◌+◌, ◌<◌, ℕ, List, [], ◌∷◌, ◌++◌, length, map, take, drop, get_or, Bool, true, false, Option, Result, Ok, Err, OnOk, OnErr, IfErr, inl, inr, refl, sym, ap, ◌∙◌, subst, append_assoc, append-nil, if◌then◌else◌}
use Rattle.std.specs.Bool.{MatchBool}
use Rattle.std.specs.Io.KnownBytes.{Appends}
use Rattle.album_stamps.specs.declared.refusals.Refusal.{Refusal}
use Rattle.album_stamps.specs.declared.refusals.Refusal.TheVariants.{OutOfMemory, BadOpening}
use Rattle.album_items.specs.Openings.{is_opening}
use Rattle.album_items.specs.declared.openings.Opening.{Opening}
use Rattle.std.proofs.KnownBytes.{Appends-trans, Appends-nil}
use Rattle.album_client.specs.Terms.{Terms}
use Rattle.album_world.specs.Past.{Past, World}
use Rattle.album_world.specs.Runs.{start}
use Rattle.album_world.specs.Seen.{WorldState, IsExtendedBy, first_world, opened}
use Rattle.album_permits.specs.declared.events.Event.{Event}
use Rattle.album_permits.specs.declared.outs.Out.{Out}
use Rattle.album_items.proofs.BaseLemmas.{opening_is_base}
use Rattle.std.proofs.lemmas.Result.{IfErr-weaker, on_ok_weaker}
use Rattle.album_wire.specs.TalkJson.{talk_text}
use Rattle.album_wire.specs.declared.event_shape.Spelled.{Spelled}
use Rattle.album_wire.specs.declared.event_shape.Spelled.TheVariants as spelled
use Rattle.album_wire.specs.declared.talk_json.TalkOut.TheVariants as talk
use Rattle.album_wire.specs.declared.opening_line.OpeningLine.{OpeningLine}
use Rattle.album_lines.specs.Lines.{Line, is_blank}
use Rattle.album_lines.specs.Output.{refusal_line}
use Rattle.album_judge.specs.declared.fault.Fault.{Fault}
use Rattle.album_judge.specs.declared.fault.Fault.TheVariants.{Reading, Writing, Memory}
use Rattle.album_replay.specs.declared.openings.SoFar.{SoFar}
use Rattle.album_replay.specs.declared.engine.stages.Stage.{Stage as Kept}
use Rattle.album_replay.specs.declared.engine.stages.Stage.TheVariants as kept
use Rattle.album_replay.specs.Replay.{Epoch, Spells, read_in, Stage, Running, Over, Step, IsStep, IsOpened, IsRun, IsPrinted, Takes, Prints, Replays, begun, opened_by, refused, silently, end_text, replayed, Showing, showing_of}
use Rattle.album_replay.specs.Epochs.{EpochState, HasLed, first_epoch, IsAfter, Restarts, MayRestart, running, TakesLine, PrintsLine, Leads, MayLead, with_past}
use Rattle.album_replay.specs.Stages.{GoesOn, Opens, Steps, Replayed, Ends, IsLeftAmid, IsLeftAtEnd, is_over, no_past, stage_of, step_by}
use Rattle.album_judge.specs.Writes.{Writes, IsPrefixOf, IsCutShort, LeavesOf}
use Rattle.album_replay.proofs.Happening.{memory_or_not, line_done, line_left, line_refused, line_written, line_begun}
use Rattle.album_replay.proofs.Leaving.{writes_left}
use Rattle.album_replay.proofs.Replaying.{replays, replays_append}
use Rattle.album_judge.proofs.Answering.{goes_on}
use Rattle.album_judge.proofs.Texts.{writes_weaker, up_to_next, with_others}

-- ---- a line

pub skipped : (stage : Stage) (line : Line) → is_blank line ≡ true → IsStep stage line (silently stage)
skipped stage line is =
    subst (λ b. MatchBool b (silently stage ≡ silently stage) (Takes stage line (silently stage))) (sym is) refl

pub not_skipped : (stage : Stage) (line : Line) (step : Step)
    → is_blank line ≡ false
    → Takes stage line step
    → IsStep stage line step
not_skipped stage line step is h = subst (λ b. MatchBool b (step ≡ silently stage) (Takes stage line step)) (sym is) h

abbrev pub step_from : Stage → List ℕ → Step
step_from next text = record { next = next; text = text }

same_step : (a b : Stage) (x y : List ℕ) → a ≡ b → x ≡ y → step_from a x ≡ step_from b y
same_step a b x y stages texts = ap (λ s. step_from s x) stages ∙ ap (step_from b) texts

-- a step of the opening is what its line says, unless memory runs out
pub is_opened : (says : Step) (result : Result Kept Refusal) (next : Stage) (text : List ℕ)
    → Opens says result
    → next ≡ (step_by result).next
    → text ≡ (step_by result).text
    → IsOpened says (step_from next text)
is_opened says (Ok kept) next text opens stage whole =
    inl (same_step next (stage_of kept no_past) text [] stage whole ∙ sym opens)
is_opened says (Err e) next text opens stage whole = go (memory_or_not e)
  where
    is : step_from next text ≡ refused e
    is = same_step next Over text (refusal_line e) stage whole

    go : (e ≡ OutOfMemory) ⊎ (e ≢ OutOfMemory) → IsOpened says (step_from next text)
    go (inl memory) = inr (is ∙ ap refused memory)
    go (inr why) = inl (is ∙ sym (opens why))

-- ---- the opening

-- its line can't be read, or is read
module _ (taken : OpeningLine → Step) (read : Result OpeningLine Refusal) where
  pub unread : (e : Refusal) → (e ≢ OutOfMemory → read ≡ Err e) → GoesOn (opened_by taken read) (Err e)
  unread e h why = ap (opened_by taken) (h why)

  pub read_so : (said : OpeningLine) (result : Result SoFar Refusal) → read ≡ Ok said → GoesOn (taken said) result
      → GoesOn (opened_by taken read) result
  read_so said result is goes_on = subst (λ r. GoesOn (opened_by taken r) result) (sym is) goes_on

-- the world opens, or doesn't
module _ (o : Opening) (trace : Bool) where
  abbrev epoch : Epoch
  epoch = record { opening = o; number = 1; trace = trace }

  abbrev opened_if : Bool → Result EpochState Refusal
  opened_if b = if b then Ok (record { of = epoch; world = first_world o }) else Err BadOpening

  abbrev begun_if : Bool → Step
  begun_if b = if b then silently (Running epoch (start o)) else refused BadOpening

  opens_by : (b : Bool) (first : EpochState) → opened_if b ≡ Ok first
      → begun_if b ≡ silently (stage_of (kept.Running first) no_past)
  opens_by true first e =
      let is : record { of = epoch; world = first_world o } ≡ first = cc in
      ap (λ (k : EpochState). silently (stage_of (kept.Running k) no_past)) is
  opens_by false first e = absurd (cc)

  pub world_opens : (first : EpochState) → first_epoch o trace ≡ Ok first
      → begun o trace ≡ silently (stage_of (kept.Running first) no_past)
  world_opens first e = opens_by (is_opening o) first e

  refused_by : (b : Bool) (why : Refusal) → opened_if b ≡ Err why → begun_if b ≡ refused why
  refused_by true why e = absurd (cc)
  refused_by false why e =
      let is : BadOpening ≡ why = cc in
      ap refused is

  pub world_refused : (why : Refusal) → first_epoch o trace ≡ Err why → begun o trace ≡ refused why
  world_refused why e = refused_by (is_opening o) why e

pub over : (kept : Kept) (past : Past) → is_over kept ≡ true → stage_of kept past ≡ Over
over kept.Unopened past is = cc
over (kept.BeingOpened header values) past is = cc
over (kept.Running epoch) past is = cc
over kept.Over past is = refl

-- ---- lines

pub one_step : (stage next : Stage) (line : Line) (text : List ℕ)
    → IsStep stage line (step_from next text)
    → Replays stage (line ∷ []) next text
one_step stage next line text h = (step_from next text, [], h, (refl, refl), sym (append-nil text))

-- whatever is printed of a line, there is a text of the lines after it
pub goes_on_printing : (stage : Stage) (line : Line) (later : List Line) (text : List ℕ)
    → Prints stage line text
    → IsPrefixOf (λ whole. (last : Stage) × Replays stage (line ∷ later) last whole) text
goes_on_printing stage line later text h =
    let rest = replayed h.0 later in
    (rest.1, (rest.0, (step_from h.0 text, rest.1, h.1, replays h.0 later, refl)))

-- lines are taken, and of the next one this is left
pub lines_left : (fault : Fault) (stage between : Stage) (lines done later : List Line) (line : Line) (front part : List ℕ)
    → lines ≡ done ++ line ∷ later
    → Replays stage done between front
    → LeavesOf fault (Prints between line) part
    → IsLeftAmid fault stage lines (front ++ part)
lines_left Reading stage between lines done later line front part split taken h = absurd h
lines_left Writing stage between lines done later line front part split taken h =
    let more = goes_on_printing between line later (part ++ h.0) h.2 in
    let all : Replays stage (done ++ line ∷ later) more.1.0 (front ++ ((part ++ h.0) ++ more.0)) =
    replays_append stage between more.1.0 done (line ∷ later) front ((part ++ h.0) ++ more.0) taken more.1.1 in
    let text : front ++ ((part ++ h.0) ++ more.0) ≡ (front ++ part) ++ (h.0 ++ more.0) = simp append_assoc in
    let whole : Replays stage lines more.1.0 ((front ++ part) ++ (h.0 ++ more.0)) =
    subst (λ t. Replays stage lines more.1.0 t) text
    (subst (λ ls. Replays stage ls more.1.0 (front ++ ((part ++ h.0) ++ more.0))) (sym split) all) in
    (h.0 ++ more.0, goes_on h.0 more.0 h.1, (more.1.0, whole))
lines_left Memory stage between lines done later line front part split taken h = record {
  done = done;
  line = line;
  later = later;
  between = between;
  front = front;
  part = part;
  split = split;
  taken = taken;
  amid = h;
  whole = refl;
}

-- ---- the end

pub some_line_text : (e : Refusal) → refusal_line e ≢ []
unfolding refusal_line
some_line_text e none = cc

pub last_lines_left : (fault : Fault) (stage : Stage) (lines : List Line) (text : List ℕ)
    → IsLeftAmid fault stage lines text
    → IsLeftAtEnd fault stage lines text
last_lines_left Reading stage lines text h = absurd h
last_lines_left Writing stage lines text h =
    let end = end_text h.2.0 in (
      h.0 ++ end,
      goes_on h.0 end h.1,
      record {
        last = h.2.0;
        front = text ++ h.0;
        taken = h.2.1;
        whole = sym (append_assoc text h.0 end);
      },
    )
last_lines_left Memory stage lines text h = inl h

pub end_left : (fault : Fault) (stage last : Stage) (lines : List Line) (front part : List ℕ)
    → Replays stage lines last front
    → end_text last ≢ []
    → LeavesOf fault (λ whole. whole ≡ end_text last) part
    → IsLeftAtEnd fault stage lines (front ++ part)
end_left Reading stage last lines front part taken due h = absurd h
end_left Writing stage last lines front part taken due h = (
  h.0,
  h.1,
  record {
    last = last;
    front = front;
    taken = taken;
    whole = append_assoc front part h.0 ∙ ap (λ t. front ++ t) h.2;
  },
)
end_left Memory stage last lines front part taken due h = inr (record {
  last = last;
  front = front;
  part = part;
  taken = taken;
  due = due;
  amid = h;
  whole = refl;
})

-- ---- what the methods of `Stage` write

pub blank_taken : (kept : Kept) (past : Past) (line : Line) (a : Option (List ℕ))
    → is_blank line ≡ true
    → Writes (Steps kept past line kept) a a
blank_taken kept past line a is = ([], (past, skipped (stage_of kept past) line is), Appends-nil a)

-- a line of the opening: the opening continues, or is refused
module _ (old : Stage) (line : Line) (says : Step) (opening : (step : Step) → IsOpened says step → Takes old line step)
    (is : is_blank line ≡ false) (result : Result Kept Refusal) (opens : Opens says result) where
  pub opening_taken : (new : Kept) (a b : Option (List ℕ))
      → stage_of new no_past ≡ (step_by result).next
      → Appends a b (step_by result).text
      → Writes (λ text. (after : Past) × IsStep old line (record { next = stage_of new after; text = text })) a b
  opening_taken new a b stage w =
      let text = (step_by result).text in
      let step = step_from (stage_of new no_past) text in
      let opened : IsOpened says step = is_opened says result (stage_of new no_past) text opens stage refl in
      (text, (no_past, not_skipped old line step is (opening step opened)), w)

  pub opening_left : (fault : Fault) (a b : Option (List ℕ))
      → Writes (LeavesOf fault (λ whole. whole ≡ (step_by result).text)) a b
      → Writes (LeavesOf fault (Prints old line)) a b
  opening_left fault a b w =
      writes_left (λ whole. whole ≡ (step_by result).text) (Prints old line)
      (λ text e.
      let step = step_from (step_by result).next text in (
        (step_by result).next,
        not_skipped old line step is
            (opening step (is_opened says result (step_by result).next text opens refl e)),
      ))
      fault a b w

-- a line of an epoch
module _ (old : EpochState) (past : Past) (line : Line) where
  module _ (led : HasLed old.of.opening old.world) where
    -- its events run
    goes_on_running : (next : World) (text : List ℕ) → IsPrinted old.world.terms (showing_of old.of) (read_in old.of line) (with_past old.world past) next text
        → IsRun old.of (with_past old.world past) line (step_from (Running old.of next) text)
    goes_on_running next text printed = record {
      world_then = next;
      runs = refl;
      printed = subst (λ (t : Terms). IsPrinted t (showing_of old.of) (read_in old.of line) (with_past old.world past) next text) led.1.terms printed;
    }

    pub events_taken : (new : WorldState) (a b : Option (List ℕ))
        → Writes (Leads (IsPrinted old.world.terms (showing_of old.of) (read_in old.of line)) old.world new past) a b
        → Writes (TakesLine old past line (record { of = old.of; world = new })) a b
    events_taken new a b w =
        (w.0, (w.1.0, inl (goes_on_running (with_past new w.1.0) w.0 w.1.1)), w.2)

    pub events_left : (fault : Fault) (a b : Option (List ℕ))
        → Writes (LeavesOf fault (MayLead (IsPrinted old.world.terms (showing_of old.of) (read_in old.of line)) old.world past)) a b
        → Writes (LeavesOf fault (PrintsLine old past line)) a b
    events_left fault a b w =
        writes_left (MayLead (IsPrinted old.world.terms (showing_of old.of) (read_in old.of line)) old.world past) (PrintsLine old past line)
        (λ text h. (Running old.of h.0, inl (goes_on_running h.0 text h.1)))
        fault a b w

  -- it is a restart, and the next epoch opens
  module _ (said : read_in old.of line ≡ Ok spelled.Restart) where
    restarts : (new : EpochState) → IsAfter old new
        → Takes (running old past) line (step_from (running new no_past) (talk_text (talk.Restarted new.of.number)))
    restarts new h = inr (record {
      said = said;
      next = new.of.opening;
      leaves = h.leaves;
      opens = (λ i. Running (h.of i) (with_past (h.world i) no_past));
      printed = ap (λ (e : Epoch). talk_text (talk.Restarted e.number)) h.of;
    })

    -- memory runs out on it
    refused_restart : Takes (running old past) line (step_from (running old past) (refusal_line OutOfMemory))
    refused_restart = inl (record { world_then = with_past old.world past; runs = refl; printed = inr (refl, refl) })

    restarts_so : (new : EpochState) (text : List ℕ) → Restarts old new text → TakesLine old past line new text
    restarts_so new text (inl h) = (
      no_past,
      subst (λ (t : List ℕ). Takes (running old past) line (step_from (running new no_past) t)) (sym h.1)
          (restarts new h.0),
    )
    restarts_so new text (inr h) = (
      past,
      subst (λ (e : EpochState). Takes (running old past) line (step_from (running e past) text)) (sym h.0)
          (subst (λ (t : List ℕ). Takes (running old past) line (step_from (running old past) t)) (sym h.1)
          refused_restart),
    )

    pub restart_taken : (new : EpochState) (a b : Option (List ℕ)) → Writes (Restarts old new) a b
        → Writes (TakesLine old past line new) a b
    restart_taken new a b w = (w.0, restarts_so new w.0 w.1, w.2)

    pub restart_left : (fault : Fault) (a b : Option (List ℕ)) → Writes (LeavesOf fault (MayRestart old)) a b
        → Writes (LeavesOf fault (PrintsLine old past line)) a b
    restart_left fault a b w =
        writes_left (MayRestart old) (PrintsLine old past line)
        (λ text h. let t = restarts_so h.0 text h.1 in (running h.0 t.0, t.1))
        fault a b w

-- ---- what a restart writes

module _ (old new : EpochState) (after : IsAfter old new) (text : List ℕ)
    (is : text ≡ talk_text (talk.Restarted new.of.number)) where
  restarted : Restarts old new text
  restarted = inl (after, is)

  pub restart_written : {X : Type 0} (r : Result X Fault) (a b : Option (List ℕ)) → OnOk r (Appends a b text)
      → OnOk r (Writes (Restarts old new) a b)
  restart_written r a b w = on_ok_weaker r (λ x. (text, restarted, x)) w

  pub restart_cut : {X : Type 0} (r : Result X Fault) (a b : Option (List ℕ))
      → OnErr r (Writes (IsCutShort (λ whole. whole ≡ text)) a b) → IfErr r (λ fault. fault ≡ Writing)
      → IfErr r (λ fault. Writes (LeavesOf fault (MayRestart old)) a b)
  restart_cut (Ok x) a b w why = tt
  restart_cut (Err fault) a b w why =
      subst (λ (f : Fault). Writes (LeavesOf f (MayRestart old)) a b) (sym why)
      (writes_left (λ whole. whole ≡ text) (MayRestart old)
      (λ whole e. (new, subst (Restarts old new) (sym e) restarted)) Writing a b w)

module _ (old : EpochState) (why : Refusal) (is : why ≡ OutOfMemory) where
  not_restarted : Restarts old old (refusal_line why)
  not_restarted = inr (refl, ap refusal_line is)

  pub restart_refused : {X : Type 0} (r : Result X Fault) (a b : Option (List ℕ)) → OnOk r (Appends a b (refusal_line why))
      → OnOk r (Writes (Restarts old old) a b)
  restart_refused r a b w = on_ok_weaker r (λ x. (refusal_line why, not_restarted, x)) w

  pub restart_unsaid : {X : Type 0} (r : Result X Fault) (a b : Option (List ℕ))
      → IfErr r (λ fault. Writes (LeavesOf fault (λ whole. whole ≡ refusal_line why)) a b)
      → IfErr r (λ fault. Writes (LeavesOf fault (MayRestart old)) a b)
  restart_unsaid r a b w =
      IfErr-weaker r _ _
      (λ fault x. writes_left (λ whole. whole ≡ refusal_line why) (MayRestart old)
      (λ whole e. (old, subst (Restarts old old) (sym e) not_restarted)) fault a b x) w

-- ---- an epoch's past

-- it is the one that is said
pub first_is : (o : Opening) (trace : Bool) (world : WorldState) → opened o ≡ Ok world
    → first_epoch o trace ≡ Ok (record { of = record { opening = o; number = 1; trace = trace }; world = world })
first_is o trace world e = go (is_opening o) e
  where
    go : (b : Bool) → (if b then Ok (first_world o) else Err BadOpening) ≡ Ok world
        → opened_if o trace b ≡ Ok (record { of = record { opening = o; number = 1; trace = trace }; world = world })
    go true k =
        let same : first_world o ≡ world = cc in
        ap (λ (w : WorldState).
        let e : EpochState = record { of = record { opening = o; number = 1; trace = trace }; world = w } in
        let r : Result EpochState Refusal = Ok e in
        r) same
    go false k = absurd (cc)

-- the first one's world has none
pub led_first : (o : Opening) (world : WorldState) → opened o ≡ Ok world → HasLed o world
led_first o world e = go (is_opening o) refl e
  where
    go : (b : Bool) → is_opening o ≡ b → (if b then Ok (first_world o) else Err BadOpening) ≡ Ok world → HasLed o world
    go true is k =
        let same : first_world o ≡ world = cc in
        subst (HasLed o) same ([], record { passes = opening_is_base o is; terms = refl; kept = refl })
    go false is k = absurd (cc)

pub led_on : (old new : WorldState) (event : Event) (outs : List Out) → IsExtendedBy old event new outs → (o : Opening)
    → HasLed o old → HasLed o new
led_on old new event outs extended o h = (h.0 ++ event ∷ [], (extended o h.0 h.1).0)

pub led_still : (old new : WorldState) → new ≡ old → (o : Opening) → HasLed o old → HasLed o new
led_still old new same o h = subst (HasLed o) (sym same) h

-- ---- what a line of an epoch writes

-- the epoch is seen as this one
module _ (old seen : EpochState) (same : old ≡ seen) (led : HasLed old.of.opening old.world) (past : Past) (line : Line) where
  abbrev terms : Terms
  terms = old.world.terms

  abbrev how : Showing
  how = showing_of old.of

  abbrev Taken : EpochState → Option (List ℕ) → Option (List ℕ) → Type 0
  Taken new a b = Writes (TakesLine seen past line new) a b

  abbrev Left : Fault → Option (List ℕ) → Option (List ℕ) → Type 0
  Left fault a b = Writes (LeavesOf fault (PrintsLine seen past line)) a b

  pub spelled_taken : (events : Spelled) → read_in old.of line ≡ Ok events → (new : WorldState) (a b : Option (List ℕ))
      → Writes (Leads (λ before next text. Spells terms how before events next text) old.world new past) a b
      → Taken (record { of = old.of; world = new }) a b
  spelled_taken events is new a b w =
      subst (λ (z : EpochState). Writes (TakesLine z past line (record { of = old.of; world = new })) a b) same
      (events_taken old past line led new a b (line_done terms how (read_in old.of line) events old.world new past is a b w))

  pub spelled_left : (events : Spelled) → read_in old.of line ≡ Ok events → (fault : Fault) (a b : Option (List ℕ))
      → Writes (LeavesOf fault (MayLead (λ before next text. Spells terms how before events next text) old.world past)) a b
      → Left fault a b
  spelled_left events is fault a b w =
      subst (λ (z : EpochState). Writes (LeavesOf fault (PrintsLine z past line)) a b) same
      (events_left old past line led fault a b (line_left terms how (read_in old.of line) events old.world past is fault a b w))

  pub refusal_taken : (e : Refusal) → (e ≢ OutOfMemory → read_in old.of line ≡ Err e) → (a b : Option (List ℕ))
      → Appends a b (refusal_line e) → Taken old a b
  refusal_taken e why a b w =
      subst (λ (z : EpochState). Writes (TakesLine z past line old) a b) same
      (events_taken old past line led old.world a b
      (line_written terms how (read_in old.of line) old.world past (refusal_line e) (line_refused terms how (read_in old.of line) e old.world past why) a b w))

  pub refusal_left : (e : Refusal) → (e ≢ OutOfMemory → read_in old.of line ≡ Err e) → (fault : Fault) (a b : Option (List ℕ))
      → Writes (LeavesOf fault (λ text. text ≡ refusal_line e)) a b → Left fault a b
  refusal_left e why fault a b w =
      subst (λ (z : EpochState). Writes (LeavesOf fault (PrintsLine z past line)) a b) same
      (events_left old past line led fault a b
      (line_begun terms how (read_in old.of line) old.world past (refusal_line e) (line_refused terms how (read_in old.of line) e old.world past why) fault a b w))

-- a line that isn't blank
module _ (old : EpochState) (past : Past) (line : Line) (is : is_blank line ≡ false) where
  pub epoch_taken : (new : EpochState) (a b : Option (List ℕ)) → Writes (TakesLine old past line new) a b
      → Writes (Steps (kept.Running old) past line (kept.Running new)) a b
  epoch_taken new a b w =
      (w.0, (w.1.0, not_skipped (running old past) line (step_from (running new w.1.0) w.0) is w.1.1), w.2)

  pub epoch_left : (fault : Fault) (a b : Option (List ℕ)) → Writes (LeavesOf fault (PrintsLine old past line)) a b
      → Writes (LeavesOf fault (Prints (stage_of (kept.Running old) past) line)) a b
  epoch_left fault a b w =
      writes_left (PrintsLine old past line) (Prints (running old past) line)
      (λ text h. (h.0, not_skipped (running old past) line (step_from h.0 text) is h.1))
      fault a b w

pub over_taken : (past : Past) (line : Line) (a : Option (List ℕ))
    → is_blank line ≡ false
    → Writes (Steps kept.Over past line kept.Over) a a
over_taken past line a is = ([], (past, not_skipped Over line (silently Over) is refl), Appends-nil a)

-- ---- what the loop over lines writes

pub lines_begin : (kept : Kept) (past : Past) (a : Option (List ℕ)) → Writes (Replayed kept past [] kept) a a
lines_begin kept past a = ([], (past, (refl, refl)), Appends-nil a)

module _ {X : Type 0} (f : X → Line) (xs : List X) (i : ℕ) (x : X) (inside : i < length xs) (is : x ≡ get_or xs i x)
    (old mid : Kept) (a b c : Option (List ℕ))
    (so_far : (past : Past) → Writes (Replayed old past (map f (take i xs)) mid) a b) where
  pub lines_next : (new : Kept)
      → ((past : Past) → Writes (Steps mid past (f x) new) b c)
      → (past : Past) → Writes (Replayed old past (map f (take (i + 1) xs)) new) a c
  lines_next new next past =
      let s = so_far past in
      let n = next s.1.0 in
      let one = one_step (stage_of mid s.1.0) (stage_of new n.1.0) (f x) n.0 n.1.1 in
      let all =
      replays_append (stage_of old past) (stage_of mid s.1.0) (stage_of new n.1.0) (map f (take i xs)) (f x ∷ []) s.0 n.0 s.1.1 one in (
        s.0 ++ n.0,
        (n.1.0, subst (λ ls. Replays (stage_of old past) ls (stage_of new n.1.0) (s.0 ++ n.0)) (sym (up_to_next f xs i x inside is)) all),
        Appends-trans a b c s.0 n.0 s.2 n.2,
      )

  pub lines_stop : (fault : Fault)
      → ((past : Past) → Writes (LeavesOf fault (Prints (stage_of mid past) (f x))) b c)
      → (past : Past) → Writes (IsLeftAmid fault (stage_of old past) (map f xs)) a c
  lines_stop fault next past =
      let s = so_far past in
      let n = next s.1.0 in
      let later = map f (drop (i + 1) xs) in
      let split : map f xs ≡ map f (take i xs) ++ f x ∷ later =
      with_others f xs (i + 1)
      ∙ ap (λ ls. ls ++ later) (up_to_next f xs i x inside is)
      ∙ append_assoc (map f (take i xs)) (f x ∷ []) later in (
        s.0 ++ n.0,
        lines_left fault (stage_of old past) (stage_of mid s.1.0) (map f xs) (map f (take i xs)) later (f x) s.0 n.0 split s.1.1 n.1,
        Appends-trans a b c s.0 n.0 s.2 n.2,
      )

-- ---- what is written at the end

module _ (old new : Kept) (lines : List Line) (a b c : Option (List ℕ))
    (so_far : (past : Past) → Writes (Replayed old past lines new) a b) where
  pub end_written : ((past : Past) → Appends b c (end_text (stage_of new past)))
      → (past : Past) → Writes (Ends (stage_of old past) lines) a c
  end_written end past =
      let s = so_far past in
      let text = end_text (stage_of new s.1.0) in
      let ends : Ends (stage_of old past) lines (s.0 ++ text) =
      record { last = stage_of new s.1.0; front = s.0; taken = s.1.1; whole = refl } in
      (s.0 ++ text, ends, Appends-trans a b c s.0 text s.2 (end s.1.0))

  pub end_begun : (fault : Fault)
      → ((past : Past) → end_text (stage_of new past) ≢ [])
      → ((past : Past) → Writes (LeavesOf fault (λ whole. whole ≡ end_text (stage_of new past))) b c)
      → (past : Past) → Writes (IsLeftAtEnd fault (stage_of old past) lines) a c
  end_begun fault due end past =
      let s = so_far past in
      let e = end s.1.0 in (
        s.0 ++ e.0,
        end_left fault (stage_of old past) (stage_of new s.1.0) lines s.0 e.0 s.1.1 (due s.1.0) e.1,
        Appends-trans a b c s.0 e.0 s.2 e.2,
      )

-- where the end is not written wholly, there is a text of it
pub end_stops : {X : Type 0} (result : Result X Fault) (old new : Kept) (lines : List Line) (a b c : Option (List ℕ))
    → ((past : Past) → Writes (Replayed old past lines new) a b)
    → OnErr result ((past : Past) → end_text (stage_of new past) ≢ [])
    → IfErr result (λ fault. (past : Past) → Writes (LeavesOf fault (λ whole. whole ≡ end_text (stage_of new past))) b c)
    → IfErr result (λ fault. (past : Past) → Writes (IsLeftAtEnd fault (stage_of old past) lines) a c)
end_stops (Ok x) old new lines a b c so_far due end = tt
end_stops (Err fault) old new lines a b c so_far due end = end_begun old new lines a b c so_far fault due end

pub last_lines_begun : (fault : Fault) (stage : Stage) (lines : List Line) (a b : Option (List ℕ))
    → Writes (IsLeftAmid fault stage lines) a b
    → Writes (IsLeftAtEnd fault stage lines) a b
last_lines_begun fault stage lines a b w =
    writes_weaker (IsLeftAmid fault stage lines) (IsLeftAtEnd fault stage lines) (last_lines_left fault stage lines) a b w
