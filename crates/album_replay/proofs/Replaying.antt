-- The text of a replay: there is one of each input, and one of more lines follows that of the first. For the laws of
-- `replays`.
use Rattle.std.proofs.Common.{◌≡◌, ℕ, List, [], ◌∷◌, ◌++◌, Bool, true, false, cond, Result, Ok, Err, ◌⊎◌, inl, inr, refl, sym, ap, ◌∙◌, subst, append_assoc}
use Rattle.std.specs.Bool.{MatchBool}
use Rattle.album_stamps.specs.declared.refusals.Refusal.{Refusal}
use Rattle.album_stamps.specs.declared.refusals.Refusal.TheVariants.{OutOfMemory}
use Rattle.album_lines.specs.Output.{refusal_line}
use Rattle.album_client.specs.Terms.{Terms, terms_of}
use Rattle.album_world.specs.Past.{World}
use Rattle.album_world.specs.Runs.{happens}
use Rattle.album_permits.specs.declared.events.Event.{Event}
use Rattle.album_lines.specs.Lines.{Line, is_blank, cut, last, ended, begun, lines_of}
use Rattle.album_wire.specs.EventLine.{deliveries}
use Rattle.album_wire.specs.declared.event_shape.Spelled.{Spelled}
use Rattle.album_wire.specs.declared.event_shape.Spelled.TheVariants as spelled
use Rattle.album_replay.specs.Replay.{Stage, Unopened, BeingOpened, Running, Over, silently, Delivers, Runs, IsStep, Takes, Replays, IsReplay, read_in, delivered, line_run, taken, step_of, replayed, end_text, replay_text, Showing, showing_of}
use Rattle.album_judge.specs.Writes.{IsPrefixOf}
use Rattle.album_judge.proofs.Pieces.{lines_split}

pub delivers : (terms : Terms) (how : Showing) (world : World) (events : List Event)
    → Delivers terms how world events (delivered terms how world events).0 (delivered terms how world events).1
delivers terms how world [] = (refl, refl)
delivers terms how world (event ∷ events) = (
  happens terms world event,
  _,
  (delivered terms how (happens terms world event) events).1,
  inl (refl, refl),
  delivers terms how (happens terms world event) events,
  refl,
)

prints : (terms : Terms) (how : Showing) (world : World) (read : Result Spelled Refusal)
    → Runs terms how world read (line_run terms how world read).0 (line_run terms how world read).1
    ⊎ (((line_run terms how world read).0 ≡ world) × ((line_run terms how world read).1 ≡ refusal_line OutOfMemory))
prints terms how world (Ok (spelled.One event)) = inl (inl (refl, refl))
prints terms how world (Ok (spelled.Range first last)) = inl (delivers terms how world (deliveries first last))
prints terms how world (Ok spelled.Restart) = inr (refl, refl)
prints terms how world (Err refusal) = inl (refl, refl)

takes : (stage : Stage) (line : Line) → Takes stage line (taken stage line)
takes Unopened line = inl refl
takes (BeingOpened header values) line = inl refl
takes (Running epoch world) line = inl (record {
  world_then = (line_run (terms_of epoch.opening) (showing_of epoch) world (read_in epoch line)).0;
  runs = refl;
  printed = prints (terms_of epoch.opening) (showing_of epoch) world (read_in epoch line);
})
takes Over line = refl

pub steps : (stage : Stage) (line : Line) → IsStep stage line (step_of stage line)
steps stage line = go (is_blank line)
  where
    go : (b : Bool) → MatchBool b (cond b (silently stage) (taken stage line) ≡ silently stage)
        (Takes stage line (cond b (silently stage) (taken stage line)))
    go true = refl
    go false = takes stage line

pub replays : (stage : Stage) (lines : List Line)
    → Replays stage lines (replayed stage lines).0 (replayed stage lines).1
replays stage [] = (refl, refl)
replays stage (line ∷ lines) = (
  step_of stage line,
  (replayed (step_of stage line).next lines).1,
  steps stage line,
  replays (step_of stage line).next lines,
  refl,
)

pub is_replay : (input : List ℕ) → IsReplay input (replay_text input)
unfolding replay_text
is_replay input = record {
  last = (replayed Unopened (lines_of input)).0;
  front = (replayed Unopened (lines_of input)).1;
  lines = replays Unopened (lines_of input);
  whole = refl;
}

pub replays_append : (stage between last : Stage) (lines more : List Line) (text others : List ℕ)
    → Replays stage lines between text
    → Replays between more last others
    → Replays stage (lines ++ more) last (text ++ others)
replays_append stage between last [] more text others first second =
    subst (λ s. Replays s more last (text ++ others)) first.0
    (subst (λ t. Replays between more last (t ++ others)) (sym first.1) second)
replays_append stage between last (line ∷ lines) more text others first second = (
  first.0,
  first.1 ++ others,
  first.2,
  replays_append first.0.next between last lines more first.1 others first.3 second,
  ap (λ t. t ++ others) first.4 ∙ append_assoc first.0.text first.1 others,
)

pub front_of_replay : (given later text : List ℕ) (stage : Stage)
    → Replays Unopened (ended given) stage text
    → IsPrefixOf (IsReplay (given ++ later)) text
front_of_replay given later text stage h =
    let more = (cut (begun given) later).0 ++ last (cut (begun given) later).1 in
    let rest = replayed stage more in
    let all = replays_append Unopened stage rest.0 (ended given) more text rest.1 h (replays stage more) in (
      rest.1 ++ end_text rest.0,
      record {
        last = rest.0;
        front = text ++ rest.1;
        lines = subst (λ ls. Replays Unopened ls rest.0 (text ++ rest.1)) (sym (lines_split given later)) all;
        whole = sym (append_assoc text rest.1 (end_text rest.0));
      },
    )

silent : (b : Bool) → MatchBool b (silently Over ≡ silently Over) (silently Over ≡ silently Over)
silent true = refl
silent false = refl

pub nothing_printed : (lines : List Line) → Replays Over lines Over []
nothing_printed [] = (refl, refl)
nothing_printed (line ∷ lines) = (silently Over, [], silent (is_blank line), nothing_printed lines, refl)
