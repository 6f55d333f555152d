-- An epoch as the engine of replays keeps it, as the definition of what is printed sees it. That definition also knows
-- the past, which no code keeps.
use Rattle.std.specs.Prelude.{◌≡◌, ◌⊎◌, ℕ, List, Bool, Result, Ok, Err, if◌then◌else◌}
use Rattle.album_stamps.specs.declared.refusals.Refusal.{Refusal}
use Rattle.album_stamps.specs.declared.refusals.Refusal.TheVariants.{OutOfMemory, BadOpening}
use Rattle.album_items.specs.Openings.{is_opening}
use Rattle.album_items.specs.declared.openings.Opening.{Opening}
use Rattle.album_permits.specs.declared.events.Event.{Event}
use Rattle.album_world.specs.Past.{Past, World}
use Rattle.album_world.specs.Seen.{WorldState, LeadsTo, first_world}
use Rattle.album_restarts.specs.Next.{IsNextOpening}
use Rattle.album_lines.specs.Lines.{Line}
use Rattle.album_lines.specs.Output.{refusal_line}
use Rattle.album_wire.specs.TalkJson.{talk_text}
use Rattle.album_wire.specs.declared.talk_json.TalkOut.TheVariants as talk
use Rattle.album_replay.specs.Replay.{Epoch, Stage, Running, epoch_after, Takes}

-- the world that is kept, where this has happened to it
abbrev pub with_past : WorldState → Past → World
with_past world past = record { now = world.kept; past = past }

-- an epoch as the engine keeps it: what it is, and its world
pub record EpochState : Type 0 where
  pub of : Epoch
  pub world : WorldState

-- some events have led from the opening to the world
abbrev pub HasLed : Opening → WorldState → Type 0
HasLed opening world = (events : List Event) × LeadsTo opening events world

-- the first epoch, as it opens
abbrev pub first_epoch : Opening → Bool → Result EpochState Refusal
first_epoch opening trace =
    if is_opening opening
    then Ok (record { of = record { opening = opening; number = 1; trace = trace }; world = first_world opening })
    else Err BadOpening

-- the next epoch opens on what the world of this one leaves
pub record IsAfter (old new : EpochState) : Type 0 where
  pub leaves : IsNextOpening old.of.opening old.world.kept new.of.opening
  pub of : new.of ≡ epoch_after old.of new.of.opening
  pub world : new.world ≡ first_world new.of.opening

-- A restart: the next epoch opens, and that is printed. Or memory runs out on it, which is printed, and this one goes
-- on.
abbrev pub Restarts : EpochState → EpochState → List ℕ → Type 0
Restarts old new text =
    (IsAfter old new × (text ≡ talk_text (talk.Restarted new.of.number)))
    ⊎ ((new ≡ old) × (text ≡ refusal_line OutOfMemory))

-- what may be printed of one
abbrev pub MayRestart : EpochState → List ℕ → Type 0
MayRestart old text = (new : EpochState) × Restarts old new text

-- its world runs, to which this has happened
abbrev pub running : EpochState → Past → Stage
running epoch past = Running epoch.of (with_past epoch.world past)

-- ---- a line

-- the world that was kept, with this past, leads to the one that is kept now, and this is printed
abbrev pub Leads : (World → World → List ℕ → Type 0) → WorldState → WorldState → Past → List ℕ → Type 0
Leads Goes old new past text = (after : Past) × Goes (with_past old past) (with_past new after) text

-- it leads to some world, and this is printed
abbrev pub MayLead : (World → World → List ℕ → Type 0) → WorldState → Past → List ℕ → Type 0
MayLead Goes old past text = (next : World) × Goes (with_past old past) next text

-- whatever had happened to the world of the epoch, the line is taken, and this is printed of it
abbrev pub TakesLine : EpochState → Past → Line → EpochState → List ℕ → Type 0
TakesLine old past line new text =
    (after : Past) × Takes (running old past) line (record { next = running new after; text = text })

-- the line may be taken so that this is printed of it
abbrev pub PrintsLine : EpochState → Past → Line → List ℕ → Type 0
PrintsLine old past line text = (next : Stage) × Takes (running old past) line (record { next = next; text = text })
