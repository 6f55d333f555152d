-- The lines of events, as they are spelled.
use Rattle.std.specs.Prelude.{◌≡◌, ◌≤◌, ◌<◌, ◌+◌, ℕ, true, List, [], ◌∷◌, codes, IsTrue}
use Rattle.serde_json.specs.Data.{Data}
use Rattle.album_stamps.specs.Stamps.{is_client, is_stamp}
use Rattle.album_eval.specs.Matching.{IsPrincipalText}
use Rattle.album_eval.specs.declared.facts.Principal.{Principal}
use Rattle.album_views.specs.declared.asks.Ask.{Ask}
use Rattle.album_permits.specs.declared.events.Event.{Event}
use Rattle.album_permits.specs.declared.events.Event.TheVariants as event
use Rattle.album_lines.specs.Spelling.{IsJson, HasOnly, IsText, whole_data, list_data}
use Rattle.album_wire.specs.ObjectSpelling.{IsWhole, IsTruth, HasMember, HasJust}
use Rattle.album_wire.specs.ItemSpelling.{IsItem}
use Rattle.album_wire.specs.AskSpelling.{IsAsk}
use Rattle.album_wire.specs.declared.event_shape.Spelled.{Spelled}
use Rattle.album_wire.specs.declared.event_shape.Spelled.TheVariants as spelled
use Rattle.album_wire.specs.declared.event_shape.TheConstants.{MAX_DELIVERIES, MAX_PART}

-- ---- who and what an event names

-- a principal, by its text
abbrev pub IsPrincipal : Principal → Data → Type 0
IsPrincipal who = IsText (IsPrincipalText who)

-- the number of a client
abbrev pub IsClient : ℕ → Data → Type 0
IsClient client d = IsWhole client d × IsTrue (is_client client)

-- a stamp, by its number
abbrev pub IsStamp : ℕ → Data → Type 0
IsStamp stamp d = IsWhole stamp d × IsTrue (is_stamp stamp)

-- the number of a partition, also of one that is not there
abbrev pub IsPart : ℕ → Data → Type 0
IsPart part d = IsWhole part d × (part ≤ MAX_PART)

-- ---- events

-- an ask of a client, and on whose behalf
pub record IsAsked (client : ℕ) (who : Principal) (ask : Ask) (d : Data) : Type 0 where
  pub names : HasOnly (codes "ask" ∷ codes "client" ∷ codes "who" ∷ []) d
  pub ask_there : HasMember (codes "ask") (IsAsk ask) d
  pub client_there : HasMember (codes "client") (IsClient client) d
  pub who_there : HasMember (codes "who") (IsPrincipal who) d

-- [first, last], of at most so many numbers
pub record IsRange (first last : ℕ) (d : Data) : Type 0 where
  pub items : d ≡ list_data (whole_data first ∷ whole_data last ∷ [])
  pub few : last < first + MAX_DELIVERIES

-- a partition that is to ask the others for a stamp's state, and the stamp
pub record IsSweep (part stamp : ℕ) (d : Data) : Type 0 where
  pub names : HasOnly (codes "part" ∷ codes "stamp" ∷ []) d
  pub part_there : HasMember (codes "part") (IsPart part) d
  pub stamp_there : HasMember (codes "stamp") (IsStamp stamp) d

-- an item whose old versions are to be let go, and the partition
pub record IsTrim (part item : ℕ) (d : Data) : Type 0 where
  pub names : HasOnly (codes "item" ∷ codes "part" ∷ []) d
  pub item_there : HasMember (codes "item") (IsItem item) d
  pub part_there : HasMember (codes "part") (IsPart part) d

-- the object of an event
abbrev pub IsEvent : Event → Data → Type 0
IsEvent (event.Ask client who ask) = IsAsked client who ask
IsEvent (event.Deliver number) = HasJust (codes "deliver") (IsWhole number)
IsEvent (event.Sweep part stamp) = HasJust (codes "sweep") (IsSweep part stamp)
IsEvent (event.Stop client) = HasJust (codes "stop") (IsClient client)
IsEvent (event.Trim part item) = HasJust (codes "trim") (IsTrim part item)

-- the object of one event, of the deliveries of a range, or of a restart
abbrev pub AreEvents : Spelled → Data → Type 0
AreEvents (spelled.One event) = IsEvent event
AreEvents (spelled.Range first last) = HasJust (codes "deliver") (IsRange first last)
AreEvents spelled.Restart = HasJust (codes "restart") (IsTruth true)

-- the bytes of a line that spells these events
abbrev pub IsEventLine : Spelled → List ℕ → Type 0
IsEventLine events bytes = (d : Data) × IsJson d bytes × AreEvents events d
