-- What an event makes of a world, and what is printed of it. For `run_event`, `deliver`, `deliver_range` and `run`.
use Rattle.std.proofs.Common.{◌≡◌, ◌≢◌, ◌⊎◌, ◌+◌, ◌-◌, ◌≤◌, ◌<◌, suc, ℕ, List, [], ◌∷◌, ◌++◌, Bool, true, false, not, ◌||◌, ◌==◌, map, Option, Result, Ok, Err, inl, inr, refl, sym, ap, ◌∙◌, subst, append_assoc, append-nil, take-append-drop, drop, arith}
use Rattle.std.specs.Io.KnownBytes.{Appends}
use Rattle.std.specs.List.{range_with_len}
use Rattle.std.proofs.lemmas.List.FromFn.{map-range_with_len_more, take-map-range_with_len}
use Rattle.std.proofs.KnownBytes.{Appends-trans, Appends-nil}
use Rattle.album_stamps.specs.declared.refusals.Refusal.{Refusal}
use Rattle.album_stamps.specs.declared.refusals.Refusal.TheVariants.{OutOfMemory, BadLine, BadRequest, BadWho, BadMask, BadFlags, ListFull, BadText, NoOwner, AlbumFull, TooManyItems, StampsSpent, SessionsSpent, NoSuchMessage, ClientBusy, Stopped, NotPrepared, Clash, Discarded, Full, Closed, BadOpening, NoSuchPart, NotAdmin}
use Rattle.album_stamps.specs.Refusals.{number_of}
use Rattle.album_client.specs.Terms.{Terms}
use Rattle.album_world.specs.State.{Now}
use Rattle.album_world.specs.Past.{Past, World}
use Rattle.album_world.specs.Changes.{Change, change_of}
use Rattle.album_world.specs.Runs.{now_after, past_after, outs_of, happens, changed_by, requested}
use Rattle.album_world.specs.Seen.{WorldState, IsDone}
use Rattle.album_permits.specs.declared.events.Event.{Event}
use Rattle.album_permits.specs.declared.events.Event.TheVariants as event
use Rattle.album_permits.specs.declared.outs.Out.{Out}
use Rattle.album_wire.specs.EventLine.{deliveries}
use Rattle.album_lines.specs.Output.{refusal_line}
use Rattle.album_lines.specs.Lines.{Line}
use Rattle.album_wire.specs.declared.event_shape.Spelled.{Spelled}
use Rattle.album_replay.specs.Replay.{Happens, Delivers, Spells, Runs, IsPrinted, outputs_text, event_text, delivery_text, text_in, delivered, Showing}
use Rattle.album_replay.specs.Epochs.{Leads, MayLead, with_past}
use Rattle.album_judge.specs.declared.fault.Fault.{Fault}
use Rattle.album_judge.specs.Writes.{Writes, IsPrefixOf, LeavesOf}
use Rattle.album_replay.proofs.Leaving.{writes_left, leaves_before, leaves_behind}
use Rattle.album_replay.proofs.Replaying.{delivers}

-- ---- one event

pub leads_may : (Goes : World → World → List ℕ → Type 0) (old new : WorldState) (past : Past) (text : List ℕ)
    → Leads Goes old new past text
    → MayLead Goes old past text
leads_may Goes old new past text h = (with_past new h.0, h.1)

-- where one world leads to another, the text of that is written, or a part of it
pub leads_writes : (Goes : World → World → List ℕ → Type 0) (old new : WorldState) (past : Past) (whole : List ℕ)
    → Leads Goes old new past whole
    → (a b : Option (List ℕ)) → Appends a b whole → Writes (Leads Goes old new past) a b
leads_writes Goes old new past whole h a b w = (whole, h, w)

pub leads_left : (Goes : World → World → List ℕ → Type 0) (old new : WorldState) (past : Past) (whole : List ℕ)
    → Leads Goes old new past whole
    → (fault : Fault) (a b : Option (List ℕ))
    → Writes (LeavesOf fault (λ text. text ≡ whole)) a b
    → Writes (LeavesOf fault (MayLead Goes old past)) a b
leads_left Goes old new past whole h fault a b w =
    writes_left (λ text. text ≡ whole) (MayLead Goes old past)
    (λ text is. subst (MayLead Goes old past) (sym is) (leads_may Goes old new past whole h)) fault a b w

abbrev world_of : Now → Past → World
world_of now past = record { now = now; past = past }

-- it is done, and its outputs are written
pub done_written : (text_of : Showing → Now → Result Change Refusal → List ℕ)
    → ((how : Showing) (now : Now) (change : Change)
    → text_of how now (Ok change) ≡ outputs_text how (now_after now change) (outs_of now change))
    → (terms : Terms) (how : Showing) (old new : WorldState) (event : Event) (outs : List Out) (past : Past)
    → IsDone terms old.kept event new.kept outs
    → Leads (λ before. Happens text_of terms how before event) old new past (outputs_text how new.kept outs)
done_written text_of says terms how old new event outs past done =
    let world = world_of old.kept past in
    let then : Past = past_after old.kept (requested world event).past done.change in
    let next : world_of new.kept then ≡ happens terms world event =
    ap (λ now. world_of now then) done.kept ∙ ap (changed_by world event) (sym done.is) in
    let text : outputs_text how new.kept outs ≡ text_of how old.kept (change_of terms old.kept event) =
    ap (λ now. outputs_text how now outs) done.kept
    ∙ ap (outputs_text how (now_after old.kept done.change)) done.outputs
    ∙ sym (says how old.kept done.change)
    ∙ ap (text_of how old.kept) (sym done.is) in
    (then, inl (next, text))

-- it is refused for its own reason
pub refused_so : (text_of : Showing → Now → Result Change Refusal → List ℕ)
    → (terms : Terms) (how : Showing) (old new : WorldState) (event : Event) (e : Refusal) (past : Past)
    → change_of terms old.kept event ≡ Err e
    → new ≡ old
    → Leads (λ before. Happens text_of terms how before event) old new past (text_of how old.kept (Err e))
refused_so text_of terms how old new event e past is same =
    let next : with_past new past ≡ happens terms (with_past old past) event =
    ap (λ w. with_past w past) same ∙ ap (changed_by (with_past old past) event) (sym is) in
    (past, inl (next, ap (text_of how old.kept) (sym is)))

-- it is refused for memory
pub refused_for_memory : (text_of : Showing → Now → Result Change Refusal → List ℕ)
    → (terms : Terms) (how : Showing) (old new : WorldState) (event : Event) (past : Past)
    → new ≡ old
    → Leads (λ before. Happens text_of terms how before event) old new past (refusal_line OutOfMemory)
refused_for_memory text_of terms how old new event past same =
    (past, inr (ap (λ w. with_past w past) same, refl))

pub memory_or_not : (e : Refusal) → (e ≡ OutOfMemory) ⊎ (e ≢ OutOfMemory)
memory_or_not OutOfMemory = inl refl
memory_or_not BadLine = inr (λ same. cc)
memory_or_not BadRequest = inr (λ same. cc)
memory_or_not BadWho = inr (λ same. cc)
memory_or_not BadMask = inr (λ same. cc)
memory_or_not BadFlags = inr (λ same. cc)
memory_or_not ListFull = inr (λ same. cc)
memory_or_not BadText = inr (λ same. cc)
memory_or_not NoOwner = inr (λ same. cc)
memory_or_not AlbumFull = inr (λ same. cc)
memory_or_not TooManyItems = inr (λ same. cc)
memory_or_not StampsSpent = inr (λ same. cc)
memory_or_not SessionsSpent = inr (λ same. cc)
memory_or_not NoSuchMessage = inr (λ same. cc)
memory_or_not ClientBusy = inr (λ same. cc)
memory_or_not Stopped = inr (λ same. cc)
memory_or_not NotPrepared = inr (λ same. cc)
memory_or_not Clash = inr (λ same. cc)
memory_or_not Discarded = inr (λ same. cc)
memory_or_not Full = inr (λ same. cc)
memory_or_not Closed = inr (λ same. cc)
memory_or_not BadOpening = inr (λ same. cc)
memory_or_not NoSuchPart = inr (λ same. cc)
memory_or_not NotAdmin = inr (λ same. cc)

-- the same of an event: its text is written, or a part of it
pub event_written : (text_of : Showing → Now → Result Change Refusal → List ℕ)
    → (terms : Terms) (how : Showing) (event : Event) (old new : WorldState) (past : Past) (whole : List ℕ)
    → Leads (λ before. Happens text_of terms how before event) old new past whole
    → (a b : Option (List ℕ)) → Appends a b whole
    → Writes (Leads (λ before. Happens text_of terms how before event) old new past) a b
event_written text_of terms how event = leads_writes (λ before. Happens text_of terms how before event)

pub event_left : (text_of : Showing → Now → Result Change Refusal → List ℕ)
    → (terms : Terms) (how : Showing) (event : Event) (old new : WorldState) (past : Past) (whole : List ℕ)
    → Leads (λ before. Happens text_of terms how before event) old new past whole
    → (fault : Fault) (a b : Option (List ℕ)) → Writes (LeavesOf fault (λ text. text ≡ whole)) a b
    → Writes (LeavesOf fault (MayLead (λ before. Happens text_of terms how before event) old past)) a b
event_left text_of terms how event = leads_left (λ before. Happens text_of terms how before event)

-- its number says it
is_memory : (e : Refusal) → (number_of e == number_of OutOfMemory) ≡ true → e ≡ OutOfMemory
is_memory OutOfMemory is = refl
is_memory BadLine is = cc
is_memory BadRequest is = cc
is_memory BadWho is = cc
is_memory BadMask is = cc
is_memory BadFlags is = cc
is_memory ListFull is = cc
is_memory BadText is = cc
is_memory NoOwner is = cc
is_memory AlbumFull is = cc
is_memory TooManyItems is = cc
is_memory StampsSpent is = cc
is_memory SessionsSpent is = cc
is_memory NoSuchMessage is = cc
is_memory ClientBusy is = cc
is_memory Stopped is = cc
is_memory NotPrepared is = cc
is_memory Clash is = cc
is_memory Discarded is = cc
is_memory Full is = cc
is_memory Closed is = cc
is_memory BadOpening is = cc
is_memory NoSuchPart is = cc
is_memory NotAdmin is = cc

not_memory : (e : Refusal) → (number_of e == number_of OutOfMemory) ≡ false → e ≢ OutOfMemory
not_memory e is memory =
    let same : (number_of e == number_of OutOfMemory) ≡ true =
    ap (λ r. number_of r == number_of OutOfMemory) memory in
    let no : false ≡ true = sym is ∙ same in
    cc

-- either way, of a refused event its refusal is printed
refusal_written : (terms : Terms) (how : Showing) (old new : WorldState) (event : Event) (e : Refusal) (past : Past)
    → (e ≢ OutOfMemory → change_of terms old.kept event ≡ Err e)
    → new ≡ old
    → Leads (λ before. Happens event_text terms how before event) old new past (refusal_line e)
refusal_written terms how old new event e past why same = go (memory_or_not e)
  where
    go : (e ≡ OutOfMemory) ⊎ (e ≢ OutOfMemory)
        → Leads (λ before. Happens event_text terms how before event) old new past (refusal_line e)
    go (inl is) =
        subst (λ r. Leads (λ before. Happens event_text terms how before event) old new past (refusal_line r)) (sym is)
        (refused_for_memory event_text terms how old new event past same)
    go (inr is) = refused_so event_text terms how old new event e past (why is) same

-- the same, as it is printed of one in a range
memory_written : (terms : Terms) (how : Showing) (old new : WorldState) (event : Event) (e : Refusal) (past : Past)
    → e ≡ OutOfMemory
    → new ≡ old
    → Leads (λ before. Happens delivery_text terms how before event) old new past (refusal_line e)
memory_written terms how old new event e past is same =
    subst (λ r. Leads (λ before. Happens delivery_text terms how before event) old new past (refusal_line r)) (sym is)
    (refused_for_memory delivery_text terms how old new event past same)

not_printed : (terms : Terms) (how : Showing) (old new : WorldState) (event : Event) (e : Refusal) (past : Past)
    → change_of terms old.kept event ≡ Err e
    → new ≡ old
    → Leads (λ before. Happens delivery_text terms how before event) old new past []
not_printed terms how old new event e past is same =
    refused_so delivery_text terms how old new event e past is same

-- of an event alone, or of one in a range
pub outputs_in : (b : Bool) (how : Showing) (now : Now) (change : Change)
    → text_in b how now (Ok change) ≡ outputs_text how (now_after now change) (outs_of now change)
outputs_in false how now change = refl
outputs_in true how now change = refl

pub refusal_in : (b : Bool) (terms : Terms) (how : Showing) (old new : WorldState) (event : Event) (e : Refusal) (past : Past)
    → (not b || number_of e == number_of OutOfMemory) ≡ true
    → (e ≢ OutOfMemory → change_of terms old.kept event ≡ Err e)
    → new ≡ old
    → Leads (λ before. Happens (text_in b) terms how before event) old new past (refusal_line e)
refusal_in false terms how old new event e past is why same = refusal_written terms how old new event e past why same
refusal_in true terms how old new event e past is why same =
    memory_written terms how old new event e past (is_memory e is) same

pub nothing_in : (b : Bool) (terms : Terms) (how : Showing) (old new : WorldState) (event : Event) (e : Refusal) (past : Past)
    → (not b || number_of e == number_of OutOfMemory) ≡ false
    → (e ≢ OutOfMemory → change_of terms old.kept event ≡ Err e)
    → new ≡ old
    → Leads (λ before. Happens (text_in b) terms how before event) old new past []
nothing_in false terms how old new event e past is why same = cc
nothing_in true terms how old new event e past is why same =
    not_printed terms how old new event e past (why (not_memory e is)) same

-- ---- a range

-- deliveries, and then others
pub delivers_append : (terms : Terms) (how : Showing) (world between last : World) (events more : List Event)
    → (text others : List ℕ)
    → Delivers terms how world events between text
    → Delivers terms how between more last others
    → Delivers terms how world (events ++ more) last (text ++ others)
delivers_append terms how world between last [] more text others first second =
    subst (λ w. Delivers terms how w more last (text ++ others)) first.0
    (subst (λ t. Delivers terms how between more last (t ++ others)) (sym first.1) second)
delivers_append terms how world between last (event ∷ events) more text others first second = (
  first.0,
  first.1,
  first.2 ++ others,
  first.3,
  delivers_append terms how first.0 between last events more first.2 others first.4 second,
  ap (λ t. t ++ others) first.5 ∙ append_assoc first.1 first.2 others,
)

pub one_delivery : (terms : Terms) (how : Showing) (world next : World) (event : Event) (text : List ℕ)
    → Happens delivery_text terms how world event next text
    → Delivers terms how world (event ∷ []) next text
one_delivery terms how world next event text h =
    (next, text, [], h, (refl, refl), sym (append-nil text))

-- one delivery, and any that may come after it
pub begun_range : (terms : Terms) (how : Showing) (world next : World) (event : Event) (events : List Event) (text : List ℕ)
    → Happens delivery_text terms how world event next text
    → IsPrefixOf (λ whole. (last : World) × Delivers terms how world (event ∷ events) last whole) text
begun_range terms how world next event events text h =
    let later = delivered terms how next events in
    (later.1, (later.0, (next, text, later.1, h, delivers terms how next events, refl)))

-- the deliveries from the first number up to another, which is not one of them
abbrev pub before_number : ℕ → ℕ → List Event
before_number first number = map event.Deliver (range_with_len first (number - first))

number_more : (first number : ℕ) → first ≤ number
    → before_number first (number + 1) ≡ before_number first number ++ event.Deliver number ∷ []
number_more first number low =
    let count : number + 1 - first ≡ (number - first) + 1 = omega (arith, low) in
    let at : first + (number - first) ≡ number = omega (arith, low) in
    ap (λ n. map event.Deliver (range_with_len first n)) count
    ∙ map-range_with_len_more event.Deliver first (number - first) number at

pub range_begins : (terms : Terms) (how : Showing) (first : ℕ) (world : WorldState) (a : Option (List ℕ)) (past : Past)
    → Writes (Leads (λ before. Delivers terms how before (before_number first first)) world world past) a a
range_begins terms how first world a past =
    let none : before_number first first ≡ [] =
    let count : first - first ≡ 0 = omega arith in
    ap (λ n. map event.Deliver (range_with_len first n)) count in
    ([], (past, subst (λ es. Delivers terms how (with_past world past) es (with_past world past) []) (sym none) (refl, refl)), Appends-nil a)

pub range_empty : (terms : Terms) (how : Showing) (first last : ℕ) (world : WorldState) (a : Option (List ℕ)) (past : Past)
    → last < first
    → Writes (Leads (λ before. Delivers terms how before (deliveries first last)) world world past) a a
range_empty terms how first last world a past low =
    let none : deliveries first last ≡ [] =
    let count : suc last - first ≡ 0 = omega (arith, low) in
    ap (λ n. map event.Deliver (range_with_len first n)) count in
    ([], (past, subst (λ es. Delivers terms how (with_past world past) es (with_past world past) []) (sym none) (refl, refl)), Appends-nil a)

module _ (terms now_terms : Terms) (same : now_terms ≡ terms) (how : Showing) (first number : ℕ) (low : first ≤ number)
    (old mid : WorldState) (a b c : Option (List ℕ))
    (so_far : (past : Past)
    → Writes (Leads (λ before. Delivers terms how before (before_number first number)) old mid past) a b) where
  -- the message of the number is delivered too
  pub range_more : (new : WorldState)
      → ((past : Past)
      → Writes (Leads (λ before. Happens delivery_text now_terms how before (event.Deliver number)) mid new past) b c)
      → (past : Past)
      → Writes (Leads (λ before. Delivers terms how before (before_number first (number + 1))) old new past) a c
  range_more new next past =
      let x = so_far past in
      let y = next x.1.0 in
      let one : Delivers terms how (with_past mid x.1.0) (event.Deliver number ∷ []) (with_past new y.1.0) y.0 =
      one_delivery terms how (with_past mid x.1.0) (with_past new y.1.0) (event.Deliver number) y.0
      (subst (λ t. Happens delivery_text t how (with_past mid x.1.0) (event.Deliver number) (with_past new y.1.0) y.0) same y.1.1) in
      let all =
      delivers_append terms how (with_past old past) (with_past mid x.1.0) (with_past new y.1.0)
      (before_number first number) (event.Deliver number ∷ []) x.0 y.0 x.1.1 one in (
        x.0 ++ y.0,
        (
          y.1.0,
          subst (λ es. Delivers terms how (with_past old past) es (with_past new y.1.0) (x.0 ++ y.0))
              (sym (number_more first number low)) all,
        ),
        Appends-trans a b c x.0 y.0 x.2 y.2,
      )

  -- it was the last one
  pub range_whole : (new : WorldState)
      → ((past : Past)
      → Writes (Leads (λ before. Happens delivery_text now_terms how before (event.Deliver number)) mid new past) b c)
      → (past : Past)
      → Writes (Leads (λ before. Delivers terms how before (deliveries first number)) old new past) a c
  range_whole new next past =
      let count : number + 1 - first ≡ suc number - first = omega arith in
      let events : before_number first (number + 1) ≡ deliveries first number =
      ap (λ n. map event.Deliver (range_with_len first n)) count in
      subst (λ es. Writes (Leads (λ before. Delivers terms how before es) old new past) a c) events (range_more new next past)

  -- it is not, or not wholly
  pub range_left : (last : ℕ) (fault : Fault) → number ≤ last
      → ((past : Past)
      → Writes (LeavesOf fault (MayLead (λ before. Happens delivery_text now_terms how before (event.Deliver number)) mid past)) b c)
      → (past : Past)
      → Writes (LeavesOf fault (MayLead (λ before. Delivers terms how before (deliveries first last)) old past)) a c
  range_left last fault high next past =
      let x = so_far past in
      let y = next x.1.0 in
      let count = number + 1 - first in
      let rest = drop count (deliveries first last) in
      let inside : count ≤ suc last - first = omega (arith, low, high) in
      let events : before_number first number ++ event.Deliver number ∷ rest ≡ deliveries first last =
      sym (append_assoc (before_number first number) (event.Deliver number ∷ []) rest)
      ∙ ap (λ es. es ++ rest) (sym (number_more first number low) ∙ sym (take-map-range_with_len event.Deliver first (suc last - first) count inside))
      ∙ take-append-drop count (deliveries first last) in
      let One : List ℕ → Type 0 =
      MayLead (λ before. Happens delivery_text now_terms how before (event.Deliver number)) mid x.1.0 in
      let Later : List ℕ → Type 0 =
      λ whole. (end : World) × Delivers terms how (with_past mid x.1.0) (event.Deliver number ∷ rest) end whole in
      let All : List ℕ → Type 0 = MayLead (λ before. Delivers terms how before (deliveries first last)) old past in
      let here : LeavesOf fault Later y.0 =
      leaves_before One Later
      (λ text h. begun_range terms how (with_past mid x.1.0) h.0 (event.Deliver number) rest text
      (subst (λ t. Happens delivery_text t how (with_past mid x.1.0) (event.Deliver number) h.0 text) same h.1))
      fault y.0 y.1 in
      let all : LeavesOf fault All (x.0 ++ y.0) =
      leaves_behind Later All x.0
      (λ text h. (
        h.0,
        subst (λ es. Delivers terms how (with_past old past) es h.0 (x.0 ++ text)) events
            (delivers_append terms how (with_past old past) (with_past mid x.1.0) h.0 (before_number first number)
            (event.Deliver number ∷ rest) x.0 text x.1.1 h.1),
      ))
      fault y.0 here in
      (x.0 ++ y.0, all, Appends-trans a b c x.0 y.0 x.2 y.2)

-- so far up to the last one, which comes next
pub range_so_far : (terms : Terms) (how : Showing) (first number last : ℕ) → number ≤ last → last ≤ number
    → (old mid : WorldState) (a b : Option (List ℕ))
    → ((past : Past)
    → Writes (Leads (λ before. Delivers terms how before (before_number first number)) old mid past) a b)
    → (past : Past)
    → Writes (Leads (λ before. Delivers terms how before (before_number first last)) old mid past) a b
range_so_far terms how first number last high low old mid a b so_far past =
    let same : number ≡ last = omega (arith, high, low) in
    subst (λ n. Writes (Leads (λ before. Delivers terms how before (before_number first n)) old mid past) a b) same (so_far past)

-- ---- a line

line_goes : (terms : Terms) (how : Showing) (read : Result Spelled Refusal) (events : Spelled) (world next : World) (text : List ℕ)
    → read ≡ Ok events
    → Spells terms how world events next text
    → IsPrinted terms how read world next text
line_goes terms how read events world next text is h =
    inl (subst (λ r. Runs terms how world r next text) (sym is) h)

-- the outputs of the events that it spells are written
pub line_done : (terms : Terms) (how : Showing) (read : Result Spelled Refusal) (events : Spelled) (old new : WorldState) (past : Past)
    → read ≡ Ok events
    → (a b : Option (List ℕ))
    → Writes (Leads (λ before next text. Spells terms how before events next text) old new past) a b
    → Writes (Leads (IsPrinted terms how read) old new past) a b
line_done terms how read events old new past is a b w =
    (w.0, (w.1.0, line_goes terms how read events (with_past old past) (with_past new w.1.0) w.0 is w.1.1), w.2)

pub line_left : (terms : Terms) (how : Showing) (read : Result Spelled Refusal) (events : Spelled) (old : WorldState) (past : Past)
    → read ≡ Ok events
    → (fault : Fault) (a b : Option (List ℕ))
    → Writes (LeavesOf fault (MayLead (λ before next text. Spells terms how before events next text) old past)) a b
    → Writes (LeavesOf fault (MayLead (IsPrinted terms how read) old past)) a b
line_left terms how read events old past is fault a b w =
    writes_left (MayLead (λ before next text. Spells terms how before events next text) old past)
    (MayLead (IsPrinted terms how read) old past)
    (λ text h. (h.0, line_goes terms how read events (with_past old past) h.0 text is h.1)) fault a b w

-- it is refused
pub line_refused : (terms : Terms) (how : Showing) (read : Result Spelled Refusal) (e : Refusal) (world : WorldState) (past : Past)
    → (e ≢ OutOfMemory → read ≡ Err e)
    → Leads (IsPrinted terms how read) world world past (refusal_line e)
line_refused terms how read e world past why = go (memory_or_not e)
  where
    go : (e ≡ OutOfMemory) ⊎ (e ≢ OutOfMemory) → Leads (IsPrinted terms how read) world world past (refusal_line e)
    go (inl is) = (past, inr (refl, ap refusal_line is))
    go (inr is) =
        (past, inl (subst (λ r. Runs terms how (with_past world past) r (with_past world past) (refusal_line e)) (sym (why is)) (refl, refl)))

pub line_written : (terms : Terms) (how : Showing) (read : Result Spelled Refusal) (world : WorldState) (past : Past) (whole : List ℕ)
    → Leads (IsPrinted terms how read) world world past whole
    → (a b : Option (List ℕ)) → Appends a b whole → Writes (Leads (IsPrinted terms how read) world world past) a b
line_written terms how read world = leads_writes (IsPrinted terms how read) world world

pub line_begun : (terms : Terms) (how : Showing) (read : Result Spelled Refusal) (world : WorldState) (past : Past) (whole : List ℕ)
    → Leads (IsPrinted terms how read) world world past whole
    → (fault : Fault) (a b : Option (List ℕ)) → Writes (LeavesOf fault (λ text. text ≡ whole)) a b
    → Writes (LeavesOf fault (MayLead (IsPrinted terms how read) world past)) a b
line_begun terms how read world = leads_left (IsPrinted terms how read) world world
