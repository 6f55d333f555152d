-- What is read of an event's line is what spells it. For `events_by_line`, which is `one_event_line`.
use Rattle.std.proofs.Common.{◌≡◌, ◌≤◌, ◌-◌, ◌⊎◌, inl, inr, ◌↔◌, ℕ, suc, List, [], ◌∷◌, codes, Bool, true, false, cond, nat_le, Some, None, Ok, refl, sym, ap, ◌∙◌, subst, arith}
use Rattle.std.specs.Option.{ok_or}
use Rattle.std.proofs.lemmas.Bool.{leb-true, le-leb}
use Rattle.serde_json.specs.Data.{Data, array}
use Rattle.serde_json.specs.Find.{get}
use Rattle.album_stamps.specs.Stamps.{is_client, client_of_number, is_stamp, stamp_of_value}
use Rattle.album_stamps.specs.declared.refusals.Refusal.TheVariants.{BadRequest, BadWho}
use Rattle.album_eval.specs.Matching.{principal_of}
use Rattle.album_eval.specs.declared.facts.Principal.{Principal}
use Rattle.album_eval.proofs.Principals.{principal_spelled, spelled_principal}
use Rattle.album_views.specs.declared.asks.Ask.{Ask}
use Rattle.album_permits.specs.declared.events.Event.TheVariants as event
use Rattle.album_lines.specs.Fields.{guard, sized, has, is_list, text_of, truth_of, whole_of}
use Rattle.album_lines.specs.Spelling.{HasOnly, list_data}
use Rattle.album_wire.specs.AskShape.{SpelledAsk, ask_shape_of}
use Rattle.album_wire.specs.EventShape.{SpelledEvent, Asked, Whole, client_named, stamp_named, part_named, asked_shape_of, range_of, delivered_of, deliver_shape_of, sweep_of, sweep_shape_of, stop_shape_of, restart_shape_of, trim_of, trim_shape_of, event_shape_of}
use Rattle.album_wire.specs.Asks.{ask_read}
use Rattle.album_wire.specs.EventLine.{event_read, event_line_of}
use Rattle.album_wire.specs.ObjectSpelling.{IsWhole, IsTruth, HasMember, HasJust}
use Rattle.album_wire.specs.AskSpelling.{IsAsk}
use Rattle.album_wire.specs.EventSpelling.{IsPrincipal, IsClient, IsStamp, IsPart, IsAsked, IsRange, IsSweep, IsTrim, AreEvents, IsEventLine}
use Rattle.album_wire.specs.declared.event_shape.Spelled.{Spelled}
use Rattle.album_wire.specs.declared.event_shape.Spelled.TheVariants as spelled
use Rattle.album_wire.specs.declared.event_shape.TheConstants.{MAX_DELIVERIES, MAX_PART}
use Rattle.album_lines.proofs.Steps.{step_taken, same_value, value_there, test_passed, taken, there}
use Rattle.album_lines.proofs.Json.{whole_read, two, sized_read, same_two}
use Rattle.album_wire.proofs.Forms.{step_then, on_test, on_true, on_false, IsString, read_whole, truth_form, read_truth, names_taken, names_then, member_taken, member_then, member_as, member_parts, is_in, is_out, line_by, known_taken, known_then, string_taken}
use Rattle.album_wire.proofs.ItemSpelling.{ReadsItems, item_taken, item_then}
use Rattle.album_wire.proofs.AskSpelling.{ask_spelled, ask_parts}

-- ---- who and what an event names

pub principal_form : (who : Principal) (text : List ℕ) → ok_or (principal_of text) BadWho ≡ Ok who
    → (d : Data)
    → IsString text d
    → IsPrincipal who d
principal_form who text h d is = (text, is, principal_spelled who text (value_there _ BadWho who h))

pub principal_parts : (who : Principal) (d : Data) → IsPrincipal who d
    → (text : List ℕ) × (text_of d ≡ Ok text) × (ok_or (principal_of text) BadWho ≡ Ok who)
principal_parts who d is = (is.0, ap text_of is.1, rw (spelled_principal who is.0 is.2) refl)

-- a number that passed a test
tested : (test : Bool) (n m : ℕ) → ok_or (cond test (Some n) None) BadRequest ≡ Ok m → (test ≡ true) × (n ≡ m)
tested true n m h = (refl, same_value n m h)
tested false n m h = cc

pub client_form : (client : ℕ) (d : Data) → client_named d ≡ Ok client → IsClient client d
client_form client d h =
    let n = step_taken (whole_of d) _ client h in
    let is = tested (is_client n.0) n.0 client n.2 in
    let Is : ℕ → Type 0 = λ m. IsClient m d in
    subst Is is.1 (whole_read d n.0 n.1, is.0)

pub read_client : (client : ℕ) (d : Data) → IsClient client d → client_named d ≡ Ok client
read_client client d is =
    let some : ok_or (client_of_number client) BadRequest ≡ Ok client = rw is.1 refl in
    step_then (whole_of d) _ client client (read_whole client d is.0) some

pub stamp_form : (stamp : ℕ) (d : Data) → stamp_named d ≡ Ok stamp → IsStamp stamp d
stamp_form stamp d h =
    let n = step_taken (whole_of d) _ stamp h in
    let is = tested (is_stamp n.0) n.0 stamp n.2 in
    let Is : ℕ → Type 0 = λ m. IsStamp m d in
    subst Is is.1 (whole_read d n.0 n.1, is.0)

pub read_stamp : (stamp : ℕ) (d : Data) → IsStamp stamp d → stamp_named d ≡ Ok stamp
read_stamp stamp d is =
    let some : ok_or (stamp_of_value stamp) BadRequest ≡ Ok stamp = rw is.1 refl in
    step_then (whole_of d) _ stamp stamp (read_whole stamp d is.0) some

pub part_form : (part : ℕ) (d : Data) → part_named d ≡ Ok part → IsPart part d
unfolding part_named
part_form part d h =
    let n = step_taken (whole_of d) _ part h in
    let test = step_taken (guard (nat_le n.0 MAX_PART)) _ part n.2 in
    let low = leb-true n.0 MAX_PART (test_passed _ test.0 test.1) in
    let Is : ℕ → Type 0 = λ m. IsPart m d in
    subst Is (same_value _ _ test.2) (whole_read d n.0 n.1, low)

pub read_part : (part : ℕ) (d : Data) → IsPart part d → part_named d ≡ Ok part
unfolding part_named
read_part part d is =
    let test : guard (nat_le part MAX_PART) ≡ Ok true = rw (le-leb part MAX_PART is.1) refl in
    step_then (whole_of d) _ part part (read_whole part d is.0)
    (step_then (guard (nat_le part MAX_PART)) _ true part test refl)

-- ---- deliveries

range_of_two : (a b : Data) (events : Spelled) → range_of (list_data (a ∷ b ∷ [])) ≡ Ok events
    → (first : ℕ) × (last : ℕ) × IsRange first last (list_data (a ∷ b ∷ [])) × (spelled.Range first last ≡ events)
unfolding range_of
range_of_two a b events h =
    let first = step_taken (whole_of a) _ events h in
    let last = step_taken (whole_of b) _ events first.2 in
    let test = step_taken (guard (nat_le (suc last.0 - first.0) MAX_DELIVERIES)) _ events last.2 in
    let few = leb-true (suc last.0 - first.0) MAX_DELIVERIES (test_passed _ test.0 test.1) in
    let is : IsRange first.0 last.0 (list_data (a ∷ b ∷ [])) = record {
      items = same_two a b _ _ (whole_read a first.0 first.1) (whole_read b last.0 last.1);
      few = omega arith;
    } in
    (first.0, last.0, is, same_value _ _ test.2)

range_form : (events : Spelled) (d : Data) → range_of d ≡ Ok events
    → (first : ℕ) × (last : ℕ) × IsRange first last d × (spelled.Range first last ≡ events)
unfolding range_of
range_form events d h =
    let long = step_taken (sized 2 d) _ events h in
    let items = sized_read 2 d long.0 long.1 in
    let parts = two items.0 items.2 in
    let is : d ≡ list_data (parts.0 ∷ parts.1 ∷ []) = items.1 ∙ ap array parts.2 in
    let range = range_of_two parts.0 parts.1 events (ap range_of (sym is) ∙ h) in
    (range.0, range.1, subst (λ e. IsRange range.0 range.1 e) (sym is) range.2, range.3)

read_range : (first last : ℕ) (d : Data) → IsRange first last d → range_of d ≡ Ok (spelled.Range first last)
unfolding range_of
read_range first last d is =
    let below = is.few in
    let short : suc last - first ≤ MAX_DELIVERIES = omega arith in
    let test : guard (nat_le (suc last - first) MAX_DELIVERIES) ≡ Ok true =
    rw (le-leb (suc last - first) MAX_DELIVERIES short) refl in
    ap range_of is.items ∙ step_then (guard (nat_le (suc last - first) MAX_DELIVERIES)) _ true
    (spelled.Range first last) test refl

same_events : (w v : Spelled) (d : Data) → w ≡ v → AreEvents w d → AreEvents v d
same_events w v d same is = subst (λ u. AreEvents u d) same is

-- what is delivered: one message, or a range
abbrev IsDelivered : Spelled → Data → Type 0
IsDelivered events d =
    ((number : ℕ) × IsWhole number d × (spelled.One (event.Deliver number) ≡ events))
    ⊎ ((first : ℕ) × (last : ℕ) × IsRange first last d × (spelled.Range first last ≡ events))

delivered_form : (events : Spelled) (d : Data) → delivered_of d ≡ Ok events → IsDelivered events d
delivered_form events d h =
    on_test (is_list d) _ _ events h (λ _ range. inr (range_form events d range))
    (λ one.
    let n = step_taken (whole_of d) (λ n. Ok (spelled.One (event.Deliver n))) events one in
    inl (n.0, whole_read d n.0 n.1, same_value _ _ n.2))

read_delivered_one : (number : ℕ) (d : Data) → IsWhole number d
    → delivered_of d ≡ Ok (spelled.One (event.Deliver number))
read_delivered_one number d is = ap delivered_of is

read_delivered_range : (first last : ℕ) (d : Data) → IsRange first last d
    → delivered_of d ≡ Ok (spelled.Range first last)
read_delivered_range first last d is =
    on_true (is_list d) _ _ (spelled.Range first last) (ap is_list is.items) (read_range first last d is)

deliver_spelled : (v : Spelled) (s : SpelledEvent) (d : Data) → deliver_shape_of d ≡ Ok s → event_read s ≡ Ok v
    → AreEvents v d
unfolding deliver_shape_of event_read
deliver_spelled v s d h g =
    let names = names_taken (codes "deliver" ∷ []) d _ s h in
    let events = member_taken (codes "deliver") d delivered_of IsDelivered delivered_form _ s names.1 in
    let shape : Whole events.0 ≡ s = same_value _ _ events.2 in
    let whole : events.0 ≡ v = same_value _ _ (ap event_read shape ∙ g) in
    let value = taken (get (codes "deliver") d) (IsDelivered events.0) events.1 in
    by_form names.0 value.0 value.1 events.0 whole value.2
  where
    by_form : HasOnly (codes "deliver" ∷ []) d → (e : Data) → get (codes "deliver") d ≡ Some e
        → (events : Spelled) → events ≡ v → IsDelivered events e → AreEvents v d
    by_form names e at events whole (inl is) =
        let one : AreEvents (spelled.One (event.Deliver is.0)) d =
        record { names = names; value = there _ e (IsWhole is.0) at is.1 } in
        same_events (spelled.One (event.Deliver is.0)) v d (is.2 ∙ whole) one
    by_form names e at events whole (inr is) =
        let range : AreEvents (spelled.Range is.0 is.1) d =
        record { names = names; value = there _ e (IsRange is.0 is.1) at is.2 } in
        same_events (spelled.Range is.0 is.1) v d (is.3 ∙ whole) range

-- ---- sweeps and stops

pub sweep_form : (sweep : ℕ × ℕ) (d : Data) → sweep_of d ≡ Ok sweep → IsSweep sweep.0 sweep.1 d
unfolding sweep_of
sweep_form sweep d h =
    let names = names_taken (codes "part" ∷ codes "stamp" ∷ []) d _ sweep h in
    let part = member_taken (codes "part") d part_named IsPart part_form _ sweep names.1 in
    let stamp = member_taken (codes "stamp") d stamp_named IsStamp stamp_form _ sweep part.2 in
    let is : IsSweep part.0 stamp.0 d = record { names = names.0; part_there = part.1; stamp_there = stamp.1 } in
    subst (λ (p : ℕ × ℕ). IsSweep p.0 p.1 d) (same_value _ _ stamp.2) is

pub read_sweep : (part stamp : ℕ) (d : Data) → IsSweep part stamp d → sweep_of d ≡ Ok (part, stamp)
unfolding sweep_of
read_sweep part stamp d is =
    names_then (codes "part" ∷ codes "stamp" ∷ []) d _ (part, stamp) is.names
    (member_then (codes "part") d part_named (IsPart part) part (read_part part) _ (part, stamp) is.part_there
    (member_then (codes "stamp") d stamp_named (IsStamp stamp) stamp (read_stamp stamp) _ (part, stamp)
    is.stamp_there refl))

sweep_spelled : (v : Spelled) (s : SpelledEvent) (d : Data) → sweep_shape_of d ≡ Ok s → event_read s ≡ Ok v
    → AreEvents v d
unfolding sweep_shape_of event_read
sweep_spelled v s d h g =
    let names = names_taken (codes "sweep" ∷ []) d _ s h in
    let sweep =
    member_taken (codes "sweep") d sweep_of (λ (p : ℕ × ℕ) (e : Data). IsSweep p.0 p.1 e) sweep_form _ s names.1 in
    let shape : Whole (spelled.One (event.Sweep sweep.0.0 sweep.0.1)) ≡ s = same_value _ _ sweep.2 in
    let same : spelled.One (event.Sweep sweep.0.0 sweep.0.1) ≡ v = same_value _ _ (ap event_read shape ∙ g) in
    let is : AreEvents (spelled.One (event.Sweep sweep.0.0 sweep.0.1)) d =
    record { names = names.0; value = sweep.1 } in
    same_events (spelled.One (event.Sweep sweep.0.0 sweep.0.1)) v d same is

stop_spelled : (v : Spelled) (s : SpelledEvent) (d : Data) → stop_shape_of d ≡ Ok s → event_read s ≡ Ok v
    → AreEvents v d
unfolding stop_shape_of event_read
stop_spelled v s d h g =
    let names = names_taken (codes "stop" ∷ []) d _ s h in
    let client = member_taken (codes "stop") d client_named IsClient client_form _ s names.1 in
    let shape : Whole (spelled.One (event.Stop client.0)) ≡ s = same_value _ _ client.2 in
    let same : spelled.One (event.Stop client.0) ≡ v = same_value _ _ (ap event_read shape ∙ g) in
    let is : AreEvents (spelled.One (event.Stop client.0)) d = record { names = names.0; value = client.1 } in
    same_events (spelled.One (event.Stop client.0)) v d same is

restart_spelled : (v : Spelled) (s : SpelledEvent) (d : Data) → restart_shape_of d ≡ Ok s → event_read s ≡ Ok v
    → AreEvents v d
unfolding restart_shape_of event_read
restart_spelled v s d h g =
    let names = names_taken (codes "restart" ∷ []) d _ s h in
    let restart = member_taken (codes "restart") d truth_of IsTruth truth_form _ s names.1 in
    let test = step_taken (guard restart.0) _ s restart.2 in
    let shape : Whole spelled.Restart ≡ s = same_value _ _ test.2 in
    let same : spelled.Restart ≡ v = same_value _ _ (ap event_read shape ∙ g) in
    let yes : HasMember (codes "restart") (IsTruth true) d =
    subst (λ b. HasMember (codes "restart") (IsTruth b) d) (test_passed restart.0 test.0 test.1) restart.1 in
    let is : AreEvents spelled.Restart d = record { names = names.0; value = yes } in
    same_events spelled.Restart v d same is

-- ---- events, by their shapes

-- which of the objects with one member it is: none of those whose names are looked for before
deliver_is : (s : SpelledEvent) (d : Data) → HasOnly (codes "deliver" ∷ []) d → has (codes "deliver") d ≡ true
    → deliver_shape_of d ≡ Ok s → event_shape_of d ≡ Ok s
deliver_is s d names is h =
    on_false (has (codes "ask") d) _ _ s (is_out _ (codes "ask") d names refl)
    (on_true (has (codes "deliver") d) _ _ s is h)

sweep_is : (s : SpelledEvent) (d : Data) → HasOnly (codes "sweep" ∷ []) d → has (codes "sweep") d ≡ true
    → sweep_shape_of d ≡ Ok s → event_shape_of d ≡ Ok s
sweep_is s d names is h =
    on_false (has (codes "ask") d) _ _ s (is_out _ (codes "ask") d names refl)
    (on_false (has (codes "deliver") d) _ _ s (is_out _ (codes "deliver") d names refl)
    (on_true (has (codes "sweep") d) _ _ s is h))

stop_is : (s : SpelledEvent) (d : Data) → HasOnly (codes "stop" ∷ []) d → has (codes "stop") d ≡ true
    → stop_shape_of d ≡ Ok s → event_shape_of d ≡ Ok s
stop_is s d names is h =
    on_false (has (codes "ask") d) _ _ s (is_out _ (codes "ask") d names refl)
    (on_false (has (codes "deliver") d) _ _ s (is_out _ (codes "deliver") d names refl)
    (on_false (has (codes "sweep") d) _ _ s (is_out _ (codes "sweep") d names refl)
    (on_true (has (codes "stop") d) _ _ s is h)))

trim_is : (s : SpelledEvent) (d : Data) → HasOnly (codes "trim" ∷ []) d
    → trim_shape_of d ≡ Ok s → event_shape_of d ≡ Ok s
trim_is s d names h =
    on_false (has (codes "ask") d) _ _ s (is_out _ (codes "ask") d names refl)
    (on_false (has (codes "deliver") d) _ _ s (is_out _ (codes "deliver") d names refl)
    (on_false (has (codes "sweep") d) _ _ s (is_out _ (codes "sweep") d names refl)
    (on_false (has (codes "stop") d) _ _ s (is_out _ (codes "stop") d names refl)
    (on_false (has (codes "restart") d) _ _ s (is_out _ (codes "restart") d names refl) h))))

restart_is : (s : SpelledEvent) (d : Data) → HasOnly (codes "restart" ∷ []) d → has (codes "restart") d ≡ true
    → restart_shape_of d ≡ Ok s → event_shape_of d ≡ Ok s
restart_is s d names is h =
    on_false (has (codes "ask") d) _ _ s (is_out _ (codes "ask") d names refl)
    (on_false (has (codes "deliver") d) _ _ s (is_out _ (codes "deliver") d names refl)
    (on_false (has (codes "sweep") d) _ _ s (is_out _ (codes "sweep") d names refl)
    (on_false (has (codes "stop") d) _ _ s (is_out _ (codes "stop") d names refl)
    (on_true (has (codes "restart") d) _ _ s is h))))

restart_parts : (d : Data) → HasJust (codes "restart") (IsTruth true) d
    → (s : SpelledEvent) × (event_shape_of d ≡ Ok s) × (event_read s ≡ Ok spelled.Restart)
unfolding restart_shape_of event_read
restart_parts d is =
    let s : SpelledEvent = Whole spelled.Restart in
    let shape : restart_shape_of d ≡ Ok s =
    names_then (codes "restart" ∷ []) d _ s is.names
    (member_then (codes "restart") d truth_of (IsTruth true) true (read_truth true) _ s is.value refl) in
    (s, restart_is s d is.names (is_in (codes "restart") (IsTruth true) d is.value) shape, refl)

deliver_parts : (number : ℕ) (d : Data) → HasJust (codes "deliver") (IsWhole number) d
    → (s : SpelledEvent) × (event_shape_of d ≡ Ok s) × (event_read s ≡ Ok (spelled.One (event.Deliver number)))
unfolding deliver_shape_of event_read
deliver_parts number d is =
    let s : SpelledEvent = Whole (spelled.One (event.Deliver number)) in
    let shape : deliver_shape_of d ≡ Ok s =
    names_then (codes "deliver" ∷ []) d _ s is.names
    (member_then (codes "deliver") d delivered_of (IsWhole number) (spelled.One (event.Deliver number))
    (read_delivered_one number) _ s is.value refl) in
    (s, deliver_is s d is.names (is_in (codes "deliver") (IsWhole number) d is.value) shape, refl)

range_parts : (first last : ℕ) (d : Data) → HasJust (codes "deliver") (IsRange first last) d
    → (s : SpelledEvent) × (event_shape_of d ≡ Ok s) × (event_read s ≡ Ok (spelled.Range first last))
unfolding deliver_shape_of event_read
range_parts first last d is =
    let s : SpelledEvent = Whole (spelled.Range first last) in
    let shape : deliver_shape_of d ≡ Ok s =
    names_then (codes "deliver" ∷ []) d _ s is.names
    (member_then (codes "deliver") d delivered_of (IsRange first last) (spelled.Range first last)
    (read_delivered_range first last) _ s is.value refl) in
    (s, deliver_is s d is.names (is_in (codes "deliver") (IsRange first last) d is.value) shape, refl)

sweep_parts : (part stamp : ℕ) (d : Data) → HasJust (codes "sweep") (IsSweep part stamp) d
    → (s : SpelledEvent) × (event_shape_of d ≡ Ok s) × (event_read s ≡ Ok (spelled.One (event.Sweep part stamp)))
unfolding sweep_shape_of event_read
sweep_parts part stamp d is =
    let s : SpelledEvent = Whole (spelled.One (event.Sweep part stamp)) in
    let shape : sweep_shape_of d ≡ Ok s =
    names_then (codes "sweep" ∷ []) d _ s is.names
    (member_then (codes "sweep") d sweep_of (IsSweep part stamp) (part, stamp) (read_sweep part stamp) _ s is.value
    refl) in
    (s, sweep_is s d is.names (is_in (codes "sweep") (IsSweep part stamp) d is.value) shape, refl)

stop_parts : (client : ℕ) (d : Data) → HasJust (codes "stop") (IsClient client) d
    → (s : SpelledEvent) × (event_shape_of d ≡ Ok s) × (event_read s ≡ Ok (spelled.One (event.Stop client)))
unfolding stop_shape_of event_read
stop_parts client d is =
    let s : SpelledEvent = Whole (spelled.One (event.Stop client)) in
    let shape : stop_shape_of d ≡ Ok s =
    names_then (codes "stop" ∷ []) d _ s is.names
    (member_then (codes "stop") d client_named (IsClient client) client (read_client client) _ s is.value refl) in
    (s, stop_is s d is.names (is_in (codes "stop") (IsClient client) d is.value) shape, refl)

module _ (reads : ReadsItems) where
  pub trim_form : (trim : ℕ × ℕ) (d : Data) → trim_of d ≡ Ok trim → IsTrim trim.0 trim.1 d
  unfolding trim_of
  trim_form trim d h =
      let names = names_taken (codes "item" ∷ codes "part" ∷ []) d _ trim h in
      let item = item_taken reads (codes "item") d _ trim names.1 in
      let part = member_taken (codes "part") d part_named IsPart part_form _ trim item.2 in
      let is : IsTrim part.0 item.0 d = record { names = names.0; item_there = item.1; part_there = part.1 } in
      subst (λ (p : ℕ × ℕ). IsTrim p.0 p.1 d) (same_value _ _ part.2) is

  pub read_trim : (part item : ℕ) (d : Data) → IsTrim part item d → trim_of d ≡ Ok (part, item)
  unfolding trim_of
  read_trim part item d is =
      names_then (codes "item" ∷ codes "part" ∷ []) d _ (part, item) is.names
      (item_then reads (codes "item") d item _ (part, item) is.item_there
      (member_then (codes "part") d part_named (IsPart part) part (read_part part) _ (part, item) is.part_there refl))

  trim_spelled : (v : Spelled) (s : SpelledEvent) (d : Data) → trim_shape_of d ≡ Ok s → event_read s ≡ Ok v
      → AreEvents v d
  unfolding trim_shape_of event_read
  trim_spelled v s d h g =
      let names = names_taken (codes "trim" ∷ []) d _ s h in
      let trim =
      member_taken (codes "trim") d trim_of (λ (p : ℕ × ℕ) (e : Data). IsTrim p.0 p.1 e) trim_form _ s names.1 in
      let shape : Whole (spelled.One (event.Trim trim.0.0 trim.0.1)) ≡ s = same_value _ _ trim.2 in
      let same : spelled.One (event.Trim trim.0.0 trim.0.1) ≡ v = same_value _ _ (ap event_read shape ∙ g) in
      let is : AreEvents (spelled.One (event.Trim trim.0.0 trim.0.1)) d = record { names = names.0; value = trim.1 } in
      same_events (spelled.One (event.Trim trim.0.0 trim.0.1)) v d same is

  trim_parts : (part item : ℕ) (d : Data) → HasJust (codes "trim") (IsTrim part item) d
      → (s : SpelledEvent) × (event_shape_of d ≡ Ok s) × (event_read s ≡ Ok (spelled.One (event.Trim part item)))
  unfolding trim_shape_of event_read
  trim_parts part item d is =
      let s : SpelledEvent = Whole (spelled.One (event.Trim part item)) in
      let shape : trim_shape_of d ≡ Ok s =
      names_then (codes "trim" ∷ []) d _ s is.names
      (member_then (codes "trim") d trim_of (IsTrim part item) (part, item) (read_trim part item) _ s is.value refl) in
      (s, trim_is s d is.names shape, refl)

  asked_spelled : (v : Spelled) (s : SpelledEvent) (d : Data) → asked_shape_of d ≡ Ok s → event_read s ≡ Ok v
      → AreEvents v d
  unfolding asked_shape_of event_read
  asked_spelled v s d h g =
      let Shape : SpelledAsk → Data → Type 0 = λ a e. ask_shape_of e ≡ Ok a in
      let names = names_taken (codes "ask" ∷ codes "client" ∷ codes "who" ∷ []) d _ s h in
      let ask = known_taken (codes "ask") d ask_shape_of _ s names.1 in
      let client = member_taken (codes "client") d client_named IsClient client_form _ s ask.2 in
      let text = string_taken (codes "who") d _ s client.2 in
      let shape : Asked client.0 text.0 ask.0 ≡ s = same_value _ _ text.2 in
      let who = step_taken (ok_or (principal_of text.0) BadWho) _ v (ap event_read shape ∙ g) in
      let good = step_taken (ask_read ask.0) _ v who.2 in
      let same : spelled.One (event.Ask client.0 who.0 good.0) ≡ v = same_value _ _ good.2 in
      let is : IsAsked client.0 who.0 good.0 d = record {
        names = names.0;
        ask_there =
            member_as (codes "ask") d (Shape ask.0) (IsAsk good.0)
            (λ e read. ask_spelled reads good.0 ask.0 e read good.1) ask.1;
        client_there = client.1;
        who_there =
            member_as (codes "who") d (IsString text.0) (IsPrincipal who.0) (principal_form who.0 text.0 who.1) text.1;
      } in
      same_events (spelled.One (event.Ask client.0 who.0 good.0)) v d same is

  asked_parts : (client : ℕ) (who : Principal) (ask : Ask) (d : Data) → IsAsked client who ask d
      → (s : SpelledEvent) × (event_shape_of d ≡ Ok s) × (event_read s ≡ Ok (spelled.One (event.Ask client who ask)))
  unfolding asked_shape_of event_read
  asked_parts client who ask d is =
      let of_ask =
      member_parts (codes "ask") d ask_shape_of (IsAsk ask) (λ a. ask_read a ≡ Ok ask) (ask_parts reads ask)
      is.ask_there in
      let text =
      member_parts (codes "who") d text_of (IsPrincipal who) (λ t. ok_or (principal_of t) BadWho ≡ Ok who)
      (principal_parts who) is.who_there in
      let s : SpelledEvent = Asked client text.0 of_ask.0 in
      let shape : asked_shape_of d ≡ Ok s =
      names_then (codes "ask" ∷ codes "client" ∷ codes "who" ∷ []) d _ s is.names
      (known_then (codes "ask") d ask_shape_of of_ask.0 _ s of_ask.1
      (member_then (codes "client") d client_named (IsClient client) client (read_client client) _ s is.client_there
      (known_then (codes "who") d text_of text.0 _ s text.1 refl))) in
      let read : event_read s ≡ Ok (spelled.One (event.Ask client who ask)) =
      step_then (ok_or (principal_of text.0) BadWho) _ who _ text.2
      (step_then (ask_read of_ask.0) _ ask _ of_ask.2 refl) in
      let which : event_shape_of d ≡ Ok s =
      on_true (has (codes "ask") d) _ _ s (is_in (codes "ask") (IsAsk ask) d is.ask_there) shape in
      (s, which, read)

  events_spelled : (v : Spelled) (s : SpelledEvent) (d : Data) → event_shape_of d ≡ Ok s → event_read s ≡ Ok v
      → AreEvents v d
  events_spelled v s d h g =
      on_test (has (codes "ask") d) _ _ s h (λ _ asked. asked_spelled v s d asked g)
      (λ h. on_test (has (codes "deliver") d) _ _ s h (λ _ deliver. deliver_spelled v s d deliver g)
      (λ h. on_test (has (codes "sweep") d) _ _ s h (λ _ sweep. sweep_spelled v s d sweep g)
      (λ h. on_test (has (codes "stop") d) _ _ s h (λ _ stop. stop_spelled v s d stop g)
      (λ h. on_test (has (codes "restart") d) _ _ s h (λ _ restart. restart_spelled v s d restart g)
      (λ trim. trim_spelled v s d trim g)))))

  events_parts : (v : Spelled) (d : Data) → AreEvents v d
      → (s : SpelledEvent) × (event_shape_of d ≡ Ok s) × (event_read s ≡ Ok v)
  events_parts (spelled.One (event.Ask client who ask)) d is = asked_parts client who ask d is
  events_parts (spelled.One (event.Deliver number)) d is = deliver_parts number d is
  events_parts (spelled.One (event.Sweep part stamp)) d is = sweep_parts part stamp d is
  events_parts (spelled.One (event.Stop client)) d is = stop_parts client d is
  events_parts (spelled.One (event.Trim part item)) d is = trim_parts part item d is
  events_parts (spelled.Range first last) d is = range_parts first last d is
  events_parts spelled.Restart d is = restart_parts d is

  pub one_event_line : (events : Spelled) (bytes : List ℕ)
      → (event_line_of bytes ≡ Ok events) ↔ IsEventLine events bytes
  unfolding event_line_of
  one_event_line events bytes = line_by event_shape_of event_read AreEvents events_spelled events_parts events bytes
