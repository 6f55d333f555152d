-- What is kept at each event, and so always.
use Rattle.std.proofs.Common.{◌≡◌, ℕ, zero, suc, ◌<◌, ◌≤◌, Bool, true, false, not, ◌&&◌, nat_lt, nat_le, List, [], ◌∷◌, Option, Some, None, Result, Ok, Err, sym, ap, ◌∙◌, subst, refl, arith, ltb-true, true≢false, if◌then◌else◌}
use Rattle.std.proofs.lemmas.Bool.{leb-true}
use Rattle.std.specs.List.{slice_get, list_all}
use Rattle.album_stamps.specs.Stamps.{is_client}
use Rattle.album_stamps.specs.declared.limits.TheConstants.{CLIENTS, MAX_PARTS, MIN_MARKS, MAX_MARKS}
use Rattle.album_stamps.specs.declared.refusals.Refusal.{Refusal}
use Rattle.album_stamps.specs.declared.refusals.Refusal.TheVariants as refusal
use Rattle.album_items.specs.Places.{rows_placed_at}
use Rattle.album_items.specs.Openings.{is_base_opening, has_counts, has_parts, has_limit, has_policy, has_first, has_single_rows, has_own_value, is_low_row, greatest_number}
use Rattle.album_items.specs.declared.openings.Opening.{Opening}
use Rattle.album_calls.specs.declared.messages.Message.{Message}
use Rattle.album_calls.specs.declared.nodes.Node.{Node}
use Rattle.album_calls.specs.declared.nodes.Node.TheVariants.{Part, Client as ToClient}
use Rattle.album_eval.specs.declared.facts.Principal.{Principal}
use Rattle.album_partition.specs.Partition.{PartitionState, first_partition}
use Rattle.album_partition.specs.Marks.{value_in}
use Rattle.album_views.specs.Asks.{objects_of}
use Rattle.album_views.specs.Checks.{refusal_of}
use Rattle.album_views.specs.declared.asks.Ask.{Ask}
use Rattle.album_client.specs.Clients.{tag_of}
use Rattle.album_client.specs.declared.clients.Phase.{Phase}
use Rattle.album_client.specs.declared.clients.Phase.TheVariants as phase
use Rattle.album_client.specs.Terms.{terms_of}
use Rattle.album_permits.specs.declared.events.Event.{Event}
use Rattle.album_permits.specs.declared.events.Event.TheVariants as event
use Rattle.album_world.specs.State.{client_at, marks_of, message_of, is_stopped}
use Rattle.album_world.specs.Past.{World}
use Rattle.album_world.specs.Changes.{Change, asks_unless, asks_by, part_takes, arrives, delivers, sweeps, trims}
use Rattle.album_world.specs.Changes.Change.{Stops}
use Rattle.album_world.specs.Runs.{changed, changed_by, happens, new_request, requested, start, run, run_of}
use Rattle.album_world.specs.Committing.{history}
use Rattle.album_world.proofs.ListLemmas.{In, and_left, and_right, in_nil, got_in, range_got, none_some}
use Rattle.album_world.proofs.PlaceLemmas.{value_placed}
use Rattle.album_world.proofs.Invariant.{IsKept, IsPlaced, IsSound}
use Rattle.album_world.proofs.PartLemmas.{part_kept, sweep_kept, trim_kept}
use Rattle.album_world.proofs.StopLemmas.{stop_kept, request_kept}
use Rattle.album_world.proofs.ReplyLemmas.{asked_kept, message_kept}

-- ---- as it opens

pub record IsOpening (o : Opening) : Type 0 where
  pub some : 1 ≤ o.parts
  pub few : o.parts ≤ MAX_PARTS
  pub low : MIN_MARKS ≤ o.limit
  pub high : o.limit ≤ MAX_MARKS

pub opening_is : (o : Opening) → is_base_opening o ≡ true → IsOpening o
opening_is o is =
    let counts = and_left (has_counts o) (has_single_rows o.items && list_all has_own_value o.items && list_all (is_low_row (greatest_number o.first)) o.items) is in
    let both = and_left (has_parts o.parts && has_limit o.limit) (has_policy o.policy)
    (and_left (has_parts o.parts && has_limit o.limit && has_policy o.policy) (has_first o.first) counts) in
    let parts = and_left (has_parts o.parts) (has_limit o.limit) both in
    let limit = and_right (has_parts o.parts) (has_limit o.limit) both in
    record {
      some = leb-true 1 o.parts (and_left (nat_le 1 o.parts) (nat_le o.parts MAX_PARTS) parts);
      few = leb-true o.parts MAX_PARTS (and_right (nat_le 1 o.parts) (nat_le o.parts MAX_PARTS) parts);
      low = leb-true MIN_MARKS o.limit (and_left (nat_le MIN_MARKS o.limit) (nat_le o.limit MAX_MARKS) limit);
      high = leb-true o.limit MAX_MARKS (and_right (nat_le MIN_MARKS o.limit) (nat_le o.limit MAX_MARKS) limit);
    }

module _ (o : Opening) (is : IsOpening o) where
  placed_start : (p : ℕ) (h : PartitionState) → slice_get (start o).now.partitions p ≡ Some h → IsPlaced o p h
  placed_start p h e =
      let r = range_got (first_partition o.checked o.parts o.limit o.items) 0 o.parts p h e in
      let same : h ≡ first_partition o.checked o.parts o.limit o.items p =
      r.0 ∙ ap (first_partition o.checked o.parts o.limit o.items) (omega arith) in
      subst (λ (z : PartitionState). IsPlaced o p z) (sym same)
      (record {
        number = refl;
        parts = refl;
        limit = refl;
        values = λ i at. subst (λ (z : ℕ). value_in (rows_placed_at z o.parts o.items) i ≡ value_in o.items i) at
            (value_placed o.parts o.items i);
        checked = refl;
        is = record {
          some = is.some;
          few = is.few;
          here = r.1;
          limit = is.high;
          room = omega (arith, is.low);
          legal = refl;
          proper = refl;
          votes = record { once = refl; due = refl; pending = refl; open_still = λ t pending voted. absurd (true≢false (sym voted)) };
          chained = λ on. refl;
        };
      })

  empty_start : (p : ℕ) → history (start o) p ≡ []
  empty_start p = go (slice_get (start o).now.partitions p) refl
    where
      go : (f : Option PartitionState) → slice_get (start o).now.partitions p ≡ f → marks_of f ≡ []
      go None e = refl
      go (Some h) e = ap (λ (z : PartitionState). z.marks) (range_got (first_partition o.checked o.parts o.limit o.items) 0 o.parts p h e).0

  pub start_kept : IsKept o (start o)
  start_kept = record {
    placed = placed_start;
    sound = λ p. subst (IsSound o (start o) p) (sym (empty_start p))
        (record {
          legal = refl;
          prepared = λ t h. none_some h.found;
          based = λ on t h. none_some h.found;
          committed = λ t h. absurd (true≢false (sym h));
          discarded = λ t h. absurd (true≢false (sym h));
        });
    noted = λ p h e n l. in_nil
        (subst (λ (z : PartitionState). In n z.votes) (range_got (first_partition o.checked o.parts o.limit o.items) 0 o.parts p h e).0 l);
    fine = λ m h. in_nil h;
    from = λ m h. in_nil h;
    to = λ m h. in_nil h;
    drawn = λ r h. in_nil h;
    unique = λ r s h. in_nil h;
    clients = λ c. record { number = refl; clock = refl; phase = tt };
    reads = λ f rows h. in_nil h;
    answers = λ t h. in_nil h;
  }

-- ---- at each event

module _ (o : Opening) (some : 0 < o.parts) (w : World) (k : IsKept o w) where
  -- a refused event is none
  unless_kept : (e : Event) (b : Bool) (r : Refusal) (f : Result Change Refusal)
      → (b ≡ false → IsKept o (changed_by w e f)) → IsKept o (changed_by w e (if b then Err r else f))
  unless_kept e true r f h = k
  unless_kept e false r f h = h refl

  not_false : (b : Bool) → not b ≡ false → b ≡ true
  not_false true e = refl
  not_false false e = absurd (true≢false e)

  module _ (c : ℕ) (low : 0 < c) (high : c < 65536) (who : Principal) (ask : Ask) where
    refused_kept : (tag : ℕ) → tag_of (client_at w.now.clients c).phase ≡ tag → (f : Option Refusal)
        → IsKept o (changed_by w (event.Ask c who ask)
        (asks_unless (terms_of o) c (client_at w.now.clients c) tag who ask f))
    refused_kept tag e (Some r) = k
    refused_kept tag e None = asked_kept o some (requested w (event.Ask c who ask))
        (request_kept o w k (new_request w c who ask)) c low high tag e
        (record { viewing = record { ask = ask; reads = 0 }; principal = who }) (objects_of ask)

    asks_kept : (f : Phase) → (client_at w.now.clients c).phase ≡ f
        → IsKept o (changed_by w (event.Ask c who ask)
        (asks_by (terms_of o) c (client_at w.now.clients c) who ask f))
    asks_kept (phase.Idle tag) e = refused_kept tag (ap tag_of e) (refusal_of ask who)
    asks_kept (phase.Reads v r) e = k
    asks_kept (phase.Prepares z) e = k
    asks_kept (phase.Commits z) e = k

  takes_kept : (p : ℕ) (m : Message) → In m w.now.messages → m.to ≡ Part p → (f : Option PartitionState)
      → slice_get w.now.partitions p ≡ f → IsKept o (changed w (part_takes p m f))
  takes_kept p m sent to None e = k
  takes_kept p m sent to (Some h) e = part_kept o some w k p m sent to h e

  arrival_kept : (m : Message) → In m w.now.messages → (n : Node) → m.to ≡ n
      → IsKept o (changed w (arrives (terms_of o) w.now m n))
  arrival_kept m sent (Part p) to = takes_kept p m sent to (slice_get w.now.partitions p) refl
  arrival_kept m sent (ToClient c) to = message_kept o some w k c m sent

  delivery_kept : (n : ℕ) (f : Option Message) → ((m : Message) → f ≡ Some m → In m w.now.messages)
      → IsKept o (changed_by w (event.Deliver n) (delivers (terms_of o) w.now f))
  delivery_kept n None h = k
  delivery_kept n (Some m) h = arrival_kept m (h m refl) m.to refl

  pub message_in : (n : ℕ) (m : Message) → message_of w.now.messages n ≡ Some m → In m w.now.messages
  message_in zero m e = none_some e
  message_in (suc n) m e = got_in w.now.messages n m e

  sweeps_kept : (p t : ℕ) (f : Option PartitionState) → slice_get w.now.partitions p ≡ f
      → IsKept o (changed_by w (event.Sweep p t) (sweeps p t f))
  sweeps_kept p t None e = k
  sweeps_kept p t (Some h) e = sweep_kept o w k p t h e

  trims_kept : (p i : ℕ) (f : Option PartitionState) → slice_get w.now.partitions p ≡ f
      → IsKept o (changed_by w (event.Trim p i) (trims p i f))
  trims_kept p i None e = k
  trims_kept p i (Some h) e = trim_kept o w k p i h e

  pub event_kept : (e : Event) → IsKept o (happens (terms_of o) w e)
  event_kept (event.Ask c who ask) =
      unless_kept (event.Ask c who ask) (not (is_client c)) refusal.BadRequest _ (λ e.
      let known = not_false (is_client c) e in
      unless_kept (event.Ask c who ask) (is_stopped w.now c) refusal.Stopped _ (λ f.
      asks_kept c (ltb-true 0 c (and_left (nat_lt 0 c) (nat_lt c CLIENTS) known))
      (ltb-true c CLIENTS (and_right (nat_lt 0 c) (nat_lt c CLIENTS) known)) who ask
      (client_at w.now.clients c).phase refl))
  event_kept (event.Deliver n) = delivery_kept n (message_of w.now.messages n) (λ m e. message_in n m e)
  event_kept (event.Sweep p t) = sweeps_kept p t (slice_get w.now.partitions p) refl
  event_kept (event.Stop c) = unless_kept (event.Stop c) (is_stopped w.now c) refusal.Stopped (Ok (Stops c))
      (λ e. stop_kept o w k c)
  event_kept (event.Trim p i) = trims_kept p i (slice_get w.now.partitions p) refl

run_kept : (o : Opening) → 0 < o.parts → (w : World) → IsKept o w → (es : List Event) → IsKept o (run (terms_of o) w es)
run_kept o some w k [] = k
run_kept o some w k (e ∷ es) = run_kept o some (happens (terms_of o) w e) (event_kept o some w k e) es

pub always_kept : (o : Opening) (es : List Event) → is_base_opening o ≡ true → IsKept o (run_of o es)
always_kept o es is = let d = opening_is o is in run_kept o d.some (start o) (start_kept o d) es
