-- What an event changes in what a world keeps, for `State`.
use Rattle.std.proofs.Common.{◌≡◌, ℕ, zero, suc, ◌<◌, ◌≤◌, Bool, true, false, not, cond, List, [], ◌∷◌, ◌++◌, length, set, get_or, Option, Some, None, option_to_list, Result, Ok, Err, IsOk, IsOkAnd, refl, sym, ap, ◌∙◌, subst, append-nil, arith}
use Rattle.std.specs.List.{slice_get}
use Rattle.std.proofs.lemmas.Option.{slice_get-get_or}
use Rattle.album_stamps.specs.Outcome.{◌>>=◌}
use Rattle.album_stamps.specs.Stamps.{is_client}
use Rattle.album_stamps.specs.declared.refusals.Refusal.{Refusal}
use Rattle.album_stamps.specs.declared.refusals.Refusal.TheVariants.{BadRequest, Stopped, NoSuchMessage, NoSuchPart}
use Rattle.album_calls.specs.declared.messages.Message.{Message}
use Rattle.album_calls.specs.declared.nodes.Node.{Node}
use Rattle.album_calls.specs.declared.nodes.Node.TheVariants.{Part, Client as OfClient}
use Rattle.album_eval.specs.declared.facts.Principal.{Principal}
use Rattle.album_partition.specs.Answers.{after, answer}
use Rattle.album_partition.specs.Partition.{PartitionState}
use Rattle.album_partition.specs.Sweeps.{swept}
use Rattle.album_partition.specs.Trims.{trimmed}
use Rattle.album_views.specs.declared.asks.Ask.{Ask}
use Rattle.album_client.specs.Terms.{Terms}
use Rattle.album_client.specs.Clients.{Client}
use Rattle.album_permits.specs.declared.outs.Out.{Out}
use Rattle.album_world.specs.State.{Now, client_at, is_stopped, message_of, with_number}
use Rattle.album_world.specs.Changes.{Change, asks, arrives, client_takes, delivers, part_takes, stops, sweeps, trims}
use Rattle.album_world.specs.Changes.Change.{Nothing, AtPart, AtClient, Stops}
use Rattle.album_world.specs.Runs.{now_after, sent_after}
use Rattle.album_world.specs.Registers.{AreChangedBy, asks_of, takes_of}
use Rattle.album_world.specs.Seen.{IsChanged, IsMade}

-- what is kept is the same in each part
same_kept : (a b : Now) → a.partitions ≡ b.partitions → a.messages ≡ b.messages → a.clients ≡ b.clients → a.stopped ≡ b.stopped
    → a ≡ b
same_kept a b p m c s =
    ap (λ (z : List PartitionState). let n : Now = record { partitions = z; messages = a.messages; clients = a.clients; stopped = a.stopped } in n) p
    ∙ ap (λ (z : List Message). let n : Now = record { partitions = b.partitions; messages = z; clients = a.clients; stopped = a.stopped } in n) m
    ∙ ap (λ (z : List Client). let n : Now = record { partitions = b.partitions; messages = b.messages; clients = z; stopped = a.stopped } in n) c
    ∙ ap (λ (z : List ℕ). let n : Now = record { partitions = b.partitions; messages = b.messages; clients = b.clients; stopped = z } in n) s

-- ---- an ask

-- the tests before the client's own are passed
pub asks_so : (terms : Terms) (now : Now) (n : ℕ) (p : Principal) (ask : Ask) → is_client n ≡ true → is_stopped now n ≡ false
    → asks terms now n p ask ≡ asks_of terms n (client_at now.clients n) p ask
asks_so terms now n p ask own runs =
    ap (λ (b : Bool). cond (not b) (Err BadRequest) (cond (is_stopped now n) (Err Stopped) (asks_of terms n (client_at now.clients n) p ask))) own
    ∙ ap (λ (b : Bool). cond b (Err Stopped) (asks_of terms n (client_at now.clients n) p ask)) runs

-- one that is stopped asks nothing
pub asks_no_more : (terms : Terms) (now : Now) (n : ℕ) (p : Principal) (ask : Ask) → is_client n ≡ true → is_stopped now n ≡ true
    → asks terms now n p ask ≡ Err Stopped
asks_no_more terms now n p ask own stays =
    ap (λ (b : Bool). cond (not b) (Err BadRequest) (cond (is_stopped now n) (Err Stopped) (asks_of terms n (client_at now.clients n) p ask))) own
    ∙ ap (λ (b : Bool). cond b (Err Stopped) (asks_of terms n (client_at now.clients n) p ask)) stays

-- what is changed among the clients is changed in all that is kept
changed_so : (now new : Now) (change : Change) (sent : List Message) (outs : List Out)
    → AreChangedBy (length now.messages) now.clients change new.clients sent outs → new.partitions ≡ now.partitions
    → new.messages ≡ now.messages ++ sent → new.stopped ≡ now.stopped → IsChanged now change new outs
changed_so now new Nothing sent outs h p m s = record {
  kept = same_kept new now p (m ∙ ap (λ (xs : List Message). now.messages ++ xs) h.silent ∙ append-nil now.messages) h.clients s;
  outputs = h.no_outputs;
}
changed_so now new (AtPart part held messages) sent outs h p m s = absurd h
changed_so now new (AtClient number turn) sent outs h p m s = record {
  kept = same_kept new (now_after now (AtClient number turn)) p (m ∙ ap (λ (xs : List Message). now.messages ++ xs) h.sent_is) h.clients s;
  outputs = h.outputs;
}
changed_so now new (Stops number) sent outs h p m s = absurd h

done_by : (terms : Terms) (now new : Now) (n : ℕ) (p : Principal) (ask : Ask) (sent : List Message) (outs : List Out) (r : Result Change Refusal)
    → asks terms now n p ask ≡ r
    → IsOkAnd r (λ change. AreChangedBy (length now.messages) now.clients change new.clients sent outs)
    → new.partitions ≡ now.partitions → new.messages ≡ now.messages ++ sent → new.stopped ≡ now.stopped
    → IsMade (asks terms now n p ask) now new outs
done_by terms now new n p ask sent outs (Ok change) e h a b c =
    let d = changed_so now new change sent outs h a b c in
    record { change = change; is = e; kept = d.kept; outputs = d.outputs }
done_by terms now new n p ask sent outs (Err why) e h a b c = absurd h

pub asked_done : (terms : Terms) (now new : Now) (n : ℕ) (p : Principal) (ask : Ask) (sent : List Message) (outs : List Out)
    → is_client n ≡ true → is_stopped now n ≡ false
    → IsOkAnd (asks_of terms n (client_at now.clients n) p ask)
    (λ change. AreChangedBy (length now.messages) now.clients change new.clients sent outs)
    → new.partitions ≡ now.partitions → new.messages ≡ now.messages ++ sent → new.stopped ≡ now.stopped
    → IsMade (asks terms now n p ask) now new outs
asked_done terms now new n p ask sent outs own runs h a b c =
    done_by terms now new n p ask sent outs (asks_of terms n (client_at now.clients n) p ask) (asks_so terms now n p ask own runs) h a b c

-- ---- a message

pub message_is : (ms : List Message) (i : ℕ) (m : Message) → i < length ms → m ≡ get_or ms i m → slice_get ms i ≡ Some m
message_is ms i m inside e = slice_get-get_or ms i m inside ∙ sym (ap Some e)

pub delivered_is : (terms : Terms) (now : Now) (number i : ℕ) (m : Message) → message_of now.messages number ≡ slice_get now.messages i
    → i < length now.messages → m ≡ get_or now.messages i m → delivers terms now (message_of now.messages number) ≡ Ok (arrives terms now m m.to)
delivered_is terms now number i m found inside e =
    ap (delivers terms now) (found ∙ message_is now.messages i m inside e)

pub not_there : (terms : Terms) (now : Now) (number : ℕ) → message_of now.messages number ≡ None
    → delivers terms now (message_of now.messages number) ≡ Err NoSuchMessage
not_there terms now number e = ap (delivers terms now) e

-- a partition takes it
pub part_changed : (now new : Now) (part : ℕ) (message : Message) (held : PartitionState) (outs : List Out)
    → slice_get now.partitions part ≡ Some held → new.partitions ≡ set now.partitions part (after held message)
    → new.messages ≡ now.messages ++ option_to_list (answer held message) → new.clients ≡ now.clients → new.stopped ≡ now.stopped
    → outs ≡ sent_after (length now.messages) (option_to_list (answer held message))
    → IsChanged now (part_takes part message (slice_get now.partitions part)) new outs
part_changed now new part message held outs e p m c s o =
    subst (λ (f : Option PartitionState). IsChanged now (part_takes part message f) new outs) (sym e)
    (record {
      kept = same_kept new (now_after now (AtPart part (after held message) (option_to_list (answer held message)))) p m c s;
      outputs = o;
    })

no_more : (xs : List PartitionState) (i : ℕ) → length xs ≤ i → slice_get xs i ≡ None
no_more [] i h = refl
no_more (x ∷ xs) zero h = absurd (omega arith)
no_more (x ∷ xs) (suc i) h = no_more xs i (omega arith)

pub no_part : (now : Now) (part : ℕ) → length now.partitions ≤ part → slice_get now.partitions part ≡ None
no_part now part h = no_more now.partitions part h

pub no_part_takes : (now : Now) (part : ℕ) (message : Message) (outs : List Out) → length now.partitions ≤ part → outs ≡ []
    → IsChanged now (part_takes part message (slice_get now.partitions part)) now outs
no_part_takes now part message outs h e =
    subst (λ (f : Option PartitionState). IsChanged now (part_takes part message f) now outs) (sym (no_part now part h))
    (record { kept = refl; outputs = e })

-- a client takes it
pub client_changed : (terms : Terms) (now new : Now) (n : ℕ) (message : Message) (sent : List Message) (outs : List Out)
    → is_stopped now n ≡ false
    → AreChangedBy (length now.messages) now.clients (takes_of terms n (client_at now.clients n) message) new.clients sent outs
    → new.partitions ≡ now.partitions → new.messages ≡ now.messages ++ sent → new.stopped ≡ now.stopped
    → IsChanged now (client_takes terms now n (client_at now.clients n) message) new outs
client_changed terms now new n message sent outs runs h a b c =
    subst (λ (b : Bool). IsChanged now (cond b Nothing (takes_of terms n (client_at now.clients n) message)) new outs) (sym runs)
    (changed_so now new (takes_of terms n (client_at now.clients n) message) sent outs h a b c)

pub client_still : (terms : Terms) (now : Now) (n : ℕ) (message : Message) (outs : List Out) → is_stopped now n ≡ true → outs ≡ []
    → IsChanged now (client_takes terms now n (client_at now.clients n) message) now outs
client_still terms now n message outs stays e =
    subst (λ (b : Bool). IsChanged now (cond b Nothing (takes_of terms n (client_at now.clients n) message)) now outs) (sym stays)
    (record { kept = refl; outputs = e })

module _ (terms : Terms) (now new : Now) (number i : ℕ) (m : Message) (found : message_of now.messages number ≡ slice_get now.messages i)
    (inside : i < length now.messages) (e : m ≡ get_or now.messages i m) (outs : List Out) where
  by_node : (node : Node) → m.to ≡ node → IsChanged now (arrives terms now m node) new outs → IsMade (delivers terms now (message_of now.messages number)) now new outs
  by_node node to h = record {
    change = arrives terms now m node;
    is = delivered_is terms now number i m found inside e ∙ ap (λ (n : Node). Ok (arrives terms now m n)) to;
    kept = h.kept;
    outputs = h.outputs;
  }

  pub part_delivered : (part : ℕ) → m.to ≡ Part part
      → ((message : Message) → slice_get now.messages i ≡ Some message → IsChanged now (part_takes part message (slice_get now.partitions part)) new outs)
      → IsMade (delivers terms now (message_of now.messages number)) now new outs
  part_delivered part to h = by_node (Part part) to (h m (message_is now.messages i m inside e))

  pub client_delivered : (n : ℕ) → m.to ≡ OfClient n
      → ((message : Message) → slice_get now.messages i ≡ Some message
      → IsChanged now (client_takes terms now n (client_at now.clients n) message) new outs)
      → IsMade (delivers terms now (message_of now.messages number)) now new outs
  client_delivered n to h = by_node (OfClient n) to (h m (message_is now.messages i m inside e))

-- ---- a sweep

same_set : (xs : List PartitionState) (i : ℕ) (x : PartitionState) → slice_get xs i ≡ Some x → set xs i x ≡ xs
same_set [] i x e = refl
same_set (y ∷ xs) zero x e = cc
same_set (y ∷ xs) (suc i) x e = ap (λ (zs : List PartitionState). y ∷ zs) (same_set xs i x e)

pub swept_is : (now : Now) (part stamp : ℕ) (held : PartitionState) → slice_get now.partitions part ≡ Some held
    → sweeps part stamp (slice_get now.partitions part) ≡ (swept held stamp >>= λ messages. Ok (AtPart part held messages))
swept_is now part stamp held e = ap (sweeps part stamp) e

pub swept_done : (now new : Now) (part stamp : ℕ) (held : PartitionState) (messages : List Message) (outs : List Out)
    → slice_get now.partitions part ≡ Some held → swept held stamp ≡ Ok messages → new.partitions ≡ now.partitions
    → new.messages ≡ now.messages ++ messages → new.clients ≡ now.clients → new.stopped ≡ now.stopped
    → outs ≡ sent_after (length now.messages) messages → IsMade (sweeps part stamp (slice_get now.partitions part)) now new outs
swept_done now new part stamp held messages outs e s p m c t o = record {
  change = AtPart part held messages;
  is = swept_is now part stamp held e
      ∙ ap (λ (r : Result (List Message) Refusal). r >>= (λ messages. Ok (AtPart part held messages))) s;
  kept = same_kept new (now_after now (AtPart part held messages)) (p ∙ sym (same_set now.partitions part held e)) m c t;
  outputs = o;
}

pub swept_refused : (now : Now) (part stamp : ℕ) (held : PartitionState) (why : Refusal) → slice_get now.partitions part ≡ Some held
    → swept held stamp ≡ Err why → sweeps part stamp (slice_get now.partitions part) ≡ Err why
swept_refused now part stamp held why e s =
    swept_is now part stamp held e
    ∙ ap (λ (r : Result (List Message) Refusal). r >>= (λ messages. Ok (AtPart part held messages))) s

swept_by : (part : ℕ) (held : PartitionState) (r : Result (List Message) Refusal) → IsOk r → IsOk (r >>= λ messages. Ok (AtPart part held messages))
swept_by part held (Ok messages) h = refl
swept_by part held (Err why) h = h

pub swept_may : (now : Now) (part stamp : ℕ) (held : PartitionState) → slice_get now.partitions part ≡ Some held
    → IsOk (swept held stamp) → IsOk (sweeps part stamp (slice_get now.partitions part))
swept_may now part stamp held e h =
    subst (λ (r : Result Change Refusal). IsOk r) (sym (swept_is now part stamp held e)) (swept_by part held (swept held stamp) h)

pub swept_nowhere : (now : Now) (part stamp : ℕ) → slice_get now.partitions part ≡ None
    → sweeps part stamp (slice_get now.partitions part) ≡ Err NoSuchPart
swept_nowhere now part stamp e = ap (sweeps part stamp) e

-- ---- a stop

pub stopped_done : (now new : Now) (n : ℕ) (outs : List Out) → is_stopped now n ≡ false → new.partitions ≡ now.partitions
    → new.messages ≡ now.messages → new.clients ≡ now.clients → new.stopped ≡ with_number n now.stopped → outs ≡ []
    → IsMade (stops now n) now new outs
stopped_done now new n outs runs p m c s o = record {
  change = Stops n;
  is = ap (λ (b : Bool). cond b (Err Stopped) (Ok (Stops n))) runs;
  kept = same_kept new (now_after now (Stops n)) p m c s;
  outputs = o;
}

pub stopped_refused : (now : Now) (n : ℕ) → is_stopped now n ≡ true → stops now n ≡ Err Stopped
stopped_refused now n stays = ap (λ (b : Bool). cond b (Err Stopped) (Ok (Stops n))) stays

-- ---- a trim

pub trimmed_is : (now : Now) (part item : ℕ) (held : PartitionState) → slice_get now.partitions part ≡ Some held
    → trims part item (slice_get now.partitions part) ≡ (trimmed held item >>= λ changed. Ok (AtPart part changed []))
trimmed_is now part item held e = ap (trims part item) e

pub trimmed_done : (now new : Now) (part item : ℕ) (held later : PartitionState) (outs : List Out)
    → slice_get now.partitions part ≡ Some held → trimmed held item ≡ Ok later → new.partitions ≡ set now.partitions part later
    → new.messages ≡ now.messages → new.clients ≡ now.clients → new.stopped ≡ now.stopped → outs ≡ []
    → IsMade (trims part item (slice_get now.partitions part)) now new outs
trimmed_done now new part item held later outs e s p m c t o = record {
  change = AtPart part later [];
  is = trimmed_is now part item held e
      ∙ ap (λ (r : Result PartitionState Refusal). r >>= (λ changed. Ok (AtPart part changed []))) s;
  kept = same_kept new (now_after now (AtPart part later [])) p (m ∙ sym (append-nil now.messages)) c t;
  outputs = o;
}

pub trimmed_refused : (now : Now) (part item : ℕ) (held : PartitionState) (why : Refusal) → slice_get now.partitions part ≡ Some held
    → trimmed held item ≡ Err why → trims part item (slice_get now.partitions part) ≡ Err why
trimmed_refused now part item held why e s =
    trimmed_is now part item held e
    ∙ ap (λ (r : Result PartitionState Refusal). r >>= (λ changed. Ok (AtPart part changed []))) s

trimmed_by : (part : ℕ) (r : Result PartitionState Refusal) → IsOk r → IsOk (r >>= λ changed. Ok (AtPart part changed []))
trimmed_by part (Ok changed) h = refl
trimmed_by part (Err why) h = h

pub trimmed_may : (now : Now) (part item : ℕ) (held : PartitionState) → slice_get now.partitions part ≡ Some held
    → IsOk (trimmed held item) → IsOk (trims part item (slice_get now.partitions part))
trimmed_may now part item held e h =
    subst (λ (r : Result Change Refusal). IsOk r) (sym (trimmed_is now part item held e)) (trimmed_by part (trimmed held item) h)

pub trimmed_nowhere : (now : Now) (part item : ℕ) → slice_get now.partitions part ≡ None
    → trims part item (slice_get now.partitions part) ≡ Err NoSuchPart
trimmed_nowhere now part item e = ap (trims part item) e

pub part_is : (now : Now) (i : ℕ) (held : PartitionState) → i < length now.partitions → held ≡ get_or now.partitions i held
    → slice_get now.partitions i ≡ Some held
part_is now i held inside e = slice_get-get_or now.partitions i held inside ∙ sym (ap Some e)

-- ---- what each event's proof rests on

-- a client asks
pub ruleset asking = (asks_so, asks_no_more, asked_done)

-- a message is delivered
pub ruleset delivering = (part_delivered, client_delivered, delivered_is, not_there)

-- a partition takes one
pub ruleset changing_a_part = (part_changed, no_part_takes, part_is)

-- a client takes one
pub ruleset changing_a_client = (client_changed, client_still, message_is)

-- a partition sweeps
pub ruleset sweeping = (swept_done, swept_refused, swept_may, swept_nowhere, part_is, no_part)

-- a partition trims
pub ruleset trimming = (trimmed_done, trimmed_refused, trimmed_may, trimmed_nowhere, part_is, no_part)
