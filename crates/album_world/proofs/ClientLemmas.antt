-- The clients, their clocks, and what a message replies to them.
use Rattle.std.proofs.Common.{◌≡◌, ℕ, ◌≤◌, ◌+◌, ◌*◌, Bool, true, false, cond, eqb, ◌==◌, ◌&&◌, not, nat_lt, List, [], ◌∷◌, Option, Some, None, Result, Ok, Err, ◌⊎◌, inl, inr, ⊎_elim, sym, ap, ◌∙◌, subst, refl, arith, true≢false, eqb-true, eq-eqb, le_refl, le_trans, if◌then◌else◌}
use Rattle.std.specs.List.{list_any}
use Rattle.std.specs.Option.{option_and_then}
use Rattle.album_stamps.specs.declared.limits.TheConstants.{MAX_COUNTER}
use Rattle.album_stamps.specs.declared.refusals.Refusal.{Refusal}
use Rattle.album_stamps.specs.declared.refusals.Refusal.TheVariants as refusal
use Rattle.album_stamps.specs.Stamps.{stamp_number, counter_of}
use Rattle.album_stamps.specs.Clocks.{clock_after_reach, ClockState, clock_after_see, clock_after_next, next_of}
use Rattle.album_items.specs.ItemIds.{place_of}
use Rattle.album_calls.specs.Nodes.{is_part, is_client}
use Rattle.album_calls.specs.declared.messages.Body.{Body}
use Rattle.album_calls.specs.declared.messages.Body.TheVariants as body
use Rattle.album_calls.specs.declared.messages.Message.{Message}
use Rattle.album_calls.specs.declared.nodes.Node.{Node}
use Rattle.album_calls.specs.declared.nodes.Node.TheVariants.{Part, Client as ToClient}
use Rattle.album_calls.specs.declared.replies.Reply.{Reply}
use Rattle.album_calls.specs.declared.replies.Reply.TheVariants as reply
use Rattle.album_reader.specs.Answers.{ReadVersion, body_version, is_answer, if_answer, answers_there, are_there}
use Rattle.album_reader.specs.Rounds.{RoundState, has_item, has_answer, lacks, if_lacking, new_answer, put_answer, are_in_order, no_answers}
use Rattle.album_reader.specs.Snapshots.{items_read}
use Rattle.album_reader.proofs.Rounds.{items_read-in_order}
use Rattle.album_writer.specs.Writing.{WritingState, places_in}
use Rattle.album_writer.specs.declared.write_replies.WriteReply.{WriteReply}
use Rattle.album_writer.specs.declared.write_replies.WriteReply.TheVariants as write_reply
use Rattle.album_writer.specs.WriteReplies.{write_reply_of, body_reply, is_from_participant, reply_in}
use Rattle.album_client.specs.Clients.{Client}
use Rattle.album_client.specs.Steps.{clock_after_rows}
use Rattle.album_world.specs.State.{client_at, with_client}
use Rattle.album_world.proofs.ListLemmas.{In, and_left, and_right, and_both, in_uncons, in_nil, in_any, in_map, none_some, some_same}
use Rattle.album_world.proofs.ListLemmas.In.{here, there}

-- ---- a client, looked up by its number

pub client_same : (cs : List Client) (x : Client) (c : ℕ) → x.number ≡ c → client_at (with_client x cs) c ≡ x
client_same [] x c e = rw (eq-eqb x.number c e) refl
client_same (y ∷ cs) x c e = go (eqb y.number x.number) refl (client_same cs x c e)
  where
    go : (b : Bool) → eqb y.number x.number ≡ b → client_at (with_client x cs) c ≡ x
        → client_at (cond b (x ∷ cs) (y ∷ with_client x cs)) c ≡ x
    go true q rec = rw (eq-eqb x.number c e) refl
    go false q rec = let n : eqb y.number c ≡ false = subst (λ (z : ℕ). eqb y.number z ≡ false) e q in rw n rec

pub client_other : (cs : List Client) (x : Client) (d : ℕ) → eqb x.number d ≡ false
    → client_at (with_client x cs) d ≡ client_at cs d
client_other [] x d ne = rw ne refl
client_other (y ∷ cs) x d ne = go (eqb y.number x.number) refl (client_other cs x d ne)
  where
    go : (b : Bool) → eqb y.number x.number ≡ b → client_at (with_client x cs) d ≡ client_at cs d
        → client_at (cond b (x ∷ cs) (y ∷ with_client x cs)) d ≡ cond (eqb y.number d) y (client_at cs d)
    go true q rec = let n : eqb y.number d ≡ false = subst (λ (z : ℕ). eqb z d ≡ false)
        (sym (eqb-true y.number x.number q)) ne in rw (ne, n) refl
    go false q rec = ap (cond (eqb y.number d) y) rec

-- ---- clocks

pub rows_client : (clock : ClockState) (rows : List ReadVersion) → (clock_after_rows clock rows).client ≡ clock.client
rows_client clock [] = refl
rows_client clock (f ∷ rows) = rows_client (clock_after_see clock f.stamp) rows

pub rows_raise : (clock : ClockState) (rows : List ReadVersion) → clock.counter ≤ (clock_after_rows clock rows).counter
rows_raise clock [] = le_refl _
rows_raise clock (f ∷ rows) = let l : clock.counter ≤ (clock_after_see clock f.stamp).counter = omega arith in
    le_trans l (rows_raise (clock_after_see clock f.stamp) rows)

-- so it is where the clock reaches a counter first, and that counter is reached
pub reach_raise : (clock : ClockState) (first : ℕ) (rows : List ReadVersion)
    → clock.counter ≤ (clock_after_rows (clock_after_reach clock first) rows).counter
reach_raise clock first rows = let l : clock.counter ≤ (clock_after_reach clock first).counter = omega arith in
    le_trans l (rows_raise (clock_after_reach clock first) rows)

pub reached : (clock : ClockState) (first : ℕ) (rows : List ReadVersion)
    → first ≤ (clock_after_rows (clock_after_reach clock first) rows).counter
reached clock first rows = let l : first ≤ (clock_after_reach clock first).counter = omega arith in
    le_trans l (rows_raise (clock_after_reach clock first) rows)

-- a clock that has seen a snapshot is at no lower counter than any stamp in it
pub rows_seen : (clock : ClockState) (rows : List ReadVersion) (row : ReadVersion) → In row rows
    → counter_of row.stamp ≤ (clock_after_rows clock rows).counter
rows_seen clock [] row h = in_nil h
rows_seen clock (f ∷ rows) row h = ⊎_elim
    (λ (e : row ≡ f).
    let l : counter_of f.stamp ≤ (clock_after_see clock f.stamp).counter = omega arith in
    subst (λ (z : ReadVersion). counter_of z.stamp ≤ (clock_after_rows (clock_after_see clock f.stamp) rows).counter)
    (sym e) (le_trans l (rows_raise (clock_after_see clock f.stamp) rows)))
    (λ i. rows_seen (clock_after_see clock f.stamp) rows row i)
    (in_uncons h)

pub record IsDraw (clock : ClockState) (stamp : ℕ) : Type 0 where
  pub stamp_is : stamp ≡ (clock.counter + 1) * 65536 + clock.client
  pub counter : (clock_after_next clock).counter ≡ clock.counter + 1
  pub client : (clock_after_next clock).client ≡ clock.client

ok_same : {x y : ℕ} → (let a : Result ℕ Refusal = Ok x in a) ≡ Ok y → x ≡ y
ok_same e = cc

pub draw_is : (clock : ClockState) (stamp : ℕ) → next_of clock ≡ Ok stamp → IsDraw clock stamp
draw_is clock stamp h = go (nat_lt clock.counter MAX_COUNTER) refl h
  where
    go : (b : Bool) → nat_lt clock.counter MAX_COUNTER ≡ b
        → (if b then Ok (stamp_number (clock.counter + 1) clock.client) else Err refusal.StampsSpent) ≡ Ok stamp
        → IsDraw clock stamp
    go true e k = record { stamp_is = sym (ok_same k); counter = rw e refl; client = rw e refl }
    go false e k = absurd (cc)

pub next_client : (clock : ClockState) → (clock_after_next clock).client ≡ clock.client
next_client clock = go (nat_lt clock.counter MAX_COUNTER)
  where
    go : (b : Bool) → (if b then (let z : ClockState = record clock { counter = clock.counter + 1 } in z) else
        clock).client ≡ clock.client
    go true = refl
    go false = refl

pub next_raise : (clock : ClockState) → clock.counter ≤ (clock_after_next clock).counter
next_raise clock = go (nat_lt clock.counter MAX_COUNTER)
  where
    go : (b : Bool) → clock.counter ≤
        (if b then (let z : ClockState = record clock { counter = clock.counter + 1 } in z) else clock).counter
    go true = omega arith
    go false = le_refl _

-- ---- the answers of a round

pub there_in : (founds : List (Option ReadVersion)) (f : ReadVersion) → In f (answers_there founds) → In (Some f) founds
there_in [] f h = in_nil h
there_in (None ∷ founds) f h = there (there_in founds f h)
there_in (Some g ∷ founds) f h = ⊎_elim
    (λ (e : f ≡ g). subst (λ (z : ReadVersion). In (Some z) (Some g ∷ founds)) (sym e) here)
    (λ k. there (there_in founds f k)) (in_uncons h)

-- each item has its answer
pub each_item : (items : List ℕ) (founds : List (Option ReadVersion)) → are_in_order items founds ≡ true
    → are_there founds ≡ true → (i : ℕ) → In i items → (f : ReadVersion) × In f (answers_there founds) × (f.item ≡ i)
each_item items founds own all i h =
    let is : items ≡ items_read (answers_there founds) = items_read-in_order items founds own all in
    let r = in_map (λ (row : ReadVersion). row.item) (answers_there founds) (subst (λ (z : List ℕ). In i z) is h) in
    (r.0, r.1, sym r.2)

own_in : (items : List ℕ) (founds : List (Option ReadVersion)) (f : ReadVersion) → are_in_order items founds ≡ true
    → In (Some f) founds → In f.item items
own_in [] [] f own h = in_nil h
own_in [] (g ∷ founds) f own h = absurd (true≢false (sym own))
own_in (item ∷ items) [] f own h = in_nil h
own_in (item ∷ items) (None ∷ founds) f own h = ⊎_elim (λ (e : Some f ≡ None). none_some (sym e))
    (λ k. there (own_in items founds f own k)) (in_uncons h)
own_in (item ∷ items) (Some g ∷ founds) f own h = ⊎_elim
    (λ (e : Some f ≡ Some g). subst (λ (z : ℕ). In z (item ∷ items))
    (sym (ap (λ (z : ReadVersion). z.item) (some_same e)
    ∙ eqb-true g.item item (and_left (g.item == item) (are_in_order items founds) own))) here)
    (λ k. there (own_in items founds f (and_right (g.item == item) (are_in_order items founds) own) k))
    (in_uncons h)

pub own_item : (items : List ℕ) (founds : List (Option ReadVersion)) → are_in_order items founds ≡ true → (f : ReadVersion)
    → In f (answers_there founds) → In f.item items
own_item items founds own f h = own_in items founds f own (there_in founds f h)

pub own_nothing : (items : List ℕ) → are_in_order items (no_answers items) ≡ true
own_nothing [] = refl
own_nothing (item ∷ items) = own_nothing items

pub none_found : (items : List ℕ) (f : ReadVersion) {R : Type 0} → In (Some f) (no_answers items) → R
none_found [] f h = in_nil h
none_found (item ∷ items) f h = ⊎_elim (λ (e : Some f ≡ None). none_some (sym e)) (λ k. none_found items f k)
    (in_uncons h)

-- an answer that is there with one more was there, or is that one
pub put_cases : (a : ReadVersion) (items : List ℕ) (founds : List (Option ReadVersion)) (f : ReadVersion)
    → In (Some f) (put_answer a items founds) → In (Some f) founds ⊎ (f ≡ a)
put_cases a [] founds f h = inl h
put_cases a (item ∷ items) [] f h = in_nil h
put_cases a (item ∷ items) (old ∷ founds) f h = go (a.item == item) (in_uncons h) (put_cases a items founds f)
  where
    go : (b : Bool) → (Some f ≡ (if b then Some a else old)) ⊎ In (Some f) (put_answer a items founds)
        → (In (Some f) (put_answer a items founds) → In (Some f) founds ⊎ (f ≡ a))
        → In (Some f) (old ∷ founds) ⊎ (f ≡ a)
    go true (inl e) rest = inr (some_same e)
    go false (inl e) rest = inl (subst (λ (z : Option ReadVersion). In (Some f) (z ∷ founds)) e here)
    go b (inr k) rest = ⊎_elim (λ l. inl (there l)) inr (rest k)

pub put_own : (a : ReadVersion) (items : List ℕ) (founds : List (Option ReadVersion)) → are_in_order items founds ≡ true
    → are_in_order items (put_answer a items founds) ≡ true
put_own a [] [] own = refl
put_own a [] (old ∷ founds) own = own
put_own a (item ∷ items) [] own = own
put_own a (item ∷ items) (old ∷ founds) own = go (a.item == item) refl old own (put_own a items founds)
  where
    go : (b : Bool) → (a.item == item) ≡ b → (old : Option ReadVersion) → are_in_order (item ∷ items) (old ∷ founds) ≡ true
        → (are_in_order items founds ≡ true → are_in_order items (put_answer a items founds) ≡ true)
        → are_in_order (item ∷ items) ((if b then Some a else old) ∷ put_answer a items founds) ≡ true
    go true e None f rest = and_both (a.item == item) _ e (rest f)
    go true e (Some g) f rest = and_both (a.item == item) _ e
        (rest (and_right (g.item == item) (are_in_order items founds) f))
    go false e None f rest = rest f
    go false e (Some g) f rest = and_both (g.item == item) _ (and_left (g.item == item) (are_in_order items founds) f)
        (rest (and_right (g.item == item) (are_in_order items founds) f))

-- what a message brings that counts
pub record IsFoundBy (r : RoundState) (m : Message) (f : ReadVersion) : Type 0 where
  pub tag_is : m.tag ≡ r.asker.tag
  pub to : m.to ≡ ToClient r.asker.client
  pub from : m.from ≡ Part (place_of r.asker.parts f.item)
  pub says : m.body ≡ body.Reply (reply.Version f.item f.stamp f.value)
  pub asked : In f.item r.items

part_is : (n : Node) (p : ℕ) → is_part n p ≡ true → n ≡ Part p
part_is (Part q) p h = ap Part (eqb-true q p h)
part_is (ToClient c) p h = absurd (true≢false (sym h))

client_is : (n : Node) (c : ℕ) → is_client n c ≡ true → n ≡ ToClient c
client_is (Part q) c h = absurd (true≢false (sym h))
client_is (ToClient d) c h = ap ToClient (eqb-true d c h)

version_is : (r : Reply) (f : ReadVersion) → body_version (body.Reply r) ≡ Some f → r ≡ reply.Version f.item f.stamp f.value
version_is (reply.Version j t v) f h = subst
    (λ (z : ReadVersion). reply.Version j t v ≡ reply.Version z.item z.stamp z.value) (some_same h) refl
version_is (reply.Prepared t) f h = none_some h
version_is (reply.Committed t) f h = none_some h
version_is (reply.Discarded t) f h = none_some h
version_is (reply.Status t v) f h = none_some h
version_is (reply.NotPrepared t) f h = none_some h
version_is reply.Clash f h = none_some h
version_is (reply.Full t) f h = none_some h
version_is (reply.Gone i) f h = none_some h

version_in_is : (b : Body) (f : ReadVersion) → body_version b ≡ Some f → b ≡ body.Reply (reply.Version f.item f.stamp f.value)
version_in_is (body.Request r) f h = none_some h
version_in_is (body.Reply r) f h = ap body.Reply (version_is r f h)

has_in : (items : List ℕ) (i : ℕ) → has_item items i ≡ true → In i items
has_in items i h = let r = in_any (λ other. i == other) items h in subst (λ (z : ℕ). In z items)
    (sym (eqb-true i r.0 r.2)) r.1

pub found_is : (r : RoundState) (m : Message) (f : ReadVersion) → new_answer r m ≡ Some f → IsFoundBy r m f
found_is r m f h = version (body_version m.body) refl h
  where
    lacking : (g : ReadVersion) → body_version m.body ≡ Some g → is_answer r.asker m g.item ≡ true → (b : Bool)
        → lacks r g.item ≡ b → (if b then Some g else None) ≡ Some f → IsFoundBy r m f
    lacking g given own false e k = none_some k
    lacking g given own true e k =
        let rest = and_left (m.tag == r.asker.tag && is_client m.to r.asker.client)
        (is_part m.from (place_of r.asker.parts g.item)) own in
        subst (IsFoundBy r m) (some_same k)
        (record {
          tag_is = eqb-true m.tag r.asker.tag (and_left (m.tag == r.asker.tag) (is_client m.to r.asker.client) rest);
          to = client_is m.to r.asker.client (and_right (m.tag == r.asker.tag) (is_client m.to r.asker.client) rest);
          from = part_is m.from (place_of r.asker.parts g.item)
              (and_right (m.tag == r.asker.tag && is_client m.to r.asker.client)
              (is_part m.from (place_of r.asker.parts g.item)) own);
          says = version_in_is m.body g given;
          asked = has_in r.items g.item
              (and_left (has_item r.items g.item) (not (has_answer (answers_there r.answers) g.item)) e);
        })

    answers : (g : ReadVersion) → body_version m.body ≡ Some g → (b : Bool) → is_answer r.asker m g.item ≡ b
        → option_and_then (if_lacking r) (if b then Some g else None) ≡ Some f → IsFoundBy r m f
    answers g given false e k = none_some k
    answers g given true e k = lacking g given e (lacks r g.item) refl k

    version : (v : Option ReadVersion) → body_version m.body ≡ v
        → option_and_then (if_lacking r) (option_and_then (if_answer r.asker m) v) ≡ Some f → IsFoundBy r m f
    version None e k = none_some k
    version (Some g) e k = answers g e (is_answer r.asker m g.item) refl k

-- ---- replies to a write

-- the body with this reply
abbrev pub IsReplyFrom : ℕ → WriteReply → Body → Type 0
IsReplyFrom t write_reply.Prepared b = b ≡ body.Reply (reply.Prepared t)
IsReplyFrom t write_reply.Committed b = b ≡ body.Reply (reply.Committed t)
IsReplyFrom t write_reply.Discarded b = b ≡ body.Reply (reply.Discarded t)
IsReplyFrom t write_reply.Full b = b ≡ body.Reply (reply.Full t)
IsReplyFrom t write_reply.Nothing b = Unit {0}

write_reply_of_is : (t : ℕ) (r : Reply) → IsReplyFrom t (write_reply_of t r) (body.Reply r)
write_reply_of_is t (reply.Prepared s) = go (s == t) refl
  where
    go : (b : Bool) → (s == t) ≡ b → IsReplyFrom t (if b then write_reply.Prepared else write_reply.Nothing)
        (body.Reply (reply.Prepared s))
    go true e = ap (λ (z : ℕ). body.Reply (reply.Prepared z)) (eqb-true s t e)
    go false e = tt
write_reply_of_is t (reply.Committed s) = go (s == t) refl
  where
    go : (b : Bool) → (s == t) ≡ b → IsReplyFrom t (if b then write_reply.Committed else write_reply.Nothing)
        (body.Reply (reply.Committed s))
    go true e = ap (λ (z : ℕ). body.Reply (reply.Committed z)) (eqb-true s t e)
    go false e = tt
write_reply_of_is t (reply.Discarded s) = go (s == t) refl
  where
    go : (b : Bool) → (s == t) ≡ b → IsReplyFrom t (if b then write_reply.Discarded else write_reply.Nothing)
        (body.Reply (reply.Discarded s))
    go true e = ap (λ (z : ℕ). body.Reply (reply.Discarded z)) (eqb-true s t e)
    go false e = tt
write_reply_of_is t (reply.Full s) = go (s == t) refl
  where
    go : (b : Bool) → (s == t) ≡ b → IsReplyFrom t (if b then write_reply.Full else write_reply.Nothing) (body.Reply (reply.Full s))
    go true e = ap (λ (z : ℕ). body.Reply (reply.Full z)) (eqb-true s t e)
    go false e = tt
write_reply_of_is t (reply.Version i s v) = tt
write_reply_of_is t (reply.Status s v) = tt
write_reply_of_is t (reply.NotPrepared s) = tt
write_reply_of_is t reply.Clash = tt
write_reply_of_is t (reply.Gone i) = tt

body_reply_is : (t : ℕ) (b : Body) → IsReplyFrom t (body_reply t b) b
body_reply_is t (body.Request r) = tt
body_reply_is t (body.Reply r) = write_reply_of_is t r

abbrev pub IsSomething : WriteReply → Type 0
IsSomething write_reply.Prepared = Unit {0}
IsSomething write_reply.Committed = Unit {0}
IsSomething write_reply.Discarded = Unit {0}
IsSomething write_reply.Full = Unit {0}
IsSomething write_reply.Nothing = ⊥

-- a participant gives the round's client this reply under its tag
pub record IsGivenTo (x : WritingState) (m : Message) (what : WriteReply) : Type 0 where
  pub tag : m.tag ≡ x.tag
  pub to : m.to ≡ ToClient x.client
  pub part : ℕ
  pub one_of : In part (places_in x)
  pub from : m.from ≡ Part part
  pub says : IsReplyFrom x.stamp what m.body

pub given_to_is : (x : WritingState) (m : Message) (what : WriteReply) → reply_in x m ≡ what → IsSomething what
    → IsGivenTo x m what
given_to_is x m what h some = go (is_from_participant x m) refl h
  where
    go : (b : Bool) → is_from_participant x m ≡ b → (if b then body_reply x.stamp m.body else write_reply.Nothing) ≡ what
        → IsGivenTo x m what
    go true e k =
        let rest = and_left (m.tag == x.tag && is_client m.to x.client) (list_any (is_part m.from) (places_in x)) e in
        let a = in_any (is_part m.from) (places_in x)
        (and_right (m.tag == x.tag && is_client m.to x.client) (list_any (is_part m.from) (places_in x)) e) in
        record {
          tag = eqb-true m.tag x.tag (and_left (m.tag == x.tag) (is_client m.to x.client) rest);
          to = client_is m.to x.client (and_right (m.tag == x.tag) (is_client m.to x.client) rest);
          part = a.0;
          one_of = a.1;
          from = part_is m.from a.0 a.2;
          says = subst (λ (z : WriteReply). IsReplyFrom x.stamp z m.body) k (body_reply_is x.stamp m.body);
        }
    go false e k = absurd (subst IsSomething (sym k) some)
