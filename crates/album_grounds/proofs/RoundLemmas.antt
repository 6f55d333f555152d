-- What a reply brings to a round of a read: `leads`. ReadingLemmas and WaitLemmas of `album_sessions` cite the lemmas that
-- are `pub`.
use Rattle.std.proofs.Common.{◌≡◌, ◌≢◌, ℕ, zero, suc, ◌≤◌, Bool, true, false, cond, ◌==◌, List, [], ◌∷◌, ◌++◌, length, append-nil, map, All, Contains, Option, Some, None, is_some, option_and_then, option_to_list, refl, sym, ap, ◌∙◌, subst, arith, get_or, if◌then◌else◌}
use Rattle.std.specs.Option.{option_map_or, unwrap_or}
use Rattle.std.proofs.lemmas.List.Elements.{All-nil, All-cons, All-head, All-tail, All-map}
use Rattle.std.proofs.lemmas.Bool.{and_parts, eqb-true, eq-eqb}
use Rattle.album_items.specs.ItemIds.{place_of}
use Rattle.album_items.specs.Openings.{Row}
use Rattle.album_items.specs.Places.{rows_placed_at}
use Rattle.album_items.specs.declared.values.Value.{Value}
use Rattle.album_items.specs.declared.values.Value.TheVariants.{Missing}
use Rattle.album_calls.specs.declared.messages.Body.{Body}
use Rattle.album_calls.specs.declared.messages.Body.TheVariants as body
use Rattle.album_calls.specs.declared.messages.Message.{Message}
use Rattle.album_calls.specs.declared.nodes.Node.TheVariants.{Part}
use Rattle.album_calls.specs.declared.replies.Reply.{Reply}
use Rattle.album_calls.specs.declared.replies.Reply.TheVariants as reply
use Rattle.album_calls.specs.declared.requests.Request.TheVariants.{Get}
use Rattle.album_partition.specs.Laws.{IsReadAt}
use Rattle.album_partition.specs.Marks.{commits, value_in, kept_version, latest, is_legal}
use Rattle.album_partition.specs.Partition.{PartitionState}
use Rattle.album_partition.specs.declared.marks.Mark.{Mark}
use Rattle.album_partition.proofs.GrowthLemmas.{latest_rises}
use Rattle.album_partition.proofs.LawLemmas.{to_the_sender, version_is_read, gone_is_trimmed}
use Rattle.album_passes.specs.Cuts.{Cut, prefix_at, prefix_for, IsPrefix, Extends}
use Rattle.album_passes.specs.Reads.{IsCommittedFor, IsAnsweredBetween}
use Rattle.album_passes.proofs.CutLemmas.{prefix_for_more}
use Rattle.album_passes.proofs.PrefixLemmas.{prefix_trans, prefix_shorter, any_more}
use Rattle.album_reader.specs.Answers.{Asker, ReadVersion, reply_version, body_version, is_answer, if_answer, answer_in, answers_there, are_there}
use Rattle.album_reader.specs.Rounds.{RoundState, IsOpen, StaysOpen, no_answers, next_asker, second_round, asked_stamps, get_of, gets_of, if_lacking, new_answer, put_answer, with_answer, lacks, end_by, end_of, outcome, is_gone, taken, stepped, are_in_order}
use Rattle.album_reader.specs.Rounds.Step.{Same, Gone}
use Rattle.album_reader.specs.StampSets.{stamps_of}
use Rattle.album_reader.specs.Others.{IsGone}
use Rattle.album_reader.proofs.Others.{is_part-own, IsGone-is_gone}
use Rattle.album_reader.proofs.Rounds.{items_read-in_order, stepped-open, with_answer-in_order}
use Rattle.album_keepers.specs.Envelopes.{Shows}
use Rattle.album_keepers.proofs.ReplyLemmas.{get_marks_nothing, replied_so}
use Rattle.album_grounds.specs.Grounds.{AreSettled, AreUpToDate}
use Rattle.album_keepers.specs.Replies.{IsReplied}
use Rattle.album_grounds.specs.Replies.{IsUnder, AreOf, IsGoneBetween, Leads}
use Rattle.album_keepers.specs.Settling.{stamps_in, AreCommitted, AreSettledIn}
use Rattle.album_grounds.proofs.GroundLemmas.{settled_more}
use Rattle.album_keepers.proofs.SettleLemmas.{read_committed}

-- ---- what a message answers

tells_version : (r : Reply) (x : ReadVersion) → reply_version r ≡ Some x → r ≡ reply.Version x.item x.stamp x.value
tells_version (reply.Version i t v) x e = cc
tells_version (reply.Prepared t) x e = absurd (cc)
tells_version (reply.Committed t) x e = absurd (cc)
tells_version (reply.Discarded t) x e = absurd (cc)
tells_version (reply.Status t v) x e = absurd (cc)
tells_version (reply.NotPrepared t) x e = absurd (cc)
tells_version reply.Clash x e = absurd (cc)
tells_version (reply.Full t) x e = absurd (cc)
tells_version (reply.Gone i) x e = absurd (cc)

body_tells : (b : Body) (x : ReadVersion) → body_version b ≡ Some x → b ≡ body.Reply (reply.Version x.item x.stamp x.value)
body_tells (body.Request r) x e = absurd (cc)
body_tells (body.Reply r) x e = ap body.Reply (tells_version r x e)

answers_it : (a : Asker) (m : Message) (x : ReadVersion) → answer_in a m ≡ Some x
    → (m.body ≡ body.Reply (reply.Version x.item x.stamp x.value)) × (m.from ≡ Part (place_of a.parts x.item))
answers_it a m x e = go (body_version m.body) refl e
  where
    here : (b : Bool) (v : ReadVersion) → is_answer a m v.item ≡ b → (if b then Some v else None) ≡ Some x → body_version m.body ≡ Some v
        → (m.body ≡ body.Reply (reply.Version x.item x.stamp x.value)) × (m.from ≡ Part (place_of a.parts x.item))
    here true v f g h =
        let same : v ≡ x = cc in
        let own = is_part-own m.from (place_of a.parts v.item) (and_parts _ _ f).1 in (
          body_tells m.body x (h ∙ ap Some same),
          own ∙ ap (λ (y : ReadVersion). Part (place_of a.parts y.item)) same,
        )
    here false v f g h = absurd (cc)

    go : (o : Option ReadVersion) → body_version m.body ≡ o → option_and_then (if_answer a m) o ≡ Some x
        → (m.body ≡ body.Reply (reply.Version x.item x.stamp x.value)) × (m.from ≡ Part (place_of a.parts x.item))
    go None f g = absurd (cc)
    go (Some v) f g = here (is_answer a m v.item) v refl g f

-- ---- where it was read

-- an item has the same value in all rows and in those that are placed at its partition
pub value_placed : (rows : List Row) (p n i : ℕ) → place_of n i ≡ p → value_in (rows_placed_at p n rows) i ≡ value_in rows i
value_placed [] p n i e = refl
value_placed (row ∷ rows) p n i e = go (place_of n row.0 == p) (row.0 == i) refl refl (value_placed rows p n i e)
  where
    go : (a b : Bool) → (place_of n row.0 == p) ≡ a → (row.0 == i) ≡ b → value_in (rows_placed_at p n rows) i ≡ value_in rows i
        → value_in (cond a (row ∷ rows_placed_at p n rows) (rows_placed_at p n rows)) i ≡ cond (row.0 == i) (Some row.1) (value_in rows i)
    go true b f g h = ap (cond (row.0 == i) (Some row.1)) h
    go false true f g h = absurd (let same : row.0 ≡ i = eqb-true row.0 i g in let here = eq-eqb (place_of n row.0) p (ap (place_of n) same ∙ e) in cc)
    go false false f g h = h ∙ sym (ap (λ (z : Bool). cond z (Some row.1) (value_in rows i)) g)

-- what was sent for a round asks with its stamps
asks_with : (a : Asker) (ts : List ℕ) (items : List ℕ) (m : Message) → Contains (gets_of a ts items) m → (i : ℕ) × (m ≡ get_of a ts i)
asks_with a ts [] m (k, l, e) = absurd (omega arith)
asks_with a ts (i ∷ items) m (zero, l, e) = (i, sym e)
asks_with a ts (i ∷ items) m (suc k, l, e) = asks_with a ts items m (k, omega arith, e)

same_stamps : (i j : ℕ) (us vs : List ℕ) → body.Request (Get i us) ≡ body.Request (Get j vs) → us ≡ vs
same_stamps i j us vs f = cc

-- a Get that was sent for a round has the round's stamps
with_stamps : (a : Asker) (ts items : List ℕ) (q : Message) (i : ℕ) (us : List ℕ) → Contains (gets_of a ts items) q
    → q.body ≡ body.Request (Get i us) → us ≡ ts
with_stamps a ts items q i us own asked =
    let get = asks_with a ts items q own in
    same_stamps i get.0 us ts (sym asked ∙ ap (λ (n : Message). n.body) get.1)

-- a partition that replies on an item is the item's own, and its history was then between those of the two cuts
record IsToldBetween (b c heard : Cut) (p : PartitionState) (i : ℕ) : Type 0 where
  from : IsPrefix (prefix_for b i) p.marks
  to : IsPrefix p.marks (prefix_for c i)
  shown : p.marks ≡ prefix_at heard p.number
  first : value_in p.items i ≡ value_in b.opening i

told_between : (limit : ℕ) (b c : Cut) (n : ℕ) (sent : List Message) (m : Message) (i : ℕ) (us : List ℕ) → Extends b c → n ≡ b.parts
    → (r : IsReplied limit b c sent m) → r.request.body ≡ body.Request (Get i us) → m.from ≡ Part (place_of n i)
    → IsToldBetween b c r.heard r.answered.partition i
told_between limit b c n sent m i us on parts r asked sender =
    let p = r.answered.partition in
    let q = r.request in
    let own : m.from ≡ Part p.number = (to_the_sender p q m r.answered.answered).sender in
    let place : place_of b.parts i ≡ p.number = ap (λ (k : ℕ). place_of k i) (sym parts) ∙ sym (same_part p.number (place_of n i) (sym own ∙ sender)) in
    let heard_parts : r.heard.parts ≡ b.parts = sym r.seen.parts ∙ on.parts in
    let marks : p.marks ≡ prefix_at r.heard p.number =
    sym (append-nil p.marks) ∙ ap (λ (o : Option Mark). p.marks ++ option_to_list o) (sym (get_marks_nothing p q i us asked)) ∙ r.answered.shown.marks in
    let seen : IsPrefix p.marks (prefix_at c p.number) = subst (λ (ms : List Mark). IsPrefix ms (prefix_at c p.number)) (sym marks) (r.seen.prefixes p.number) in
    let late : length (prefix_at b p.number) ≤ length p.marks = subst (λ (ms : List Mark). length (prefix_at b p.number) ≤ length ms) (sym marks) (r.late p.number own) in
    let from : IsPrefix (prefix_at b p.number) p.marks = prefix_shorter (prefix_at b p.number) p.marks (prefix_at c p.number) (on.prefixes p.number) seen late in
    record {
      from = subst (λ (k : ℕ). IsPrefix (prefix_at b k) p.marks) (sym place) from;
      to = subst (λ (k : ℕ). IsPrefix p.marks (prefix_at c k)) (sym (ap (λ (k : ℕ). place_of k i) on.parts ∙ place)) seen;
      shown = marks;
      first = ap (λ (rows : List Row). value_in rows i) (r.answered.shown.items)
          ∙ value_placed r.heard.opening p.number r.heard.parts i (ap (λ (k : ℕ). place_of k i) heard_parts ∙ place)
          ∙ ap (λ (rows : List Row). value_in rows i) (sym r.seen.opening ∙ on.opening);
    }
  where
    same_part : (i j : ℕ) → Part i ≡ Part j → i ≡ j
    same_part i j f = cc

-- A version of an item, in a reply to one of a round's Gets, was read at a history between the two cuts.
read_between : (limit : ℕ) (b c : Cut) (a : Asker) (ts items : List ℕ) (m : Message) (x : ReadVersion) → Extends b c → a.parts ≡ b.parts
    → IsReplied limit b c (gets_of a ts items) m → answer_in a m ≡ Some x → IsAnsweredBetween b c ts x
read_between limit b c a ts items m x on parts r e =
    let p = r.answered.partition in
    let q = r.request in
    let told = answers_it a m x e in
    let read = version_is_read p q x.item x.stamp x.value (replied_so p q m (reply.Version x.item x.stamp x.value) r.answered.answered told.0) in
    let at = told_between limit b c a.parts (gets_of a ts items) m x.item read.stamps on parts r read.asked told.1 in
    record {
      marks = p.marks;
      from = at.from;
      to = at.to;
      read = subst (λ (us : List ℕ). IsReadAt p.marks x.item us x.stamp) (with_stamps a ts items q x.item read.stamps r.own read.asked) read.stamp_is;
      written = read.value_is.written;
      first = λ zero. read.value_is.first zero ∙ ap (λ (o : Option Value). unwrap_or o Missing) at.first;
    }

-- And the item's partition has committed its stamp by then.
settled_then : (limit : ℕ) (b c : Cut) (a : Asker) (ts items : List ℕ) (m : Message) (x : ReadVersion) → Extends b c → a.parts ≡ b.parts
    → IsReplied limit b c (gets_of a ts items) m → answer_in a m ≡ Some x → x.stamp ≢ 0 → IsCommittedFor c x.stamp x.item
settled_then limit b c a ts items m x on parts r e nz =
    let p = r.answered.partition in
    let q = r.request in
    let told = answers_it a m x e in
    let read = version_is_read p q x.item x.stamp x.value (replied_so p q m (reply.Version x.item x.stamp x.value) r.answered.answered told.0) in
    let at = told_between limit b c a.parts (gets_of a ts items) m x.item read.stamps on parts r read.asked told.1 in
    let none = subst (λ (y : Body). AreSettledIn p.marks (stamps_in y)) read.asked r.answered.settled in
    any_more (commits x.stamp) p.marks (prefix_for c x.item) at.to (read_committed p.marks x.item read.stamps x.stamp none read.stamp_is nz)

-- And by the earlier cut no later one was committed.
latest_then : (limit : ℕ) (b c : Cut) (a : Asker) (ts items : List ℕ) (m : Message) (x : ReadVersion) → Extends b c → a.parts ≡ b.parts
    → IsReplied limit b c (gets_of a ts items) m → answer_in a m ≡ Some x → latest (prefix_for b x.item) x.item ≤ x.stamp
latest_then limit b c a ts items m x on parts r e =
    let told = answers_it a m x e in
    let at = r.current.at in
    let part = place_of b.parts x.item in
    let own : m.from ≡ Part part = told.1 ∙ ap (λ (n : ℕ). Part (place_of n x.item)) parts in
    let low : latest (prefix_at at part) x.item ≤ x.stamp = r.current.is part x.item x.stamp x.value own told.0 in
    let from : IsPrefix (prefix_at b part) (prefix_at at part) =
    prefix_shorter (prefix_at b part) (prefix_at at part) (prefix_at c part) (on.prefixes part) (r.current.seen.prefixes part) (r.current.late part own) in
    let rises : latest (prefix_at b part) x.item ≤ latest (prefix_at at part) x.item =
    subst (λ (ms : List Mark). latest (prefix_at b part) x.item ≤ latest ms x.item) from.1
    (latest_rises (prefix_at b part) from.0 x.item
    (subst (λ (ms : List Mark). is_legal ms ≡ true) (sym from.1) (r.current.sound.legal part))) in
    omega arith

-- An item that is gone by the reply was gone at a history between the two cuts.
gone_between : (limit : ℕ) (b c : Cut) (a : Asker) (ts items : List ℕ) (m : Message) (i : ℕ) → Extends b c → a.parts ≡ b.parts
    → IsReplied limit b c (gets_of a ts items) m → m.body ≡ body.Reply (reply.Gone i) → m.from ≡ Part (place_of a.parts i) → Contains items i
    → IsGoneBetween b c ts items
gone_between limit b c a ts items m i on parts r told sender listed =
    let p = r.answered.partition in
    let q = r.request in
    let gone = gone_is_trimmed p q i (replied_so p q m (reply.Gone i) r.answered.answered told) in
    let at = told_between limit b c a.parts (gets_of a ts items) m i gone.stamps on parts r gone.asked sender in
    record {
      item = i;
      asked = listed;
      marks = p.marks;
      from = at.from;
      to = at.to;
      trimmed = gone.trimmed;
      unkept = subst (All (λ (t : ℕ). kept_version p.marks i t ≡ None)) (with_stamps a ts items q i gone.stamps r.own gone.asked) gone.unkept;
    }

-- it stays so
between_on : (b c d : Cut) (ts : List ℕ) (x : ReadVersion) → Extends c d → IsAnsweredBetween b c ts x → IsAnsweredBetween b d ts x
between_on b c d ts x on h = record {
  marks = h.marks;
  from = h.from;
  to = prefix_trans h.marks (prefix_for c x.item) (prefix_for d x.item) h.to (prefix_for_more c d on x.item);
  read = h.read;
  written = h.written;
  first = h.first;
}

all_on : (b c d : Cut) (ts : List ℕ) (xs : List ReadVersion) → Extends c d → All (IsAnsweredBetween b c ts) xs → All (IsAnsweredBetween b d ts) xs
all_on b c d ts xs on h = λ k e l. between_on b c d ts (get_or xs k e) on (h k e l)

-- ---- the answers of a round

-- what holds of those that are there, with one put at its item
all_put : (P : ReadVersion → Type 0) (x : ReadVersion) (items : List ℕ) (answers : List (Option ReadVersion)) → P x
    → All P (answers_there answers) → All P (answers_there (put_answer x items answers))
all_put P x [] answers px h = h
all_put P x (i ∷ items) [] px h = h
all_put P x (i ∷ items) (old ∷ answers) px h = go (x.item == i) old h (all_put P x items answers px)
  where
    go : (b : Bool) (o : Option ReadVersion) → All P (answers_there (o ∷ answers))
        → (All P (answers_there answers) → All P (answers_there (put_answer x items answers)))
        → All P (answers_there ((if b then Some x else o) ∷ put_answer x items answers))
    go true None g later = All-cons P x _ px (later g)
    go true (Some y) g later = All-cons P x _ px (later (All-tail P y _ g))
    go false None g later = later g
    go false (Some y) g later = All-cons P y _ (All-head P y _ g) (later (All-tail P y _ g))

-- what counts is an answer
counts : (round : RoundState) (m : Message) (x : ReadVersion) → new_answer round m ≡ Some x → answer_in round.asker m ≡ Some x
counts round m x e = go (answer_in round.asker m) refl e
  where
    here : (b : Bool) (v : ReadVersion) → (if b then Some v else None) ≡ Some x → Some v ≡ Some x
    here true v f = f
    here false v f = absurd (cc)

    go : (o : Option ReadVersion) → answer_in round.asker m ≡ o → option_and_then (if_lacking round) o ≡ Some x → answer_in round.asker m ≡ Some x
    go None f g = absurd (cc)
    go (Some v) f g = f ∙ here (lacks round v.item) v g

-- the outcome of a round with one answer more
outcome_leads : (b c : Cut) (begun round : RoundState) → round.asker ≡ begun.asker → round.items ≡ begun.items → round.stamps ≡ begun.stamps
    → are_in_order round.items round.answers ≡ true
    → All (IsAnsweredBetween b c (asked_stamps begun)) (answers_there round.answers) → AreSettled c (answers_there round.answers)
    → AreUpToDate b (answers_there round.answers) → StaysOpen (outcome round) → Leads b c begun (outcome round)
outcome_leads b c begun round asker items stamps order all kept last = go (are_there round.answers) refl
  where
    found : are_there round.answers ≡ true → AreOf b c begun (answers_there round.answers)
    found e = record { items = sym (items_read-in_order round.items round.answers order e) ∙ items; between = all; settled = kept; latest = last }

    by : (o : Option (List ℕ)) → begun.stamps ≡ o → are_there round.answers ≡ true
        → StaysOpen (end_by o round (answers_there round.answers)) → Leads b c begun (end_by o round (answers_there round.answers))
    by None f e stays = record {
      first = f;
      answers = answers_there round.answers;
      are = found e;
      still_open = stays;
      next_is = subst (λ (y : Asker × List ℕ). second_round round (stamps_of (answers_there round.answers)) ≡ record {
        asker = next_asker y.0;
        items = y.1;
        stamps = Some (stamps_of (answers_there round.answers));
        answers = map (λ (i : ℕ). None) y.1;
      }) (λ i. (asker i, items i)) refl;
      gets_are = subst (λ (y : Asker × List ℕ). gets_of (next_asker round.asker) (stamps_of (answers_there round.answers)) round.items ≡ gets_of (next_asker y.0) (stamps_of (answers_there round.answers)) y.1) (λ i. (asker i, items i)) refl;
    }
    by (Some ts) f e stays = (ap is_some f, found e)

    go : (there : Bool) → are_there round.answers ≡ there
        → StaysOpen (option_map_or (end_of round) (if there then Some (answers_there round.answers) else None) (Same round))
        → Leads b c begun (option_map_or (end_of round) (if there then Some (answers_there round.answers) else None) (Same round))
    go true e stays = subst (λ (o : Option (List ℕ)). StaysOpen (end_by o round (answers_there round.answers)) → Leads b c begun (end_by o round (answers_there round.answers)))
        (sym stamps) (by begun.stamps refl e) stays
    go false e stays = record { asker = asker; items = items; stamps = stamps; still_open = stays; between = all; settled = kept; latest = last }

-- The outcome of a reply to one of the round's Gets.
pub leads : (limit : ℕ) (b c d : Cut) (begun round : RoundState) (m : Message) → Extends b c → Extends c d → Extends b d → begun.asker.parts ≡ b.parts
    → IsReplied limit b d (gets_of begun.asker (asked_stamps begun) begun.items) m → IsUnder b c begun round → Leads b d begun (stepped round m)
leads limit b c d begun round m first on both parts r u = by (is_gone round m) refl (stepped-open round m u.still_open)
  where
    old : All (IsAnsweredBetween b d (asked_stamps begun)) (answers_there round.answers)
    old = all_on b c d (asked_stamps begun) (answers_there round.answers) on u.between

    old_settled : AreSettled d (answers_there round.answers)
    old_settled = settled_more c d on (answers_there round.answers) u.settled

    new_settled : (x : ReadVersion) → new_answer round m ≡ Some x → x.stamp ≢ 0 → IsCommittedFor d x.stamp x.item
    new_settled x e = settled_then limit b d begun.asker (asked_stamps begun) begun.items m x both parts r
        (subst (λ (a : Asker). answer_in a m ≡ Some x) u.asker (counts round m x e))

    new_latest : (x : ReadVersion) → new_answer round m ≡ Some x → latest (prefix_for b x.item) x.item ≤ x.stamp
    new_latest x e = latest_then limit b d begun.asker (asked_stamps begun) begun.items m x both parts r
        (subst (λ (a : Asker). answer_in a m ≡ Some x) u.asker (counts round m x e))

    new : (x : ReadVersion) → new_answer round m ≡ Some x → IsAnsweredBetween b d (asked_stamps begun) x
    new x e = read_between limit b d begun.asker (asked_stamps begun) begun.items m x both parts r
        (subst (λ (a : Asker). answer_in a m ≡ Some x) u.asker (counts round m x e))

    go : (o : Option ReadVersion) → new_answer round m ≡ o → StaysOpen (option_map_or (λ (x : ReadVersion). outcome (with_answer round x)) o (Same round))
        → Leads b d begun (option_map_or (λ (x : ReadVersion). outcome (with_answer round x)) o (Same round))
    go None e stays = record { asker = u.asker; items = u.items; stamps = u.stamps; still_open = u.still_open; between = old; settled = old_settled; latest = u.latest }
    go (Some x) e stays = outcome_leads b d begun (with_answer round x) u.asker u.items u.stamps (with_answer-in_order round x u.still_open)
        (all_put (IsAnsweredBetween b d (asked_stamps begun)) x round.items round.answers (new x e) old)
        (all_put (λ (row : ReadVersion). row.stamp ≢ 0 → IsCommittedFor d row.stamp row.item) x round.items round.answers (new_settled x e) old_settled)
        (all_put (λ (row : ReadVersion). latest (prefix_for b row.item) row.item ≤ row.stamp) x round.items round.answers (new_latest x e) u.latest) stays

    second : (gone : Bool) → is_gone round m ≡ gone → gone ≡ true → is_some round.stamps ≡ true
    second gone e f = (and_parts _ _ (e ∙ f)).0

    gone : IsGone round m → IsGoneBetween b d (asked_stamps begun) begun.items
    gone g = gone_between limit b d begun.asker (asked_stamps begun) begun.items m g.item both parts r g.gone
        (g.sender ∙ ap (λ (a : Asker). Part (place_of a.parts g.item)) u.asker)
        (subst (λ (is : List ℕ). Contains is g.item) u.items g.asked)

    by : (gone : Bool) → is_gone round m ≡ gone → StaysOpen (if gone then Gone round.items else taken round m)
        → Leads b d begun (if gone then Gone round.items else taken round m)
    by true e stays = (ap is_some (sym u.stamps) ∙ second true e refl, record { items_are = u.items; gone = gone (IsGone-is_gone round m e) })
    by false e stays = go (new_answer round m) refl stays

-- ---- how a round begins, and continues

-- the cut with a Get has to show that each of its stamps is committed somewhere
pub gets_shown : (c : Cut) (a : Asker) (ts items : List ℕ) → AreCommitted c ts → All (Shows c) (gets_of a ts items)
gets_shown c a ts items h = All-map (Shows c) (get_of a ts) items (λ k d l. h)

-- a first round asks with none
pub none_committed : (c : Cut) → AreCommitted c []
none_committed c = All-nil _

pub none_yet : (items : List ℕ) → answers_there (no_answers items) ≡ []
none_yet [] = refl
none_yet (i ∷ items) = none_yet items

pub under_first : (c : Cut) (begun : RoundState) → IsOpen begun → answers_there begun.answers ≡ [] → IsUnder c c begun begun
under_first c begun o none = record {
  asker = refl;
  items = refl;
  stamps = refl;
  still_open = o;
  between = subst (All (IsAnsweredBetween c c (asked_stamps begun))) (sym none) (λ k d l. absurd (omega arith));
  settled = subst (AreSettled c) (sym none) (λ k d l. absurd (omega arith));
  latest = subst (AreUpToDate c) (sym none) (λ k d l. absurd (omega arith));
}
