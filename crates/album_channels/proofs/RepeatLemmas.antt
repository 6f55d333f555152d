-- What a partition would reply to a Get with stamps, by what it has replied to one without, where none of the stamps was
-- pending: `asked_again`. SightingLemmas cites it.
use Rattle.std.proofs.Common.{◌≡◌, ◌≢◌, ℕ, ◌≤◌, Bool, true, false, List, [], ◌∷◌, ◌++◌, append-nil, All, Contains, Option, Some, None, get_or, option_map, option_to_list, refl, sym, ap, ◌∙◌, subst, arith, if◌then◌else◌}
use Rattle.std.specs.Prelude.{nat_le}
use Rattle.std.proofs.lemmas.Bool.{eq-eqb, le-leb}
use Rattle.album_items.specs.Places.{is_placed}
use Rattle.album_items.specs.declared.values.Value.{Value}
use Rattle.album_calls.specs.Nodes.{is_part}
use Rattle.album_calls.specs.declared.messages.Body.{Body}
use Rattle.album_calls.specs.declared.messages.Body.TheVariants as body
use Rattle.album_calls.specs.declared.messages.Message.{Message}
use Rattle.album_calls.specs.declared.nodes.Node.{Node}
use Rattle.album_calls.specs.declared.nodes.Node.TheVariants.{Part}
use Rattle.album_calls.specs.declared.replies.Reply.TheVariants as reply
use Rattle.album_calls.specs.declared.requests.Request.TheVariants.{Prepare, PrepareOn, Commit, Get, Check}
use Rattle.album_partition.specs.Answers.{action_of, reply_to, on_body, get_by, says, nothing}
use Rattle.album_partition.specs.Laws.{IsLatest, IsReadAt}
use Rattle.album_partition.specs.Marks.{floor, has_version, state_of}
use Rattle.album_partition.specs.Partition.{PartitionState, read_at, value_at}
use Rattle.album_partition.specs.declared.marks.Mark.{Mark}
use Rattle.album_partition.proofs.LawLemmas.{to_the_sender, version_is_read}
use Rattle.album_partition.proofs.TrimLemmas.{read_high}
use Rattle.album_passes.specs.Cuts.{Cut, prefix_at}
use Rattle.album_terminate.specs.declared.deciding.StampState.TheVariants as state
use Rattle.album_versions.specs.Best.{best_of}
use Rattle.album_versions.proofs.Greatest.{best_of-unique}
use Rattle.album_keepers.specs.Envelopes.{IsAnswered}
use Rattle.album_channels.specs.Reads.{asks_latest}
use Rattle.album_keepers.specs.Settling.{stamps_in, AreSettledIn}
use Rattle.album_channels.specs.Sightings.{IsVersion}
use Rattle.album_keepers.proofs.ReplyLemmas.{get_marks_nothing, replied_so}
use Rattle.album_keepers.proofs.SettleLemmas.{version_state}

-- ---- what is read again

-- The latest version of an item is read with any stamps among which is its own, if none of them is pending.
read_again : (ms : List Mark) (i : ℕ) (ts : List ℕ) (t : ℕ) → IsLatest ms i t → floor ms i ≤ t
    → All (λ u. state_of ms u ≢ state.Pending) ts → Contains ts t → read_at ms i ts ≡ Some t
read_again ms i [] t at high none (k, l, e) = absurd (omega (arith, l))
read_again ms i (u ∷ ts) t at high none among =
    ap (λ (n : ℕ). if nat_le (floor ms i) n then Some n else None) best
    ∙ ap (λ (b : Bool). if b then Some t else None) (le-leb (floor ms i) t high)
  where
    best : best_of (has_version ms i) (u ∷ ts) ≡ t
    best = best_of-unique (has_version ms i) (u ∷ ts) t (λ nz. among) at.there
        (λ k d l there. at.greatest (get_or (u ∷ ts) k d) (version_state ms i (get_or (u ∷ ts) k d) there (none k d l)) there)

-- ---- a Get

-- how it was answered, by the item's version of this stamp
record IsFirstRead (p : PartitionState) (i t : ℕ) (v : Value) : Type 0 where
  placed : is_placed p.number p.parts i ≡ true
  read : read_at p.marks i [] ≡ Some t
  value : v ≡ value_at p i t

same_versions : (i j t u : ℕ) (v w : Value) → Some (reply.Version i t v) ≡ Some (reply.Version j u w) → (i ≡ j) × (t ≡ u) × (v ≡ w)
same_versions i j t u v w e = (cc, cc, cc)

first_read : (p : PartitionState) (m : Message) (i j t : ℕ) (v : Value) → m.body ≡ body.Request (Get i [])
    → (action_of p m).reply ≡ Some (reply.Version j t v) → IsFirstRead p j t v
first_read p m i j t v asked = here (is_part m.to p.number)
  where
    read : (o : Option ℕ) → read_at p.marks i [] ≡ o → is_placed p.number p.parts i ≡ true
        → (get_by p i o).reply ≡ Some (reply.Version j t v) → IsFirstRead p j t v
    read None f b g = absurd (cc)
    read (Some u) f b g =
        let same = same_versions i j u t (value_at p i u) v g in
        subst (λ (z : ℕ × ℕ). IsFirstRead p z.0 z.1 v) (λ k. (same.0 k, same.1 k)) (record { placed = b; read = f; value = sym same.2 })

    placed : (b : Bool) → is_placed p.number p.parts i ≡ b
        → (if b then get_by p i (read_at p.marks i []) else says reply.Clash).reply ≡ Some (reply.Version j t v) → IsFirstRead p j t v
    placed true f g = read (read_at p.marks i []) refl f g
    placed false f g = absurd (cc)

    here : (b : Bool) → (if b then on_body p m.from m.body else nothing).reply ≡ Some (reply.Version j t v) → IsFirstRead p j t v
    here true g = placed (is_placed p.number p.parts i) refl
        (subst (λ (y : Body). (on_body p m.from y).reply ≡ Some (reply.Version j t v)) asked g)
    here false g = absurd (cc)

-- what is replied to a Get of an item that is placed here
get_replies : (p : PartitionState) (m : Message) (i : ℕ) (ts : List ℕ) → m.body ≡ body.Request (Get i ts)
    → is_part m.to p.number ≡ true → is_placed p.number p.parts i ≡ true → (action_of p m).reply ≡ (get_by p i (read_at p.marks i ts)).reply
get_replies p m i ts asked here placed =
    ap (λ (b : Bool). (if b then on_body p m.from m.body else nothing).reply) here
    ∙ ap (λ (x : Body). (on_body p m.from x).reply) asked
    ∙ ap (λ (b : Bool). (if b then get_by p i (read_at p.marks i ts) else says reply.Clash).reply) placed

-- a Get without stamps is of an item
asks_for : (b : Body) → asks_latest b ≡ true → (i : ℕ) × (b ≡ body.Request (Get i []))
asks_for (body.Request (Get i [])) e = (i, refl)
asks_for (body.Request (Get i (t ∷ ts))) e = absurd (cc)
asks_for (body.Request (Prepare t ws is)) e = absurd (cc)
asks_for (body.Request (PrepareOn t ws is bs)) e = absurd (cc)
asks_for (body.Request (Commit t)) e = absurd (cc)
asks_for (body.Request (Check t)) e = absurd (cc)
asks_for (body.Reply r) e = absurd (cc)

same_part : (i j : ℕ) → Part i ≡ Part j → i ≡ j
same_part i j e = cc

without_stamps : (i j : ℕ) (ts : List ℕ) → body.Request (Get i []) ≡ body.Request (Get j ts) → ts ≡ []
without_stamps i j ts e = cc

-- ---- the same reply again

-- The reply to a Get without stamps is also the reply to a Get of the same item with stamps. One of these stamps has to
-- be that of the version, and none of them may have been pending.
pub asked_again : (limit : ℕ) (c : Cut) (q r m : Message) (part item stamp : ℕ) (stamps : List ℕ) → IsAnswered limit c q r
    → asks_latest q.body ≡ true → IsVersion r part item stamp → All (λ t. state_of (prefix_at c part) t ≢ state.Pending) stamps
    → m.body ≡ body.Request (Get item stamps) → m.to ≡ Part part → Contains stamps stamp
    → IsAnswered limit c m (record { from = m.to; to = m.from; tag = m.tag; body = r.body })
asked_again limit c q r m part item stamp stamps a latest v unpending asked to among = record {
  partition = p;
  proper = a.proper;
  answered = ap (option_map (reply_to p m)) replies ∙ (λ k. Some (record { from = from k; to = m.from; tag = m.tag; body = is k }));
  settled = subst (λ (y : Body). AreSettledIn p.marks (stamps_in y)) (sym asked) (λ k d l nz. none k d l);
  shown = record {
    parts = a.shown.parts;
    room = a.shown.room;
    items = a.shown.items;
    marks = ap (λ (o : Option Mark). p.marks ++ option_to_list o) (get_marks_nothing p m item stamps asked) ∙ (append-nil p.marks ∙ marks);
  };
}
  where
    p : PartitionState
    p = a.partition

    got : (i : ℕ) × (q.body ≡ body.Request (Get i []))
    got = asks_for q.body latest

    said : (action_of p q).reply ≡ Some (reply.Version item stamp v.value)
    said = replied_so p q r (reply.Version item stamp v.value) a.answered v.is

    first : IsFirstRead p item stamp v.value
    first = first_read p q got.0 item stamp v.value got.1 said

    sender : r.from ≡ Part p.number
    sender = (to_the_sender p q r a.answered).sender

    number : p.number ≡ part
    number = same_part p.number part (sym sender ∙ v.from)

    marks : p.marks ≡ prefix_at c p.number
    marks = sym (append-nil p.marks)
        ∙ (ap (λ (o : Option Mark). p.marks ++ option_to_list o) (sym (get_marks_nothing p q got.0 [] got.1)) ∙ a.shown.marks)

    none : All (λ t. state_of p.marks t ≢ state.Pending) stamps
    none = subst (λ (ms : List Mark). All (λ t. state_of ms t ≢ state.Pending) stamps) (ap (prefix_at c) (sym number) ∙ sym marks) unpending

    -- the version was the item's latest one
    at : IsLatest p.marks item stamp
    at =
        let read = version_is_read p q item stamp v.value said in
        subst (λ (ts : List ℕ). IsReadAt p.marks item ts stamp) (without_stamps got.0 item read.stamps (sym got.1 ∙ read.asked)) read.stamp_is

    replies : (action_of p m).reply ≡ Some (reply.Version item stamp v.value)
    replies = get_replies p m item stamps asked
        (subst (λ (n : Node). is_part n p.number ≡ true) (sym to) (eq-eqb part p.number (sym number))) first.placed
        ∙ (ap (λ (o : Option ℕ). (get_by p item o).reply)
        (read_again p.marks item stamps stamp at (read_high p.marks item [] stamp first.read).0 none among)
        ∙ ap (λ (w : Value). Some (reply.Version item stamp w)) (sym first.value))

    from : Part p.number ≡ m.to
    from = ap Part number ∙ sym to

    is : body.Reply (reply.Version item stamp v.value) ≡ r.body
    is = sym v.is
