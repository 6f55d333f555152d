-- What a message replies (`reply-is`, `reply-from`), and which messages leave a round as it is, for
-- the clauses `stray` (`prepares-stray`, `commits-stray`) and the law `a_message_counts_or_is_stray`.
use Rattle.std.proofs.Common.{◌≡◌, ◌≢◌, ℕ, zero, suc, ◌<◌, Bool, true, false, not, ◌&&◌, ◌==◌, cond, List, [], ◌∷◌, filter, get_or, length, Contains, refl, sym, ap, ◌∙◌, subst, arith, true≢false, if◌then◌else◌}
use Rattle.std.specs.List.{list_any}
use Rattle.std.proofs.lemmas.Bool.{false≢true, and_parts, and_from, eqb-true, eqb-false, eq-eqb}
use Rattle.std.proofs.lemmas.List.Elements.{at_from_Contains}
use Rattle.std.proofs.lemmas.List.Folds.{Any-from_list_any, list_any_at}
use Rattle.album_calls.specs.Nodes.{is_part, is_client}
use Rattle.album_calls.specs.declared.messages.Body.{Body}
use Rattle.album_calls.specs.declared.messages.Body.TheVariants as body
use Rattle.album_calls.specs.declared.messages.Message.{Message}
use Rattle.album_calls.specs.declared.nodes.Node.{Node}
use Rattle.album_calls.specs.declared.nodes.Node.TheVariants.{Part}
use Rattle.album_calls.specs.declared.replies.Reply.{Reply}
use Rattle.album_calls.specs.declared.replies.Reply.TheVariants as reply
use Rattle.album_reader.proofs.Others.{is_client-own, is_part-own}
use Rattle.album_writer.specs.Counting.{IsReplyFrom, IsReplyTo, prepare_replies, commit_replies, IsStray, IsStrayToPrepares, IsStrayToCommits}
use Rattle.album_writer.specs.Counting.IsStray.{UnderOtherTag, ToOtherNode, FromOtherNode, OfOtherKind, Repeated}
use Rattle.album_writer.specs.Rounds.{WriteStep, answered_by, prepares_left, prepares_by, prepare_stepped, commits_left, commits_by, commit_stepped}
use Rattle.album_writer.specs.Rounds.WriteStep.{Waits, Commits, Ends}
use Rattle.album_writer.specs.WriteReplies.{write_reply_of, body_reply, is_from_participant, reply_in}
use Rattle.album_writer.specs.Writing.{WritingState, places_in}
use Rattle.album_writer.specs.declared.write_replies.WriteReply.{WriteReply}
use Rattle.album_writer.specs.declared.write_replies.WriteReply.TheVariants as write_reply

-- ---- what a message replies

is_from_participant-from :
    (x : WritingState) (m : Message) (r : Reply) (place : ℕ) → IsReplyFrom x m r place → is_from_participant x m ≡ true
is_from_participant-from x m r place t =
    and_from (m.tag == x.tag && is_client m.to x.client) (list_any (is_part m.from) (places_in x))
    (and_from (m.tag == x.tag) (is_client m.to x.client) (eq-eqb m.tag x.tag t.tag)
    (ap (λ (n : Node). is_client n x.client) t.receiver ∙ eq-eqb x.client x.client refl))
    (let (at, inside, here) = at_from_Contains (places_in x) place t.participant in
    list_any_at (is_part m.from) (places_in x) at 0 inside
    (ap (λ (n : Node). is_part n (get_or (places_in x) at 0)) t.sender
    ∙ eq-eqb place (get_or (places_in x) at 0) (sym (here 0))))

-- a message with a reply of a participant is that reply to the write
pub reply-from :
    (x : WritingState) (m : Message) (r : Reply) (place : ℕ) → IsReplyFrom x m r place
    → reply_in x m ≡ write_reply_of x.stamp r
reply-from x m r place t =
    ap (λ (b : Bool). if b then body_reply x.stamp m.body else write_reply.Nothing) (is_from_participant-from x m r place t)
    ∙ ap (body_reply x.stamp) t.body

-- the reply of this kind for the stamp
abbrev pub the_reply : ℕ → WriteReply → Reply
the_reply stamp write_reply.Prepared = reply.Prepared stamp
the_reply stamp write_reply.Committed = reply.Committed stamp
the_reply stamp write_reply.Discarded = reply.Discarded stamp
the_reply stamp write_reply.Full = reply.Full stamp
the_reply stamp write_reply.Nothing = reply.Clash

by-kind :
    (make : ℕ → Reply) (kind : WriteReply) (stamp of : ℕ) (what : WriteReply) → make stamp ≡ the_reply stamp kind
    → (if of == stamp then kind else write_reply.Nothing) ≡ what → what ≢ write_reply.Nothing → make of ≡ the_reply stamp what
by-kind make kind stamp of what is e some = go (of == stamp) refl e
  where
    go :
        (b : Bool) → (of == stamp) ≡ b → (if b then kind else write_reply.Nothing) ≡ what → make of ≡ the_reply stamp what
    go true f g = ap make (eqb-true of stamp f) ∙ is ∙ ap (the_reply stamp) g
    go false f g = absurd (some (sym g))

reply-has :
    (stamp : ℕ) (r : Reply) (what : WriteReply) → write_reply_of stamp r ≡ what → what ≢ write_reply.Nothing → r ≡ the_reply stamp what
reply-has stamp (reply.Prepared of) what e some = by-kind reply.Prepared write_reply.Prepared stamp of what refl e some
reply-has stamp (reply.Committed of) what e some = by-kind reply.Committed write_reply.Committed stamp of what refl e some
reply-has stamp (reply.Discarded of) what e some = by-kind reply.Discarded write_reply.Discarded stamp of what refl e some
reply-has stamp (reply.Version item at value) what e some = absurd (some (sym e))
reply-has stamp (reply.Status of vote) what e some = absurd (some (sym e))
reply-has stamp (reply.NotPrepared of) what e some = absurd (some (sym e))
reply-has stamp reply.Clash what e some = absurd (some (sym e))
reply-has stamp (reply.Full of) what e some = by-kind reply.Full write_reply.Full stamp of what refl e some
reply-has stamp (reply.Gone item) what e some = absurd (some (sym e))

body-has :
    (stamp : ℕ) (b : Body) (what : WriteReply) → body_reply stamp b ≡ what → what ≢ write_reply.Nothing
    → b ≡ body.Reply (the_reply stamp what)
body-has stamp (body.Request request) what e some = absurd (some (sym e))
body-has stamp (body.Reply r) what e some = ap body.Reply (reply-has stamp r what e some)

own-kind : (kind : WriteReply) (stamp : ℕ) → (if stamp == stamp then kind else write_reply.Nothing) ≡ kind
own-kind kind stamp = ap (λ (b : Bool). if b then kind else write_reply.Nothing) (eq-eqb stamp stamp refl)

the_reply-kind : (stamp : ℕ) (kind : WriteReply) → write_reply_of stamp (the_reply stamp kind) ≡ kind
the_reply-kind stamp write_reply.Prepared = own-kind write_reply.Prepared stamp
the_reply-kind stamp write_reply.Committed = own-kind write_reply.Committed stamp
the_reply-kind stamp write_reply.Discarded = own-kind write_reply.Discarded stamp
the_reply-kind stamp write_reply.Full = own-kind write_reply.Full stamp
the_reply-kind stamp write_reply.Nothing = refl

-- the reply is of its kind
pub reply-kind :
    (x : WritingState) (m : Message) (kind : WriteReply) → IsReplyTo x m (the_reply x.stamp kind) → reply_in x m ≡ kind
reply-kind x m kind (place, t) = reply-from x m (the_reply x.stamp kind) place t ∙ the_reply-kind x.stamp kind

-- a reply to the write is a reply of a participant
pub reply-is :
    (x : WritingState) (m : Message) (what : WriteReply) → reply_in x m ≡ what → what ≢ write_reply.Nothing
    → IsReplyTo x m (the_reply x.stamp what)
reply-is x m what e some = go (is_from_participant x m) refl e
  where
    go :
        (b : Bool) → is_from_participant x m ≡ b → (if b then body_reply x.stamp m.body else write_reply.Nothing) ≡ what
        → IsReplyTo x m (the_reply x.stamp what)
    go false f g = absurd (some (sym g))
    go true f g =
        let both = and_parts (m.tag == x.tag && is_client m.to x.client) (list_any (is_part m.from) (places_in x)) f in
        let ours = and_parts (m.tag == x.tag) (is_client m.to x.client) both.0 in
        let (at, place, inside, here, same) = Any-from_list_any (is_part m.from) (places_in x) both.1 in (
          place,
          record {
            body = body-has x.stamp m.body what g some;
            tag = eqb-true m.tag x.tag ours.0;
            receiver = is_client-own m.to x.client ours.1;
            sender = is_part-own m.from place same;
            participant = (at, inside, here);
          },
        )

-- ---- a stray is no reply that counts, but for a repeated one

pub part-number : (a b : ℕ) → Part a ≡ Part b → a ≡ b
part-number a b e = cc

same-reply : (r s : Reply) → body.Reply r ≡ body.Reply s → r ≡ s
same-reply r s e = cc

stray-reply :
    (replies : List Reply) (once : Reply) (x : WritingState) (m : Message) (r : Reply) (place : ℕ)
    → IsStray replies once x m → IsReplyFrom x m r place → Contains replies r
    → (r ≡ once) × (Contains x.outstanding place → ⊥)
stray-reply replies once x m r place (UnderOtherTag other) t among = absurd (other t.tag)
stray-reply replies once x m r place (ToOtherNode other) t among = absurd (other t.receiver)
stray-reply replies once x m r place (FromOtherNode other) t among = absurd (other place t.participant t.sender)
stray-reply replies once x m r place (OfOtherKind other) t among = absurd (other r among t.body)
stray-reply replies once x m r place (Repeated p from has heard) t among = (
  same-reply r once (sym t.body ∙ has),
  λ there. heard (subst (λ (n : ℕ). Contains x.outstanding n) (part-number place p (sym t.sender ∙ from)) there),
)

-- a participant that isn't outstanding can't be left out
unmoved :
    (node : Node) (place : ℕ) (ns : List ℕ) → node ≡ Part place → (Contains ns place → ⊥)
    → filter (λ n. not (is_part node n)) ns ≡ ns
unmoved node place [] from absent = refl
unmoved node place (n ∷ ns) from absent =
    go (is_part node n) refl
    (unmoved node place ns from
    (λ there. let (at, inside, here) = there in absent (suc at, omega (arith, inside), here)))
  where
    go :
        (b : Bool) → is_part node n ≡ b → filter (λ n. not (is_part node n)) ns ≡ ns
        → cond (not b) (n ∷ filter (λ n. not (is_part node n)) ns) (filter (λ n. not (is_part node n)) ns) ≡ n ∷ ns
    go true e rec =
        let same : place ≡ n = eqb-true place n (sym (ap (λ (k : Node). is_part k n) from) ∙ e) in
        absurd (absent (0, omega arith, sym same))
    go false e rec = ap (λ (z : List ℕ). n ∷ z) rec

module _ (x : WritingState) (m : Message) where
  abbrev with : List ℕ → WritingState
  with z = record x { outstanding = z }

  prepares-wait : (ns : List ℕ) → ns ≢ [] → prepares_left x ns ≡ Waits x
  prepares-wait [] some = absurd (some refl)
  prepares-wait (n ∷ ns) some = refl

  commits-wait : (ns : List ℕ) → ns ≢ [] → commits_left x ns ≡ Waits x
  commits-wait [] some = absurd (some refl)
  commits-wait (n ∷ ns) some = refl

  pub prepares-stray : x.outstanding ≢ [] → IsStrayToPrepares x m → prepare_stepped x m ≡ Waits x
  prepares-stray some stray = go (reply_in x m) refl
    where
      go : (what : WriteReply) → reply_in x m ≡ what → prepare_stepped x m ≡ Waits x
      go write_reply.Prepared e =
          let (place, t) = reply-is x m write_reply.Prepared e (λ q. absurd (cc)) in
          let heard =
          stray-reply (prepare_replies x.stamp) (reply.Prepared x.stamp) x m (reply.Prepared x.stamp) place stray t
          (0, omega arith, refl)
          in
          ap (prepares_by x m.from) e
          ∙ ap (λ (z : List ℕ). prepares_left (with z) z) (unmoved m.from place x.outstanding t.sender heard.1)
          ∙ prepares-wait x.outstanding some
      go write_reply.Committed e = ap (prepares_by x m.from) e
      go write_reply.Discarded e =
          let (place, t) = reply-is x m write_reply.Discarded e (λ q. absurd (cc)) in
          let heard =
          stray-reply (prepare_replies x.stamp) (reply.Prepared x.stamp) x m (reply.Discarded x.stamp) place stray t
          (1, omega arith, refl)
          in
          let wrong = heard.0 in
          absurd (cc)
      go write_reply.Full e =
          let (place, t) = reply-is x m write_reply.Full e (λ q. absurd (cc)) in
          let heard =
          stray-reply (prepare_replies x.stamp) (reply.Prepared x.stamp) x m (reply.Full x.stamp) place stray t
          (2, omega arith, refl)
          in
          let wrong = heard.0 in
          absurd (cc)
      go write_reply.Nothing e = ap (prepares_by x m.from) e

  pub commits-stray : x.outstanding ≢ [] → IsStrayToCommits x m → commit_stepped x m ≡ Waits x
  commits-stray some stray = go (reply_in x m) refl
    where
      go : (what : WriteReply) → reply_in x m ≡ what → commit_stepped x m ≡ Waits x
      go write_reply.Prepared e = ap (commits_by x m.from) e
      go write_reply.Committed e =
          let (place, t) = reply-is x m write_reply.Committed e (λ q. absurd (cc)) in
          let heard =
          stray-reply (commit_replies x.stamp) (reply.Committed x.stamp) x m (reply.Committed x.stamp) place stray t
          (0, omega arith, refl)
          in
          ap (commits_by x m.from) e
          ∙ ap (λ (z : List ℕ). commits_left (with z) z) (unmoved m.from place x.outstanding t.sender heard.1)
          ∙ commits-wait x.outstanding some
      go write_reply.Discarded e = ap (commits_by x m.from) e
      go write_reply.Full e = ap (commits_by x m.from) e
      go write_reply.Nothing e = ap (commits_by x m.from) e

-- ---- and whatever leaves a round as it is, is one

-- it is no reply that counts
module _
    (replies : List Reply) (once : Reply) (counts : WriteReply → Bool) (x : WritingState) (m : Message)
    (known : (r : Reply) → Contains replies r → counts (write_reply_of x.stamp r) ≡ true)
  where
    stray-from : counts (reply_in x m) ≡ false → counts write_reply.Nothing ≡ false → IsStray replies once x m
    stray-from e none = go (is_from_participant x m) refl e
      where
        of-other-kind : counts (body_reply x.stamp m.body) ≡ false → IsStray replies once x m
        of-other-kind f =
            OfOtherKind (λ r among has. false≢true
            (sym f ∙ ap (λ (b : Body). counts (body_reply x.stamp b)) has ∙ known r among))

        from-elsewhere : list_any (is_part m.from) (places_in x) ≡ false → IsStray replies once x m
        from-elsewhere f =
            FromOtherNode (λ place there sender.
            let (at, inside, here) = at_from_Contains (places_in x) place there in
            false≢true (sym f ∙ list_any_at (is_part m.from) (places_in x) at 0 inside
            (ap (λ (n : Node). is_part n (get_or (places_in x) at 0)) sender
            ∙ eq-eqb place (get_or (places_in x) at 0) (sym (here 0)))))

        elsewhere :
            (a : Bool) → (m.tag == x.tag) ≡ a → (b : Bool) → is_client m.to x.client ≡ b
            → (c : Bool) → list_any (is_part m.from) (places_in x) ≡ c → (a && b && c) ≡ false
            → IsStray replies once x m
        elsewhere false f b g c h all = UnderOtherTag (eqb-false m.tag x.tag f)
        elsewhere true f false g c h all =
            ToOtherNode (λ same. false≢true
            (sym g ∙ ap (λ (n : Node). is_client n x.client) same ∙ eq-eqb x.client x.client refl))
        elsewhere true f true g false h all = from-elsewhere h
        elsewhere true f true g true h all = absurd (true≢false all)

        go :
            (b : Bool) → is_from_participant x m ≡ b → counts (if b then body_reply x.stamp m.body else write_reply.Nothing) ≡ false
            → IsStray replies once x m
        go true f g = of-other-kind g
        go false f g =
            elsewhere (m.tag == x.tag) refl (is_client m.to x.client) refl (list_any (is_part m.from) (places_in x))
            refl f

abbrev counts_in_prepares : WriteReply → Bool
counts_in_prepares write_reply.Prepared = true
counts_in_prepares write_reply.Committed = false
counts_in_prepares write_reply.Discarded = true
counts_in_prepares write_reply.Full = true
counts_in_prepares write_reply.Nothing = false

abbrev counts_in_commits : WriteReply → Bool
counts_in_commits write_reply.Prepared = false
counts_in_commits write_reply.Committed = true
counts_in_commits write_reply.Discarded = false
counts_in_commits write_reply.Full = false
counts_in_commits write_reply.Nothing = false

prepares-known :
    (stamp : ℕ) (r : Reply) → Contains (prepare_replies stamp) r → counts_in_prepares (write_reply_of stamp r) ≡ true
prepares-known stamp r (k, inside, here) = go k inside here
  where
    by :
        (s : Reply) → s ≡ r → counts_in_prepares (write_reply_of stamp s) ≡ true
        → counts_in_prepares (write_reply_of stamp r) ≡ true
    by s same e = subst (λ (z : Reply). counts_in_prepares (write_reply_of stamp z) ≡ true) same e

    go :
        (k : ℕ) → k < 3 → get_or (prepare_replies stamp) k r ≡ r
        → counts_in_prepares (write_reply_of stamp r) ≡ true
    go zero l same = by (reply.Prepared stamp) same (ap counts_in_prepares (own-kind write_reply.Prepared stamp))
    go (suc zero) l same = by (reply.Discarded stamp) same (ap counts_in_prepares (own-kind write_reply.Discarded stamp))
    go (suc (suc zero)) l same = by (reply.Full stamp) same (ap counts_in_prepares (own-kind write_reply.Full stamp))
    go (suc (suc (suc k))) l same = absurd (omega (arith, l))

commits-known :
    (stamp : ℕ) (r : Reply) → Contains (commit_replies stamp) r → counts_in_commits (write_reply_of stamp r) ≡ true
commits-known stamp r (k, inside, here) = go k inside here
  where
    go :
        (k : ℕ) → k < 1 → get_or (commit_replies stamp) k r ≡ r
        → counts_in_commits (write_reply_of stamp r) ≡ true
    go zero l same =
        subst (λ (z : Reply). counts_in_commits (write_reply_of stamp z) ≡ true) same
        (ap counts_in_commits (own-kind write_reply.Committed stamp))
    go (suc k) l same = absurd (omega (arith, l))

-- what a filter leaves has passed it
pub filter-passed : (p : ℕ → Bool) (ns : List ℕ) (n : ℕ) → Contains (filter p ns) n → p n ≡ true
filter-passed p [] n there = absurd (omega (arith, there.1))
filter-passed p (k ∷ ns) n there = go (p k) refl there (filter-passed p ns n)
  where
    first : p k ≡ true → (i : ℕ) → i < length (k ∷ filter p ns) → get_or (k ∷ filter p ns) i n ≡ n
        → (Contains (filter p ns) n → p n ≡ true) → p n ≡ true
    first e zero l same rec = subst (λ (m : ℕ). p m ≡ true) same e
    first e (suc i) l same rec = rec (i, omega (arith, l), same)

    go :
        (b : Bool) → p k ≡ b → Contains (cond b (k ∷ filter p ns) (filter p ns)) n
        → (Contains (filter p ns) n → p n ≡ true) → p n ≡ true
    go true e c rec = first e c.0 c.1 c.2 rec
    go false e c rec = rec c

-- an outstanding participant is left out
left-out :
    (node : Node) (place : ℕ) (ns : List ℕ) → node ≡ Part place
    → filter (λ n. not (is_part node n)) ns ≡ ns → Contains ns place → ⊥
left-out node place ns from same there =
    let passed =
    filter-passed (λ n. not (is_part node n)) ns place
    (subst (λ (z : List ℕ). Contains z place) (sym same) there)
    in
    false≢true (sym (ap not (ap (λ (k : Node). is_part k place) from ∙ eq-eqb place place refl)) ∙ passed)

abbrev outstanding_of : WriteStep → List ℕ
outstanding_of (Waits x) = x.outstanding
outstanding_of (Commits x messages) = []
outstanding_of (Ends outcome) = []

abbrev is_waits : WriteStep → Bool
is_waits (Waits x) = true
is_waits (Commits x messages) = false
is_waits (Ends outcome) = false

module _ (x : WritingState) (m : Message) where
  pub stray-prepares : prepare_stepped x m ≡ Waits x → IsStrayToPrepares x m
  stray-prepares e = go (reply_in x m) refl e
    where
      none-counts : counts_in_prepares (reply_in x m) ≡ false → IsStrayToPrepares x m
      none-counts f =
          stray-from (prepare_replies x.stamp) (reply.Prepared x.stamp) counts_in_prepares x m (prepares-known x.stamp)
          f refl

      waits :
          (ns : List ℕ) → prepares_left (answered_by x m.from) ns ≡ Waits x
          → (answered_by x m.from).outstanding ≡ x.outstanding
      waits [] f = absurd (false≢true (ap is_waits f))
      waits (n ∷ ns) f = ap outstanding_of f

      go : (what : WriteReply) → reply_in x m ≡ what → prepares_by x m.from (reply_in x m) ≡ Waits x → IsStrayToPrepares x m
      go write_reply.Prepared f g =
          let (place, t) = reply-is x m write_reply.Prepared f (λ q. absurd (cc)) in
          let same = waits (answered_by x m.from).outstanding (sym (ap (prepares_by x m.from) f) ∙ g) in
          Repeated place t.sender t.body (left-out m.from place x.outstanding t.sender same)
      go write_reply.Committed f g = none-counts (ap counts_in_prepares f)
      go write_reply.Discarded f g = absurd (false≢true (ap is_waits (sym (ap (prepares_by x m.from) f) ∙ g)))
      go write_reply.Full f g = absurd (false≢true (ap is_waits (sym (ap (prepares_by x m.from) f) ∙ g)))
      go write_reply.Nothing f g = none-counts (ap counts_in_prepares f)

  pub stray-commits : commit_stepped x m ≡ Waits x → IsStrayToCommits x m
  stray-commits e = go (reply_in x m) refl e
    where
      none-counts : counts_in_commits (reply_in x m) ≡ false → IsStrayToCommits x m
      none-counts f =
          stray-from (commit_replies x.stamp) (reply.Committed x.stamp) counts_in_commits x m (commits-known x.stamp)
          f refl

      waits :
          (ns : List ℕ) → commits_left (answered_by x m.from) ns ≡ Waits x
          → (answered_by x m.from).outstanding ≡ x.outstanding
      waits [] f = absurd (false≢true (ap is_waits f))
      waits (n ∷ ns) f = ap outstanding_of f

      go : (what : WriteReply) → reply_in x m ≡ what → commits_by x m.from (reply_in x m) ≡ Waits x → IsStrayToCommits x m
      go write_reply.Prepared f g = none-counts (ap counts_in_commits f)
      go write_reply.Committed f g =
          let (place, t) = reply-is x m write_reply.Committed f (λ q. absurd (cc)) in
          let same = waits (answered_by x m.from).outstanding (sym (ap (commits_by x m.from) f) ∙ g) in
          Repeated place t.sender t.body (left-out m.from place x.outstanding t.sender same)
      go write_reply.Discarded f g = none-counts (ap counts_in_commits f)
      go write_reply.Full f g = none-counts (ap counts_in_commits f)
      go write_reply.Nothing f g = none-counts (ap counts_in_commits f)
