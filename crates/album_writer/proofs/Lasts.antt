-- Which reply leads to the next round or ends the write, for the law `a_write_ends_by_its_replies`.
use Rattle.std.proofs.Common.{◌≡◌, ◌≢◌, ◌↔◌, ℕ, zero, suc, ◌<◌, Bool, true, false, not, ◌&&◌, cond, ◌⊎◌, inl, inr, List, [], ◌∷◌, ◌++◌, filter, get_or, length, Contains, refl, sym, ap, ◌∙◌, subst, arith}
use Rattle.std.proofs.lemmas.Bool.{false≢true, and_parts, and_from, eq-eqb, not-false, not_from_true}
use Rattle.std.proofs.lemmas.List.Elements.{at_from_Contains}
use Rattle.std.proofs.lemmas.List.Folds.{Any-from_list_any, list_any_at}
use Rattle.album_calls.specs.Nodes.{is_part}
use Rattle.album_calls.specs.declared.messages.Message.{Message}
use Rattle.album_calls.specs.declared.nodes.Node.{Node}
use Rattle.album_calls.specs.declared.replies.Reply.TheVariants as reply
use Rattle.album_reader.proofs.Others.{is_part-own}
use Rattle.album_writer.proofs.Giving.{prepare-replied, commit-replied}
use Rattle.album_writer.proofs.Strays.{reply-is, reply-kind, the_reply, part-number}
use Rattle.album_writer.specs.Counting.{IsReplyFrom, IsReplyTo, IsReplyAmong, IsLastOf}
use Rattle.album_writer.specs.Given.{has_replied, replied_round, prepares_then, prepare_step_after, commits_then, commit_step_after}
use Rattle.album_writer.specs.Rounds.{WriteStep, answered_by, prepares_left, prepares_by, prepare_stepped, commits_left, commits_by, commit_stepped}
use Rattle.album_writer.specs.Rounds.WriteStep.{Commits, Ends}
use Rattle.album_writer.specs.WriteReplies.{reply_in, is_prepared_reply, is_committed_reply}
use Rattle.album_writer.specs.Writing.{WritingState, places_in, commit_round, commits_of}
use Rattle.album_writer.specs.declared.write_replies.WriteReply.{WriteReply}
use Rattle.album_writer.specs.declared.write_replies.WriteReply.TheVariants as write_reply
use Rattle.album_writer.specs.declared.outcomes.Outcome.{Outcome}
use Rattle.album_writer.specs.declared.outcomes.Outcome.TheVariants as outcome

-- ---- the participants that have replied

none-left : (p : ℕ → Bool) (ns : List ℕ) → filter p ns ≡ [] → (n : ℕ) → Contains ns n → p n ≡ false
none-left p [] e n there = absurd (omega (arith, there.1))
none-left p (k ∷ ns) e n there = go (p k) refl e there.0 there.1 there.2 (none-left p ns)
  where
    go :
        (b : Bool) → p k ≡ b → cond b (k ∷ filter p ns) (filter p ns) ≡ []
        → (i : ℕ) → i < length (k ∷ ns) → get_or (k ∷ ns) i n ≡ n
        → (filter p ns ≡ [] → (n : ℕ) → Contains ns n → p n ≡ false) → p n ≡ false
    go true f g i l same rec = absurd (cc)
    go false f g zero l same rec = subst (λ (m : ℕ). p m ≡ false) same f
    go false f g (suc i) l same rec = rec g n (i, omega (arith, l), same)

left-none : (p : ℕ → Bool) (ns : List ℕ) → ((n : ℕ) → Contains ns n → p n ≡ false) → filter p ns ≡ []
left-none p [] none = refl
left-none p (k ∷ ns) none =
    ap (λ (b : Bool). cond b (k ∷ filter p ns) (filter p ns)) (none k (0, omega arith, refl))
    ∙ left-none p ns (λ n there. none n (suc there.0, omega (arith, there.1), there.2))

module _
    (counts : WriteReply → Bool) (kind : WriteReply) (some : kind ≢ write_reply.Nothing) (counts-own : counts kind ≡ true)
    (counts-is : (what : WriteReply) → counts what ≡ true → what ≡ kind)
    (x : WritingState)
  where
    has_replied-among :
        (ms : List Message) (place : ℕ) → has_replied counts x ms place ≡ true
        → IsReplyAmong x ms (the_reply x.stamp kind) place
    has_replied-among ms place e =
        let (at, message, inside, here, same) =
        Any-from_list_any (λ (message : Message). counts (reply_in x message) && is_part message.from place) ms e
        in
        let both = and_parts (counts (reply_in x message)) (is_part message.from place) same in
        let (other, t) = reply-is x message kind (counts-is (reply_in x message) both.0) some in
        let own : other ≡ place = part-number other place (sym t.sender ∙ is_part-own message.from place both.1) in
        (message, (at, inside, here), subst (λ (n : ℕ). IsReplyFrom x message (the_reply x.stamp kind) n) own t)

    among-has_replied :
        (ms : List Message) (place : ℕ) → IsReplyAmong x ms (the_reply x.stamp kind) place
        → has_replied counts x ms place ≡ true
    among-has_replied ms place (message, there, t) =
        let (at, inside, here) = at_from_Contains ms message there in
        list_any_at (λ (message : Message). counts (reply_in x message) && is_part message.from place) ms at message
        inside
        (subst (λ (k : Message). (counts (reply_in x k) && is_part k.from place) ≡ true) (sym (here message))
        (and_from (counts (reply_in x message)) (is_part message.from place)
        (ap counts (reply-kind x message kind (place, t)) ∙ counts-own)
        (ap (λ (n : Node). is_part n place) t.sender ∙ eq-eqb place place refl)))

    -- none is outstanding where each has replied
    each-replied :
        (ms : List Message) → (replied_round counts x ms).outstanding ≡ []
        → (place : ℕ) → Contains (places_in x) place → IsReplyAmong x ms (the_reply x.stamp kind) place
    each-replied ms none place there =
        has_replied-among ms place
        (not-false (has_replied counts x ms place)
        (none-left (λ place. not (has_replied counts x ms place)) (places_in x) none place there))

    replied-each :
        (ms : List Message)
        → ((place : ℕ) → Contains (places_in x) place → IsReplyAmong x ms (the_reply x.stamp kind) place)
        → (replied_round counts x ms).outstanding ≡ []
    replied-each ms each =
        left-none (λ place. not (has_replied counts x ms place)) (places_in x)
        (λ place there. not_from_true (has_replied counts x ms place) (among-has_replied ms place (each place there)))

-- ---- the ends of a round

is_prepared : (what : WriteReply) → is_prepared_reply what ≡ true → what ≡ write_reply.Prepared
is_prepared write_reply.Prepared e = refl
is_prepared write_reply.Committed e = absurd (false≢true e)
is_prepared write_reply.Discarded e = absurd (false≢true e)
is_prepared write_reply.Full e = absurd (false≢true e)
is_prepared write_reply.Nothing e = absurd (false≢true e)

is_committed : (what : WriteReply) → is_committed_reply what ≡ true → what ≡ write_reply.Committed
is_committed write_reply.Prepared e = absurd (false≢true e)
is_committed write_reply.Committed e = refl
is_committed write_reply.Discarded e = absurd (false≢true e)
is_committed write_reply.Full e = absurd (false≢true e)
is_committed write_reply.Nothing e = absurd (false≢true e)

prepared-some : write_reply.Prepared ≢ write_reply.Nothing
prepared-some e = absurd (cc)

committed-some : write_reply.Committed ≢ write_reply.Nothing
committed-some e = absurd (cc)

module _ (x : WritingState) (given : List Message) (m : Message) where
  abbrev all : List Message
  all = given ++ m ∷ []

  abbrev commits : WriteStep
  commits = Commits (commit_round x) (commits_of (commit_round x))

  last-prepared : prepare_step_after x given m ≡ commits → IsLastOf (reply.Prepared x.stamp) x given m
  last-prepared e = go (reply_in x m) refl e
    where
      left :
          reply_in x m ≡ write_reply.Prepared → (ns : List ℕ) → (replied_round is_prepared_reply x all).outstanding ≡ ns
          → prepares_left (replied_round is_prepared_reply x all) ns ≡ commits → IsLastOf (reply.Prepared x.stamp) x given m
      left f [] none g = record {
        last = reply-is x m write_reply.Prepared f prepared-some;
        each = each-replied is_prepared_reply write_reply.Prepared prepared-some refl is_prepared x all none;
      }
      left f (n ∷ ns) some g = absurd (cc)

      go :
          (what : WriteReply) → reply_in x m ≡ what → prepares_then (replied_round is_prepared_reply x all) what ≡ commits
          → IsLastOf (reply.Prepared x.stamp) x given m
      go write_reply.Prepared f g = left f (replied_round is_prepared_reply x all).outstanding refl g
      go write_reply.Committed f g = absurd (cc)
      go write_reply.Discarded f g = absurd (cc)
      go write_reply.Full f g = absurd (cc)
      go write_reply.Nothing f g = absurd (cc)

  prepared-last : IsLastOf (reply.Prepared x.stamp) x given m → prepare_step_after x given m ≡ commits
  prepared-last last =
      ap (prepares_then (replied_round is_prepared_reply x all)) (reply-kind x m write_reply.Prepared last.last)
      ∙ ap (prepares_left (replied_round is_prepared_reply x all))
      (replied-each is_prepared_reply write_reply.Prepared prepared-some refl is_prepared x all last.each)

  last-committed :
      commit_step_after x given m ≡ Ends (outcome.Committed x.stamp) → IsLastOf (reply.Committed x.stamp) x given m
  last-committed e = go (reply_in x m) refl e
    where
      left :
          reply_in x m ≡ write_reply.Committed → (ns : List ℕ) → (replied_round is_committed_reply x all).outstanding ≡ ns
          → commits_left (replied_round is_committed_reply x all) ns ≡ Ends (outcome.Committed x.stamp)
          → IsLastOf (reply.Committed x.stamp) x given m
      left f [] none g = record {
        last = reply-is x m write_reply.Committed f committed-some;
        each = each-replied is_committed_reply write_reply.Committed committed-some refl is_committed x all none;
      }
      left f (n ∷ ns) some g = absurd (cc)

      go :
          (what : WriteReply) → reply_in x m ≡ what
          → commits_then (replied_round is_committed_reply x all) what ≡ Ends (outcome.Committed x.stamp)
          → IsLastOf (reply.Committed x.stamp) x given m
      go write_reply.Prepared f g = absurd (cc)
      go write_reply.Committed f g = left f (replied_round is_committed_reply x all).outstanding refl g
      go write_reply.Discarded f g = absurd (cc)
      go write_reply.Full f g = absurd (cc)
      go write_reply.Nothing f g = absurd (cc)

  committed-last :
      IsLastOf (reply.Committed x.stamp) x given m → commit_step_after x given m ≡ Ends (outcome.Committed x.stamp)
  committed-last last =
      ap (commits_then (replied_round is_committed_reply x all)) (reply-kind x m write_reply.Committed last.last)
      ∙ ap (commits_left (replied_round is_committed_reply x all))
      (replied-each is_committed_reply write_reply.Committed committed-some refl is_committed x all last.each)

  pub commits-last :
      (prepare_stepped (replied_round is_prepared_reply x given) m ≡ Commits (commit_round x) (commits_of (commit_round x)))
      ↔ IsLastOf (reply.Prepared x.stamp) x given m
  commits-last = (
    λ e. last-prepared (sym (prepare-replied x given m) ∙ e),
    λ last. prepare-replied x given m ∙ prepared-last last,
  )

  pub ends-last :
      (commit_stepped (replied_round is_committed_reply x given) m ≡ Ends (outcome.Committed x.stamp))
      ↔ IsLastOf (reply.Committed x.stamp) x given m
  ends-last = (
    λ e. last-committed (sym (commit-replied x given m) ∙ e),
    λ last. commit-replied x given m ∙ committed-last last,
  )

module _ (x : WritingState) (m : Message) where
  -- the Commits are those of the write
  pub commits-own :
      (next : WritingState) (messages : List Message) → prepare_stepped x m ≡ Commits next messages
      → (next ≡ commit_round x) × (messages ≡ commits_of (commit_round x))
  commits-own next messages e = go (reply_in x m) e
    where
      left :
          (ns : List ℕ) → prepares_left (answered_by x m.from) ns ≡ Commits next messages
          → (next ≡ commit_round x) × (messages ≡ commits_of (commit_round x))
      left [] g = (cc, cc)
      left (n ∷ ns) g = absurd (cc)

      go :
          (what : WriteReply) → prepares_by x m.from what ≡ Commits next messages
          → (next ≡ commit_round x) × (messages ≡ commits_of (commit_round x))
      go write_reply.Prepared g = left (answered_by x m.from).outstanding g
      go write_reply.Committed g = absurd (cc)
      go write_reply.Discarded g = absurd (cc)
      go write_reply.Full g = absurd (cc)
      go write_reply.Nothing g = absurd (cc)

  not-left : (o : Outcome) (ns : List ℕ) → prepares_left (answered_by x m.from) ns ≡ Ends o → ⊥
  not-left o [] e = cc
  not-left o (n ∷ ns) e = cc

  -- which replies end a round of Prepares
  pub over :
      (o : Outcome) → prepare_stepped x m ≡ Ends o
      → ((o ≡ outcome.Aborted x.stamp) × IsReplyTo x m (reply.Discarded x.stamp))
      ⊎ ((o ≡ outcome.Full x.stamp) × IsReplyTo x m (reply.Full x.stamp))
  over o e = go (reply_in x m) refl e
    where
      go :
          (what : WriteReply) → reply_in x m ≡ what → prepares_by x m.from what ≡ Ends o
          → ((o ≡ outcome.Aborted x.stamp) × IsReplyTo x m (reply.Discarded x.stamp))
          ⊎ ((o ≡ outcome.Full x.stamp) × IsReplyTo x m (reply.Full x.stamp))
      go write_reply.Prepared f g = absurd (not-left o (answered_by x m.from).outstanding g)
      go write_reply.Committed f g = absurd (cc)
      go write_reply.Discarded f g = inl (cc, reply-is x m write_reply.Discarded f (λ q. absurd (cc)))
      go write_reply.Full f g = inr (cc, reply-is x m write_reply.Full f (λ q. absurd (cc)))
      go write_reply.Nothing f g = absurd (cc)

  pub aborts : IsReplyTo x m (reply.Discarded x.stamp) → prepare_stepped x m ≡ Ends (outcome.Aborted x.stamp)
  aborts counts = ap (prepares_by x m.from) (reply-kind x m write_reply.Discarded counts)

  pub is-full : IsReplyTo x m (reply.Full x.stamp) → prepare_stepped x m ≡ Ends (outcome.Full x.stamp)
  is-full counts = ap (prepares_by x m.from) (reply-kind x m write_reply.Full counts)

  -- a round of Commits ends in no other way
  pub over-committed : (o : Outcome) → commit_stepped x m ≡ Ends o → o ≡ outcome.Committed x.stamp
  over-committed o e = go (reply_in x m) e
    where
      left : (ns : List ℕ) → commits_left (answered_by x m.from) ns ≡ Ends o → o ≡ outcome.Committed x.stamp
      left [] g = cc
      left (n ∷ ns) g = absurd (cc)

      go : (what : WriteReply) → commits_by x m.from what ≡ Ends o → o ≡ outcome.Committed x.stamp
      go write_reply.Prepared g = absurd (cc)
      go write_reply.Committed g = left (answered_by x m.from).outstanding g
      go write_reply.Discarded g = absurd (cc)
      go write_reply.Full g = absurd (cc)
      go write_reply.Nothing g = absurd (cc)
