-- A write's state depends on the messages that were given: `prepare-replied` and `commit-replied`, for the clauses
-- `all_given` and the law `a_write_depends_on_its_replies`.
use Rattle.std.proofs.Common.{◌≡◌, ℕ, Bool, true, false, not, ◌&&◌, ◌||◌, cond, List, [], ◌∷◌, ◌++◌, filter, refl, sym, ap, ◌∙◌}
use Rattle.std.proofs.Math.Bool.{or-false}
use Rattle.std.proofs.lemmas.List.Folds.{list_any-append}
use Rattle.album_calls.specs.Nodes.{is_part}
use Rattle.album_calls.specs.declared.messages.Message.{Message}
use Rattle.album_permits.specs.Permits.{PermitState}
use Rattle.album_writer.specs.declared.write_replies.WriteReply.{WriteReply}
use Rattle.album_writer.specs.declared.write_replies.WriteReply.TheVariants as write_reply
use Rattle.album_writer.specs.Given.{has_replied, replied_round, prepares_then, prepare_step_after, commits_then, commit_step_after}
use Rattle.album_writer.specs.Rounds.{WriteStep, prepares_left, prepares_by, prepare_stepped, commits_left, commits_by, commit_stepped}
use Rattle.album_writer.specs.Rounds.WriteStep.{Waits}
use Rattle.album_writer.specs.WriteReplies.{reply_in, is_prepared_reply, is_committed_reply}
use Rattle.album_writer.specs.Writing.{WritingState, places_in, prepare_round, commit_round}

-- ---- filters

pub filter_all : (test : ℕ → Bool) → ((n : ℕ) → test n ≡ true) → (ns : List ℕ) → ns ≡ filter test ns
filter_all test all [] = refl
filter_all test all (n ∷ ns) =
    ap (λ (z : List ℕ). n ∷ z) (filter_all test all ns)
    ∙ ap (λ (b : Bool). cond b (n ∷ filter test ns) (filter test ns)) (sym (all n))

filter_twice :
    (p q r : ℕ → Bool) → ((n : ℕ) → r n ≡ (q n && p n)) → (ns : List ℕ) → filter p (filter q ns) ≡ filter r ns
filter_twice p q r both [] = refl
filter_twice p q r both (n ∷ ns) = go (q n) (p n) (r n) (both n) refl refl (filter_twice p q r both ns)
  where
    go :
        (a b c : Bool) → c ≡ (a && b) → q n ≡ a → p n ≡ b → filter p (filter q ns) ≡ filter r ns
        → filter p (cond a (n ∷ filter q ns) (filter q ns)) ≡ cond c (n ∷ filter r ns) (filter r ns)
    go true true c e f g rec = rw (e, g) (ap (λ (z : List ℕ). n ∷ z) rec)
    go true false c e f g rec = rw (e, g) rec
    go false b c e f g rec = rw e rec

filter_alike : (p q : ℕ → Bool) → ((n : ℕ) → p n ≡ q n) → (ns : List ℕ) → filter p ns ≡ filter q ns
filter_alike p q same [] = refl
filter_alike p q same (n ∷ ns) =
    ap (λ (b : Bool). cond b (n ∷ filter p ns) (filter p ns)) (same n)
    ∙ ap (λ (z : List ℕ). cond (q n) (n ∷ z) z) (filter_alike p q same ns)

not_or : (a b : Bool) → not (a || b) ≡ (not a && not b)
not_or true b = refl
not_or false b = refl

-- ---- one message more

module _ (counts : WriteReply → Bool) (x : WritingState) (given : List Message) (m : Message) where
  abbrev unheard : List Message → List ℕ
  unheard ms = filter (λ place. not (has_replied counts x ms place)) (places_in x)

  pushed :
      (n : ℕ)
      → has_replied counts x (given ++ m ∷ []) n ≡ (has_replied counts x given n || (counts (reply_in x m) && is_part m.from n))
  pushed n =
      list_any-append (λ (message : Message). counts (reply_in x message) && is_part message.from n) given (m ∷ [])
      ∙ ap (λ (b : Bool). has_replied counts x given n || b) (or-false (counts (reply_in x m) && is_part m.from n))

  -- a participant that has replied is no longer outstanding
  answer-push :
      counts (reply_in x m) ≡ true
      → filter (λ place. not (is_part m.from place)) (unheard given) ≡ unheard (given ++ m ∷ [])
  answer-push e =
      filter_twice (λ place. not (is_part m.from place)) (λ place. not (has_replied counts x given place))
      (λ place. not (has_replied counts x (given ++ m ∷ []) place))
      (λ n. ap not (pushed n ∙ ap (λ (b : Bool). has_replied counts x given n || (b && is_part m.from n)) e)
      ∙ not_or (has_replied counts x given n) (is_part m.from n))
      (places_in x)

  -- another message changes nothing
  other-push : counts (reply_in x m) ≡ false → unheard given ≡ unheard (given ++ m ∷ [])
  other-push e =
      filter_alike (λ place. not (has_replied counts x given place))
      (λ place. not (has_replied counts x (given ++ m ∷ []) place))
      (λ n. ap not (sym (pushed n ∙ ap (λ (b : Bool). has_replied counts x given n || (b && is_part m.from n)) e
      ∙ or-false (has_replied counts x given n))))
      (places_in x)

-- ---- how a round begins

pub first-replied :
    (checked : Bool) (permit : PermitState) (stamp client tag parts : ℕ)
    → prepare_round checked permit stamp client tag parts
    ≡ replied_round is_prepared_reply (prepare_round checked permit stamp client tag parts) []
first-replied checked permit stamp client tag parts =
    ap (λ (z : List ℕ).
    let a : WritingState = record (prepare_round checked permit stamp client tag parts) { outstanding = z } in a)
    (filter_all (λ place. true) (λ n. refl) (places_in (prepare_round checked permit stamp client tag parts)))

pub second-replied : (x : WritingState) → commit_round x ≡ replied_round is_committed_reply (commit_round x) []
second-replied x =
    ap (λ (z : List ℕ). let a : WritingState = record (commit_round x) { outstanding = z } in a)
    (filter_all (λ place. true) (λ n. refl) (places_in x))

-- ---- the step after a message

module _ (x : WritingState) (given : List Message) (m : Message) where
  abbrev with : List ℕ → WritingState
  with z = record x { outstanding = z }

  pub prepare-replied : prepare_stepped (replied_round is_prepared_reply x given) m ≡ prepare_step_after x given m
  prepare-replied = go (reply_in x m) refl
    where
      go :
          (what : WriteReply) → reply_in x m ≡ what
          → prepares_by (replied_round is_prepared_reply x given) m.from what
          ≡ prepares_then (replied_round is_prepared_reply x (given ++ m ∷ [])) what
      go write_reply.Prepared e =
          ap (λ (z : List ℕ). prepares_left (with z) z) (answer-push is_prepared_reply x given m (ap is_prepared_reply e))
      go write_reply.Committed e =
          ap (λ (z : List ℕ). Waits (with z)) (other-push is_prepared_reply x given m (ap is_prepared_reply e))
      go write_reply.Discarded e = refl
      go write_reply.Full e = refl
      go write_reply.Nothing e =
          ap (λ (z : List ℕ). Waits (with z)) (other-push is_prepared_reply x given m (ap is_prepared_reply e))

  pub commit-replied : commit_stepped (replied_round is_committed_reply x given) m ≡ commit_step_after x given m
  commit-replied = go (reply_in x m) refl
    where
      go :
          (what : WriteReply) → reply_in x m ≡ what
          → commits_by (replied_round is_committed_reply x given) m.from what
          ≡ commits_then (replied_round is_committed_reply x (given ++ m ∷ [])) what
      go write_reply.Prepared e =
          ap (λ (z : List ℕ). Waits (with z)) (other-push is_committed_reply x given m (ap is_committed_reply e))
      go write_reply.Committed e =
          ap (λ (z : List ℕ). commits_left (with z) z) (answer-push is_committed_reply x given m (ap is_committed_reply e))
      go write_reply.Discarded e =
          ap (λ (z : List ℕ). Waits (with z)) (other-push is_committed_reply x given m (ap is_committed_reply e))
      go write_reply.Full e =
          ap (λ (z : List ℕ). Waits (with z)) (other-push is_committed_reply x given m (ap is_committed_reply e))
      go write_reply.Nothing e =
          ap (λ (z : List ℕ). Waits (with z)) (other-push is_committed_reply x given m (ap is_committed_reply e))

-- the clauses: what a step is by the round's own fields, it is by the messages given
pub prepare-step :
    (x : WritingState) (m : Message) (step : WriteStep) → step ≡ prepare_stepped x m
    → (given : List Message) → x ≡ replied_round is_prepared_reply x given → step ≡ prepare_step_after x given m
prepare-step x m step e given same =
    e ∙ ap (λ (z : WritingState). prepare_stepped z m) same ∙ prepare-replied x given m

pub commit-step :
    (x : WritingState) (m : Message) (step : WriteStep) → step ≡ commit_stepped x m
    → (given : List Message) → x ≡ replied_round is_committed_reply x given → step ≡ commit_step_after x given m
commit-step x m step e given same =
    e ∙ ap (λ (z : WritingState). commit_stepped z m) same ∙ commit-replied x given m
