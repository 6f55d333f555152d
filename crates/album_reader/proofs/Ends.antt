-- What a round makes of the version that a message brings, for `Round::fresh` (`IsFresh-free`), `Round::take`
-- (`in_order-fresh`, `outcome-fresh`) and `Round::is_completed_by` (`end-fresh`), for `Round::waits` (`waits-fresh`); and `waits_open`, for
-- `Reading::waits`.
use Rattle.std.proofs.Common.{◌≡◌, ℕ, zero, suc, ◌+◌, ◌<◌, Bool, true, false, ◌==◌, ◌&&◌, List, [], ◌∷◌, length, take, drop, Option, Some, None, is_some, get_or, set, position, Result, Ok, Err, OnErr, refl, sym, ap, ◌∙◌, arith, add-one, if◌then◌else◌, subst}
use Rattle.std.specs.Option.{option_map_or}
use Rattle.std.proofs.Math.Bool.{and_assoc}
use Rattle.album_calls.specs.declared.messages.Message.{Message}
use Rattle.album_reader.specs.declared.round.Fresh.{Fresh}
use Rattle.album_reader.specs.Answers.{ReadVersion, body_version, is_answer, answers_there, are_there}
use Rattle.album_reader.specs.Ends.{answer_of, IsFresh}
use Rattle.album_reader.specs.Rounds.{RoundState, new_answer, with_answer, end_by, end_of, outcome, taken, is_end, are_in_order, IsOpen, is_gone, StaysOpen}
use Rattle.album_reader.specs.Rounds.Step.{Same}
use Rattle.album_reader.proofs.Others.{new_answer-answer}
use Rattle.album_reader.proofs.Rounds.{put_answer-set, with_answer-in_order, index-of, index-inside, lacks-absent, lacks-taken, lacks-free, stepped-open, taken-stepped}

-- an item that was not asked
pub new_answer-absent :
    (round : RoundState) (message : Message) (version : ReadVersion)
    → body_version message.body ≡ Some version → is_answer round.asker message version.item ≡ true
    → position (λ other. version.item == other) round.items ≡ None
    → new_answer round message ≡ None
new_answer-absent round message version carries own e =
    new_answer-answer round message version carries own
    ∙ ap (λ (b : Bool). if b then Some version else None) (lacks-absent round version.item e)

-- an item that has its answer
pub new_answer-taken :
    (round : RoundState) (message : Message) (version : ReadVersion) (index : ℕ) → IsOpen round
    → body_version message.body ≡ Some version → is_answer round.asker message version.item ≡ true
    → position (λ other. version.item == other) round.items ≡ Some index
    → is_some (get_or round.answers index None) ≡ true
    → new_answer round message ≡ None
new_answer-taken round message version index lasts carries own e taken =
    new_answer-answer round message version carries own
    ∙ ap (λ (b : Bool). if b then Some version else None) (lacks-taken round version.item index lasts e taken)

none-is : (o : Option ReadVersion) → is_some o ≡ false → o ≡ None
none-is None e = refl
none-is (Some answer) e = absurd (cc)

-- an answer that was lacking
pub IsFresh-free :
    (round : RoundState) (message : Message) (fresh : Fresh) → IsOpen round
    → body_version message.body ≡ Some (answer_of fresh.version)
    → is_answer round.asker message fresh.version.item ≡ true
    → position (λ other. fresh.version.item == other) round.items ≡ Some fresh.index
    → is_some (get_or round.answers fresh.index None) ≡ false
    → IsFresh round message fresh
IsFresh-free round message fresh lasts carries own e free =
    let empty : get_or round.answers fresh.index None ≡ None =
    none-is (get_or round.answers fresh.index None) free in record {
      inside = index-inside round fresh.version.item fresh.index lasts e;
      empty = empty;
      asked = (index-of round.items fresh.version.item fresh.index e).1;
      counts =
          new_answer-answer round message (answer_of fresh.version) carries own
          ∙ ap (λ (b : Bool). if b then Some (answer_of fresh.version) else None)
          (lacks-free round fresh.version.item fresh.index lasts e empty);
    }

-- a round is at its end exactly where each answer is there
end-outcome : (round : RoundState) → is_end (outcome round) ≡ are_there round.answers
end-outcome round = go (are_there round.answers)
  where
    ended : (stamps : Option (List ℕ)) (answers : List ReadVersion) → is_end (end_by stamps round answers) ≡ true
    ended None answers = refl
    ended (Some stamps) answers = refl

    go :
        (b : Bool)
        → is_end (option_map_or (end_of round) (if b then Some (answers_there round.answers) else None) (Same round)) ≡ b
    go true = ended round.stamps _
    go false = refl

-- where it is no end, the round waits
outcome-waits : (round : RoundState) → is_end (outcome round) ≡ false → outcome round ≡ Same round
outcome-waits round goes = go (are_there round.answers) (sym (end-outcome round) ∙ goes)
  where
    go :
        (b : Bool) → b ≡ false
        → option_map_or (end_of round) (if b then Some (answers_there round.answers) else None) (Same round) ≡ Same round
    go true e = absurd (cc)
    go false e = refl

-- with an answer at the index, each is there exactly where each other one is
are_there-set :
    (answers : List (Option ReadVersion)) (index : ℕ) (answer : ReadVersion) → index < length answers
    → are_there (set answers index (Some answer)) ≡ (are_there (take index answers) && are_there (drop (suc index) answers))
are_there-set [] index answer inside = absurd (omega arith)
are_there-set (first ∷ answers) zero answer inside = refl
are_there-set (first ∷ answers) (suc index) answer inside =
    ap (λ (b : Bool). is_some first && b) (are_there-set answers index answer (omega arith))
    ∙ sym (and_assoc (is_some first) _ _)

-- the answers with it at its index
module _ (round : RoundState) (message : Message) (fresh : Fresh)
    (lasts : IsOpen round) (is : IsFresh round message fresh) where
  pub answers-fresh :
      (with_answer round (answer_of fresh.version)).answers
      ≡ set round.answers fresh.index (Some (answer_of fresh.version))
  answers-fresh =
      put_answer-set (answer_of fresh.version) round.items round.answers fresh.index
      lasts.single lasts.in_order is.inside is.asked

  pub in_order-fresh : are_in_order round.items (set round.answers fresh.index (Some (answer_of fresh.version))) ≡ true
  in_order-fresh =
      ap (are_in_order round.items) (sym answers-fresh) ∙ with_answer-in_order round (answer_of fresh.version) lasts

  pub outcome-fresh :
      outcome (record {
        asker = round.asker;
        items = round.items;
        stamps = round.stamps;
        answers = set round.answers fresh.index (Some (answer_of fresh.version));
      })
      ≡ taken round message
  outcome-fresh =
      ap (λ (os : List (Option ReadVersion)). outcome (record {
        asker = round.asker;
        items = round.items;
        stamps = round.stamps;
        answers = os;
      })) (sym answers-fresh)
      ∙ sym (ap (λ (o : Option ReadVersion). option_map_or (λ (a : ReadVersion). outcome (with_answer round a)) o (Same round)) is.counts)

  pub end-fresh :
      is_end (taken round message)
      ≡ (are_there (take fresh.index round.answers) && are_there (drop (fresh.index + 1) round.answers))
  end-fresh =
      ap is_end (sym outcome-fresh)
      ∙ end-outcome (record {
        asker = round.asker;
        items = round.items;
        stamps = round.stamps;
        answers = set round.answers fresh.index (Some (answer_of fresh.version));
      })
      ∙ are_there-set round.answers fresh.index (answer_of fresh.version) is.inside
      ∙ rw (add-one) refl

  -- where that isn't the end, the round waits with it
  pub waits-fresh :
      is_end (taken round message) ≡ false
      → taken round message ≡ Same (record {
        asker = round.asker;
        items = round.items;
        stamps = round.stamps;
        answers = set round.answers fresh.index (Some (answer_of fresh.version));
      })
  waits-fresh goes = sym outcome-fresh ∙ outcome-waits _ (ap is_end outcome-fresh ∙ goes)

-- what holds anyway holds on an error
pub on_err_then : {T E P : Type 0} (r : Result T E) → P → OnErr r P
on_err_then (Ok v) p = tt
on_err_then (Err e) p = p

-- ---- a message that doesn't end the round

-- where the step by the version is no end, the round is not over
pub waits_open : (old new : RoundState) (message : Message)
    → is_gone old message ≡ false → taken old message ≡ Same new → IsOpen old → IsOpen new
waits_open old new message goes step is =
    subst StaysOpen (sym (taken-stepped old message goes) ∙ step) (stepped-open old message is)
