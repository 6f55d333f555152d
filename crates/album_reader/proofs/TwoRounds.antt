-- How rounds end, for the law that a read has two of them.
use Rattle.std.proofs.Common.{◌≡◌, ◌≢◌, ℕ, ◌+◌, Bool, true, false, List, Option, Some, None, refl, sym, ap, ◌∙◌, subst, if◌then◌else◌, arith, [], ◌∷◌, ◌++◌, is_some}
use Rattle.std.specs.Prelude.{option_and_then}
use Rattle.std.specs.Option.{option_map_or}
use Rattle.std.proofs.lemmas.Bool.{false≢true, and_parts, eqb-true}
use Rattle.album_calls.specs.declared.messages.Message.{Message}
use Rattle.album_reader.specs.Answers.{Asker, ReadVersion, body_version, is_answer, if_answer, answer_in, whole, all_answers}
use Rattle.album_reader.specs.StampSets.{stamps_of}
use Rattle.album_reader.specs.Others.IsOther.{OtherTag}
use Rattle.album_reader.specs.Rounds.{RoundState, Step, second_round, next_asker, gets_of, new_answer, with_answer, end_by, end_of, outcome, is_gone, taken, stepped, after_replies, taken_after}
use Rattle.album_reader.specs.Rounds.Step.{Same, Next, Done, Gone}
use Rattle.album_reader.proofs.FirstAnswers.{stepped-after_replies}
use Rattle.album_reader.proofs.Others.{new_answer-other, is_gone-early}

-- what is true of the round as it is, and of its end, is true of the step by a version
taken-cases :
    (P : Step → Type 0) (round : RoundState) (message : Message) → P (Same round)
    → ((answer : ReadVersion) → P (Same (with_answer round answer)))
    → ((answer : ReadVersion) (answers : List ReadVersion) → P (end_of (with_answer round answer) answers))
    → P (taken round message)
taken-cases P round message same put last = go (new_answer round message)
  where
    go : (o : Option ReadVersion) → P (option_map_or (λ (a : ReadVersion). outcome (with_answer round a)) o (Same round))
    go None = same
    go (Some answer) = here (whole (with_answer round answer).answers)
      where
        here :
            (all : Option (List ReadVersion))
            → P (option_map_or (end_of (with_answer round answer)) all (Same (with_answer round answer)))
        here None = put answer
        here (Some answers) = last answer answers

-- and of the step by a message, where it is true of an item that is gone
step-cases :
    (P : Step → Type 0) (round : RoundState) (message : Message) → P (Gone round.items) → P (Same round)
    → ((answer : ReadVersion) → P (Same (with_answer round answer)))
    → ((answer : ReadVersion) (answers : List ReadVersion) → P (end_of (with_answer round answer) answers))
    → P (stepped round message)
step-cases P round message gone same put last = by (is_gone round message)
  where
    by : (b : Bool) → P (if b then Gone round.items else taken round message)
    by true = gone
    by false = taken-cases P round message same put last

-- the step is no end of the read
abbrev IsNotDone : Step → Type 0
IsNotDone (Same round) = Unit {0}
IsNotDone (Next round gets) = Unit {0}
IsNotDone (Done answers) = ⊥
IsNotDone (Gone items) = Unit {0}

-- the step asks no more
abbrev AsksNoMore : Step → Type 0
AsksNoMore (Same round) = Unit {0}
AsksNoMore (Next round gets) = ⊥
AsksNoMore (Done answers) = Unit {0}
AsksNoMore (Gone items) = Unit {0}

pub first-not_done :
    (round : RoundState) (message : Message) (answers : List ReadVersion)
    → round.stamps ≡ None → stepped round message ≢ Done answers
first-not_done round message answers first e =
    subst IsNotDone e (step-cases IsNotDone round message tt tt (λ a. tt)
    (λ a all. subst (λ (o : Option (List ℕ)). IsNotDone (end_by o (with_answer round a) all)) (sym first) tt))

-- the step is not that an item is gone
abbrev IsNotGone : Step → Type 0
IsNotGone (Same round) = Unit {0}
IsNotGone (Next round gets) = Unit {0}
IsNotGone (Done answers) = Unit {0}
IsNotGone (Gone items) = ⊥

taken-not_gone : (round : RoundState) (message : Message) → IsNotGone (taken round message)
taken-not_gone round message =
    taken-cases IsNotGone round message tt (λ a. tt) (λ a all. by round.stamps (with_answer round a) all)
  where
    by : (o : Option (List ℕ)) (now : RoundState) (all : List ReadVersion) → IsNotGone (end_by o now all)
    by None now all = tt
    by (Some stamps) now all = tt

-- a read ends so only where the message says it
pub gone-is_gone :
    (round : RoundState) (message : Message) (items : List ℕ)
    → stepped round message ≡ Gone items → (items ≡ round.items) × (is_gone round message ≡ true)
gone-is_gone round message items e = by (is_gone round message) e
  where
    by :
        (b : Bool) → (if b then Gone round.items else taken round message) ≡ Gone items
        → (items ≡ round.items) × (b ≡ true)
    by true f = (cc, refl)
    by false f = absurd (subst IsNotGone f (taken-not_gone round message))

pub first-not_gone :
    (round : RoundState) (message : Message) (items : List ℕ)
    → round.stamps ≡ None → stepped round message ≢ Gone items
first-not_gone round message items first e =
    false≢true (sym (is_gone-early round message first) ∙ (gone-is_gone round message items e).1)

pub second-asks_no_more :
    (round next : RoundState) (stamps : List ℕ) (message : Message) (gets : List Message)
    → round.stamps ≡ Some stamps → stepped round message ≢ Next next gets
second-asks_no_more round next stamps message gets second e =
    subst AsksNoMore e (step-cases AsksNoMore round message tt tt (λ a. tt)
    (λ a all. subst (λ (o : Option (List ℕ)). AsksNoMore (end_by o (with_answer round a) all)) (sym second) tt))

-- the step by the last reply is the outcome, where the round doesn't wait and no item is gone
ended :
    (round : RoundState) (replies : List Message) (message : Message) (step : Step)
    → ((next : RoundState) → step ≢ Same next) → ((items : List ℕ) → step ≢ Gone items)
    → stepped (after_replies round replies) message ≡ step
    → outcome (after_replies round (replies ++ message ∷ [])) ≡ step
ended round replies message step ends there e =
    by (is_gone (after_replies round replies) message) (sym (stepped-after_replies round replies message) ∙ e)
  where
    next : RoundState
    next = after_replies round (replies ++ message ∷ [])

    go : (b : Bool) → (if b then Same next else outcome next) ≡ step → outcome next ≡ step
    go true f = absurd (ends next (sym f))
    go false f = f

    by : (b : Bool) → (if b then Gone round.items else taken_after round replies message) ≡ step → outcome next ≡ step
    by true f = absurd (there round.items (sym f))
    by false f = go (is_some (all_answers round.asker replies round.items)) f

pub next-asks_all :
    (round next : RoundState) (replies : List Message) (message : Message) (gets : List Message) (answers : List ReadVersion)
    → all_answers round.asker (replies ++ message ∷ []) round.items ≡ Some answers
    → stepped (after_replies round replies) message ≡ Next next gets
    → gets ≡ gets_of (next_asker round.asker) (stamps_of answers) round.items
next-asks_all round next replies message gets answers whole_too e =
    by round.stamps (
    sym (ap (λ (o : Option (List ReadVersion)). option_map_or (end_of now) o (Same now)) whole_too)
    ∙ ended round replies message (Next next gets) (λ n f. absurd (cc)) (λ n f. absurd (cc)) e
    )
  where
    now : RoundState
    now = after_replies round (replies ++ message ∷ [])

    by : (o : Option (List ℕ)) → end_by o now answers ≡ Next next gets → gets ≡ gets_of (next_asker round.asker) (stamps_of answers) round.items
    by None f = ap gets_in (sym f)
      where
        gets_in : Step → List Message
        gets_in (Same r) = gets
        gets_in (Next r messages) = messages
        gets_in (Done all) = gets
        gets_in (Gone items) = gets
    by (Some stamps) f = absurd (cc)

pub done-is_read :
    (round : RoundState) (replies : List Message) (message : Message) (answers : List ReadVersion)
    → stepped (after_replies round replies) message ≡ Done answers
    → all_answers round.asker (replies ++ message ∷ []) round.items ≡ Some answers
done-is_read round replies message answers e =
    go (all_answers round.asker (replies ++ message ∷ []) round.items) refl
    (ended round replies message (Done answers) (λ n f. absurd (cc)) (λ n f. absurd (cc)) e)
  where
    now : RoundState
    now = after_replies round (replies ++ message ∷ [])

    by : (o : Option (List ℕ)) (all : List ReadVersion) → end_by o now all ≡ Done answers → all ≡ answers
    by None all f = absurd (cc)
    by (Some stamps) all f = cc

    go :
        (o : Option (List ReadVersion)) → all_answers round.asker (replies ++ message ∷ []) round.items ≡ o
        → option_map_or (end_of now) o (Same now) ≡ Done answers → o ≡ Some answers
    go None f g = absurd (cc)
    go (Some all) f g = ap (λ (found : List ReadVersion). Some found) (by round.stamps all g)

-- an answer has the asker's tag
answer_in-tag :
    (asker : Asker) (message : Message) (answer : ReadVersion)
    → answer_in asker message ≡ Some answer → message.tag ≡ asker.tag
answer_in-tag asker message answer e = go (body_version message.body) e
  where
    go : (o : Option ReadVersion) → option_and_then (if_answer asker message) o ≡ Some answer → message.tag ≡ asker.tag
    go None f = absurd (cc)
    go (Some version) f = here (is_answer asker message version.item) refl f
      where
        here :
            (b : Bool) → is_answer asker message version.item ≡ b
            → (if b then Some version else None) ≡ Some answer → message.tag ≡ asker.tag
        here true g h = eqb-true message.tag asker.tag (and_parts _ _ (and_parts _ _ g).0).0
        here false g h = absurd (cc)

pub new_answer-late :
    (round : RoundState) (stamps : List ℕ) (message : Message) (answer : ReadVersion)
    → answer_in round.asker message ≡ Some answer → new_answer (second_round round stamps) message ≡ None
new_answer-late round stamps message answer e =
    new_answer-other (second_round round stamps) message
    (OtherTag (λ (same : message.tag ≡ round.asker.tag + 1).
    let tag = answer_in-tag round.asker message answer e in omega (arith, tag)))
