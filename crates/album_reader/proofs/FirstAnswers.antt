-- What replies change in a round, for the laws on what it depends on (`stepped-after_replies`,
-- `stepped_all-after_replies`) and on what was read (`items_read-whole`, `version_read-whole`).
use Rattle.std.proofs.Common.{◌≡◌, ℕ, suc, ◌+◌, ◌<◌, Bool, true, false, not, ◌&&◌, ◌||◌, ◌==◌, List, [], ◌∷◌, ◌++◌, length, map, get_or, drop, add-one, drop-cons, Option, Some, None, is_some, refl, sym, ap, ◌∙◌, Contains, if◌then◌else◌, arith}
use Rattle.std.specs.Prelude.{find, option_map, option_and_then}
use Rattle.std.specs.List.{filter_map}
use Rattle.std.specs.Option.{option_or, option_map_or}
use Rattle.std.proofs.lemmas.Bool.{eqb-true, eq-eqb, or_parts, or_left, or_right, or_from, and_parts, and_right}
use Rattle.std.proofs.lemmas.Bool.Decides.{nat_tests}
use Rattle.std.proofs.lemmas.List.{append-nil, append_assoc}
use Rattle.std.proofs.lemmas.List.Elements.{filter_map-append, at_from_Contains}
use Rattle.std.proofs.lemmas.List.Folds.{find-append, list_any_at}
use Rattle.album_calls.specs.declared.messages.Message.{Message}
use Rattle.album_reader.specs.Answers.{Asker, ReadVersion, body_gone, is_answer, answer_in, answers_in, first_answer, answers_there, are_there, whole, all_answers}
use Rattle.album_reader.specs.Rounds.{RoundState, Step, has_item, has_answer, if_lacking, put_answer, with_answer, end_by, end_of, outcome, lacks, is_gone, taken, stepped, after_replies, taken_after, step_after, open_step_after, goes, and_then, stepped_all}
use Rattle.album_reader.specs.Rounds.Step.{Same, Gone}
use Rattle.album_reader.specs.Snapshots.{items_read, version_of, version_read}

or_none : (o : Option ReadVersion) → option_or o None ≡ o
or_none None = refl
or_none (Some answer) = refl

-- the answer at the index is the first of those from there on
pub drop-next :
    (answers : List (Option ReadVersion)) (index : ℕ) (answer : Option ReadVersion)
    → index < length answers → answer ≡ get_or answers index answer
    → drop index answers ≡ answer ∷ drop (index + 1) answers
drop-next answers index answer inside e =
    rw add-one (drop-cons answers index answer inside ∙ ap (λ (o : Option ReadVersion). o ∷ drop (suc index) answers) (sym e))

-- what is found for an item is of this item
find-item :
    (answers : List ReadVersion) (item : ℕ) (answer : ReadVersion)
    → find (λ a. a.item == item) answers ≡ Some answer → answer.item ≡ item
find-item [] item answer e = absurd (cc)
find-item (first ∷ answers) item answer e = go (first.item == item) refl (find-item answers item answer) e
  where
    go :
        (b :
        Bool) → (first.item == item) ≡ b → (find (λ a. a.item == item) answers ≡ Some answer
        → answer.item ≡ item)
        → (if b then Some first else find (λ a. a.item == item) answers) ≡ Some answer → answer.item ≡ item
    go true f later g = let same : first ≡ answer = cc in sym (ap (λ (a : ReadVersion). a.item) same) ∙ eqb-true first.item item f
    go false f later g = later g

-- ---- more replies

module _ (asker : Asker) where
  pub first_answer-item :
      (replies : List Message) (item : ℕ) (answer : ReadVersion)
      → first_answer asker replies item ≡ Some answer → answer.item ≡ item
  first_answer-item replies item answer e = find-item (answers_in asker replies) item answer e

  first_answer-append :
      (replies more : List Message) (item : ℕ)
      → first_answer asker (replies ++ more) item
      ≡ option_or (first_answer asker replies item) (first_answer asker more item)
  first_answer-append replies more item =
      ap (find (λ a. a.item == item)) (filter_map-append (answer_in asker) replies more)
      ∙ find-append (λ a. a.item == item) (answers_in asker replies) (answers_in asker more)

  -- the first answer stays
  first_answer-stays :
      (replies more : List Message) (item : ℕ)
      → is_some (first_answer asker replies item) ≡ true
      → first_answer asker (replies ++ more) item ≡ first_answer asker replies item
  first_answer-stays replies more item there =
      first_answer-append replies more item ∙ go (first_answer asker replies item) there
    where
      go : (o : Option ReadVersion) → is_some o ≡ true → option_or o (first_answer asker more item) ≡ o
      go None e = absurd (cc)
      go (Some answer) e = refl

  -- what has nothing of the item changes nothing
  first_answer-none :
      (replies more : List Message) (item : ℕ)
      → first_answer asker more item ≡ None
      → first_answer asker (replies ++ more) item ≡ first_answer asker replies item
  first_answer-none replies more item none =
      first_answer-append replies more item
      ∙ ap (option_or (first_answer asker replies item)) none
      ∙ or_none (first_answer asker replies item)

  -- all the items have their answers already
  map-stays :
      (replies more : List Message) (items : List ℕ)
      → are_there (map (first_answer asker replies) items) ≡ true
      → map (first_answer asker (replies ++ more)) items ≡ map (first_answer asker replies) items
  map-stays replies more [] there = refl
  map-stays replies more (item ∷ items) there =
      let parts = and_parts _ _ there in
      ap (λ (o : Option ReadVersion). o ∷ map (first_answer asker (replies ++ more)) items)
      (first_answer-stays replies more item parts.0)
      ∙ ap (λ (os : List (Option ReadVersion)). first_answer asker replies item ∷ os) (map-stays replies more items parts.1)

  -- ---- one reply more

  module _ (replies : List Message) (message : Message) where
    first_answer-one :
        (answer : ReadVersion) (item : ℕ)
        → answer_in asker message ≡ Some answer
        → first_answer asker (message ∷ []) item ≡ (if answer.item == item then Some answer else None)
    first_answer-one answer item e =
        ap (λ (o : Option ReadVersion). find (λ a. a.item == item) (filter_map (λ (x : Option ReadVersion). x) (o ∷ []))) e

    -- it answers nothing
    map-none :
        (items : List ℕ)
        → answer_in asker message ≡ None
        → map (first_answer asker (replies ++ message ∷ [])) items ≡ map (first_answer asker replies) items
    map-none [] none = refl
    map-none (item ∷ items) none =
        let nothing : first_answer asker (message ∷ []) item ≡ None =
        ap (λ (o : Option ReadVersion). find (λ a. a.item == item) (filter_map (λ (x : Option ReadVersion). x) (o ∷ []))) none in
        ap (λ (o : Option ReadVersion). o ∷ map (first_answer asker (replies ++ message ∷ [])) items)
        (first_answer-none replies (message ∷ []) item nothing)
        ∙ ap (λ (os : List (Option ReadVersion)). first_answer asker replies item ∷ os) (map-none items none)

    module _ (answer : ReadVersion) (carries : answer_in asker message ≡ Some answer) where
      -- an item that it isn't of, or that has an answer
      one-same :
          (item : ℕ)
          → ((answer.item == item) ≡ true → is_some (first_answer asker replies item) ≡ true)
          → first_answer asker (replies ++ message ∷ []) item ≡ first_answer asker replies item
      one-same item answered = go (answer.item == item) refl
        where
          go :
              (b : Bool)
              → (answer.item == item) ≡ b
              → first_answer asker (replies ++ message ∷ []) item ≡ first_answer asker replies item
          go true e = first_answer-stays replies (message ∷ []) item (answered e)
          go false e =
              first_answer-none replies (message ∷ []) item
              (first_answer-one answer item carries ∙ ap (λ (b : Bool). if b then Some answer else None) e)

      -- it is of none of the items
      map-absent :
          (items : List ℕ)
          → has_item items answer.item ≡ false
          → map (first_answer asker (replies ++ message ∷ [])) items ≡ map (first_answer asker replies) items
      map-absent [] absent = refl
      map-absent (item ∷ items) absent =
          let parts = or_parts _ _ absent in
          let apart : (answer.item == item) ≡ false = parts.0 in
          ap (λ (o : Option ReadVersion). o ∷ map (first_answer asker (replies ++ message ∷ [])) items)
          (one-same item (λ same. absurd (cc)))
          ∙ ap (λ (os : List (Option ReadVersion)). first_answer asker replies item ∷ os) (map-absent items parts.1)

      -- the item that it is of has an answer
      answered :
          (items : List ℕ)
          → has_answer (answers_there (map (first_answer asker replies) items)) answer.item ≡ true
          → is_some (first_answer asker replies answer.item) ≡ true
      answered [] e = absurd (cc)
      answered (item ∷ items) e = go (first_answer asker replies item) refl e (answered items)
        where
          go :
              (o : Option ReadVersion) → first_answer asker replies item ≡ o
              → has_answer (answers_there (o ∷ map (first_answer asker replies) items)) answer.item ≡ true
              → (has_answer (answers_there (map (first_answer asker replies) items)) answer.item ≡ true
              → is_some (first_answer asker replies answer.item) ≡ true)
              → is_some (first_answer asker replies answer.item) ≡ true
          go None f g later = later g
          go (Some old) f g later = here (old.item == answer.item) refl g
            where
              here :
                  (b : Bool) → (old.item == answer.item) ≡ b
                  → (b || has_answer (answers_there (map (first_answer asker replies) items)) answer.item) ≡ true
                  → is_some (first_answer asker replies answer.item) ≡ true
              here true h k =
                  let own : old.item ≡ item = first_answer-item replies item old f in
                  let same : item ≡ answer.item = sym own ∙ eqb-true old.item answer.item h in
                  ap (λ (n : ℕ). is_some (first_answer asker replies n)) (sym same) ∙ ap (λ (p : Option ReadVersion). is_some p) f
              here false h k = later k

      map-answered :
          (items : List ℕ)
          → is_some (first_answer asker replies answer.item) ≡ true
          → map (first_answer asker (replies ++ message ∷ [])) items ≡ map (first_answer asker replies) items
      map-answered [] there = refl
      map-answered (item ∷ items) there =
          ap (λ (o : Option ReadVersion). o ∷ map (first_answer asker (replies ++ message ∷ [])) items)
          (one-same item (λ same. ap (λ (n : ℕ). is_some (first_answer asker replies n)) (sym (eqb-true answer.item item same)) ∙ there))
          ∙ ap (λ (os : List (Option ReadVersion)). first_answer asker replies item ∷ os) (map-answered items there)

      -- it is of an item that has none
      map-new :
          (items : List ℕ)
          → has_answer (answers_there (map (first_answer asker replies) items)) answer.item ≡ false
          → put_answer answer items (map (first_answer asker replies) items)
          ≡ map (first_answer asker (replies ++ message ∷ [])) items
      map-new [] free = refl
      map-new (item ∷ items) free = go (first_answer asker replies item) refl free (map-new items)
        where
          go :
              (o : Option ReadVersion) → first_answer asker replies item ≡ o
              → has_answer (answers_there (o ∷ map (first_answer asker replies) items)) answer.item ≡ false
              → (has_answer (answers_there (map (first_answer asker replies) items)) answer.item ≡ false
              → put_answer answer items (map (first_answer asker replies) items)
              ≡ map (first_answer asker (replies ++ message ∷ [])) items)
              → put_answer answer (item ∷ items) (o ∷ map (first_answer asker replies) items)
              ≡ map (first_answer asker (replies ++ message ∷ [])) (item ∷ items)
          go None f g later =
              let head : first_answer asker (replies ++ message ∷ []) item
              ≡ (if answer.item == item then Some answer else None) =
              first_answer-append replies (message ∷ []) item
              ∙ ap (λ (p : Option ReadVersion). option_or p (first_answer asker (message ∷ []) item)) f
              ∙ first_answer-one answer item carries in
              ap (λ (p : Option ReadVersion). p ∷ put_answer answer items (map (first_answer asker replies) items)) (sym head)
              ∙ ap (λ (os : List (Option ReadVersion)). first_answer asker (replies ++ message ∷ []) item ∷ os) (later g)
          go (Some old) f g later =
              let parts = or_parts _ _ g in
              let own : old.item ≡ item = first_answer-item replies item old f in
              let other : (old.item == answer.item) ≡ false = parts.0 in
              let apart : (answer.item == item) ≡ false = grind (arith, nat_tests, own, other) in
              let head : first_answer asker (replies ++ message ∷ []) item ≡ Some old =
              first_answer-stays replies (message ∷ []) item (ap (λ (p : Option ReadVersion). is_some p) f) ∙ f in
              ap (λ (b : Bool).
              (if b then Some answer else Some old) ∷ put_answer answer items (map (first_answer asker replies) items)) apart
              ∙ ap (λ (p : Option ReadVersion). p ∷ put_answer answer items (map (first_answer asker replies) items)) (sym head)
              ∙ ap (λ (os : List (Option ReadVersion)). first_answer asker (replies ++ message ∷ []) item ∷ os) (later parts.1)

      -- then not all were there
      not_whole :
          (items : List ℕ)
          → has_item items answer.item ≡ true
          → has_answer (answers_there (map (first_answer asker replies) items)) answer.item ≡ false
          → are_there (map (first_answer asker replies) items) ≡ false
      not_whole [] asked free = absurd (cc)
      not_whole (item ∷ items) asked free = go (first_answer asker replies item) refl asked free (not_whole items)
        where
          go :
              (o : Option ReadVersion) → first_answer asker replies item ≡ o
              → has_item (item ∷ items) answer.item ≡ true
              → has_answer (answers_there (o ∷ map (first_answer asker replies) items)) answer.item ≡ false
              → (has_item items answer.item ≡ true
              → has_answer (answers_there (map (first_answer asker replies) items)) answer.item ≡ false
              → are_there (map (first_answer asker replies) items) ≡ false)
              → are_there (o ∷ map (first_answer asker replies) items) ≡ false
          go None f g h later = refl
          go (Some old) f g h later =
              let parts = or_parts _ _ h in
              let own : old.item ≡ item = first_answer-item replies item old f in
              let other : (old.item == answer.item) ≡ false = parts.0 in
              let apart : (answer.item == item) ≡ false = grind (arith, nat_tests, own, other) in
              let asked_too : has_item items answer.item ≡ true =
              sym (ap (λ (b : Bool). b || has_item items answer.item) apart) ∙ g in
              later asked_too parts.1

-- ---- the round

-- the round with these answers
abbrev with_these : RoundState → List (Option ReadVersion) → RoundState
with_these round answers = record round { answers = answers }

whole-parts :
    (answers : List (Option ReadVersion)) (all : List ReadVersion)
    → whole answers ≡ Some all → (are_there answers ≡ true) × (answers_there answers ≡ all)
whole-parts answers all e = go (are_there answers) refl e
  where
    go :
        (b : Bool) → are_there answers ≡ b → (if b then Some (answers_there answers) else None) ≡ Some all
        → (are_there answers ≡ true) × (answers_there answers ≡ all)
    go true f g = (f, cc)
    go false f g = absurd (cc)

-- a round in which nothing changed makes no step, whether it is over or not
settled :
    (round : RoundState)
    → (if is_some (whole round.answers) then Same round else outcome round) ≡ Same round
settled round = go (whole round.answers)
  where
    go :
        (o : Option (List ReadVersion))
        → (if is_some o then Same round else option_map_or (end_of round) o (Same round)) ≡ Same round
    go None = refl
    go (Some all) = refl

module _ (round : RoundState) (replies : List Message) (message : Message) where
  same_after :
      map (first_answer round.asker (replies ++ message ∷ [])) round.items
      ≡ map (first_answer round.asker replies) round.items
      → Same (after_replies round replies) ≡ taken_after round replies message
  same_after e = sym (
      ap (λ (os : List (Option ReadVersion)).
      if is_some (all_answers round.asker replies round.items) then Same (with_these round os) else outcome (with_these round os)) e
      ∙ settled (after_replies round replies)
      )

  new_after :
      (answer : ReadVersion) → answer_in round.asker message ≡ Some answer
      → has_item round.items answer.item ≡ true
      → has_answer (answers_there (map (first_answer round.asker replies) round.items)) answer.item ≡ false
      → outcome (with_answer (after_replies round replies) answer) ≡ taken_after round replies message
  new_after answer carries asked free =
      ap (λ (os : List (Option ReadVersion)). outcome (with_these round os))
      (map-new round.asker replies message answer carries round.items free)
      ∙ sym (
      ap (λ (b : Bool).
      if is_some (if b then Some (answers_there (map (first_answer round.asker replies) round.items)) else None)
      then Same (after_replies round (replies ++ message ∷ []))
      else outcome (after_replies round (replies ++ message ∷ [])))
      (not_whole round.asker replies message answer carries round.items asked free)
      )

  -- the step by a version is the step by all the replies with it
  taken-after_replies : taken (after_replies round replies) message ≡ taken_after round replies message
  taken-after_replies = go (answer_in round.asker message) refl
    where
      go :
          (o : Option ReadVersion) → answer_in round.asker message ≡ o
          → option_map_or (λ (a : ReadVersion). outcome (with_answer (after_replies round replies) a))
          (option_and_then (if_lacking (after_replies round replies)) o) (Same (after_replies round replies))
          ≡ taken_after round replies message
      go None e = same_after (map-none round.asker replies message round.items e)
      go (Some answer) e = here (has_item round.items answer.item) refl
          (has_answer (answers_there (map (first_answer round.asker replies) round.items)) answer.item) refl
        where
          here :
              (b : Bool) → has_item round.items answer.item ≡ b
              → (c : Bool) → has_answer (answers_there (map (first_answer round.asker replies) round.items)) answer.item ≡ c
              → option_map_or (λ (a : ReadVersion). outcome (with_answer (after_replies round replies) a))
              (if b && not c then Some answer else None) (Same (after_replies round replies))
              ≡ taken_after round replies message
          here true f true g =
              same_after (map-answered round.asker replies message answer e round.items
              (answered round.asker replies message answer e round.items g))
          here true f false g = new_after answer e f g
          here false f c g = same_after (map-absent round.asker replies message answer e round.items f)

  -- the step by a message is the step by all the replies with it
  pub stepped-after_replies : stepped (after_replies round replies) message ≡ step_after round replies message
  stepped-after_replies =
      ap (λ (step : Step). if is_gone (after_replies round replies) message then Gone round.items else step)
      taken-after_replies

end-stays :
    (on : RoundState → Step) (stamps : Option (List ℕ)) (round : RoundState) (answers : List ReadVersion)
    → and_then on (end_by stamps round answers) ≡ end_by stamps round answers
end-stays on None round answers = refl
end-stays on (Some stamps) round answers = refl

-- ---- items that are gone

-- an item that was asked has an answer where each has
there-has :
    (asker : Asker) (replies : List Message) (items : List ℕ) (item : ℕ)
    → are_there (map (first_answer asker replies) items) ≡ true → has_item items item ≡ true
    → has_answer (answers_there (map (first_answer asker replies) items)) item ≡ true
there-has asker replies [] item there asked = absurd (cc)
there-has asker replies (first ∷ items) item there asked =
    go (first_answer asker replies first) refl there (item == first) refl asked (there-has asker replies items item)
  where
    go :
        (o : Option ReadVersion) → first_answer asker replies first ≡ o
        → are_there (o ∷ map (first_answer asker replies) items) ≡ true
        → (b : Bool) → (item == first) ≡ b → (b || has_item items item) ≡ true
        → (are_there (map (first_answer asker replies) items) ≡ true → has_item items item ≡ true
        → has_answer (answers_there (map (first_answer asker replies) items)) item ≡ true)
        → has_answer (answers_there (o ∷ map (first_answer asker replies) items)) item ≡ true
    go None e f b g h later = absurd (cc)
    go (Some answer) e f true g h later =
        let own : answer.item ≡ first = first_answer-item asker replies first answer e in
        let same : item ≡ first = eqb-true item first g in
        let found : (answer.item == item) ≡ true = grind (arith, nat_tests, own, same) in
        or_left _ _ found
    go (Some answer) e f false g h later = or_right _ _ (later f h)

-- nothing is lacking then
whole-lacks :
    (round : RoundState) (replies : List Message) (item : ℕ)
    → are_there (map (first_answer round.asker replies) round.items) ≡ true
    → lacks (after_replies round replies) item ≡ false
whole-lacks round replies item there = go (has_item round.items item) refl
  where
    go :
        (b : Bool) → has_item round.items item ≡ b
        → (b && not (has_answer (answers_there (map (first_answer round.asker replies) round.items)) item)) ≡ false
    go true e = ap not (there-has round.asker replies round.items item there e)
    go false e = refl

-- and nothing that comes ends the read
whole-not_gone :
    (round : RoundState) (replies : List Message) (message : Message)
    → are_there (map (first_answer round.asker replies) round.items) ≡ true
    → is_gone (after_replies round replies) message ≡ false
whole-not_gone round replies message there = and_right (is_some round.stamps) _ (go (body_gone message.body))
  where
    go :
        (o : Option ℕ)
        → option_map_or (λ item. is_answer round.asker message item && lacks (after_replies round replies) item) o false
        ≡ false
    go None = refl
    go (Some item) = and_right (is_answer round.asker message item) _ (whole-lacks round replies item there)

whole-goes :
    (round : RoundState) (more replies : List Message)
    → are_there (map (first_answer round.asker replies) round.items) ≡ true
    → goes round replies more ≡ false
whole-goes round [] replies there = refl
whole-goes round (message ∷ more) replies there =
    or_from _ _ (whole-not_gone round replies message there)
    (whole-goes round more (replies ++ message ∷ [])
    (ap are_there (map-stays round.asker replies (message ∷ []) round.items there) ∙ there))

-- the step by replies one after another is the step by all together
pub stepped_all-after_replies :
    (round : RoundState) (more replies : List Message)
    → all_answers round.asker replies round.items ≡ None
    → stepped_all (after_replies round replies) more
    ≡ (if goes round replies more then Gone round.items else outcome (after_replies round (replies ++ more)))
stepped_all-after_replies round [] replies none = sym (
    ap (λ (ms : List Message). outcome (after_replies round ms)) (append-nil replies)
    ∙ ap (λ (o : Option (List ReadVersion)).
    option_map_or (end_of (after_replies round replies)) o (Same (after_replies round replies))) none
    )
stepped_all-after_replies round (message ∷ more) replies none =
    ap (and_then (λ next. stepped_all next more)) (
    stepped-after_replies round replies message
    ∙ ap (λ (o : Option (List ReadVersion)).
    if is_gone (after_replies round replies) message then Gone round.items
    else if is_some o then Same next else outcome next) none
    )
    ∙ by (is_gone (after_replies round replies) message) (stepped_all-after_replies round more (replies ++ message ∷ []))
  where
    next : RoundState
    next = after_replies round (replies ++ message ∷ [])

    -- the replies so far, and those that are left
    rest : Bool → Step
    rest gone = if gone then Gone round.items else outcome (after_replies round (replies ++ message ∷ more))

    go :
        (o : Option (List ReadVersion)) → whole next.answers ≡ o
        → (whole next.answers ≡ None
        → stepped_all next more
        ≡ (if goes round (replies ++ message ∷ []) more then Gone round.items
        else outcome (after_replies round ((replies ++ message ∷ []) ++ more))))
        → and_then (λ r. stepped_all r more) (outcome next) ≡ rest (goes round (replies ++ message ∷ []) more)
    go None e later =
        ap (λ (o : Option (List ReadVersion)). and_then (λ r. stepped_all r more) (option_map_or (end_of next) o (Same next))) e
        ∙ later e
        ∙ ap (λ (ms : List Message).
        if goes round (replies ++ message ∷ []) more then Gone round.items else outcome (after_replies round ms))
        (append_assoc replies (message ∷ []) more)
    go (Some all) e later =
        let parts = whole-parts next.answers all e in
        let same : map (first_answer round.asker (replies ++ message ∷ more)) round.items ≡ next.answers =
        ap (λ (ms : List Message). map (first_answer round.asker ms) round.items)
        (sym (append_assoc replies (message ∷ []) more))
        ∙ map-stays round.asker (replies ++ message ∷ []) more round.items parts.0 in
        ap (λ (o : Option (List ReadVersion)). and_then (λ r. stepped_all r more) (option_map_or (end_of next) o (Same next))) e
        ∙ end-stays (λ r. stepped_all r more) round.stamps next all
        ∙ sym (
        ap rest (whole-goes round more (replies ++ message ∷ []) parts.0)
        ∙ ap (λ (os : List (Option ReadVersion)). outcome (with_these round os)) same
        ∙ ap (λ (o : Option (List ReadVersion)). option_map_or (end_of next) o (Same next)) e
        )

    by :
        (gone : Bool)
        → (whole next.answers ≡ None
        → stepped_all next more
        ≡ (if goes round (replies ++ message ∷ []) more then Gone round.items
        else outcome (after_replies round ((replies ++ message ∷ []) ++ more))))
        → and_then (λ r. stepped_all r more) (if gone then Gone round.items else outcome next)
        ≡ rest (gone || goes round (replies ++ message ∷ []) more)
    by true later = refl
    by false later = go (whole next.answers) refl later

-- the step by a message in a round that is not over, once these replies were given in it
pub stepped-lacking :
    (round : RoundState) (message : Message) (replies : List Message)
    → are_there round.answers ≡ false → round ≡ after_replies round replies
    → stepped round message ≡ open_step_after round replies message
stepped-lacking round message replies lacking same =
    ap (λ (r : RoundState). stepped r message) same
    ∙ stepped-after_replies round replies message
    ∙ ap (λ (b : Bool).
    if is_gone (after_replies round replies) message then Gone round.items
    else if is_some (if b then Some (answers_there (map (first_answer round.asker replies) round.items)) else None)
    then Same (after_replies round (replies ++ message ∷ []))
    else outcome (after_replies round (replies ++ message ∷ [])))
    (sym (ap (λ (r : RoundState). are_there r.answers) same) ∙ lacking)

-- ---- what was read

module _ (asker : Asker) (replies : List Message) where
  items_read-there :
      (items : List ℕ) → are_there (map (first_answer asker replies) items) ≡ true
      → items_read (answers_there (map (first_answer asker replies) items)) ≡ items
  items_read-there [] there = refl
  items_read-there (item ∷ items) there = go (first_answer asker replies item) refl there (items_read-there items)
    where
      go :
          (o : Option ReadVersion) → first_answer asker replies item ≡ o
          → are_there (o ∷ map (first_answer asker replies) items) ≡ true
          → (are_there (map (first_answer asker replies) items) ≡ true
          → items_read (answers_there (map (first_answer asker replies) items)) ≡ items)
          → items_read (answers_there (o ∷ map (first_answer asker replies) items)) ≡ item ∷ items
      go None e f later = absurd (cc)
      go (Some answer) e f later =
          ap (λ (n : ℕ). n ∷ items_read (answers_there (map (first_answer asker replies) items)))
          (first_answer-item asker replies item answer e)
          ∙ ap (λ (ns : List ℕ). item ∷ ns) (later f)

  find-there :
      (items :
      List ℕ) (item : ℕ) → are_there (map (first_answer asker replies) items) ≡ true → has_item items item ≡ true
      → find (λ a. a.item == item) (answers_there (map (first_answer asker replies) items))
      ≡ first_answer asker replies item
  find-there [] item there asked = absurd (cc)
  find-there (first ∷ items) item there asked =
      go (first_answer asker replies first) refl there (item == first) refl asked (find-there items item)
    where
      go :
          (o : Option ReadVersion) → first_answer asker replies first ≡ o
          → are_there (o ∷ map (first_answer asker replies) items) ≡ true
          → (b : Bool) → (item == first) ≡ b → (b || has_item items item) ≡ true
          → (are_there (map (first_answer asker replies) items) ≡ true → has_item items item ≡ true
          → find (λ a. a.item == item) (answers_there (map (first_answer asker replies) items))
          ≡ first_answer asker replies item)
          → find (λ a. a.item == item) (answers_there (o ∷ map (first_answer asker replies) items))
          ≡ first_answer asker replies item
      go None e f b g h later = absurd (cc)
      go (Some answer) e f true g h later =
          let own : answer.item ≡ first = first_answer-item asker replies first answer e in
          let same : item ≡ first = eqb-true item first g in
          let found : (answer.item == item) ≡ true = grind (arith, nat_tests, own, same) in
          ap (λ (b : Bool).
          if b then Some answer else find (λ a. a.item == item) (answers_there (map (first_answer asker replies) items))) found
          ∙ sym e
          ∙ ap (first_answer asker replies) (sym same)
      go (Some answer) e f false g h later =
          let own : answer.item ≡ first = first_answer-item asker replies first answer e in
          let apart : (answer.item == item) ≡ false = grind (arith, nat_tests, own, g) in
          ap (λ (b : Bool).
          if b then Some answer else find (λ a. a.item == item) (answers_there (map (first_answer asker replies) items))) apart
          ∙ later f h

  pub items_read-whole :
      (items : List ℕ) (answers : List ReadVersion)
      → all_answers asker replies items ≡ Some answers → items_read answers ≡ items
  items_read-whole items answers e =
      let parts = whole-parts (map (first_answer asker replies) items) answers e in
      ap items_read (sym parts.1) ∙ items_read-there items parts.0

  pub version_read-whole :
      (items : List ℕ) (answers : List ReadVersion)
      → all_answers asker replies items ≡ Some answers → (item : ℕ) → Contains items item
      → version_read answers item ≡ option_map version_of (first_answer asker replies item)
  version_read-whole items answers e item there =
      let parts = whole-parts (map (first_answer asker replies) items) answers e in
      let (at, inside, here) = at_from_Contains items item there in
      let asked : has_item items item ≡ true =
      list_any_at (λ (other : ℕ). item == other) items at 0 inside (ap (λ (n : ℕ). item == n) (here 0) ∙ eq-eqb item item refl) in
      ap (λ (all : List ReadVersion). option_map version_of (find (λ a. a.item == item) all)) (sym parts.1)
      ∙ ap (option_map version_of) (find-there items item parts.0 asked)
