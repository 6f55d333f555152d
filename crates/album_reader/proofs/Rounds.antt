-- What keeps a round in order, for `Round::take` (`put_answer-set`, `lacks-free`, `lacks-taken`), for `Round::snapshot`
-- (`items_read-in_order`) and for what a reading is at each time (`first_open`, `stepped-open`).
use Rattle.std.proofs.Common.{◌≡◌, ℕ, zero, suc, ◌+◌, ◌<◌, ◌≤◌, ◌^◌, Bool, true, false, not, ◌&&◌, ◌==◌, List, [], ◌∷◌, length, Option, Some, None, is_some, get_or, set, position, refl, sym, ap, subst, AllPairs, ◌∙◌, if◌then◌else◌, arith}
use Rattle.std.specs.Option.{option_map_or}
use Rattle.std.proofs.lemmas.Bool.{and_parts, and_from, and_right, eqb-true, eq-eqb, not-true, or_parts, or_left, or_right, or_from}
use Rattle.std.proofs.lemmas.Bool.Decides.{nat_tests}
use Rattle.std.proofs.lemmas.List.Quantifiers.{position-Some}
use Rattle.std.proofs.lemmas.Option.{same_Some}
use Rattle.album_stamps.specs.Distinct.{are_distinct}
use Rattle.album_stamps.specs.declared.limits.TheConstants.{MAX_READ_ITEMS}
use Rattle.album_calls.specs.declared.messages.Message.{Message}
use Rattle.album_reader.specs.Answers.{Asker, ReadVersion, answers_there, are_there}
use Rattle.album_reader.specs.Rounds.{RoundState, no_answers, first_round, has_item, has_answer, lacks, new_answer, put_answer, with_answer, end_by, end_of, outcome, taken, is_gone, stepped, are_in_order, IsOpen, StaysOpen}
use Rattle.album_reader.specs.Rounds.Step.{Same, Gone}
use Rattle.album_reader.specs.Snapshots.{items_read}
use Rattle.album_reader.specs.StampSets.{stamps_of}
use Rattle.album_reader.proofs.Others.{has_answer-at}
use Rattle.album_reader.proofs.StampSets.{stamps_of-rises}

-- ---- answers in order

no_answers-in_order : (items : List ℕ) → are_in_order items (no_answers items) ≡ true
no_answers-in_order [] = refl
no_answers-in_order (item ∷ items) = no_answers-in_order items

in_order-tail :
    (item : ℕ) (items : List ℕ) (answer : Option ReadVersion) (answers : List (Option ReadVersion))
    → are_in_order (item ∷ items) (answer ∷ answers) ≡ true → are_in_order items answers ≡ true
in_order-tail item items None answers order = order
in_order-tail item items (Some answer) answers order = (and_parts _ _ order).1

pub in_order-length :
    (items :
    List ℕ) (answers : List (Option ReadVersion)) → are_in_order items answers ≡ true → length answers ≡ length items
in_order-length [] [] order = refl
in_order-length [] (answer ∷ answers) order = absurd (cc)
in_order-length (item ∷ items) [] order = absurd (cc)
in_order-length (item ∷ items) (answer ∷ answers) order =
    ap suc (in_order-length items answers (in_order-tail item items answer answers order))

put_answer-in_order :
    (answer : ReadVersion) (items : List ℕ) (answers : List (Option ReadVersion))
    → are_in_order items answers ≡ true → are_in_order items (put_answer answer items answers) ≡ true
put_answer-in_order answer [] [] order = refl
put_answer-in_order answer [] (old ∷ answers) order = order
put_answer-in_order answer (item ∷ items) [] order = order
put_answer-in_order answer (item ∷ items) (old ∷ answers) order = go (answer.item == item) refl old order
    (put_answer-in_order answer items answers (in_order-tail item items old answers order))
  where
    go :
        (b :
        Bool) → (answer.item == item) ≡ b → (o : Option ReadVersion) → are_in_order (item ∷ items) (o ∷ answers) ≡ true
        → are_in_order items (put_answer answer items answers) ≡ true
        → are_in_order (item ∷ items) ((if b then Some answer else o) ∷ put_answer answer items answers) ≡ true
    go true e o f later = and_from _ _ e later
    go false e None f later = later
    go false e (Some first) f later = and_from _ _ (and_parts _ _ f).0 later

-- all the answers are of all the items
pub items_read-in_order :
    (items : List ℕ) (answers : List (Option ReadVersion))
    → are_in_order items answers ≡ true → are_there answers ≡ true → items ≡ items_read (answers_there answers)
items_read-in_order [] [] order there = refl
items_read-in_order [] (answer ∷ answers) order there = absurd (cc)
items_read-in_order (item ∷ items) [] order there = absurd (cc)
items_read-in_order (item ∷ items) (None ∷ answers) order there = absurd (cc)
items_read-in_order (item ∷ items) (Some answer ∷ answers) order there =
    let parts = and_parts _ _ order in
    ap (λ (n : ℕ). n ∷ items) (sym (eqb-true answer.item item parts.0))
    ∙ ap (λ (ns : List ℕ). answer.item ∷ ns) (items_read-in_order items answers parts.1 there)

-- ---- one item's answer

-- an item that is none of the items has no answer
absent-free :
    (items : List ℕ) (answers : List (Option ReadVersion)) (item : ℕ)
    → are_in_order items answers ≡ true → has_item items item ≡ false → has_answer (answers_there answers) item ≡ false
absent-free [] [] item order absent = refl
absent-free [] (answer ∷ answers) item order absent = absurd (cc)
absent-free (first ∷ items) [] item order absent = refl
absent-free (first ∷ items) (None ∷ answers) item order absent =
    absent-free items answers item order (or_parts (item == first) (has_item items item) absent).1
absent-free (first ∷ items) (Some answer ∷ answers) item order absent =
    let parts = or_parts (item == first) (has_item items item) absent in
    let orders = and_parts (answer.item == first) (are_in_order items answers) order in
    let own : answer.item ≡ first = eqb-true answer.item first orders.0 in
    let other : (item == first) ≡ false = parts.0 in
    let apart : (answer.item == item) ≡ false = grind (arith, nat_tests, own, other) in
    or_from _ _ apart (absent-free items answers item orders.1 parts.1)

-- nothing changes where the item is none of the items
put_answer-absent :
    (answer : ReadVersion) (items : List ℕ) (answers : List (Option ReadVersion))
    → has_item items answer.item ≡ false → put_answer answer items answers ≡ answers
put_answer-absent answer [] answers absent = refl
put_answer-absent answer (item ∷ items) [] absent = refl
put_answer-absent answer (item ∷ items) (old ∷ answers) absent =
    let parts = or_parts (answer.item == item) (has_item items answer.item) absent in
    ap (λ (b : Bool). (if b then Some answer else old) ∷ put_answer answer items answers) parts.0
    ∙ ap (λ (os : List (Option ReadVersion)). old ∷ os) (put_answer-absent answer items answers parts.1)

has_item-at :
    (items : List ℕ) (index item : ℕ)
    → index < length items
    → get_or items index 0 ≡ item
    → has_item items item ≡ true
has_item-at [] index item inside here = absurd (omega arith)
has_item-at (first ∷ items) zero item inside here = or_left _ _ (ap (λ (n : ℕ). item == n) here ∙ eq-eqb item item refl)
has_item-at (first ∷ items) (suc index) item inside here = or_right _ _ (has_item-at items index item (omega arith) here)

-- the first item is none of the others, and so another one than each of them
single-head :
    (first : ℕ) (items : List ℕ) → are_distinct (first ∷ items) ≡ true → has_item items first ≡ false
single-head first items single = not-true (has_item items first) (and_parts _ _ single).0

single-apart :
    (first : ℕ) (items : List ℕ) (index item : ℕ)
    → are_distinct (first ∷ items) ≡ true → index < length items → get_or items index 0 ≡ item → (item == first) ≡ false
single-apart first items index item single inside here = go (item == first) refl
  where
    go : (b : Bool) → (item == first) ≡ b → b ≡ false
    go true e =
        let same : item ≡ first = eqb-true item first e in
        let there : has_item items first ≡ true = has_item-at items index first inside (here ∙ same) in
        sym there ∙ single-head first items single
    go false e = refl

-- the item's answer goes to the item's index
pub put_answer-set :
    (answer : ReadVersion) (items : List ℕ) (answers : List (Option ReadVersion)) (index : ℕ)
    → are_distinct items ≡ true → are_in_order items answers ≡ true
    → index < length answers → get_or items index 0 ≡ answer.item
    → put_answer answer items answers ≡ set answers index (Some answer)
put_answer-set answer [] [] index single order inside here = absurd (omega arith)
put_answer-set answer [] (old ∷ answers) index single order inside here = absurd (cc)
put_answer-set answer (item ∷ items) [] index single order inside here = absurd (cc)
put_answer-set answer (item ∷ items) (old ∷ answers) zero single order inside here =
    ap (λ (b : Bool). (if b then Some answer else old) ∷ put_answer answer items answers)
    (ap (λ (n : ℕ). answer.item == n) here ∙ eq-eqb answer.item answer.item refl)
    ∙ ap (λ (os : List (Option ReadVersion)). Some answer ∷ os)
    (put_answer-absent answer items answers (ap (has_item items) (sym here) ∙ single-head item items single))
put_answer-set answer (item ∷ items) (old ∷ answers) (suc index) single order inside here =
    let order_too : are_in_order items answers ≡ true = in_order-tail item items old answers order in
    let lengths : length answers ≡ length items = in_order-length items answers order_too in
    let apart : (answer.item == item) ≡ false =
    single-apart item items index answer.item single (omega (arith, lengths)) here in
    ap (λ (b : Bool). (if b then Some answer else old) ∷ put_answer answer items answers) apart
    ∙ ap (λ (os : List (Option ReadVersion)). old ∷ os)
    (put_answer-set answer items answers index (and_parts _ _ single).1 order_too (omega arith) here)

-- an item whose index is free has no answer
free-index :
    (items : List ℕ) (answers : List (Option ReadVersion)) (index item : ℕ)
    → are_distinct items ≡ true → are_in_order items answers ≡ true
    → index < length answers → get_or items index 0 ≡ item → get_or answers index None ≡ None
    → has_answer (answers_there answers) item ≡ false
free-index [] [] index item single order inside here free = refl
free-index [] (answer ∷ answers) index item single order inside here free = absurd (cc)
free-index (first ∷ items) [] index item single order inside here free = refl
free-index (first ∷ items) (None ∷ answers) zero item single order inside here free =
    absent-free items answers item order (ap (has_item items) (sym here) ∙ single-head first items single)
free-index (first ∷ items) (Some answer ∷ answers) zero item single order inside here free = absurd (cc)
free-index (first ∷ items) (None ∷ answers) (suc index) item single order inside here free =
    free-index items answers index item (and_parts _ _ single).1 order (omega arith) here free
free-index (first ∷ items) (Some answer ∷ answers) (suc index) item single order inside here free =
    let orders = and_parts (answer.item == first) (are_in_order items answers) order in
    let own : answer.item ≡ first = eqb-true answer.item first orders.0 in
    let lengths : length answers ≡ length items = in_order-length items answers orders.1 in
    let other : (item == first) ≡ false = single-apart first items index item single (omega (arith, lengths)) here in
    let apart : (answer.item == item) ≡ false = grind (arith, nat_tests, own, other) in
    or_from _ _ apart (free-index items answers index item (and_parts _ _ single).1 orders.1 (omega arith) here free)

-- an answer that is there is of the item at its index
own_answer :
    (items : List ℕ) (answers : List (Option ReadVersion)) (index : ℕ) (answer : ReadVersion)
    → are_in_order items answers ≡ true → get_or answers index None ≡ Some answer → get_or items index 0 ≡ answer.item
own_answer [] [] index answer order e = absurd (cc)
own_answer [] (first ∷ answers) index answer order e = absurd (cc)
own_answer (item ∷ items) [] index answer order e = absurd (cc)
own_answer (item ∷ items) (None ∷ answers) zero answer order e = absurd (cc)
own_answer (item ∷ items) (Some first ∷ answers) zero answer order e =
    let same : first ≡ answer = cc in
    sym (eqb-true first.item item (and_parts _ _ order).0) ∙ ap (λ (a : ReadVersion). a.item) same
own_answer (item ∷ items) (None ∷ answers) (suc index) answer order e = own_answer items answers index answer order e
own_answer (item ∷ items) (Some first ∷ answers) (suc index) answer order e =
    own_answer items answers index answer (and_parts _ _ order).1 e

-- ---- whether the round lacks an item

pub index-of :
    (items : List ℕ) (item index : ℕ)
    → position (λ other. item == other) items ≡ Some index
    → (index < length items) × (get_or items index 0 ≡ item)
index-of items item index e =
    let found = position-Some (λ (other : ℕ). item == other) items index 0 e in
    (found.0, sym (eqb-true item (get_or items index 0) found.1))

-- it is not asked
pub lacks-absent :
    (round :
    RoundState) (item : ℕ) → position (λ other. item == other) round.items ≡ None → lacks round item ≡ false
lacks-absent round item e =
    ap (λ (b : Bool). b && not (has_answer (answers_there round.answers) item)) (absent round.items e)
  where
    absent : (items : List ℕ) → position (λ other. item == other) items ≡ None → has_item items item ≡ false
    absent [] f = refl
    absent (first ∷ items) f = grind (arith, nat_tests, absent items)

module _ (round : RoundState) (item index : ℕ)
    (lasts : IsOpen round) (e : position (λ other. item == other) round.items ≡ Some index) where
  pub index-inside : index < length round.answers
  index-inside =
      let lengths : length round.answers ≡ length round.items = in_order-length round.items round.answers lasts.in_order in
      let there : index < length round.items = (index-of round.items item index e).0 in
      omega (arith, lengths, there)

  -- it has its answer
  pub lacks-taken : is_some (get_or round.answers index None) ≡ true → lacks round item ≡ false
  lacks-taken taken = go (get_or round.answers index None) refl taken
    where
      go :
          (o : Option ReadVersion)
          → get_or round.answers index None ≡ o
          → is_some o ≡ true
          → lacks round item ≡ false
      go None f g = absurd (cc)
      go (Some answer) f g =
          let own : item ≡ answer.item =
          sym (index-of round.items item index e).1
          ∙ own_answer round.items round.answers index answer lasts.in_order f in
          let has : has_answer (answers_there round.answers) item ≡ true =
          ap (has_answer (answers_there round.answers)) own ∙ has_answer-at round.answers index answer f in
          and_right (has_item round.items item) _ (ap not has)

  -- it has none
  pub lacks-free : get_or round.answers index None ≡ None → lacks round item ≡ true
  lacks-free free =
      let here = index-of round.items item index e in
      and_from _ _ (has_item-at round.items index item here.0 here.1)
      (ap not (free-index round.items round.answers index item lasts.single lasts.in_order index-inside here.1 free))

  -- it is lacking exactly where it has none
  pub lacks-is : not (is_some (get_or round.answers index None)) ≡ lacks round item
  lacks-is = go (get_or round.answers index None) refl
    where
      go : (o : Option ReadVersion) → get_or round.answers index None ≡ o → not (is_some o) ≡ lacks round item
      go None f = sym (lacks-free f)
      go (Some answer) f = sym (lacks-taken (ap (λ (p : Option ReadVersion). is_some p) f))

-- an answer that is taken away again
pub set_back :
    (answers : List (Option ReadVersion)) (index : ℕ) (answer : Option ReadVersion)
    → get_or answers index None ≡ None → set (set answers index answer) index None ≡ answers
set_back [] index answer free = refl
set_back (first ∷ answers) zero answer free = ap (λ (o : Option ReadVersion). o ∷ answers) (sym free)
set_back (first ∷ answers) (suc index) answer free =
    ap (λ (os : List (Option ReadVersion)). first ∷ os) (set_back answers index answer free)

-- ---- what is not over stays so

no_answers-lacking : (items : List ℕ) → (items ≡ [] → ⊥) → are_there (no_answers items) ≡ false
no_answers-lacking [] some = absurd (some refl)
no_answers-lacking (item ∷ items) some = refl

pub some_items :
    (items : List ℕ) (answers : List (Option ReadVersion))
    → are_in_order items answers ≡ true → are_there answers ≡ false → items ≡ [] → ⊥
some_items [] [] order lacking e = absurd (cc)
some_items [] (answer ∷ answers) order lacking e = absurd (cc)
some_items (item ∷ items) answers order lacking e = absurd (cc)

pub first_open :
    (asker : Asker) (items : List ℕ)
    → (items ≡ [] → ⊥) → length items ≤ MAX_READ_ITEMS → are_distinct items ≡ true → asker.tag + 1 < 2 ^ 64
    → IsOpen (first_round asker items)
first_open asker items some few single next_tag = record {
  few = few;
  single = single;
  in_order = no_answers-in_order items;
  lacking = no_answers-lacking items some;
  next_tag = λ e. next_tag;
  rising = λ stamps e. absurd (cc);
}

-- with its answer in it the round is in order
pub with_answer-in_order :
    (round :
    RoundState) (answer : ReadVersion) → IsOpen round → are_in_order round.items (with_answer round answer).answers ≡ true
with_answer-in_order round answer lasts = put_answer-in_order answer round.items round.answers lasts.in_order

-- the stamps that a second round asks with rise
rises_if_shown :
    (answers : List ReadVersion) (stamps : List ℕ)
    → Some (stamps_of answers) ≡ Some stamps → AllPairs (λ s t. s < t) stamps
rises_if_shown answers stamps same =
    subst (λ (s : List ℕ). AllPairs (λ a b. a < b) s) (same_Some _ _ same) (stamps_of-rises answers)

outcome-open :
    (round : RoundState) (answer : ReadVersion)
    → IsOpen round
    → StaysOpen (outcome (with_answer round answer))
outcome-open round answer lasts = go (are_there (with_answer round answer).answers) refl
  where
    put : RoundState
    put = with_answer round answer

    by : (stamps : Option (List ℕ)) → StaysOpen (end_by stamps put (answers_there put.answers))
    by None = record {
      few = lasts.few;
      single = lasts.single;
      in_order = no_answers-in_order round.items;
      lacking = no_answers-lacking round.items (some_items round.items round.answers lasts.in_order lasts.lacking);
      next_tag = λ e. absurd (cc);
      rising = rises_if_shown (answers_there put.answers);
    }
    by (Some stamps) = tt

    go :
        (b : Bool) → are_there put.answers ≡ b
        → StaysOpen (option_map_or (end_of put) (if b then Some (answers_there put.answers) else None) (Same put))
    go true e = by round.stamps
    go false e = record {
      few = lasts.few;
      single = lasts.single;
      in_order = with_answer-in_order round answer lasts;
      lacking = e;
      next_tag = lasts.next_tag;
      rising = lasts.rising;
    }

pub stepped-open : (round : RoundState) (message : Message) → IsOpen round → StaysOpen (stepped round message)
stepped-open round message lasts = by (is_gone round message)
  where
    go :
        (o : Option ReadVersion)
        → StaysOpen (option_map_or (λ (a : ReadVersion). outcome (with_answer round a)) o (Same round))
    go None = lasts
    go (Some answer) = outcome-open round answer lasts

    by : (b : Bool) → StaysOpen (if b then Gone round.items else taken round message)
    by true = tt
    by false = go (new_answer round message)

-- where no item is gone, the step by a message is the step by its version
pub taken-stepped :
    (round : RoundState) (message : Message)
    → is_gone round message ≡ false → taken round message ≡ stepped round message
taken-stepped round message goes_on =
    sym (ap (λ (b : Bool). if b then Gone round.items else taken round message) goes_on)
