-- Why a message does not count, for `Round::fresh`, for `on_reply` (`new_answer-other`, `is_gone-other`) and for the
-- laws that there is no other reason (`IsOther-nothing`) and which messages end a read (`IsGone-is_gone`).
use Rattle.std.proofs.Common.{◌≡◌, add-one, ◌≢◌, is_some, ℕ, zero, suc, Bool, true, false, ◌&&◌, ◌==◌, List, [], ◌∷◌, get_or, Option, Some, None, refl, sym, ap, ◌∙◌, subst, Contains, if◌then◌else◌, ◌+◌, not, ◌||◌, arith}
use Rattle.std.specs.Prelude.{option_and_then}
use Rattle.std.specs.Option.{option_map_or}
use Rattle.std.proofs.lemmas.Bool.{false≢true, ne_eqb, eqb-true, eqb-false, eq-eqb, and_from, and_left, and_right, or_left, or_right, not_from_true, false_from_ne_true, and_parts}
use Rattle.std.proofs.lemmas.List.Elements.{at_from_Contains}
use Rattle.std.proofs.lemmas.List.Folds.{Any-from_list_any, list_any_at}
use Rattle.album_items.specs.ItemIds.{place_of}
use Rattle.album_items.specs.declared.values.Value.{Value}
use Rattle.album_calls.specs.Nodes.{is_part, is_client}
use Rattle.album_calls.specs.declared.messages.Body.{Body}
use Rattle.album_calls.specs.declared.messages.Body.TheVariants as body
use Rattle.album_calls.specs.declared.messages.Message.{Message}
use Rattle.album_calls.specs.declared.nodes.Node.{Node}
use Rattle.album_calls.specs.declared.nodes.Node.TheVariants.{Part, Client}
use Rattle.album_calls.specs.declared.replies.Reply.{Reply}
use Rattle.album_calls.specs.declared.replies.Reply.TheVariants as reply
use Rattle.album_reader.specs.Answers.{ReadVersion, reply_version, body_version, reply_gone, body_gone, is_answer, if_answer, answers_there}
use Rattle.album_reader.specs.Others.{IsOther, IsGone, IsAbout}
use Rattle.album_reader.specs.Others.IsOther.{OtherTag, ToOther, OfNoItem, FromOther, NotAsked, Answered, GoneTooEarly}
use Rattle.album_reader.specs.Others.IsAbout.{ItsVersion, ItIsGone}
use Rattle.album_reader.specs.Rounds.{RoundState, has_item, has_answer, lacks, if_lacking, new_answer, with_answer, outcome, taken, is_gone, stepped}
use Rattle.album_reader.specs.Rounds.Step.{Same, Gone}

-- ---- it is no answer

-- it has no version
pub new_answer-no_version :
    (round : RoundState) (message : Message)
    → body_version message.body ≡ None
    → new_answer round message ≡ None
new_answer-no_version round message none =
    ap (λ (o : Option ReadVersion). option_and_then (if_lacking round) (option_and_then (if_answer round.asker message) o)) none

-- it has one, and is no answer for its item
pub new_answer-no_answer :
    (round : RoundState) (message : Message) (version : ReadVersion)
    → body_version message.body ≡ Some version → is_answer round.asker message version.item ≡ false
    → new_answer round message ≡ None
new_answer-no_answer round message version about other =
    ap (λ (o : Option ReadVersion). option_and_then (if_lacking round) (option_and_then (if_answer round.asker message) o)) about
    ∙ ap (λ (b : Bool). option_and_then (if_lacking round) (if b then Some version else None)) other

-- it is one
pub new_answer-answer :
    (round : RoundState) (message : Message) (version : ReadVersion)
    → body_version message.body ≡ Some version → is_answer round.asker message version.item ≡ true
    → new_answer round message ≡ (if lacks round version.item then Some version else None)
new_answer-answer round message version about own =
    ap (λ (o : Option ReadVersion). option_and_then (if_lacking round) (option_and_then (if_answer round.asker message) o)) about
    ∙ ap (λ (b : Bool). option_and_then (if_lacking round) (if b then Some version else None)) own

-- whatever it is about, it is no answer
no_answer :
    (round : RoundState) (message : Message)
    → ((item : ℕ) → is_answer round.asker message item ≡ false) → new_answer round message ≡ None
no_answer round message other = go (body_version message.body) refl
  where
    go : (o : Option ReadVersion) → body_version message.body ≡ o → new_answer round message ≡ None
    go None e = new_answer-no_version round message e
    go (Some version) e = new_answer-no_answer round message version e (other version.item)

-- the round doesn't lack what it is about
not_lacking :
    (round : RoundState) (message : Message) (version : ReadVersion)
    → body_version message.body ≡ Some version → lacks round version.item ≡ false
    → new_answer round message ≡ None
not_lacking round message version about full = go (is_answer round.asker message version.item) refl
  where
    go : (b : Bool) → is_answer round.asker message version.item ≡ b → new_answer round message ≡ None
    go true e = new_answer-answer round message version about e ∙ ap (λ (b : Bool). if b then Some version else None) full
    go false e = new_answer-no_answer round message version about e

-- ---- it does not end the read

-- it is about no item that is gone
is_gone-none : (round : RoundState) (message : Message) → body_gone message.body ≡ None → is_gone round message ≡ false
is_gone-none round message none =
    and_right (is_some round.stamps) _
    (ap (λ (o : Option ℕ). option_map_or (λ item. is_answer round.asker message item && lacks round item) o false) none)

-- it is about one, and is no answer for it, or the round doesn't lack it
is_gone-other :
    (round : RoundState) (message : Message) (item : ℕ) → body_gone message.body ≡ Some item
    → (is_answer round.asker message item && lacks round item) ≡ false → is_gone round message ≡ false
is_gone-other round message item about other =
    and_right (is_some round.stamps) _
    (ap (λ (o : Option ℕ). option_map_or (λ item. is_answer round.asker message item && lacks round item) o false) about
    ∙ other)

-- it comes in the first round
pub is_gone-early : (round : RoundState) (message : Message) → round.stamps ≡ None → is_gone round message ≡ false
is_gone-early round message first = and_left _ _ (ap (λ (o : Option (List ℕ)). is_some o) first)

-- whatever it is about, it is no answer
no_answer-gone :
    (round : RoundState) (message : Message)
    → ((item : ℕ) → is_answer round.asker message item ≡ false) → is_gone round message ≡ false
no_answer-gone round message other = go (body_gone message.body) refl
  where
    go : (o : Option ℕ) → body_gone message.body ≡ o → is_gone round message ≡ false
    go None e = is_gone-none round message e
    go (Some item) e = is_gone-other round message item e (and_left _ _ (other item))

-- a version of an item is no word that one is gone
pub version-not_gone :
    (b : Body) (version : ReadVersion) → body_version b ≡ Some version → body_gone b ≡ None
version-not_gone (body.Request request) version e = refl
version-not_gone (body.Reply (reply.Prepared stamp)) version e = refl
version-not_gone (body.Reply (reply.Committed stamp)) version e = refl
version-not_gone (body.Reply (reply.Discarded stamp)) version e = refl
version-not_gone (body.Reply (reply.Version item stamp value)) version e = refl
version-not_gone (body.Reply (reply.Status stamp vote)) version e = refl
version-not_gone (body.Reply (reply.NotPrepared stamp)) version e = refl
version-not_gone (body.Reply reply.Clash) version e = refl
version-not_gone (body.Reply (reply.Full stamp)) version e = refl
version-not_gone (body.Reply (reply.Gone item)) version e = absurd (cc)

-- ---- the seven cases

abbrev version : ℕ → ℕ → Value → ReadVersion
version item stamp value = record { item = item; stamp = stamp; value = value }

other_tag : (a b c : Bool) → a ≡ false → (a && b && c) ≡ false
other_tag a b c e = ap (λ (x : Bool). x && b && c) e

to_other : (a b c : Bool) → b ≡ false → (a && b && c) ≡ false
to_other true b c e = ap (λ (x : Bool). x && c) e
to_other false b c e = refl

pub is_client-other : (node : Node) (client : ℕ) → node ≢ Client client → is_client node client ≡ false
is_client-other (Part part) client other = refl
is_client-other (Client number) client other = ne_eqb number client (λ (e : number ≡ client). other (ap Client e))

pub is_part-other : (node : Node) (part : ℕ) → node ≢ Part part → is_part node part ≡ false
is_part-other (Part number) part other = ne_eqb number part (λ (e : number ≡ part). other (ap Part e))
is_part-other (Client client) part other = refl

reply_version-none :
    (r :
    Reply) → ((item stamp : ℕ) (value : Value)
    → r ≢ reply.Version item stamp value) → reply_version r ≡ None
reply_version-none (reply.Prepared stamp) other = refl
reply_version-none (reply.Committed stamp) other = refl
reply_version-none (reply.Discarded stamp) other = refl
reply_version-none (reply.Version item stamp value) other = absurd (other item stamp value refl)
reply_version-none (reply.Status stamp vote) other = refl
reply_version-none (reply.NotPrepared stamp) other = refl
reply_version-none reply.Clash other = refl
reply_version-none (reply.Full stamp) other = refl
reply_version-none (reply.Gone item) other = refl

body_version-none :
    (b : Body) → ((item stamp : ℕ) (value : Value) → b ≢ body.Reply (reply.Version item stamp value))
    → body_version b ≡ None
body_version-none (body.Request request) other = refl
body_version-none (body.Reply r) other = reply_version-none r (λ item stamp value e. other item stamp value (ap body.Reply e))

reply_gone-none : (r : Reply) → ((item : ℕ) → r ≢ reply.Gone item) → reply_gone r ≡ None
reply_gone-none (reply.Prepared stamp) other = refl
reply_gone-none (reply.Committed stamp) other = refl
reply_gone-none (reply.Discarded stamp) other = refl
reply_gone-none (reply.Version item stamp value) other = refl
reply_gone-none (reply.Status stamp vote) other = refl
reply_gone-none (reply.NotPrepared stamp) other = refl
reply_gone-none reply.Clash other = refl
reply_gone-none (reply.Full stamp) other = refl
reply_gone-none (reply.Gone item) other = absurd (other item refl)

body_gone-none : (b : Body) → ((item : ℕ) → b ≢ body.Reply (reply.Gone item)) → body_gone b ≡ None
body_gone-none (body.Request request) other = refl
body_gone-none (body.Reply r) other = reply_gone-none r (λ item e. other item (ap body.Reply e))

has_item-absent : (items : List ℕ) (item : ℕ) → (Contains items item → ⊥) → has_item items item ≡ false
has_item-absent items item absent = false_from_ne_true (has_item items item) (λ e.
    let (at, other, inside, here, same) = Any-from_list_any (λ (n : ℕ). item == n) items e in
    absent (subst (λ (n : ℕ). Contains items n) (sym (eqb-true item other same)) (at, inside, here)))

-- an answer that is there is among those that are
pub has_answer-at :
    (answers : List (Option ReadVersion)) (index : ℕ) (answer : ReadVersion)
    → get_or answers index None ≡ Some answer → has_answer (answers_there answers) answer.item ≡ true
has_answer-at [] index answer e = absurd (cc)
has_answer-at (None ∷ answers) zero answer e = absurd (cc)
has_answer-at (None ∷ answers) (suc index) answer e = has_answer-at answers index answer e
has_answer-at (Some first ∷ answers) zero answer e =
    let same : first ≡ answer = cc in
    or_left _ _ (ap (λ (a : ReadVersion). a.item == answer.item) same ∙ eq-eqb answer.item answer.item refl)
has_answer-at (Some first ∷ answers) (suc index) answer e = or_right _ _ (has_answer-at answers index answer e)

-- in each case neither a version counts nor that an item is gone
abbrev IsNothing : RoundState → Message → Type 0
IsNothing round message = (new_answer round message ≡ None) × (is_gone round message ≡ false)

-- it is about an item for which it is no answer, or which is not lacking
about-nothing :
    (round : RoundState) (message : Message) (item : ℕ) → IsAbout message item
    → (is_answer round.asker message item && lacks round item) ≡ false → IsNothing round message
about-nothing round message item (ItsVersion stamp value about) other =
    (by (is_answer round.asker message item) refl other, is_gone-none round message (ap body_gone about))
  where
    by :
        (b : Bool) → is_answer round.asker message item ≡ b → (b && lacks round item) ≡ false
        → new_answer round message ≡ None
    by true e f = not_lacking round message (version item stamp value) (ap body_version about) f
    by false e f = new_answer-no_answer round message (version item stamp value) (ap body_version about) e
about-nothing round message item (ItIsGone about) other =
    (new_answer-no_version round message (ap body_version about), is_gone-other round message item (ap body_gone about) other)

is_nothing : (round : RoundState) (message : Message) → IsOther round message → IsNothing round message
is_nothing round message (OtherTag other) =
    let not_ours : (item : ℕ) → is_answer round.asker message item ≡ false =
    λ item. other_tag _ _ _ (ne_eqb message.tag round.asker.tag other) in
    (no_answer round message not_ours, no_answer-gone round message not_ours)
is_nothing round message (ToOther other) =
    let not_ours : (item : ℕ) → is_answer round.asker message item ≡ false =
    λ item. to_other (message.tag == round.asker.tag) _ _ (is_client-other message.to round.asker.client other) in
    (no_answer round message not_ours, no_answer-gone round message not_ours)
is_nothing round message (OfNoItem other) = (
  new_answer-no_version round message
      (body_version-none message.body (λ item stamp value e. other item (ItsVersion stamp value e))),
  is_gone-none round message (body_gone-none message.body (λ item e. other item (ItIsGone e))),
)
is_nothing round message (FromOther item about other) =
    about-nothing round message item about
    (and_left _ _ (and_right _ _ (is_part-other message.from (place_of round.asker.parts item) other)))
is_nothing round message (NotAsked item about other) =
    about-nothing round message item about
    (and_right (is_answer round.asker message item) _ (and_left _ _ (has_item-absent round.items item other)))
is_nothing round message (Answered item about answer own there) =
    let (at, inside, here) = at_from_Contains round.answers (Some answer) there in
    let has : has_answer (answers_there round.answers) item ≡ true =
    subst (λ (n : ℕ). has_answer (answers_there round.answers) n ≡ true) own (has_answer-at round.answers at answer (here None)) in
    about-nothing round message item about
    (and_right (is_answer round.asker message item) _ (and_right (has_item round.items item) _ (not_from_true _ has)))
is_nothing round message (GoneTooEarly item about first) =
    (new_answer-no_version round message (ap body_version about), is_gone-early round message first)

pub new_answer-other : (round : RoundState) (message : Message) → IsOther round message → new_answer round message ≡ None
new_answer-other round message other = (is_nothing round message other).0

pub not_gone-other : (round : RoundState) (message : Message) → IsOther round message → is_gone round message ≡ false
not_gone-other round message other = (is_nothing round message other).1

-- then the round stays as it is
pub stepped-other : (round : RoundState) (message : Message) → IsOther round message → stepped round message ≡ Same round
stepped-other round message other =
    let nothing = is_nothing round message other in
    ap (λ (b : Bool). if b then Gone round.items else taken round message) nothing.1
    ∙ ap (λ (o : Option ReadVersion). option_map_or (λ (a : ReadVersion). outcome (with_answer round a)) o (Same round)) nothing.0

-- ---- and no others

-- an item that is among the items is one of them
has_item-there : (items : List ℕ) (item : ℕ) → Contains items item → has_item items item ≡ true
has_item-there items item there =
    let (at, inside, here) = at_from_Contains items item there in
    list_any_at (λ (other : ℕ). item == other) items at 0 inside (eq-eqb item (get_or items at 0) (sym (here 0)))

behind :
    (answer first : Option ReadVersion) (answers : List (Option ReadVersion)) → Contains answers answer
    → Contains (first ∷ answers) answer
behind answer first answers there =
    let (at, inside, here) = there in
    (at + 1, omega arith, rw add-one here)

-- an answer that is among those that are there
answer-there :
    (answers : List (Option ReadVersion)) (item : ℕ) → has_answer (answers_there answers) item ≡ true
    → (answer : ReadVersion) × (answer.item ≡ item) × Contains answers (Some answer)
answer-there [] item e = absurd (cc)
answer-there (None ∷ answers) item e =
    let (answer, own, there) = answer-there answers item e in
    (answer, own, behind (Some answer) None answers there)
answer-there (Some first ∷ answers) item e = go (first.item == item) refl e (answer-there answers item)
  where
    go :
        (b : Bool) → (first.item == item) ≡ b → (b || has_answer (answers_there answers) item) ≡ true
        → (has_answer (answers_there answers) item ≡ true
        → (answer : ReadVersion) × (answer.item ≡ item) × Contains answers (Some answer))
        → (answer : ReadVersion) × (answer.item ≡ item) × Contains (Some first ∷ answers) (Some answer)
    go true f g later = (first, eqb-true first.item item f, (0, omega arith, refl))
    go false f g later =
        let (answer, own, there) = later g in
        (answer, own, behind (Some answer) (Some first) answers there)

some-none : (answer : ReadVersion) → Some answer ≡ None → ⊥
some-none answer e = cc

-- what is about an item, and is one of them unless it is an answer for an item that is lacking
other-item :
    (round : RoundState) (message : Message) (item : ℕ) → IsAbout message item
    → (is_answer round.asker message item ≡ true → lacks round item ≡ true → ⊥)
    → IsOther round message
other-item round message item about counts =
    by_tag (message.tag == round.asker.tag) refl (is_client message.to round.asker.client) refl
    (is_part message.from (place_of round.asker.parts item)) refl (has_item round.items item) refl
    (has_answer (answers_there round.answers) item) refl
  where
    by_tag :
        (a : Bool) → (message.tag == round.asker.tag) ≡ a
        → (b : Bool) → is_client message.to round.asker.client ≡ b
        → (c : Bool) → is_part message.from (place_of round.asker.parts item) ≡ c
        → (d : Bool) → has_item round.items item ≡ d
        → (e : Bool) → has_answer (answers_there round.answers) item ≡ e
        → IsOther round message
    by_tag false f b g c h d i e j = OtherTag (eqb-false message.tag round.asker.tag f)
    by_tag true f false g c h d i e j =
        ToOther (λ (same : message.to ≡ Client round.asker.client).
        false≢true (sym g ∙ ap (λ (n : Node). is_client n round.asker.client) same
        ∙ eq-eqb round.asker.client round.asker.client refl))
    by_tag true f true g false h d i e j =
        FromOther item about (λ (same : message.from ≡ Part (place_of round.asker.parts item)).
        false≢true (sym h ∙ ap (λ (n : Node). is_part n (place_of round.asker.parts item)) same
        ∙ eq-eqb (place_of round.asker.parts item) (place_of round.asker.parts item) refl))
    by_tag true f true g true h false i e j =
        NotAsked item about (λ there. false≢true (sym i ∙ has_item-there round.items item there))
    by_tag true f true g true h true i true j =
        let (answer, own, there) = answer-there round.answers item j in
        Answered item about answer own there
    by_tag true f true g true h true i false j =
        absurd (counts (and_from _ _ (and_from _ _ f g) h) (and_from _ _ i (ap not j)))

-- a version that brings nothing new
other-version :
    (round : RoundState) (message : Message) (item stamp : ℕ) (value : Value)
    → message.body ≡ body.Reply (reply.Version item stamp value) → new_answer round message ≡ None
    → IsOther round message
other-version round message item stamp value about none =
    other-item round message item (ItsVersion stamp value about) (λ answers lacking.
    some-none (version item stamp value) (
    sym (ap (λ (b : Bool). if b then Some (version item stamp value) else None) lacking)
    ∙ sym (new_answer-answer round message (version item stamp value) (ap body_version about) answers)
    ∙ none
    ))

-- an answer for an item that is lacking ends the second round where it says that the item is gone
counts-is_gone :
    (round : RoundState) (message : Message) (item : ℕ)
    → is_some round.stamps ≡ true → body_gone message.body ≡ Some item
    → is_answer round.asker message item ≡ true → lacks round item ≡ true
    → is_gone round message ≡ true
counts-is_gone round message item second about answers lacking =
    and_from _ _ second
    (ap (λ (o : Option ℕ). option_map_or (λ item. is_answer round.asker message item && lacks round item) o false) about
    ∙ and_from _ _ answers lacking)

-- a reply that an item is gone, where the read continues
other-gone :
    (round : RoundState) (message : Message) (item : ℕ)
    → message.body ≡ body.Reply (reply.Gone item) → is_gone round message ≡ false
    → IsOther round message
other-gone round message item about goes_on = by round.stamps refl
  where
    by : (o : Option (List ℕ)) → round.stamps ≡ o → IsOther round message
    by None e = GoneTooEarly item about e
    by (Some stamps) e =
        other-item round message item (ItIsGone about) (λ answers lacking.
        false≢true (sym goes_on ∙ counts-is_gone round message item (ap (λ (o : Option (List ℕ)). is_some o) e) (ap body_gone about) answers lacking))

of_no_item :
    (round : RoundState) (message : Message)
    → ((item stamp : ℕ) (value : Value) → message.body ≢ body.Reply (reply.Version item stamp value))
    → ((item : ℕ) → message.body ≢ body.Reply (reply.Gone item))
    → IsOther round message
of_no_item round message no_version no_gone = OfNoItem none
  where
    none : (item : ℕ) → IsAbout message item → ⊥
    none item (ItsVersion stamp value e) = no_version item stamp value e
    none item (ItIsGone e) = no_gone item e

other-reply :
    (round : RoundState) (message : Message) (r : Reply)
    → message.body ≡ body.Reply r → new_answer round message ≡ None → is_gone round message ≡ false
    → IsOther round message
other-reply round message (reply.Prepared stamp) e none stays = of_no_item round message (λ i s v f. absurd (cc)) (λ i f. absurd (cc))
other-reply round message (reply.Committed stamp) e none stays = of_no_item round message (λ i s v f. absurd (cc)) (λ i f. absurd (cc))
other-reply round message (reply.Discarded stamp) e none stays = of_no_item round message (λ i s v f. absurd (cc)) (λ i f. absurd (cc))
other-reply round message (reply.Version item stamp value) e none stays = other-version round message item stamp value e none
other-reply round message (reply.Status stamp vote) e none stays = of_no_item round message (λ i s v f. absurd (cc)) (λ i f. absurd (cc))
other-reply round message (reply.NotPrepared stamp) e none stays = of_no_item round message (λ i s v f. absurd (cc)) (λ i f. absurd (cc))
other-reply round message reply.Clash e none stays = of_no_item round message (λ i s v f. absurd (cc)) (λ i f. absurd (cc))
other-reply round message (reply.Full stamp) e none stays = of_no_item round message (λ i s v f. absurd (cc)) (λ i f. absurd (cc))
other-reply round message (reply.Gone item) e none stays = other-gone round message item e stays

-- what brings nothing new is one of them
pub IsOther-nothing :
    (round : RoundState) (message : Message)
    → new_answer round message ≡ None → is_gone round message ≡ false
    → IsOther round message
IsOther-nothing round message none stays = go message.body refl
  where
    go : (b : Body) → message.body ≡ b → IsOther round message
    go (body.Request request) e = of_no_item round message (λ i s v f. absurd (cc)) (λ i f. absurd (cc))
    go (body.Reply r) e = other-reply round message r e none stays

-- ---- what ends the read

gone_reply : (r : Reply) (item : ℕ) → reply_gone r ≡ Some item → r ≡ reply.Gone item
gone_reply (reply.Prepared stamp) item e = absurd (cc)
gone_reply (reply.Committed stamp) item e = absurd (cc)
gone_reply (reply.Discarded stamp) item e = absurd (cc)
gone_reply (reply.Version i stamp value) item e = absurd (cc)
gone_reply (reply.Status stamp vote) item e = absurd (cc)
gone_reply (reply.NotPrepared stamp) item e = absurd (cc)
gone_reply reply.Clash item e = absurd (cc)
gone_reply (reply.Full stamp) item e = absurd (cc)
gone_reply (reply.Gone i) item e = let same : i ≡ item = cc in ap reply.Gone same

gone_body : (b : Body) (item : ℕ) → body_gone b ≡ Some item → b ≡ body.Reply (reply.Gone item)
gone_body (body.Request request) item e = absurd (cc)
gone_body (body.Reply r) item e = ap body.Reply (gone_reply r item e)

pub is_client-own : (node : Node) (client : ℕ) → is_client node client ≡ true → node ≡ Client client
is_client-own (Part part) client e = absurd (cc)
is_client-own (Client number) client e = ap Client (eqb-true number client e)

pub is_part-own : (node : Node) (part : ℕ) → is_part node part ≡ true → node ≡ Part part
is_part-own (Part number) part e = ap Part (eqb-true number part e)
is_part-own (Client client) part e = absurd (cc)

has_item-is : (items : List ℕ) (item : ℕ) → has_item items item ≡ true → Contains items item
has_item-is items item e =
    let (at, other, inside, here, same) = Any-from_list_any (λ (n : ℕ). item == n) items e in
    subst (λ (n : ℕ). Contains items n) (sym (eqb-true item other same)) (at, inside, here)

pub IsGone-is_gone : (round : RoundState) (message : Message) → is_gone round message ≡ true → IsGone round message
IsGone-is_gone round message e = go (body_gone message.body) refl parts.1
  where
    parts : (is_some round.stamps ≡ true) × (option_map_or (λ item. is_answer round.asker message item && lacks round item) (body_gone message.body) false ≡ true)
    parts = and_parts _ _ e

    go :
        (o : Option ℕ) → body_gone message.body ≡ o
        → option_map_or (λ item. is_answer round.asker message item && lacks round item) o false ≡ true
        → IsGone round message
    go None f g = absurd (cc)
    go (Some item) f g =
        let both = and_parts (is_answer round.asker message item) (lacks round item) g in
        let own = and_parts _ (is_part message.from (place_of round.asker.parts item)) both.0 in
        let ours = and_parts (message.tag == round.asker.tag) (is_client message.to round.asker.client) own.0 in
        let lacking = and_parts (has_item round.items item) (not (has_answer (answers_there round.answers) item)) both.1 in record {
          item = item;
          second = λ first. false≢true (sym (ap (λ (o : Option (List ℕ)). is_some o) first) ∙ parts.0);
          gone = gone_body message.body item f;
          tag = eqb-true message.tag round.asker.tag ours.0;
          receiver = is_client-own message.to round.asker.client ours.1;
          sender = is_part-own message.from (place_of round.asker.parts item) own.1;
          asked = has_item-is round.items item lacking.0;
          unanswered = λ answer mine there.
              let (at, inside, here) = at_from_Contains round.answers (Some answer) there in
              let has : has_answer (answers_there round.answers) item ≡ true =
              subst (λ (n : ℕ). has_answer (answers_there round.answers) n ≡ true) mine
              (has_answer-at round.answers at answer (here None)) in
              false≢true (sym (not_from_true _ has) ∙ lacking.1);
        }

pub is_gone-IsGone : (round : RoundState) (message : Message) → IsGone round message → is_gone round message ≡ true
is_gone-IsGone round message gone = go (is_gone round message) refl
  where
    second : (o : Option (List ℕ)) → round.stamps ≡ o → is_some round.stamps ≡ true
    second None e = absurd (gone.second e)
    second (Some stamps) e = ap (λ (p : Option (List ℕ)). is_some p) e

    answers : is_answer round.asker message gone.item ≡ true
    answers =
        and_from _ _
        (and_from _ _ (eq-eqb message.tag round.asker.tag gone.tag)
        (ap (λ (n : Node). is_client n round.asker.client) gone.receiver ∙ eq-eqb round.asker.client round.asker.client refl))
        (ap (λ (n : Node). is_part n (place_of round.asker.parts gone.item)) gone.sender
        ∙ eq-eqb (place_of round.asker.parts gone.item) (place_of round.asker.parts gone.item) refl)

    free : (b : Bool) → has_answer (answers_there round.answers) gone.item ≡ b → not b ≡ true
    free true e =
        let (answer, own, there) = answer-there round.answers gone.item e in
        absurd (gone.unanswered answer own there)
    free false e = refl

    go : (b : Bool) → is_gone round message ≡ b → is_gone round message ≡ true
    go true e = e
    go false e =
        counts-is_gone round message gone.item (second round.stamps refl) (ap body_gone gone.gone) answers
        (and_from _ _ (has_item-there round.items gone.item gone.asked)
        (free (has_answer (answers_there round.answers) gone.item) refl))
