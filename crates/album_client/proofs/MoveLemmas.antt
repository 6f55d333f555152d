-- What a client becomes is what the model has of it: for its reads (`few_next`, `readable_gone`, `taken_stepped`), its
-- rulings (`rules_done`, `served_only`) and its writes (`few_prepares`, `just_commits`).
use Rattle.std.proofs.Common.{◌≡◌, ℕ, ◌≤◌, ◌+◌, Bool, true, false, nat_le, nat_lt, List, [], ◌∷◌, length, Option, Some, None, refl, sym, ap, ◌∙◌, subst, arith, true≢false, if◌then◌else◌}
use Rattle.std.specs.Option.{option_map_or}
use Rattle.std.proofs.lemmas.List.{length-map}
use Rattle.album_stamps.specs.declared.limits.TheConstants.{MAX_PARTS, MAX_READ_ITEMS, MAX_READS}
use Rattle.album_stamps.specs.declared.refusals.Refusal.{Refusal}
use Rattle.album_stamps.specs.declared.refusals.Refusal.TheVariants as refusal
use Rattle.album_calls.specs.declared.messages.Message.{Message}
use Rattle.album_eval.specs.declared.facts.Principal.{Principal}
use Rattle.album_eval.specs.declared.policies.Policy.{Policy}
use Rattle.album_reader.specs.Answers.{Asker, ReadVersion, answers_there, are_there}
use Rattle.album_reader.specs.Rounds.{RoundState, next_asker, get_of, gets_of, new_answer, with_answer, end_by, end_of, outcome, taken, is_gone, stepped, IsOpen}
use Rattle.album_reader.specs.Rounds.{Step as ReadStep}
use Rattle.album_reader.specs.Rounds.Step.{Same, Next, Done, Gone}
use Rattle.album_reader.specs.StampSets.{stamps_of}
use Rattle.album_reader.proofs.Rounds.{some_items}
use Rattle.album_reader.proofs.TwoRounds.{gone-is_gone}
use Rattle.album_views.specs.Asks.{is_write}
use Rattle.album_views.specs.Checks.{refusal_of}
use Rattle.album_views.specs.ReadSets.{names_of, looker_of}
use Rattle.album_views.specs.Steps.{again, unclosed, AreReadable, AsksReadable}
use Rattle.album_views.specs.Steps.{stepped as viewed}
use Rattle.album_views.specs.Views.{ViewingState, ViewState, is_closed}
use Rattle.album_views.specs.declared.viewing.ViewStep.TheVariants.{Again, Closed, Busy}
use Rattle.album_views.specs.declared.viewing.Why.TheVariants.{Rounds, Wide}
use Rattle.album_listing.specs.GroupsFound.{basis_on}
use Rattle.album_listing.proofs.GroupsFoundLemmas.{basis-based}
use Rattle.album_permits.specs.Findings.{ruling_of}
use Rattle.album_permits.specs.Notes.{notes_of}
use Rattle.album_permits.specs.Permits.{PermitState, IsPermit, permit_on}
use Rattle.album_permits.specs.Rulings.{finding_in, IsRuled}
use Rattle.album_permits.specs.Serving.{IsServed}
use Rattle.album_permits.specs.declared.rulings.Ruled.{Ruled}
use Rattle.album_permits.specs.declared.serving.Served.{Served}
use Rattle.album_permits.proofs.Agreeing.{ruling-alike, notes-alike}
use Rattle.album_permits.proofs.Spending.{served-alike}
use Rattle.album_writer.specs.Rounds.{WriteStep, prepares_by, prepares_left, prepare_stepped}
use Rattle.album_writer.specs.Rounds.WriteStep.{Waits, Commits as Decides, Ends}
use Rattle.album_writer.specs.Writing.{WritingState, places_in, prepare_to, prepares_of, commit_to, commit_round}
use Rattle.album_writer.specs.WriteReplies.{reply_in}
use Rattle.album_writer.specs.declared.write_replies.WriteReply.{WriteReply}
use Rattle.album_writer.specs.declared.write_replies.WriteReply.TheVariants as write_reply
use Rattle.album_writer.proofs.Placing.{few_places}
use Rattle.album_client.specs.declared.transitions.Transition.{Transition}
use Rattle.album_client.specs.Terms.{Terms}
use Rattle.album_client.specs.Clients.{Client}
use Rattle.album_client.specs.Grants.{served_for}
use Rattle.album_client.specs.Steps.{rules_by, rules, clock_after_rows}
use Rattle.album_client.specs.Transitions.{IsMoved, IsTakenOf}
use Rattle.album_client.proofs.GrantLemmas.{served_is, unserved_writes}
use Rattle.album_stamps.specs.Clocks.{clock_after_reach}

-- ---- a read that is over

module _ (viewing : ViewingState) (policy : Policy) (principal : Principal) where
  -- the same is asked of the same
  pub taken_again : (items : List ℕ) → refusal_of viewing.ask principal ≡ None
      → IsTakenOf policy principal (again viewing items)
  taken_again items taken = go (nat_le MAX_READS (viewing.reads + 1))
    where
      go :
          (b : Bool)
          → IsTakenOf policy principal (if b then Busy Rounds else Again (record viewing { reads = viewing.reads + 1 }) items)
      go true = tt
      go false = taken

  pub taken_stepped : (rows : List ReadVersion) → refusal_of viewing.ask principal ≡ None
      → IsTakenOf policy principal (viewed (looker_of policy principal) viewing rows)
  taken_stepped rows taken = go (is_closed (looker_of policy principal) viewing.ask rows)
    where
      by :
          (b : Bool)
          → IsTakenOf policy principal (if b then Busy Wide else again viewing (names_of rows (looker_of policy principal) viewing.ask))
      by true = tt
      by false = taken_again (names_of rows (looker_of policy principal) viewing.ask) taken

      go :
          (b : Bool)
          → IsTakenOf policy principal
          (if b
          then Closed (record { looker = looker_of policy principal; ask = viewing.ask; rows = rows })
          else unclosed viewing (names_of rows (looker_of policy principal) viewing.ask))
      go true = (taken, refl)
      go false = by (nat_lt MAX_READ_ITEMS (length (names_of rows (looker_of policy principal) viewing.ask)))

-- what is read again can be read
pub readable_again : (viewing : ViewingState) (items : List ℕ) → AreReadable items → AsksReadable (again viewing items)
readable_again viewing items readable = go (nat_le MAX_READS (viewing.reads + 1))
  where
    go : (b : Bool)
        → AsksReadable (if b then Busy Rounds else Again (record viewing { reads = viewing.reads + 1 }) items)
    go true = tt
    go false = readable

pub readable_open : (round : RoundState) → IsOpen round → AreReadable round.items
readable_open round is = record {
  some = some_items round.items round.answers is.in_order is.lacking;
  few = is.few;
  single = is.single;
}

pub readable_gone : (viewing : ViewingState) (round : RoundState) (message : Message) (items : List ℕ) → IsOpen round
    → stepped round message ≡ Gone items → AsksReadable (again viewing items)
readable_gone viewing round message items is gone =
    readable_again viewing items
    (subst AreReadable (sym (gone-is_gone round message items gone).0) (readable_open round is))

-- ---- how many messages

pub few_gets : (asker : Asker) (stamps items : List ℕ) → length items ≤ MAX_READ_ITEMS
    → length (gets_of asker stamps items) ≤ MAX_READ_ITEMS
few_gets asker stamps items few = omega (arith, few, length-map items (get_of asker stamps))

abbrev AreFew : ℕ → ReadStep → Type 0
AreFew most (Same round) = Unit {0}
AreFew most (Next round messages) = length messages ≤ most
AreFew most (Done rows) = Unit {0}
AreFew most (Gone items) = Unit {0}

pub few_stepped : (round : RoundState) (message : Message) → length round.items ≤ MAX_READ_ITEMS
    → AreFew MAX_READ_ITEMS (stepped round message)
few_stepped round message few = go (is_gone round message)
  where
    ends : (put : RoundState) (answers : List ReadVersion) → length put.items ≤ MAX_READ_ITEMS → (f : Option (List ℕ))
        → AreFew MAX_READ_ITEMS (end_by f put answers)
    ends put answers n None = few_gets (next_asker put.asker) (stamps_of answers) put.items n
    ends put answers n (Some stamps) = tt

    over : (put : RoundState) → length put.items ≤ MAX_READ_ITEMS → (b : Bool)
        → AreFew MAX_READ_ITEMS
        (option_map_or (end_of put) (if b then Some (answers_there put.answers) else None) (Same put))
    over put n true = ends put (answers_there put.answers) n put.stamps
    over put n false = tt

    by : (f : Option ReadVersion)
        → AreFew MAX_READ_ITEMS (option_map_or (λ answer. outcome (with_answer round answer)) f (Same round))
    by None = tt
    by (Some answer) = over (with_answer round answer) few (are_there (with_answer round answer).answers)

    go : (b : Bool) → AreFew MAX_READ_ITEMS (if b then Gone round.items else taken round message)
    go true = tt
    go false = by (new_answer round message)

pub few_next : (round next : RoundState) (message : Message) (messages : List Message) → IsOpen round
    → stepped round message ≡ Next next messages → length messages ≤ MAX_READ_ITEMS
few_next round next message messages is e = subst (AreFew MAX_READ_ITEMS) e (few_stepped round message is.few)

pub few_prepares : (writing : WritingState) → writing.parts ≤ MAX_PARTS
    → length (prepares_of writing) ≤ MAX_READ_ITEMS
few_prepares writing few =
    let places : length (places_in writing) ≤ MAX_PARTS = few_places writing.parts _ few in
    omega (arith, places, length-map (places_in writing) (prepare_to writing))

abbrev AreJust : ℕ → WriteStep → Type 0
AreJust most (Waits writing) = Unit {0}
AreJust most (Decides writing messages) = length messages ≤ most
AreJust most (Ends outcome) = Unit {0}

-- the Commits are as many as the participants
pub just_commits : (writing next : WritingState) (message : Message) (messages : List Message)
    → prepare_stepped writing message ≡ Decides next messages → length messages ≤ length (places_in writing)
just_commits writing next message messages e =
    subst (AreJust (length (places_in writing))) e (by (reply_in writing message))
  where
    left : (some : WritingState) → length (places_in some) ≤ length (places_in writing) → (outstanding : List ℕ)
        → AreJust (length (places_in writing)) (prepares_left some outstanding)
    left some few [] =
        omega (arith, few, length-map (places_in (commit_round some)) (commit_to (commit_round some)))
    left some few (place ∷ places) = tt

    by : (f : WriteReply) → AreJust (length (places_in writing)) (prepares_by writing message.from f)
    by write_reply.Prepared = left _ (omega arith) _
    by write_reply.Committed = tt
    by write_reply.Discarded = tt
    by write_reply.Full = tt
    by write_reply.Nothing = tt

-- ---- a view

module _ (policy : Policy) (me : Principal) (view : ViewState) (ruled : Ruled) (is : IsRuled policy me view ruled) where
  pub ruled_is : finding_in ruled.ruling ≡ ruling_of (basis_on policy me view.rows) view.ask
  ruled_is =
      is.finding
      ∙ ruling-alike policy me view.ask view.rows view.rows is.basis _ (record { same = λ item named. refl }) is.based
      (basis-based policy me view.rows)

  pub noted_is : ruled.notes.items ≡ notes_of (basis_on policy me view.rows) view.ask
  noted_is =
      is.noted
      ∙ notes-alike policy me view.ask view.rows view.rows is.basis _ (record { same = λ item named. refl }) is.based
      (basis-based policy me view.rows)

-- what is served is what is computed
pub served_only : (permit : PermitState) (given : Served) → IsPermit permit → is_write permit.view.ask ≡ false
    → IsServed permit given → served_for permit permit.view.ask ≡ Some given
served_only permit given kept reads is = go (served_for permit permit.view.ask) refl
  where
    -- the permit is that on its view's rows for whoever looks by its policy
    same : permit ≡ permit_on permit.policy permit.principal permit.view.ask permit.view.rows
    same = λ i. record permit { view = record permit.view { looker = kept.looks i } }

    go : (f : Option Served) → served_for permit permit.view.ask ≡ f → f ≡ Some given
    go (Some more) e =
        ap Some (served-alike permit.policy permit.principal permit.view.ask permit.view.rows permit.view.rows more
        given (record { same = λ item named. refl })
        (subst (λ p. IsServed p more) same (served_is permit permit.view.ask refl more e))
        (subst (λ p. IsServed p given) same is))
    go None e = absurd (true≢false (sym (unserved_writes permit permit.view.ask e) ∙ reads))

-- why a write doesn't begin
pub full_refused : (b : Bool) → refusal.AlbumFull ≡ (if b then refusal.AlbumFull else refusal.OutOfMemory) → b ≡ true
full_refused true e = refl
full_refused false e = absurd (cc)

pub memory_refused : (b : Bool) (why : Refusal) → why ≡ (if b then refusal.AlbumFull else refusal.OutOfMemory)
    → (why ≡ refusal.AlbumFull → ⊥) → why ≡ refusal.OutOfMemory
memory_refused true why e other = absurd (other e)
memory_refused false why e other = e

-- the ask of a view is ruled on
pub rules_done : (terms : Terms) (x y : Client) (tag : ℕ) (who : Principal) (view : ViewState) (ruled : Ruled)
    (transition : Transition) → IsRuled terms.policy who view ruled
    → y ≡ record x { clock = clock_after_rows (clock_after_reach x.clock terms.first) view.rows }
    → IsMoved (record (rules_by terms y tag (record { view = view; principal = who; policy = terms.policy })
    (finding_in ruled.ruling)) { noted = Some ruled.notes.items }) transition
    → IsMoved (rules terms x tag who view) transition
rules_done terms x y tag who view ruled transition ruling at is =
    rw (at, ruled_is terms.policy who view ruled ruling, noted_is terms.policy who view ruled ruling) at is
