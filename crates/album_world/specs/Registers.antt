-- What one client does among all clients.
use Rattle.std.specs.Prelude.{◌≡◌, ◌==◌, ◌<◌, ℕ, Bool, List, [], map, length, slice_set, slice_index_or, Result}
use Rattle.std.specs.List.{list_any}
use Rattle.album_stamps.specs.declared.refusals.Refusal.{Refusal}
use Rattle.album_calls.specs.declared.messages.Message.{Message}
use Rattle.album_eval.specs.declared.facts.Principal.{Principal}
use Rattle.album_views.specs.declared.asks.Ask.{Ask}
use Rattle.album_client.specs.Terms.{Terms}
use Rattle.album_client.specs.Clients.{Client}
use Rattle.album_client.specs.Steps.{TransitionState}
use Rattle.album_permits.specs.declared.outs.Out.{Out}
use Rattle.album_world.specs.State.{client_at, with_client}
use Rattle.album_world.specs.Changes.{Change, asks_by, client_takes_by}
use Rattle.album_world.specs.Changes.Change.{Nothing, AtPart, AtClient, Stops}
use Rattle.album_world.specs.Runs.{outs_of_transition}

-- the numbers of clients
abbrev pub numbers_of : List Client → List ℕ
numbers_of clients = map (λ (client : Client). client.number) clients

-- a client of this number is among them
abbrev pub has_number : List Client → ℕ → Bool
has_number clients number = list_any (λ other. number == other) (numbers_of clients)

-- the client of the number is at this index, and is put there
pub record StandsAt (clients : List Client) (number index : ℕ) : Type 0 where
  pub inside : index < length clients
  pub client : (other : Client) → client_at clients number ≡ slice_index_or clients index other
  pub own : (other : Client) → (slice_index_or clients index other).number ≡ number
  pub put : (client : Client) → client.number ≡ number → with_client client clients ≡ slice_set clients index client

-- the client of the number asks
abbrev pub asks_of : Terms → ℕ → Client → Principal → Ask → Result Change Refusal
asks_of terms number client principal ask = asks_by terms number client principal ask client.phase

-- the client of the number takes the message
abbrev pub takes_of : Terms → ℕ → Client → Message → Change
takes_of terms number client message = client_takes_by terms number client message client.phase

-- a client has made the transition, and keeps its place, or is put after the others
pub record IsInstalledAmong
    (before number : ℕ) (transition : TransitionState) (old new : List Client) (sent : List Message) (outs : List Out)
    : Type 0 where
  pub clients : new ≡ with_client transition.client old
  pub sent_is : sent ≡ transition.sent
  pub outputs : outs ≡ outs_of_transition before number transition

-- the clients stay as they are, and there are no outputs
pub record AreLeft (old new : List Client) (sent : List Message) (outs : List Out) : Type 0 where
  pub clients : new ≡ old
  pub silent : sent ≡ []
  pub no_outputs : outs ≡ []

-- by the change a client makes a transition, or all are left as they are
abbrev pub AreChangedBy : ℕ → List Client → Change → List Client → List Message → List Out → Type 0
AreChangedBy before old Nothing new sent outs = AreLeft old new sent outs
AreChangedBy before old (AtPart part partition messages) new sent outs = ⊥
AreChangedBy before old (AtClient number transition) new sent outs =
    IsInstalledAmong before number transition old new sent outs
AreChangedBy before old (Stops number) new sent outs = ⊥
