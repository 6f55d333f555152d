-- An ask that is attempted until its write isn't aborted.
use Rattle.std.specs.Prelude.{◌≡◌, ℕ, ◌+◌, ◌<◌, true}
use Rattle.album_eval.specs.declared.facts.Principal.{Principal}
use Rattle.album_eval.specs.declared.policies.Policy.{Policy}
use Rattle.album_permits.specs.declared.answers.Answer.{Answer}
use Rattle.album_permits.specs.declared.answers.Answer.TheVariants as answer
use Rattle.album_sessions.specs.Asks.{IsOn}
use Rattle.album_sessions.specs.Resting.{RestsOn}
use Rattle.album_sessions.specs.Sessions.{SessionState}
use Rattle.album_sessions.specs.declared.attempts.TheConstants.{MAX_ATTEMPTS}
use Rattle.album_views.specs.declared.asks.Ask.{Ask}

-- so many attempts were made from the one session to the other, in a checked store, and each was aborted
pub data WasTried (limit : ℕ) (policy : Policy) (principal : Principal) (ask : Ask) :
    ℕ → SessionState → SessionState → Type 0 where
  NotYet : (session : SessionState) → WasTried limit policy principal ask 0 session session
  OnceMore :
      (count : ℕ) (old mid new : SessionState) (stamp : ℕ) → WasTried limit policy principal ask count old mid
      → mid.cut.checked ≡ true → IsOn mid new → RestsOn limit policy principal ask mid new (answer.Aborted stamp)
      → WasTried limit policy principal ask (count + 1) old new

-- the answer rests on the last of at most eight attempts; where the store isn't checked, there is one
pub record RestsOnLast
    (limit : ℕ) (policy : Policy) (principal : Principal) (ask : Ask) (old new : SessionState) (given : Answer)
    : Type 0 where
  pub count : ℕ
  pub few : count < MAX_ATTEMPTS
  pub begun : SessionState
  pub tried : WasTried limit policy principal ask count old begun
  pub rests : RestsOn limit policy principal ask begun new given
