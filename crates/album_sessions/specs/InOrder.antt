-- An answer in the order of a service's board.
use Rattle.std.specs.Prelude.{◌≡◌, ℕ}
use Rattle.album_board.specs.Board.{Numbered}
use Rattle.album_eval.specs.declared.facts.Principal.{Principal}
use Rattle.album_eval.specs.declared.policies.Policy.{Policy}
use Rattle.album_passes.specs.Cuts.{Extends}
use Rattle.album_permits.specs.declared.answers.Answer.{Answer}
use Rattle.album_sessions.specs.Attempts.{RestsOnLast}
use Rattle.album_sessions.specs.Sessions.{SessionState}
use Rattle.album_sessions.specs.Steps.{IsStill}
use Rattle.album_views.specs.declared.asks.Ask.{Ask}

-- The session has first taken in all that it listened to, and is else as it was; from there on it asked, and on that
-- the answer rests; and what it has seen in the end was published.
pub record IsInOrder
    (limit : ℕ) (policy : Policy) (principal : Principal) (ask : Ask) (old : SessionState) (listened : Numbered)
    (answer : Answer) (published : Numbered) (new : SessionState) : Type 0 where
  pub begun : SessionState
  pub still : IsStill old begun
  pub has_listened : Extends listened.cut begun.cut
  pub rests : RestsOnLast limit policy principal ask begun new answer
  pub published_all : published.cut ≡ new.cut
