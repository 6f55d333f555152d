-- What is asked in one round.
use Rattle.std.specs.Prelude.{List}
use Rattle.album_calls.specs.declared.messages.Message.{Message}
use Rattle.album_passes.specs.Pass.{PassState}

-- the messages of a round, and a pass with the cut with which it began
pub record AskedState : Type 0 where
  pub sent : List Message
  pub begun : PassState
