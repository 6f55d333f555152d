-- What a partition asks of the others.
use Rattle.std.specs.Prelude.{ℕ}
use Rattle.album_calls.specs.declared.messages.Body.TheVariants.{Request}
use Rattle.album_calls.specs.declared.messages.Message.{Message}
use Rattle.album_calls.specs.declared.nodes.Node.TheVariants.{Part}
use Rattle.album_calls.specs.declared.requests.Request.TheVariants.{Check}

-- one partition asks another for the stamp's state there
abbrev pub check_to : ℕ → ℕ → ℕ → Message
check_to part stamp other = record { from = Part part; to = Part other; tag = 0; body = Request (Check stamp) }
