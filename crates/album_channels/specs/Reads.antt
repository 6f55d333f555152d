-- How a read begins: with Gets without stamps.
use Rattle.std.specs.Prelude.{Bool, true, false, List, [], ◌∷◌}
use Rattle.album_calls.specs.declared.messages.Body.{Body}
use Rattle.album_calls.specs.declared.messages.Body.TheVariants as body
use Rattle.album_calls.specs.declared.messages.Message.{Message}
use Rattle.album_calls.specs.declared.requests.Request.{Request}
use Rattle.album_calls.specs.declared.requests.Request.TheVariants.{Prepare, PrepareOn, Commit, Get, Check}

-- a Get without stamps, which asks for the latest version
abbrev pub gets_latest : Request → Bool
gets_latest (Prepare stamp writes items) = false
gets_latest (PrepareOn stamp writes items bases) = false
gets_latest (Commit stamp) = false
gets_latest (Get item []) = true
gets_latest (Get item (stamp ∷ stamps)) = false
gets_latest (Check stamp) = false

abbrev pub asks_latest : Body → Bool
asks_latest (body.Request request) = gets_latest request
asks_latest (body.Reply reply) = false

-- a read begins with these messages
abbrev pub begins_read : List Message → Bool
begins_read [] = false
begins_read (message ∷ messages) = asks_latest message.body
