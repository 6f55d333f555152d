-- What a hinted read asks for, and whether it leads to a view.
use Rattle.std.specs.Prelude.{◌==◌, ◌||◌, ℕ, Bool, true, false, List, map, Option, Some, None}
use Rattle.std.specs.List.{list_all, list_any}
use Rattle.album_calls.specs.declared.messages.Body.{Body}
use Rattle.album_calls.specs.declared.messages.Body.TheVariants as body
use Rattle.album_calls.specs.declared.messages.Message.{Message}
use Rattle.album_calls.specs.declared.requests.Request.{Request}
use Rattle.album_calls.specs.declared.requests.Request.TheVariants.{Prepare, PrepareOn, Commit, Get, Check}
use Rattle.album_channels.specs.Reads.{begins_read}
use Rattle.album_permits.specs.declared.answers.Answer.{Answer}
use Rattle.album_permits.specs.declared.answers.Answer.TheVariants as answer

-- each of these items is among the others
abbrev pub are_among : List ℕ → List ℕ → Bool
are_among items others = list_all (λ item. list_any (λ other. item == other) others) items

-- ---- what messages ask for

-- the item of a Get, and of another message the first of all items
abbrev pub item_got : Request → ℕ
item_got (Prepare stamp writes items) = 0
item_got (PrepareOn stamp writes items bases) = 0
item_got (Commit stamp) = 0
item_got (Get item stamps) = item
item_got (Check stamp) = 0

abbrev pub item_asked : Body → ℕ
item_asked (body.Request request) = item_got request
item_asked (body.Reply reply) = 0

-- the items that the messages of a read ask for
abbrev pub items_asked : List Message → List ℕ
items_asked messages = map (λ message. item_asked message.body) messages

-- ---- what a read leads to

-- the ask is answered that it is busy
abbrev pub is_busy : Option Answer → Bool
is_busy None = false
is_busy (Some (answer.Served served)) = false
is_busy (Some (answer.Denied denial)) = false
is_busy (Some (answer.Missing object)) = false
is_busy (Some (answer.Busy why)) = true
is_busy (Some (answer.Committed stamp)) = false
is_busy (Some (answer.Aborted stamp)) = false
is_busy (Some (answer.Unsettled stamp why)) = false
is_busy (Some (answer.Refused why)) = false

-- at its end there is no view: another read begins, or the ask is busy
abbrev pub is_without_view : List Message → Option Answer → Bool
is_without_view sent given = begins_read sent || is_busy given
