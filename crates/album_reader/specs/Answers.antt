-- The asker of a round, and the answers among the replies that it is given.
use Rattle.std.specs.Prelude.{ℕ, Bool, ◌&&◌, ◌==◌, List, [], ◌∷◌, Option, Some, None, is_some, map, find, option_and_then, if◌then◌else◌}
use Rattle.std.specs.List.{list_all, filter_map}
use Rattle.album_items.specs.ItemIds.{place_of}
use Rattle.album_items.specs.declared.values.Value.{Value}
use Rattle.album_calls.specs.Nodes.{is_part, is_client}
use Rattle.album_calls.specs.declared.messages.Body.{Body}
use Rattle.album_calls.specs.declared.messages.Body.TheVariants as body
use Rattle.album_calls.specs.declared.messages.Message.{Message}
use Rattle.album_calls.specs.declared.replies.Reply.{Reply}
use Rattle.album_calls.specs.declared.replies.Reply.TheVariants as reply

-- the client that asks, under which tag, of how many partitions
pub record Asker : Type 0 where
  pub client : ℕ
  pub tag : ℕ
  pub parts : ℕ

-- a version of an item, as the item's partition answers it
pub record ReadVersion : Type 0 where
  pub item : ℕ
  pub stamp : ℕ
  pub value : Value

-- ---- one message

-- the version in a reply, if it has one
abbrev pub reply_version : Reply → Option ReadVersion
reply_version (reply.Prepared stamp) = None
reply_version (reply.Committed stamp) = None
reply_version (reply.Discarded stamp) = None
reply_version (reply.Version item stamp value) = Some (record { item = item; stamp = stamp; value = value })
reply_version (reply.Status stamp vote) = None
reply_version (reply.NotPrepared stamp) = None
reply_version reply.Clash = None
reply_version (reply.Full stamp) = None
reply_version (reply.Gone item) = None

-- the version in a body, if it has one
abbrev pub body_version : Body → Option ReadVersion
body_version (body.Request request) = None
body_version (body.Reply reply) = reply_version reply

-- the item that is gone by a reply, if one is
abbrev pub reply_gone : Reply → Option ℕ
reply_gone (reply.Prepared stamp) = None
reply_gone (reply.Committed stamp) = None
reply_gone (reply.Discarded stamp) = None
reply_gone (reply.Version item stamp value) = None
reply_gone (reply.Status stamp vote) = None
reply_gone (reply.NotPrepared stamp) = None
reply_gone reply.Clash = None
reply_gone (reply.Full stamp) = None
reply_gone (reply.Gone item) = Some item

-- the item that is gone by a body, if one is
abbrev pub body_gone : Body → Option ℕ
body_gone (body.Request request) = None
body_gone (body.Reply reply) = reply_gone reply

-- the message answers the asker for the item: the item's own partition sends it, under the asker's tag
abbrev pub is_answer : Asker → Message → ℕ → Bool
is_answer asker message item =
    message.tag == asker.tag
    && is_client message.to asker.client
    && is_part message.from (place_of asker.parts item)

-- the version, where the message answers the asker for its item
abbrev pub if_answer : Asker → Message → ReadVersion → Option ReadVersion
if_answer asker message version = if is_answer asker message version.item then Some version else None

-- what the message answers the asker
abbrev pub answer_in : Asker → Message → Option ReadVersion
answer_in asker message = option_and_then (if_answer asker message) (body_version message.body)

-- ---- all the replies

-- the answers among the replies, in their order
abbrev pub answers_in : Asker → List Message → List ReadVersion
answers_in asker replies = filter_map (answer_in asker) replies

-- the item's first answer among the replies
abbrev pub first_answer : Asker → List Message → ℕ → Option ReadVersion
first_answer asker replies item = find (λ answer. answer.item == item) (answers_in asker replies)

-- those of the answers that are there
abbrev pub answers_there : List (Option ReadVersion) → List ReadVersion
answers_there [] = []
answers_there (None ∷ answers) = answers_there answers
answers_there (Some answer ∷ answers) = answer ∷ answers_there answers

-- each of the answers is there
abbrev pub are_there : List (Option ReadVersion) → Bool
are_there answers = list_all is_some answers

-- the answers, if each of them is there
abbrev pub whole : List (Option ReadVersion) → Option (List ReadVersion)
whole answers = if are_there answers then Some (answers_there answers) else None

-- the first answers of all the items, in their order, if each has one
abbrev pub all_answers : Asker → List Message → List ℕ → Option (List ReadVersion)
all_answers asker replies items = whole (map (first_answer asker replies) items)
