-- What a message replies to a write.
use Rattle.std.specs.Prelude.{ℕ, Bool, true, false, ◌&&◌, ◌==◌, if◌then◌else◌}
use Rattle.std.specs.List.{list_any}
use Rattle.album_calls.specs.Nodes.{is_part, is_client}
use Rattle.album_calls.specs.declared.messages.Body.{Body}
use Rattle.album_calls.specs.declared.messages.Body.TheVariants as body
use Rattle.album_calls.specs.declared.messages.Message.{Message}
use Rattle.album_calls.specs.declared.replies.Reply.{Reply}
use Rattle.album_calls.specs.declared.replies.Reply.TheVariants as reply
use Rattle.album_writer.specs.declared.write_replies.WriteReply.{WriteReply}
use Rattle.album_writer.specs.declared.write_replies.WriteReply.TheVariants as write_reply
use Rattle.album_writer.specs.Writing.{WritingState, places_in}

-- a reply, by what it says of the stamp
abbrev pub write_reply_of : ℕ → Reply → WriteReply
write_reply_of stamp (reply.Prepared of) = if of == stamp then write_reply.Prepared else write_reply.Nothing
write_reply_of stamp (reply.Committed of) = if of == stamp then write_reply.Committed else write_reply.Nothing
write_reply_of stamp (reply.Discarded of) = if of == stamp then write_reply.Discarded else write_reply.Nothing
write_reply_of stamp (reply.Version item at value) = write_reply.Nothing
write_reply_of stamp (reply.Status of vote) = write_reply.Nothing
write_reply_of stamp (reply.NotPrepared of) = write_reply.Nothing
write_reply_of stamp reply.Clash = write_reply.Nothing
write_reply_of stamp (reply.Full of) = if of == stamp then write_reply.Full else write_reply.Nothing
write_reply_of stamp (reply.Gone item) = write_reply.Nothing

-- the reply in a body; a request is none
abbrev pub body_reply : ℕ → Body → WriteReply
body_reply stamp (body.Request request) = write_reply.Nothing
body_reply stamp (body.Reply reply) = write_reply_of stamp reply

-- a participant sends the message to the write's client, under the tag of the round
abbrev pub is_from_participant : WritingState → Message → Bool
is_from_participant writing message =
    message.tag == writing.tag
    && is_client message.to writing.client
    && list_any (is_part message.from) (places_in writing)

-- what a message replies to the write
abbrev pub reply_in : WritingState → Message → WriteReply
reply_in writing message =
    if is_from_participant writing message then body_reply writing.stamp message.body else write_reply.Nothing

-- the reply says that the stamp is prepared
abbrev pub is_prepared_reply : WriteReply → Bool
is_prepared_reply write_reply.Prepared = true
is_prepared_reply write_reply.Committed = false
is_prepared_reply write_reply.Discarded = false
is_prepared_reply write_reply.Full = false
is_prepared_reply write_reply.Nothing = false

-- the reply says that the stamp is committed
abbrev pub is_committed_reply : WriteReply → Bool
is_committed_reply write_reply.Prepared = false
is_committed_reply write_reply.Committed = true
is_committed_reply write_reply.Discarded = false
is_committed_reply write_reply.Full = false
is_committed_reply write_reply.Nothing = false
