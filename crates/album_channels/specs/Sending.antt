-- What a channel announces before it sends messages, and the messages to which replies are outstanding then.
use Rattle.std.specs.Prelude.{◌≡◌, List, [], ◌∷◌, Option, Some, None}
use Rattle.album_calls.specs.declared.messages.Message.{Message}
use Rattle.album_passes.specs.Changes.{announced_cut}
use Rattle.album_passes.specs.Cuts.{Cut, Announcement, announced_for}
use Rattle.album_stamps.specs.Stamps.{client_number}
use Rattle.album_channels.specs.Channels.{ChannelState}

-- ---- what is announced

-- the cut once that is announced, if there is something
abbrev pub announced_with : Cut → Option Announcement → Cut
announced_with cut None = cut
announced_with cut (Some (stamp, announced)) = announced_cut cut stamp announced

-- the stamp is the client's own, and nothing is announced for it
abbrev pub IsUnused : ChannelState → Option Announcement → Type 0
IsUnused channel None = Unit {0}
IsUnused channel (Some (stamp, announced)) =
    (client_number stamp ≡ channel.client) × (announced_for channel.cut stamp ≡ None)

-- ---- outstanding replies

-- replies are outstanding to these messages, or still to those before, where there are none
abbrev pub sent_last : List Message → List Message → List Message
sent_last before [] = before
sent_last before (message ∷ messages) = message ∷ messages

-- the cut with which they were sent
abbrev pub sent_at : Cut → Cut → List Message → Cut
sent_at before now [] = before
sent_at before now (message ∷ messages) = now
