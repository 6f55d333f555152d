use Rattle.std.proofs.Common.{List, sym, ap, ◌∙◌}
use Rattle.std.specs.List.{list_all}
use Rattle.album_views.specs.Checks.{is_room_for, has_room}
use Rattle.album_views.specs.declared.asks.Ask.{Ask}
use Rattle.album_views.specs.declared.asks.NewMembership.{NewMembership}
use Rattle.album_views.proofs.Flaws.{room_share}
use Rattle.album_views.proofs.asks.Ask.has_room.Goals as goal

pub returns-in-Share : goal.returns-in-Share
returns-in-Share c =
    c.have_room.ensures
    ∙ ap (λ (members : List NewMembership). list_all (λ (new : NewMembership). is_room_for new.members) members)
    c.as_slice.ensures
    ∙ sym (room_share c.in-Share.members)
    ∙ sym (ap (λ (a : Ask). has_room a) c.in-Share.is)
