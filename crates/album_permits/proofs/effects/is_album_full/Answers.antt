use Rattle.std.proofs.Common.{◌∙◌, ℕ, ap, sym}
use Rattle.album_items.specs.ItemIds.{picture, album}
use Rattle.album_views.specs.Seen.{seen}
use Rattle.album_permits.specs.Effects.{has_most_others, is_album_full}
use Rattle.album_permits.proofs.effects.is_album_full.Goals as goal

pub returns-in-AddPicture : goal.returns-in-AddPicture
returns-in-AddPicture c =
    c.has_most_others.ensures
    ∙ ap (λ (child : ℕ). has_most_others child c.value.result.now) c.picture_at.ensures
    ∙ ap (has_most_others (picture c.args.stamp)) c.value.ensures
    ∙ sym (ap (is_album_full (seen c.args.lookup.now.view.now.rows) c.args.stamp) c.in-AddPicture.is)

pub returns-in-AddAlbum : goal.returns-in-AddAlbum
returns-in-AddAlbum c =
    c.has_most_others-in-AddAlbum.ensures
    ∙ ap (λ (child : ℕ). has_most_others child c.value-in-AddAlbum.result.now) c.album_at.ensures
    ∙ ap (has_most_others (album c.args.stamp)) c.value-in-AddAlbum.ensures
    ∙ sym (ap (is_album_full (seen c.args.lookup.now.view.now.rows) c.args.stamp) c.in-AddAlbum.is)
