-- What is listed of an album.
use Rattle.std.specs.Prelude.{◌≡◌, ◌==◌, ℕ, List, false, Option, Some, None, option_map, if◌then◌else◌}
use Rattle.std.specs.List.{filter_map}
use Rattle.std.specs.Option.{option_map_or}
use Rattle.album_eval.specs.declared.facts.Principal.{Principal}
use Rattle.album_eval.specs.declared.policies.Policy.TheVariants.{One}
use Rattle.album_items.specs.ItemIds.{number_of}
use Rattle.album_items.specs.Values.{children_of}
use Rattle.album_items.specs.declared.values.Value.{Value}
use Rattle.album_items.specs.declared.values.Value.TheVariants as value
use Rattle.album_views.specs.Views.{ViewState}
use Rattle.album_views.specs.declared.asks.Ask.TheVariants as ask
use Rattle.album_listing.specs.Basis.{Basis, IsBasis}
use Rattle.album_listing.specs.Masks.{READ_ATTRIBUTES}
use Rattle.album_listing.specs.Reasons.{is_granted_on}
use Rattle.album_listing.specs.declared.rows.Row.{Row}

-- the title of what is there, and has the album of this number as its home
abbrev pub title_in : ℕ → Value → Option (List ℕ)
title_in home value.Missing = None
title_in home (value.Picture picture) = if picture.home == home then Some picture.title else None
title_in home (value.Album album) =
    if option_map_or (λ number. number == home) album.home false then Some album.title else None
title_in home (value.List entries) = None
title_in home (value.Group group) = None

-- the title that is shown of a child: READ_ATTRIBUTES is granted on it
abbrev pub title_shown : Basis → ℕ → ℕ → Option (List ℕ)
title_shown basis album child =
    if is_granted_on basis child READ_ATTRIBUTES then title_in (number_of album) (basis.seen child) else None

-- the row of a child, if its title is shown
abbrev pub row_for : Basis → ℕ → ℕ → Option Row
row_for basis album child =
    option_map (λ title. record { item = child; title = title }) (title_shown basis album child)

-- the rows of the children that have one, in the order of the album
abbrev pub listed : Basis → ℕ → List Row
listed basis album = filter_map (row_for basis album) (children_of (basis.seen album))

-- The rows are what is listed to the principal of the album of the view's ask. They are judged under policy One; that
-- they are the same under each other is the law `listings_are_alike`.
pub record IsListing (view : ViewState) (principal : Principal) (rows : List Row) : Type 0 where
  pub album : ℕ
  pub basis : Basis
  pub asked : view.ask ≡ ask.List album
  pub based : IsBasis One principal view.rows basis
  pub rows_are : rows ≡ listed basis album
