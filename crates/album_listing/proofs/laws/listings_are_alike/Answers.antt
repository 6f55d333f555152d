use Rattle.album_listing.proofs.Looking.{listed-by-any}
use Rattle.album_listing.proofs.laws.listings_are_alike.Goals as goal

pub returns : goal.returns
returns c = listed-by-any
