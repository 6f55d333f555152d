use Rattle.album_listing.proofs.Baring.{rows-alike}
use Rattle.album_listing.proofs.disclosure.listings_disclose_nothing.Goals as goal

pub returns : goal.returns
returns c = rows-alike
