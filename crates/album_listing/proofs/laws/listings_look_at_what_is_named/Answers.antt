use Rattle.album_listing.proofs.Looking.{listings-alike}
use Rattle.album_listing.proofs.laws.listings_look_at_what_is_named.Goals as goal

pub returns : goal.returns
returns c = listings-alike
