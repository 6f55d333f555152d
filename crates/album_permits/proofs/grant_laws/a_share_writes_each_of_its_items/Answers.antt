use Rattle.album_permits.proofs.Sharing.{share-writes}
use Rattle.album_permits.proofs.grant_laws.a_share_writes_each_of_its_items.Goals as goal

pub returns : goal.returns
returns c = share-writes
