use Rattle.std.proofs.Common.{rules}
use Rattle.album_reader.proofs.Snapshots.{insert_all-single}
use Rattle.album_reader.proofs.snapshot.set_of_many.Goals as goal

-- distinct items are the keys of the set of them
pub returns : goal.returns
returns c = search (rules, insert_all-single)
