use Rattle.std.proofs.Common.{sym, rules}
use Rattle.album_reader.proofs.Snapshots.{read-at, read-absent}
use Rattle.album_reader.proofs.snapshot.Snapshot.at.Goals as goal

-- the item was not read
pub returns-in_err-index : goal.returns-in_err-index
returns-in_err-index c =
    let none = read-absent c.args.item c.args.self.now (sym c.in_err-index.ensures) in
    search (rules, none)

-- the answer at the item's index
pub returns : goal.returns
returns c =
    let found = read-at c.args.item c.args.self.now c.in_ok-index.index c.index-answer.result.now (sym c.in_ok-index.ensures) in
    search (rules, found)
