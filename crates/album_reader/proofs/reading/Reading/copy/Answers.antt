use Rattle.std.proofs.Common.{◌≡◌, rules}
use Rattle.std.proofs.lemmas.List.Elements.{same_from_all_zip}
use Rattle.album_reader.proofs.reading.Reading.copy.Goals as goal

-- the copy is not over either
pub invariant_of-result : goal.invariant_of-result
invariant_of-result c =
    let same : c.in_ok-round.round ≡ c.self.inside.round = search (rules, same_from_all_zip) in
    rw same c.self.invariant
