use Rattle.std.proofs.Common.{rules}
use Rattle.std.proofs.lemmas.List.Elements.{same_from_all_zip}
use Rattle.album_partition.proofs.marks.clone_of.Goals as goal

-- two lists whose elements are clones of each other are one
pub returns : goal.returns
returns c = search (rules, same_from_all_zip)
