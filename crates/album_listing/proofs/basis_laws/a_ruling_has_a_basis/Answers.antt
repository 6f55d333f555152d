use Rattle.album_listing.proofs.GroupsFoundLemmas.{basis-based}
use Rattle.album_listing.proofs.basis_laws.a_ruling_has_a_basis.Goals as goal

pub returns : goal.returns
returns c = basis-based
