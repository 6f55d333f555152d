use Rattle.album_passes.proofs.CausalLemmas.{fresh_by_author}
use Rattle.album_passes.proofs.laws.fresh_as_authors_saw.Goals as goal

pub returns : goal.returns
returns c = λ begun now stamp answers sound x done fresh. fresh_by_author begun now stamp answers sound x done fresh
