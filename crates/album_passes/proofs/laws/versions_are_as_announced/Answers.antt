use Rattle.album_passes.proofs.PreparedLemmas.{version_announced, version_based}
use Rattle.album_passes.proofs.laws.versions_are_as_announced.Goals as goal

pub returns-clause-value : goal.returns-clause-value
returns-clause-value c = λ cut item stamp value sound there. version_announced cut item stamp value sound there

pub returns-clause-base : goal.returns-clause-base
returns-clause-base c = λ cut item stamp value sound checked there done.
    version_based cut item stamp value sound checked there done
