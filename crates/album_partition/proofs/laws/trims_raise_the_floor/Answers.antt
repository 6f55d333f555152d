use Rattle.album_partition.proofs.TrimLemmas.{floor_trimmed, floor_stays, floor_low}
use Rattle.album_partition.proofs.VersionLemmas.{latest_trimmed}
use Rattle.album_partition.proofs.laws.trims_raise_the_floor.Goals as goal

pub returns-clause-latest : goal.returns-clause-latest
returns-clause-latest c = latest_trimmed

pub returns-clause-raised : goal.returns-clause-raised
returns-clause-raised c = floor_trimmed

pub returns-clause-others : goal.returns-clause-others
returns-clause-others c = floor_stays

pub returns-clause-low : goal.returns-clause-low
returns-clause-low c = floor_low
