use Rattle.std.proofs.Common.{refl}
use Rattle.album_versions.specs.Versions.{version_at, latest_of, floor_of}
use Rattle.album_versions.proofs.versions.Versions.new.Goals as goal

-- there is no row
pub returns : goal.returns
unfolding version_at latest_of floor_of
returns c = record {
  versions = λ i t. rw (c.new.ensures.empty, version_at) refl;
  latest = λ i. rw (c.new.ensures.empty, latest_of) refl;
  floor = λ i. rw (c.new.ensures.empty, floor_of) refl;
}
