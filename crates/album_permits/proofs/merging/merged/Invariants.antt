use Rattle.std.proofs.Common.{◌≡◌, [], fold}
use Rattle.album_permits.specs.Effects.{put}
use Rattle.album_permits.proofs.merging.merged.Given as goal

abbrev pub invariant-loop-write : goal.invariant-loop-write
invariant-loop-write l = l.merged.items ≡ fold put [] l.yielded
