use Rattle.std.proofs.Common.{length}
use Rattle.album_explain.proofs.places.bytes.bad_token.Given as goal

abbrev pub decreases-loop-token : goal.decreases-loop-token
decreases-loop-token l = length l.reader
