use Rattle.album_eval.specs.Matching.{case_of}
use Rattle.album_eval.proofs.Passing.{Passes}
use Rattle.album_eval.proofs.verdicts.evaluate.Given as goal

abbrev pub invariant-loop-index : goal.invariant-loop-index
invariant-loop-index l = Passes (case_of l.facts) l.list l.fn.mask l.index l.remaining
