use Rattle.album_eval.proofs.Acting.{root-judged, root-noted, root-given}
use Rattle.album_eval.proofs.verdicts.root_as_owner.Goals as goal

pub returns : goal.returns
returns c = record { same = root-judged; noted = root-noted; given = root-given }
