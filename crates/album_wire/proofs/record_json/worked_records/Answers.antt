use Rattle.std.proofs.Common.{refl}
use Rattle.album_wire.specs.RecordJson.{record_text}
use Rattle.album_wire.proofs.OnLiterals.{lines_on_literals}
use Rattle.album_wire.proofs.record_json.worked_records.Goals as goal

pub returns-clause-user : goal.returns-clause-user
unfolding lines_on_literals record_text
returns-clause-user c = refl

pub returns-clause-root : goal.returns-clause-root
unfolding lines_on_literals record_text
returns-clause-root c = refl

pub returns-clause-anonymous : goal.returns-clause-anonymous
unfolding lines_on_literals record_text
returns-clause-anonymous c = refl
