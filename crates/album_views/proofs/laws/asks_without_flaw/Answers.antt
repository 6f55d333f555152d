use Rattle.std.proofs.Common.{arith}
use Rattle.album_views.proofs.Flaws.{asks_objects, objects_few, objects_kinds}
use Rattle.album_views.proofs.laws.asks_without_flaw.Goals as goal

pub returns-clause-some : goal.returns-clause-some
returns-clause-some c = λ ask e. let some = (asks_objects ask e).0 in omega (arith, some)

pub returns-clause-few : goal.returns-clause-few
returns-clause-few c = objects_few

pub returns-clause-single : goal.returns-clause-single
returns-clause-single c = λ ask e. (asks_objects ask e).1

pub returns-clause-kinds : goal.returns-clause-kinds
returns-clause-kinds c = objects_kinds
