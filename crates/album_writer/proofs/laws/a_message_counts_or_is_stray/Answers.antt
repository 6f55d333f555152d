use Rattle.album_writer.proofs.Strays.{prepares-stray, stray-prepares, commits-stray, stray-commits}
use Rattle.album_writer.proofs.laws.a_message_counts_or_is_stray.Goals as goal

pub returns-clause-prepares : goal.returns-clause-prepares
returns-clause-prepares c =
    λ writing message some. (prepares-stray writing message some, stray-prepares writing message)

pub returns-clause-commits : goal.returns-clause-commits
returns-clause-commits c =
    λ writing message some. (commits-stray writing message some, stray-commits writing message)
