use Rattle.album_writer.proofs.Lasts.{commits-last, commits-own, over, aborts, is-full, ends-last, over-committed}
use Rattle.album_writer.proofs.laws.a_write_ends_by_its_replies.Goals as goal

pub returns-clause-commits : goal.returns-clause-commits
returns-clause-commits c = commits-last

pub returns-clause-its_own : goal.returns-clause-its_own
returns-clause-its_own c = λ writing next message messages. commits-own writing message next messages

pub returns-clause-over : goal.returns-clause-over
returns-clause-over c = over

pub returns-clause-aborted : goal.returns-clause-aborted
returns-clause-aborted c = aborts

pub returns-clause-full : goal.returns-clause-full
returns-clause-full c = is-full

pub returns-clause-committed : goal.returns-clause-committed
returns-clause-committed c = ends-last

pub returns-clause-no_other : goal.returns-clause-no_other
returns-clause-no_other c = over-committed
