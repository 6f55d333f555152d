use Rattle.album_reader.proofs.TwoRounds.{first-not_done, first-not_gone, second-asks_no_more, next-asks_all, done-is_read, new_answer-late}
use Rattle.album_reader.proofs.laws.a_read_has_two_rounds.Goals as goal

pub returns-clause-first : goal.returns-clause-first
returns-clause-first c = first-not_done

pub returns-clause-first_goes_on : goal.returns-clause-first_goes_on
returns-clause-first_goes_on c = first-not_gone

pub returns-clause-second : goal.returns-clause-second
returns-clause-second c = second-asks_no_more

pub returns-clause-asks : goal.returns-clause-asks
returns-clause-asks c = next-asks_all

pub returns-clause-read : goal.returns-clause-read
returns-clause-read c = done-is_read

pub returns-clause-late : goal.returns-clause-late
returns-clause-late c = new_answer-late
