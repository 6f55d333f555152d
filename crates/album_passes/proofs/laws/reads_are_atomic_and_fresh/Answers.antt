use Rattle.album_passes.proofs.ReadLemmas.{read_whole, read_written, read_fresh, committed_then, read_up_to_date, atomic_more, fresh_more}
use Rattle.album_passes.proofs.laws.reads_are_atomic_and_fresh.Goals as goal

pub returns-clause-atomic : goal.returns-clause-atomic
returns-clause-atomic c = λ begun middle ended firsts stamps answers r. record {
  whole = read_whole begun middle ended firsts stamps answers r;
  written = read_written begun middle ended firsts stamps answers r;
}

pub returns-clause-fresh : goal.returns-clause-fresh
returns-clause-fresh c = λ begun middle ended firsts stamps answers r.
    read_fresh begun middle ended firsts stamps answers r

pub returns-clause-known : goal.returns-clause-known
returns-clause-known c = λ begun middle ended firsts stamps answers answer r there some.
    committed_then begun middle ended firsts stamps answers r answer there some

pub returns-clause-up_to_date : goal.returns-clause-up_to_date
returns-clause-up_to_date c = λ begun middle ended firsts stamps answers r last.
    read_up_to_date begun middle ended firsts stamps answers r last

pub returns-clause-atomic_still : goal.returns-clause-atomic_still
returns-clause-atomic_still c = λ old new answers s r x a. atomic_more old new s r x answers a

pub returns-clause-fresh_still : goal.returns-clause-fresh_still
returns-clause-fresh_still c = λ earlier begun old new answers s r x y z f. fresh_more earlier begun old new s r x y z answers f
