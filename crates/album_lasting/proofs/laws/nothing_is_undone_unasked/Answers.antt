use Rattle.album_lasting.proofs.StayLemmas.{children_stay, titles_stay, contents_stay, homes_stay, heads_stay, lists_stay, groups_stay, deleted_stays}
use Rattle.album_lasting.proofs.laws.nothing_is_undone_unasked.Goals as goal

pub returns-clause-children : goal.returns-clause-children
returns-clause-children c = children_stay

pub returns-clause-titles : goal.returns-clause-titles
returns-clause-titles c = titles_stay

pub returns-clause-contents : goal.returns-clause-contents
returns-clause-contents c = contents_stay

pub returns-clause-homes : goal.returns-clause-homes
returns-clause-homes c = homes_stay

pub returns-clause-heads : goal.returns-clause-heads
returns-clause-heads c = heads_stay

pub returns-clause-lists : goal.returns-clause-lists
returns-clause-lists c = lists_stay

pub returns-clause-members : goal.returns-clause-members
returns-clause-members c = groups_stay

pub returns-clause-deleted : goal.returns-clause-deleted
returns-clause-deleted c = deleted_stays
