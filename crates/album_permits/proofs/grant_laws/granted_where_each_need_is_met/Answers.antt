use Rattle.album_permits.proofs.Meeting.{granted-met}
use Rattle.album_permits.proofs.grant_laws.granted_where_each_need_is_met.Goals as goal

pub returns : goal.returns
returns c = granted-met
