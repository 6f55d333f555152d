use Rattle.album_permits.proofs.Granting.{content-unshown, children-unshown, members-unshown}
use Rattle.album_permits.proofs.rights.heads_show_no_contents.Goals as goal

pub returns : goal.returns
returns c = record { content = content-unshown; children = children-unshown; members = members-unshown }
