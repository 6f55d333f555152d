use Rattle.album_permits.proofs.Granting.{picture-granted, group-granted, rows-granted, entries-granted, head-granted, children-granted}
use Rattle.album_permits.proofs.rights.what_is_served_is_granted.Goals as goal

pub returns : goal.returns
returns c =
    record {
      picture = picture-granted;
      group = group-granted;
      listed = rows-granted;
      entries = entries-granted;
      head = head-granted;
      children = children-granted;
    }
