use Rattle.album_permits.proofs.Completing.{denied-noted, first-noted}
use Rattle.album_permits.proofs.note_laws.what_takes_note_is_noted.Goals as goal

pub returns : goal.returns
returns c = record { denied = denied-noted; granted = first-noted }
