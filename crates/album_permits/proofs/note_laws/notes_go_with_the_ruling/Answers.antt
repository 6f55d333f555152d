use Rattle.album_permits.proofs.NoteVerdicts.{denied-unsuccessful, granted-spared}
use Rattle.album_permits.proofs.note_laws.notes_go_with_the_ruling.Goals as goal

pub returns : goal.returns
returns c =
    record {
      denied = denied-unsuccessful;
      granted = λ basis ask note e l refused. granted-spared basis ask note e l;
    }
