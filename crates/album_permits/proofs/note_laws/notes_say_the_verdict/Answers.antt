use Rattle.album_permits.proofs.NoteVerdicts.{note-verdict}
use Rattle.album_permits.proofs.note_laws.notes_say_the_verdict.Goals as goal

pub returns : goal.returns
returns c =
    record {
      verdict = λ basis ask note l. (note-verdict basis ask note l).0;
      needed = λ basis ask note l. (note-verdict basis ask note l).1;
    }
