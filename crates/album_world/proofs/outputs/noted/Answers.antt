use Rattle.std.proofs.Common.{refl}
use Rattle.std.proofs.lemmas.List.{take_all}
use Rattle.album_world.proofs.outputs.noted.Goals as goal

-- all notes are given
pub returns-clause-notes : goal.returns-clause-notes
returns-clause-notes c =
    let all = take_all c.loop-note.note-index c.args.notes.now c.loop-note-test.false in
    rw (c.in_ok-reserve.ensures.items, c.loop-note.invariant, all) refl
