use Rattle.std.proofs.Common.{◌∙◌, sym, ap}
use Rattle.album_writer.proofs.Readiness.{some_ready, some_prepared}
use Rattle.album_writer.specs.Rounds.WriteStep.{Waits}
use Rattle.album_writer.proofs.preparing.Preparing.take.Goals as goal

-- another reply is outstanding still
pub of-requires-else-is_over : goal.of-requires-else-is_over
of-requires-else-is_over c =
    let answered = rw c.from.ensures at c.answered_by.ensures in
    some_ready c.args.writing c.answered_by.new.self c.args.message.now.from c.args.commits.items c.args.later.items
    c.requires answered (sym c.is_over.ensures ∙ c.if-is_over.false)

pub returns-else-is_over : goal.returns-else-is_over
returns-else-is_over c =
    let answered = rw c.from.ensures at c.answered_by.ensures in
    ap Waits c.of-else-is_over.ensures
    ∙ some_prepared c.args.writing c.answered_by.new.self c.args.message.now c.reply_in.result c.reply_in.ensures answered
    c.in-Prepared.is (sym c.is_over.ensures ∙ c.if-is_over.false)
