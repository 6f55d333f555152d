use Rattle.std.proofs.Common.{◌∙◌}
use Rattle.album_writer.proofs.Giving.{prepare-step}
use Rattle.album_writer.proofs.Strays.{prepares-stray}
use Rattle.album_writer.proofs.preparing.Preparing.on_reply.Goals as goal

pub returns-clause-all_given : goal.returns-clause-all_given
returns-clause-all_given c =
    rw (← c.self.view_is) (prepare-step c.self.inside.writing c.args.message.now _ c.take.ensures)

pub returns-clause-stray : goal.returns-clause-stray
returns-clause-stray c =
    rw (← c.self.view_is)
    (λ stray. c.take.ensures ∙ prepares-stray c.self.inside.writing c.args.message.now c.self.invariant.outstanding stray)
