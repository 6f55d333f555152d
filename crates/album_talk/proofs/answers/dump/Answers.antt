use Rattle.std.proofs.Common.{sym, subst}
use Rattle.album_items.specs.declared.openings.Opening.{Opening}
use Rattle.album_turns.specs.Left.{IsFoundBy}
use Rattle.album_talk.proofs.Dumping.{found_dumped, refused_dumped}
use Rattle.album_talk.proofs.answers.dump.Goals as goal

pub returns-in-Ok-clause-answers : goal.returns-in-Ok-clause-answers
returns-in-Ok-clause-answers g c =
    found_dumped c.args.epoch.now.opening c.args.session.now c.leave.new.session c.in-Ok.left.listened.cut c.into_opening.result
    c.dump_text.result c.leave.ensures.still
    (subst (λ (next : Opening). IsFoundBy c.args.session.now.cut c.args.epoch.now.opening c.in-Ok.left.listened.cut next)
    (sym c.into_opening.ensures) c.in-Ok.ensures.left)
    c.dump_text.ensures

pub returns-in-Err-clause-answers : goal.returns-in-Err-clause-answers
returns-in-Err-clause-answers g c =
    refused_dumped c.args.epoch.now.opening c.args.session.now c.leave.new.session c.in-Err.refusal c.write_refusal.result
    c.leave.ensures.still c.in-Err.ensures.unleft c.write_refusal.ensures.text
