use Rattle.std.proofs.Common.{rules, sym, subst}
use Rattle.album_calls.specs.declared.messages.Message.{Message}
use Rattle.album_channels.specs.Sightings.{IsSighted}
use Rattle.album_channels.proofs.SightingLemmas.{sighted_now}
use Rattle.album_channels.proofs.sightings.sighting_of.Goals as goal

-- the copy is what was replied
pub returns : goal.returns
returns g c =
    let limit = g.J.DeskNames.terms.limit in
    let cut = c.args.pass.now.cut in
    subst (λ (r : Message). IsSighted limit cut (record { reply = r; marks = c.length-marks.result; settled_below = c.args.settled_below }))
    (sym c.in-Ok.ensures.copy)
    (sighted_now limit cut c.args.request.now c.args.reply.now c.length-marks.result c.args.settled_below c.in-Part.part c.length-marks.ensures.sound
    (search rules) (search rules) c.length-marks.ensures.length c.requires.answered c.requires.latest c.requires.settled)
