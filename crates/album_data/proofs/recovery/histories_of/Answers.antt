use Rattle.std.proofs.Common.{◌+◌, [], ◌∷◌, map, sym, ap, ◌∙◌, subst}
use Rattle.std.proofs.lemmas.List.{map-append}
use Rattle.album_data.specs.Recovery.{AreLogged}
use Rattle.album_data.proofs.RecoveryLemmas.{history_more}
use Rattle.album_data.proofs.recovery.histories_of.Goals as goal

pub loop-part-preserved : goal.loop-part-preserved
loop-part-preserved c =
    subst (AreLogged (c.loop-part.part + 1) c.args.entries.now)
    (sym (ap (map (λ marks. marks.items)) c.in_ok-push.ensures.items
    ∙ map-append (λ marks. marks.items) c.loop-part.histories.items (c.in_ok-history_of.field-0 ∷ [])))
    (history_more c.loop-part.part c.args.entries.now _ c.in_ok-history_of.field-0.items c.loop-part.invariant c.in_ok-history_of.ensures)
