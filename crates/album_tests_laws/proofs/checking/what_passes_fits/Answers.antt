use Rattle.std.proofs.Common.{[], ◌∷◌, arith, refl, sym, ◌∙◌}
use Rattle.album_views.proofs.Flaws.{room_share}
use Rattle.album_views.specs.declared.asks.Ask.TheVariants as ask
use Rattle.album_tests_laws.proofs.Passing.{passes, fitting, roomy}
use Rattle.album_tests_laws.proofs.checking.what_passes_fits.Goals as goal

pub returns-clause-lists : goal.returns-clause-lists
returns-clause-lists c lists new entry e = fitting lists new entry (passes (ask.SetLists lists) e).1

pub returns-clause-shared : goal.returns-clause-shared
returns-clause-shared c lists members new entry e = fitting lists new entry (passes (ask.Share lists members) e).1

pub returns-clause-members : goal.returns-clause-members
returns-clause-members c object members e =
    roomy (record { object = object; members = members } ∷ []) (record { object = object; members = members })
    (passes (ask.SetMembers object members) e).0 (0, omega arith, refl)

pub returns-clause-groups : goal.returns-clause-groups
returns-clause-groups c lists members new e =
    roomy members new (sym (room_share members) ∙ (passes (ask.Share lists members) e).0)

pub returns-clause-made : goal.returns-clause-made
returns-clause-made c into members e =
    roomy (record { object = into; members = members } ∷ []) (record { object = into; members = members })
    (passes (ask.AddGroup into members) e).0 (0, omega arith, refl)
