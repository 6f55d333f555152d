use Rattle.std.proofs.Common.{◌||◌, ◌&&◌, ◌∙◌}
use Rattle.std.proofs.Math.Bool.{and-true}
use Rattle.album_items.specs.ItemIds.{album}
use Rattle.album_views.specs.declared.asks.Ask.TheVariants as ask
use Rattle.album_listing.specs.Masks.{ADD_FILE, DELETE_CHILD, DELETE}
use Rattle.album_listing.specs.Reasons.{is_granted_on}
use Rattle.album_permits.specs.Meaning.{is_need_met}
use Rattle.album_permits.specs.Needs.{deletion}
use Rattle.album_tests_laws.proofs.NeedsMet.{granted-where, deletion-met, moved-met}
use Rattle.album_tests_laws.proofs.needing.a_deletion_needs_one_of_two_rights.Goals as goal

pub returns-clause-deleted : goal.returns-clause-deleted
returns-clause-deleted c basis object was home same near =
    granted-where basis (ask.Delete object)
    (is_granted_on basis object DELETE || is_granted_on basis (album was.home) DELETE_CHILD)
    (and-true (is_need_met basis (deletion basis.seen object)) ∙ deletion-met basis object was home same near)

pub returns-clause-moved : goal.returns-clause-moved
returns-clause-moved c basis object to was home same near =
    granted-where basis (ask.Move object to)
    ((is_granted_on basis object DELETE || is_granted_on basis (album was.home) DELETE_CHILD)
    && is_granted_on basis to ADD_FILE)
    (moved-met basis object to (is_granted_on basis object DELETE || is_granted_on basis (album was.home) DELETE_CHILD)
    (deletion-met basis object was home same near))
