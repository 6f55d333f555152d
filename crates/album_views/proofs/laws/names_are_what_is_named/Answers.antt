use Rattle.album_views.proofs.Closing.{names-named-by, names-single, closed-is, is-closed}
use Rattle.album_views.proofs.Sets.{has-Contains}
use Rattle.album_views.proofs.Turns.{names-fixed, names-one}
use Rattle.album_views.proofs.laws.names_are_what_is_named.Goals as goal

pub returns-clause-named : goal.returns-clause-named
returns-clause-named c = names-named-by

pub returns-clause-single : goal.returns-clause-single
returns-clause-single c = λ rows looker ask. names-single rows looker ask

pub returns-clause-order : goal.returns-clause-order
returns-clause-order c = names-fixed

pub returns-clause-one : goal.returns-clause-one
returns-clause-one c = λ rows looker ask names fixed named. names-one rows looker ask names fixed (λ item h. named item (has-Contains names item h))

pub returns-clause-closed : goal.returns-clause-closed
returns-clause-closed c = λ rows looker ask. (closed-is rows looker ask, is-closed rows looker ask)
