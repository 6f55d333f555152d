use Rattle.album_views.proofs.Stepping.{closed-by, wide-by, rounds-by, again-by}
use Rattle.album_views.proofs.laws.a_view_is_the_first_closed_read.Goals as goal

pub returns-clause-closed : goal.returns-clause-closed
returns-clause-closed c = λ viewing looker rows view. closed-by looker viewing rows view

pub returns-clause-wide : goal.returns-clause-wide
returns-clause-wide c = λ viewing looker rows. wide-by looker viewing rows

pub returns-clause-rounds : goal.returns-clause-rounds
returns-clause-rounds c = λ viewing looker rows. rounds-by looker viewing rows

pub returns-clause-again : goal.returns-clause-again
returns-clause-again c = λ viewing other looker rows items. again-by looker viewing rows other items
