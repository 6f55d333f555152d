use Rattle.album_tests_laws.proofs.LowNumbers.{item-below, list-below, home-below, child-below}
use Rattle.album_tests_laws.proofs.opening.what_is_drawn_is_named_by_no_opening.Goals as goal

pub returns-clause-item : goal.returns-clause-item
returns-clause-item c opening row clock stamp opens here reached drawn = item-below opening row clock stamp opens here reached drawn

pub returns-clause-list : goal.returns-clause-list
returns-clause-list c opening row head clock stamp opens here reached drawn = list-below opening row clock stamp opens here reached drawn head

pub returns-clause-home : goal.returns-clause-home
returns-clause-home c opening row home clock stamp opens here reached drawn = home-below opening row clock stamp opens here reached drawn home

pub returns-clause-child : goal.returns-clause-child
returns-clause-child c opening row child clock stamp opens here reached drawn =
    child-below opening row clock stamp opens here reached drawn child
