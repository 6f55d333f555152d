use Rattle.std.proofs.Common.{refl}
use Rattle.album_wire.proofs.OnLiterals.{lines_on_literals}
use Rattle.album_wire.proofs.opening_line.worked_openings.Goals as goal

pub returns-clause-opens : goal.returns-clause-opens
unfolding lines_on_literals
returns-clause-opens c = refl

pub returns-clause-open_with_parts_alone : goal.returns-clause-open_with_parts_alone
unfolding lines_on_literals
returns-clause-open_with_parts_alone c = refl

pub returns-clause-open_checked : goal.returns-clause-open_checked
unfolding lines_on_literals
returns-clause-open_checked c = refl

pub returns-clause-not_checked : goal.returns-clause-not_checked
unfolding lines_on_literals
returns-clause-not_checked c = refl

pub returns-clause-after_epochs : goal.returns-clause-after_epochs
unfolding lines_on_literals
returns-clause-after_epochs c = refl

pub returns-clause-after_nothing : goal.returns-clause-after_nothing
unfolding lines_on_literals
returns-clause-after_nothing c = refl

pub returns-clause-checked_by_number : goal.returns-clause-checked_by_number
unfolding lines_on_literals
returns-clause-checked_by_number c = refl

pub returns-clause-checked_by_nothing : goal.returns-clause-checked_by_nothing
unfolding lines_on_literals
returns-clause-checked_by_nothing c = refl

pub returns-clause-open_with_root : goal.returns-clause-open_with_root
unfolding lines_on_literals
returns-clause-open_with_root c = refl

pub returns-clause-root_of_policy_1 : goal.returns-clause-root_of_policy_1
unfolding lines_on_literals
returns-clause-root_of_policy_1 c = refl

pub returns-clause-root_of_nothing : goal.returns-clause-root_of_nothing
unfolding lines_on_literals
returns-clause-root_of_nothing c = refl

pub returns-clause-root_by_number : goal.returns-clause-root_by_number
unfolding lines_on_literals
returns-clause-root_by_number c = refl

pub returns-clause-root_by_name : goal.returns-clause-root_by_name
unfolding lines_on_literals
returns-clause-root_by_name c = refl

pub returns-clause-root_by_group : goal.returns-clause-root_by_group
unfolding lines_on_literals
returns-clause-root_by_group c = refl

pub returns-clause-root_by_anonymous : goal.returns-clause-root_by_anonymous
unfolding lines_on_literals
returns-clause-root_by_anonymous c = refl

pub returns-clause-header_shape_first : goal.returns-clause-header_shape_first
unfolding lines_on_literals
returns-clause-header_shape_first c = refl

pub returns-clause-picture_line : goal.returns-clause-picture_line
unfolding lines_on_literals
returns-clause-picture_line c = refl

pub returns-clause-album_line : goal.returns-clause-album_line
unfolding lines_on_literals
returns-clause-album_line c = refl

pub returns-clause-another_kind : goal.returns-clause-another_kind
unfolding lines_on_literals
returns-clause-another_kind c = refl

pub returns-clause-nothing : goal.returns-clause-nothing
unfolding lines_on_literals
returns-clause-nothing c = refl

pub returns-clause-no_home : goal.returns-clause-no_home
unfolding lines_on_literals
returns-clause-no_home c = refl

pub returns-clause-title_first : goal.returns-clause-title_first
unfolding lines_on_literals
returns-clause-title_first c = refl

pub returns-clause-owner_last : goal.returns-clause-owner_last
unfolding lines_on_literals
returns-clause-owner_last c = refl

pub returns-clause-begin : goal.returns-clause-begin
unfolding lines_on_literals
returns-clause-begin c = refl

pub returns-clause-no_begin : goal.returns-clause-no_begin
unfolding lines_on_literals
returns-clause-no_begin c = refl

pub returns-clause-of_an_epoch_before : goal.returns-clause-of_an_epoch_before
unfolding lines_on_literals
returns-clause-of_an_epoch_before c = refl

pub returns-clause-of_none : goal.returns-clause-of_none
unfolding lines_on_literals
returns-clause-of_none c = refl

pub returns-clause-no_stamp : goal.returns-clause-no_stamp
unfolding lines_on_literals
returns-clause-no_stamp c = refl

pub returns-clause-stamp_of_nothing : goal.returns-clause-stamp_of_nothing
unfolding lines_on_literals
returns-clause-stamp_of_nothing c = refl
