use Rattle.std.proofs.Common.{refl, arith}
use Rattle.album_tests_laws.proofs.naming.bits_have_their_names.Goals as goal

pub returns-clause-append : goal.returns-clause-append
returns-clause-append c = (2, omega arith, refl)

pub returns-clause-delete_child : goal.returns-clause-delete_child
returns-clause-delete_child c = (6, omega arith, refl)

pub returns-clause-read_attributes : goal.returns-clause-read_attributes
returns-clause-read_attributes c = (7, omega arith, refl)

pub returns-clause-write_attributes : goal.returns-clause-write_attributes
returns-clause-write_attributes c = (8, omega arith, refl)

pub returns-clause-delete : goal.returns-clause-delete
returns-clause-delete c = (9, omega arith, refl)

pub returns-clause-read_acl : goal.returns-clause-read_acl
returns-clause-read_acl c = (10, omega arith, refl)

pub returns-clause-write_acl : goal.returns-clause-write_acl
returns-clause-write_acl c = (11, omega arith, refl)

pub returns-clause-write_owner : goal.returns-clause-write_owner
returns-clause-write_owner c = (12, omega arith, refl)

pub returns-clause-no_propagate_inherit : goal.returns-clause-no_propagate_inherit
returns-clause-no_propagate_inherit c = (2, omega arith, refl)

pub returns-clause-inherit_only : goal.returns-clause-inherit_only
returns-clause-inherit_only c = (3, omega arith, refl)

pub returns-clause-successful : goal.returns-clause-successful
returns-clause-successful c = (4, omega arith, refl)

pub returns-clause-failed : goal.returns-clause-failed
returns-clause-failed c = (5, omega arith, refl)

pub returns-clause-group : goal.returns-clause-group
returns-clause-group c = (6, omega arith, refl)
