-- What a service starts with.
use Rattle.std.specs.Prelude.{◌≡◌, ℕ, ◌≤◌, Bool, List}
use Rattle.atomic_table.specs.Seated.{TableId}
use Rattle.album_stamps.specs.declared.limits.TheConstants.{MAX_PARTS, MAX_COUNTER}
use Rattle.album_eval.specs.declared.policies.Policy.{Policy}
use Rattle.album_partition.specs.Partition.{PartitionState}
use Rattle.album_passes.specs.Desk.{DeskState, AreOwners, first_pass}
use Rattle.album_passes.specs.Knowledge.{Terms}
use Rattle.album_passes.specs.Owner.{OwnerState}
use Rattle.album_passes.specs.Pass.{PassState}
use Rattle.album_audit.specs.Books.{LedgerNames}
use Rattle.album_board.specs.Entries.{ListName}
use Rattle.album_keepers.specs.Firsts.{AreFirst}

-- a desk, the policy of rulings, and the names of a board's list and of the ledgers of an audit book
pub record OpenedState : Type 0 where
  pub desk : DeskState
  pub policy : Policy
  pub list : ListName
  pub books : LedgerNames

-- what is so named: the table and the terms of the desk, the policy, the board's list, and the four ledgers
abbrev pub opened_as :
    TableId → Terms → Policy → ListName → (audit_ok audit_failed alarm_ok alarm_failed : ℕ) → OpenedState
opened_as table terms policy list audit_ok audit_failed alarm_ok alarm_failed = record {
  desk = record { table = table; terms = terms };
  policy = policy;
  list = list;
  books = record {
    audit_ok = audit_ok;
    audit_failed = audit_failed;
    alarm_ok = alarm_ok;
    alarm_failed = alarm_failed;
  };
}

-- There are so many partitions, not too few of them nor too many, checked or not, and the counters of the sessions'
-- stamps are above this one; the partitions are those of the desk's terms as they open, with their owners, and the pass
-- is its first one.
pub record IsOpened
    (desk : DeskState) (parts : ℕ) (checked : Bool) (first_counter : ℕ) (owners : List OwnerState)
    (partitions : List PartitionState) (pass : PassState)
    : Type 0 where
  pub parts_are : desk.terms.parts ≡ parts
  pub checked_is : desk.terms.checked ≡ checked
  pub counter_is : desk.terms.first ≡ first_counter
  pub low_counter : first_counter ≤ MAX_COUNTER
  pub some : 1 ≤ desk.terms.parts
  pub few : desk.terms.parts ≤ MAX_PARTS
  pub owned : AreOwners desk owners
  pub opened : AreFirst desk.terms desk.terms.parts partitions
  pub first : pass ≡ first_pass desk
