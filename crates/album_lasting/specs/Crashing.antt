-- What a crash leaves of a service: which stamps its log has, and what of each item the next epoch opens on.
use Rattle.std.specs.Prelude.{◌≡◌, ◌⊎◌, ℕ, ◌≤◌, true, List, All, Contains, Some, if◌then◌else◌}
use Rattle.album_data.specs.Texts.{IsSpellableEntry, HasLine, entry_text}
use Rattle.album_items.specs.FirstStamps.{first_stamp, shown}
use Rattle.album_items.specs.ItemIds.{place_of}
use Rattle.album_items.specs.Values.{is_there}
use Rattle.album_items.specs.declared.openings.Opening.{Opening}
use Rattle.album_items.specs.declared.values.Value.{Value}
use Rattle.album_keepers.specs.declared.log_entries.LogEntry.{LogEntry}
use Rattle.album_partition.specs.Marks.{prepares, first_value}
use Rattle.album_passes.specs.Cuts.{Cut, prefix_at, items_announced, IsSound}
use Rattle.album_passes.specs.Reads.{IsCommitted, written_value}

-- ---- what is logged

-- an entry is that of a mark with which the item's partition prepared the stamp
pub record IsLoggedFor (cut : Cut) (entries : List LogEntry) (stamp item : ℕ) : Type 0 where
  pub entry : LogEntry
  pub there : Contains entries entry
  pub part : entry.part ≡ place_of cut.parts item
  pub prepared : prepares stamp entry.mark ≡ true

-- the stamp is logged: there is such an entry for each item that is announced for it
pub record IsLogged (cut : Cut) (entries : List LogEntry) (stamp : ℕ) : Type 0 where
  pub items : List ℕ
  pub announced : items_announced cut stamp ≡ Some items
  pub each : All (IsLoggedFor cut entries stamp) items

-- a text of lines has that of such an entry, which a line spells
pub record IsInText (cut : Cut) (text : List ℕ) (stamp item : ℕ) : Type 0 where
  pub entry : LogEntry
  pub spelled : IsSpellableEntry entry
  pub line : HasLine text (entry_text entry)
  pub part : entry.part ≡ place_of cut.parts item
  pub prepared : prepares stamp entry.mark ≡ true

-- A service that began with this opening had come to the cut as it ended, and these are the entries of its log. Each is
-- a mark that its partition had made. Each stamp that was committed anywhere is logged.
pub record IsLogOf (opening : Opening) (cut : Cut) (entries : List LogEntry) : Type 0 where
  pub sound : IsSound cut
  pub some : 1 ≤ cut.parts
  pub parts : cut.parts ≡ opening.parts
  pub opened : cut.opening ≡ opening.items
  pub made : All (λ entry. Contains (prefix_at cut entry.part) entry.mark) entries
  pub kept : (stamp : ℕ) → IsCommitted cut stamp → IsLogged cut entries stamp

-- ---- what opens

-- the value is the item's first one, at 0, or was written to it at a logged stamp
abbrev pub IsLoggedValue : Cut → List LogEntry → ℕ → ℕ → Value → Type 0
IsLoggedValue cut entries item stamp value =
    ((stamp ≡ 0) × (value ≡ first_value cut.opening item))
    ⊎ (IsLogged cut entries stamp × (written_value cut item stamp ≡ Some value))

-- The item opens as it was at the stamp: that is the greatest logged one at which it was written, or 0. It shows that
-- stamp, where it isn't missing, or that which it showed before.
pub record IsOpenedAt (opening : Opening) (cut : Cut) (entries : List LogEntry) (next : Opening) (item stamp : ℕ)
    : Type 0 where
  pub value : IsLoggedValue cut entries item stamp (first_value next.items item)
  pub greatest : (other : ℕ) (value : Value) → IsLogged cut entries other → written_value cut item other ≡ Some value
      → other ≤ stamp
  pub shows : first_stamp next.stamps item
      ≡ (if is_there (first_value next.items item) then shown opening.stamps item stamp else 0)
