-- On which versions a Prepare asks for its writes.
use Rattle.std.specs.Prelude.{◌≡◌, ℕ, List, length, Some, None}
use Rattle.std.specs.List.{AllZip}
use Rattle.album_items.specs.Openings.{Row}
use Rattle.album_items.specs.Places.{rows_placed_at}
use Rattle.album_items.specs.declared.values.Value.{Value}
use Rattle.album_calls.specs.declared.messages.Body.TheVariants as body
use Rattle.album_calls.specs.declared.messages.Message.{Message}
use Rattle.album_calls.specs.declared.nodes.Node.TheVariants.{Part}
use Rattle.album_calls.specs.declared.requests.Request.TheVariants.{Prepare, PrepareOn}
use Rattle.album_reader.specs.Snapshots.{version_read}
use Rattle.album_permits.specs.Permits.{PermitState}
use Rattle.album_writer.specs.Writing.{WritingState, writes_in, items_in}

-- the base of an item: the stamp at which the view of the permit shows it, and 0 where it doesn't
pub data IsBase (permit : PermitState) (item : ℕ) : ℕ → Type 0 where
  Shown :
      (stamp : ℕ) (value : Value) → version_read permit.view.rows item ≡ Some (stamp, value)
      → IsBase permit item stamp
  NotShown : version_read permit.view.rows item ≡ None → IsBase permit item 0

-- the message asks a partition to prepare the writes that are placed there, each on its base
pub record IsOnBases (writing : WritingState) (message : Message) : Type 0 where
  pub place : ℕ
  pub rows : List Row
  pub bases : List ℕ
  pub to : message.to ≡ Part place
  pub placed : rows ≡ rows_placed_at place writing.parts (writes_in writing)
  pub asked : message.body ≡ body.Request (PrepareOn writing.stamp rows (items_in writing) bases)
  pub one_each : length bases ≡ length rows
  pub each : AllZip (λ (write : Row) base. IsBase writing.permit write.0 base) rows bases

-- the message asks a partition to prepare the writes that are placed there, on whatever versions
pub record IsPlain (writing : WritingState) (message : Message) : Type 0 where
  pub place : ℕ
  pub rows : List Row
  pub to : message.to ≡ Part place
  pub placed : rows ≡ rows_placed_at place writing.parts (writes_in writing)
  pub asked : message.body ≡ body.Request (Prepare writing.stamp rows (items_in writing))
