-- A round of a write, how it begins, and what is sent in it.
use Rattle.std.specs.Prelude.{ℕ, ◌+◌, Bool, List, map, if◌then◌else◌}
use Rattle.album_items.specs.Openings.{Row}
use Rattle.album_items.specs.Places.{places_of, rows_placed_at}
use Rattle.album_items.specs.Transactions.{items_written}
use Rattle.album_calls.specs.declared.messages.Body.TheVariants as body
use Rattle.album_calls.specs.declared.messages.Message.{Message}
use Rattle.album_calls.specs.declared.nodes.Node.TheVariants.{Part, Client}
use Rattle.album_calls.specs.declared.requests.Request.{Request}
use Rattle.album_calls.specs.declared.requests.Request.TheVariants.{Prepare, PrepareOn, Commit}
use Rattle.album_listing.specs.ViewLookups.{stamp_seen}
use Rattle.album_permits.specs.Effects.{effect_of}
use Rattle.album_permits.specs.Permits.{PermitState}

-- A round of a write: whether the store is checked, the permit that was spent on it, the stamp at which it writes, the
-- client and the tag of its messages, how many partitions there are, and the participants whose replies are
-- outstanding, rising.
pub record WritingState : Type 0 where
  pub checked : Bool
  pub permit : PermitState
  pub stamp : ℕ
  pub client : ℕ
  pub tag : ℕ
  pub parts : ℕ
  pub outstanding : List ℕ

-- ---- what is written

-- what is written: the effect of the permit at the stamp
abbrev pub writes_in : WritingState → List Row
writes_in writing = effect_of writing.permit writing.stamp

-- the items of the whole transaction, in the order of the effect
abbrev pub items_in : WritingState → List ℕ
items_in writing = items_written (writes_in writing)

-- the participants, rising: the partitions of the items
abbrev pub places_in : WritingState → List ℕ
places_in writing = places_of writing.parts (items_in writing)

-- the bases of these writes, one for each, in order: the stamp at which the view of the permit shows its item, and 0
-- for an item that it does not show
abbrev pub bases_of : WritingState → List Row → List ℕ
bases_of writing rows = map (λ (row : Row). stamp_seen writing.permit.view.rows row.0) rows

-- ---- what is sent

-- the request to prepare these of the writes, with the items of the whole write: on their bases where the store is
-- checked
abbrev pub prepare_request : WritingState → List Row → Request
prepare_request writing rows =
    if writing.checked then PrepareOn writing.stamp rows (items_in writing) (bases_of writing rows)
    else Prepare writing.stamp rows (items_in writing)

-- the Prepare to a partition: exactly the writes that are placed there
abbrev pub prepare_to : WritingState → ℕ → Message
prepare_to writing place = record {
  from = Client writing.client;
  to = Part place;
  tag = writing.tag;
  body = body.Request (prepare_request writing (rows_placed_at place writing.parts (writes_in writing)));
}

-- the Prepares, one for each participant
abbrev pub prepares_of : WritingState → List Message
prepares_of writing = map (prepare_to writing) (places_in writing)

-- the Commit to a partition
abbrev pub commit_to : WritingState → ℕ → Message
commit_to writing place = record {
  from = Client writing.client;
  to = Part place;
  tag = writing.tag;
  body = body.Request (Commit writing.stamp);
}

-- the Commits, one for each participant
abbrev pub commits_of : WritingState → List Message
commits_of writing = map (commit_to writing) (places_in writing)

-- ---- how a round begins

-- the round of the Prepares, before any reply
abbrev pub prepare_round : Bool → PermitState → ℕ → ℕ → ℕ → ℕ → WritingState
prepare_round checked permit stamp client tag parts = record {
  checked = checked;
  permit = permit;
  stamp = stamp;
  client = client;
  tag = tag;
  parts = parts;
  outstanding = places_of parts (items_written (effect_of permit stamp));
}

-- the round of the Commits of the same write, under the tag one above, before any reply
abbrev pub commit_round : WritingState → WritingState
commit_round writing = record writing { tag = writing.tag + 1; outstanding = places_in writing }
