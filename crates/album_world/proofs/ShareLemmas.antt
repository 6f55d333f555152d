-- No view holds a part of a share (`no_part`), since views are read atomic and writes are granted.
use Rattle.std.proofs.Common.{◌≡◌, ◌≤◌, ℕ, Bool, true, false, List, Contains, is_some, nat_lt, ⊎_elim, refl, sym, ap, ◌∙◌, subst, arith, ltb-true, ltb-false}
use Rattle.std.proofs.lemmas.Bool.{and_parts}
use Rattle.album_stamps.specs.declared.limits.TheConstants.{CLIENTS}
use Rattle.album_items.specs.Openings.{Row, is_base_opening}
use Rattle.album_items.specs.Transactions.{items_written}
use Rattle.album_items.specs.declared.openings.Opening.{Opening}
use Rattle.album_partition.specs.Marks.{value_in, first_value}
use Rattle.album_reader.specs.Answers.{ReadVersion}
use Rattle.album_reader.specs.Atomic.{IsReadAtomic, IsWrittenBy}
use Rattle.album_views.specs.Seen.{seen}
use Rattle.album_views.specs.declared.asks.NewList.{NewList}
use Rattle.album_views.specs.declared.asks.NewMembership.{NewMembership}
use Rattle.album_permits.proofs.Sharing.{share-writes}
use Rattle.album_permits.specs.Meaning.{items_shared}
use Rattle.album_permits.specs.declared.events.Event.{Event}
use Rattle.album_client.specs.Steps.{Transaction}
use Rattle.album_client.specs.Terms.{Terms, terms_of}
use Rattle.album_world.specs.Atomic.{PastTransaction, writes_in_world, IsShare, NoViewHoldsAPartOfAShare}
use Rattle.album_world.specs.Committing.{IsCommitted}
use Rattle.album_world.specs.Granted.{IsDrawnBy, IsGranted}
use Rattle.album_world.specs.Past.{World}
use Rattle.album_world.specs.Runs.{run_of}
use Rattle.album_world.proofs.ListLemmas.{within}
use Rattle.album_world.proofs.PlaceLemmas.{in_item}
use Rattle.album_world.proofs.PromiseLemmas.{views_are_read_atomic, writes_are_granted}

module _ (world : World) (by : Transaction) where
  -- an item that the share writes has a value in its write
  wrote :
      (terms : Terms) (lists : List NewList) (members : List NewMembership) (item : ℕ)
      → IsGranted terms world by → IsShare world by lists members
      → Contains (items_shared (seen by.permit.view.rows) lists members) item
      → is_some (value_in by.writes item) ≡ true
  wrote terms lists members item granted share c =
      let there = share-writes by.permit by.stamp lists members item share.asked c in
      let written : Contains (items_written by.writes) item =
      subst (λ (ws : List Row). Contains (items_written ws) item) (sym granted.writes.effect) there in
      ap is_some (in_item by.writes item (within (items_written by.writes) written)).1

  -- what was drawn is no 0
  pub drawn : (client : ℕ) → IsDrawnBy world client by.stamp → by.stamp ≡ 0 → ⊥
  drawn client is none =
      let above = ltb-true 0 client (and_parts (nat_lt 0 client) (nat_lt client CLIENTS) is.known).0 in
      let same = is.is in
      absurd (omega (arith, above, same, none))

  module _ (opening : Opening) (rows : List ReadVersion) (atomic : IsReadAtomic (writes_in_world world) (first_value opening.items) rows) where
    -- what is read at its stamp was committed
    committed : (row : ReadVersion) → Contains rows row → row.stamp ≡ by.stamp → (by.stamp ≡ 0 → ⊥) → IsCommitted world by.stamp
    committed row c at some =
        ⊎_elim
        (λ (first : (row.stamp ≡ 0) × (row.value ≡ first_value opening.items row.item)). absurd (some (sym at ∙ first.0)))
        (λ (w : IsWrittenBy (writes_in_world world) row). subst (IsCommitted world) (w.at ∙ at) w.committed)
        (atomic.written row c)

    not_older :
        (one other : ReadVersion) → Contains world.past.transactions by → IsCommitted world by.stamp
        → Contains rows one → is_some (value_in by.writes one.item) ≡ true
        → Contains rows other → is_some (value_in by.writes other.item) ≡ true
        → one.stamp ≡ by.stamp → by.stamp ≤ other.stamp
    not_older one other begun done c wrote_one d wrote_other at = go (nat_lt other.stamp by.stamp) refl
      where
        past : PastTransaction world
        past = record { by = by; begun = begun }

        go : (b : Bool) → nat_lt other.stamp by.stamp ≡ b → by.stamp ≤ other.stamp
        go true older = absurd (atomic.whole one other c d (record {
          by = past;
          committed = done;
          wrote_one = wrote_one;
          wrote_other = wrote_other;
          at = at;
          older = ltb-true other.stamp by.stamp older;
        }))
        go false later = ltb-false other.stamp by.stamp later

pub no_part : (opening : Opening) (events : List Event) → is_base_opening opening ≡ true → NoViewHoldsAPartOfAShare (run_of opening events)
no_part opening events is by lists members read rows one other share made shown c l d m at =
    let world = run_of opening events in
    let granted = (writes_are_granted opening events is).granted by share.begun in
    let atomic = views_are_read_atomic opening events is read rows made shown in
    not_older world by opening rows atomic one other share.begun
    (committed world by opening rows atomic one c at (drawn world by by.client granted.drawn))
    c (wrote world by (terms_of opening) lists members one.item granted share l)
    d (wrote world by (terms_of opening) lists members other.item granted share m) at
