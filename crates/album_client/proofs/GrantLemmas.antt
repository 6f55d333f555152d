-- What follows of a grant, of an ask that is taken, and of a clock that is spent.
use Rattle.std.proofs.Common.{◌≡◌, ℕ, ◌≤◌, ◌+◌, Bool, true, false, nat_lt, Option, Some, None, Result, Ok, Err, sym, refl, ltb-false, if◌then◌else◌}
use Rattle.std.proofs.lemmas.Option.{same_Some, none-some}
use Rattle.album_stamps.specs.Clocks.{ClockState, next_of}
use Rattle.album_stamps.specs.Stamps.{stamp_number}
use Rattle.album_stamps.specs.declared.limits.TheConstants.{MAX_COUNTER}
use Rattle.album_stamps.specs.declared.refusals.Refusal.{Refusal}
use Rattle.album_stamps.specs.declared.refusals.Refusal.TheVariants as refusal
use Rattle.album_lists.specs.Whos.{or_else}
use Rattle.album_eval.specs.declared.facts.Principal.{Principal}
use Rattle.album_eval.specs.declared.policies.Policy.TheVariants.{One}
use Rattle.album_views.specs.Checks.{flaw_of, owner_flaw, refusal_of}
use Rattle.album_views.specs.declared.asks.Ask.{Ask}
use Rattle.album_views.specs.declared.asks.Ask.TheVariants as ask
use Rattle.album_listing.proofs.GroupsFoundLemmas.{basis-based}
use Rattle.album_listing.specs.GroupsFound.{basis_on}
use Rattle.album_listing.specs.Listing.{listed}
use Rattle.album_views.specs.Asks.{is_write}
use Rattle.album_permits.specs.Permits.{PermitState}
use Rattle.album_permits.specs.Serving.{IsServedFor}
use Rattle.album_permits.specs.declared.serving.Served.{Served}
use Rattle.album_client.specs.Grants.{served_for}

-- what is computed to be served is served
pub served_is : (permit : PermitState) (a : Ask) → permit.view.ask ≡ a → (given : Served)
    → served_for permit a ≡ Some given → IsServedFor permit given a
served_is permit (ask.Read object) e given h = sym (same_Some _ _ h)
served_is permit (ask.List album) e given h =
    let basis = basis_on One permit.principal permit.view.rows in
    record {
      rows = listed basis album;
      listing = record {
        album = album;
        basis = basis;
        asked = e;
        based = basis-based One permit.principal
            permit.view.rows;
        rows_are = refl;
      };
      given_is = sym (same_Some _ _ h);
    }
served_is permit (ask.GetList object) e given h = sym (same_Some _ _ h)
served_is permit (ask.Head object) e given h = sym (same_Some _ _ h)
served_is permit (ask.Children album) e given h = sym (same_Some _ _ h)
served_is permit (ask.AddPicture album title content) e given h = absurd (none-some _ h)
served_is permit (ask.AddAlbum album title) e given h = absurd (none-some _ h)
served_is permit (ask.AddGroup album members) e given h = absurd (none-some _ h)
served_is permit (ask.Retitle object title) e given h = absurd (none-some _ h)
served_is permit (ask.Replace object content) e given h = absurd (none-some _ h)
served_is permit (ask.Delete object) e given h = absurd (none-some _ h)
served_is permit (ask.Move object to) e given h = absurd (none-some _ h)
served_is permit (ask.SetLists lists) e given h = absurd (none-some _ h)
served_is permit (ask.SetOwner object owner group) e given h = absurd (none-some _ h)
served_is permit (ask.SetMembers object members) e given h = absurd (none-some _ h)
served_is permit (ask.Share lists members) e given h = absurd (none-some _ h)

-- where nothing is, the ask writes
pub unserved_writes : (permit : PermitState) (a : Ask) → served_for permit a ≡ None → is_write a ≡ true
unserved_writes permit (ask.Read object) h = absurd (none-some _ (sym h))
unserved_writes permit (ask.List album) h = absurd (none-some _ (sym h))
unserved_writes permit (ask.GetList object) h = absurd (none-some _ (sym h))
unserved_writes permit (ask.Head object) h = absurd (none-some _ (sym h))
unserved_writes permit (ask.Children album) h = absurd (none-some _ (sym h))
unserved_writes permit (ask.AddPicture album title content) h = refl
unserved_writes permit (ask.AddAlbum album title) h = refl
unserved_writes permit (ask.AddGroup album members) h = refl
unserved_writes permit (ask.Retitle object title) h = refl
unserved_writes permit (ask.Replace object content) h = refl
unserved_writes permit (ask.Delete object) h = refl
unserved_writes permit (ask.Move object to) h = refl
unserved_writes permit (ask.SetLists lists) h = refl
unserved_writes permit (ask.SetOwner object owner group) h = refl
unserved_writes permit (ask.SetMembers object members) h = refl
unserved_writes permit (ask.Share lists members) h = refl

-- an ask that a principal may ask has no flaw
pub taken_flawless : (a : Ask) (who : Principal) → refusal_of a who ≡ None → flaw_of a ≡ None
taken_flawless a who h = go (flaw_of a) h
  where
    go : (f : Option Refusal) → or_else f (owner_flaw a who) ≡ None → f ≡ None
    go None e = refl
    go (Some r) e = absurd (none-some _ (sym e))

err_same : {r s : Refusal} → (let a : Result ℕ Refusal = Err r in a) ≡ Err s → r ≡ s
err_same e = cc

-- a clock refuses where it is spent
pub spent_is : (clock : ClockState) (why : Refusal) → next_of clock ≡ Err why
    → (why ≡ refusal.StampsSpent) × (MAX_COUNTER ≤ clock.counter)
spent_is clock why h = go (nat_lt clock.counter MAX_COUNTER) refl h
  where
    go : (b : Bool) → nat_lt clock.counter MAX_COUNTER ≡ b
        → (if b then Ok (stamp_number (clock.counter + 1) clock.client) else Err refusal.StampsSpent) ≡ Err why
        → (why ≡ refusal.StampsSpent) × (MAX_COUNTER ≤ clock.counter)
    go true e q = absurd (cc)
    go false e q = (sym (err_same q), ltb-false clock.counter MAX_COUNTER e)
