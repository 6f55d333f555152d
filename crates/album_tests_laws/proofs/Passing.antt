-- What passes the check of an ask, test by test, for the law of `checking`.
use Rattle.std.proofs.Common.{◌≡◌, ◌≢◌, ◌≤◌, List, Bool, true, false, not, Contains, Some, None, cond, length, nat_lt, refl, ap, subst, ◌&&◌}
use Rattle.std.specs.Int.RustNames.{bit_and}
use Rattle.std.specs.List.{list_all}
use Rattle.std.proofs.lemmas.Bool.{leb-true, eqb-true, ne_eqb}
use Rattle.album_stamps.specs.declared.limits.TheConstants.{MAX_TRANSACTION_ITEMS}
use Rattle.album_stamps.specs.declared.refusals.Refusal.TheVariants.{BadRequest, TooManyItems, ListFull, BadFlags}
use Rattle.album_access.specs.Bits.{flag_bits}
use Rattle.album_lists.specs.Entries.{fits, is_never_inherited}
use Rattle.album_lists.specs.declared.lists.Ace.{Ace}
use Rattle.album_lists.specs.declared.lists.Holder.{Holder}
use Rattle.album_lists.specs.declared.lists.Holder.TheVariants.{Plain, Folder}
use Rattle.album_items.specs.ItemIds.{kind_of}
use Rattle.album_views.specs.Asks.{wanted}
use Rattle.album_views.specs.Checks.{flaw_of, has_kinds, has_single_objects, has_room, has_fitting_lists, is_room_for, holder_of}
use Rattle.album_views.specs.declared.asks.Ask.{Ask}
use Rattle.album_views.specs.declared.asks.NewList.{NewList}
use Rattle.album_views.specs.declared.asks.NewMembership.{NewMembership}
use Rattle.album_tests_laws.proofs.LowNumbers.{one-passes}

pub passes : (a : Ask) → flaw_of a ≡ None → (has_room a ≡ true) × (has_fitting_lists a ≡ true)
unfolding flaw_of
passes a e =
    go (has_kinds a && has_single_objects a) (nat_lt MAX_TRANSACTION_ITEMS (length (wanted a))) (has_room a) (has_fitting_lists a) e
  where
    go :
        (k t r f : Bool)
        → cond (not k) (Some BadRequest) (cond t (Some TooManyItems) (cond (not r) (Some ListFull) (cond (not f) (Some BadFlags) None)))
        ≡ None
        → (r ≡ true) × (f ≡ true)
    go true false true true h = (refl, refl)
    go true false true false h = absurd (cc)
    go true false false f h = absurd (cc)
    go true true r f h = absurd (cc)
    go false t r f h = absurd (cc)

-- a list that fits what is no album has no entry that is inherited
pub fitting :
    (lists : List NewList) (new : NewList) (entry : Ace)
    → list_all (λ (new : NewList). fits (holder_of new.object) new.list) lists ≡ true
    → Contains lists new → kind_of new.object ≢ 1 → Contains new.list entry
    → bit_and (flag_bits entry.flags) 15 ≡ 0
unfolding is_never_inherited
fitting lists new entry all named other listed =
    let fit : fits (holder_of new.object) new.list ≡ true =
    one-passes (λ (n : NewList). fits (holder_of n.object) n.list) lists new all named
    in
    let plain : holder_of new.object ≡ Plain = ap (λ (b : Bool). cond b Folder Plain) (ne_eqb (kind_of new.object) 1 other) in
    let never : list_all is_never_inherited new.list ≡ true = subst (λ (h : Holder). fits h new.list ≡ true) plain fit in
    eqb-true (bit_and (flag_bits entry.flags) 15) 0 (one-passes is_never_inherited new.list entry never listed)

pub roomy :
    (members : List NewMembership) (new : NewMembership)
    → list_all (λ (new : NewMembership). is_room_for new.members) members ≡ true → Contains members new
    → length new.members ≤ 128
roomy members new all named =
    leb-true (length new.members) 128 (one-passes (λ (n : NewMembership). is_room_for n.members) members new all named)
