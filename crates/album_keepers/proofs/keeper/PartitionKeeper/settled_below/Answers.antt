use Rattle.std.proofs.Common.{◌≡◌, ◌≢◌, ℕ, ◌≤◌, List, Contains, refl, subst, sym, arith}
use Rattle.std.proofs.lemmas.List.Elements.{All-contains}
use Rattle.album_partition.specs.Marks.{state_of}
use Rattle.album_terminate.specs.declared.deciding.StampState.TheVariants as state
use Rattle.album_keepers.specs.Keepers.{KeeperState}
use Rattle.album_keepers.proofs.keeper.PartitionKeeper.settled_below.Goals as goal

pub returns-then-not-has_pending : goal.returns-then-not-has_pending
returns-then-not-has_pending g c = λ stamp low.
    subst (λ (k : KeeperState). state_of k.partition.marks stamp ≢ state.Pending) c.self.view_is (c.if-not-has_pending.ensures.none refl stamp)

-- a stamp that is pending is one of those whose least is returned
pub returns-in-Ok : goal.returns-in-Ok
returns-in-Ok g c = λ stamp low pending.
    let here : state_of c.self.inside.partition.marks stamp ≡ state.Pending =
    subst (λ (k : KeeperState). state_of k.partition.marks stamp ≡ state.Pending) (sym c.self.view_is) pending in
    let listed = (c.in-Ok.ensures.stamps.pending stamp).1 here in
    let least : c.least_of.result ≤ stamp = All-contains (λ (s : ℕ). c.least_of.result ≤ s) c.deref.result.now stamp c.least_of.ensures
    (subst (λ (ts : List ℕ). Contains ts stamp) (sym c.deref.ensures.value) listed) in
    absurd (omega (arith, low, least))
