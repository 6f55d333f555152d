-- A permit that is spent on what its ask writes.
use Rattle.std.specs.Prelude.{◌≡◌, ℕ, List, IsTrue, false}
use Rattle.album_views.specs.Asks.{is_write}
use Rattle.album_permits.specs.Effects.{Write, effect_of, is_full_for}
use Rattle.album_permits.specs.Permits.{PermitState}

-- a permit, and the stamp at which its ask writes
pub record WritesState : Type 0 where
  pub permit : PermitState
  pub stamp : ℕ

-- What is true of all writes: their ask is one that writes, there is room for it, and they are its effect.
pub record AreWrites (state : WritesState) (writes : List Write) : Type 0 where
  pub change : IsTrue (is_write state.permit.view.ask)
  pub room : is_full_for state.permit state.stamp ≡ false
  pub effect : writes ≡ effect_of state.permit state.stamp
