use Rattle.std.proofs.Common.{◌≡◌, false, subst}
use Rattle.album_permits.specs.Effects.{is_full_for}
use Rattle.album_permits.specs.Writes.{WritesState}
use Rattle.album_permits.proofs.writes.Writes.list.Goals as goal

pub returns-clause-room : goal.returns-clause-room
returns-clause-room c =
    subst (λ (s : WritesState). is_full_for s.permit s.stamp ≡ false) c.self.view_is c.self.invariant.room
