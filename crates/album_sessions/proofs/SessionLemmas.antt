-- What a session has seen more. `Session` cites these.
use Rattle.std.proofs.Common.{◌≡◌, ℕ, ◌≤◌, true, List, refl, sym, ◌∙◌, subst, arith}
use Rattle.album_partition.specs.Marks.{is_legal, latest, floor}
use Rattle.album_partition.specs.declared.marks.Mark.{Mark}
use Rattle.album_partition.proofs.GrowthLemmas.{latest_rises}
use Rattle.album_passes.specs.Changes.{IsUnheard}
use Rattle.album_passes.specs.Cuts.{Cut, prefix_at, announced_for, IsSound, Extends}
use Rattle.album_passes.proofs.CutLemmas.{extends_self, extends_trans}
use Rattle.album_stamps.specs.Stamps.{client_number}
use Rattle.album_channels.specs.Channels.{ChannelState, IsLater}
use Rattle.album_sessions.specs.Asks.{IsOn}
use Rattle.album_sessions.specs.Sessions.{SessionState, IsAhead}

-- ---- a clock ahead of what is announced

pub ahead_new : (n counter : ℕ) (c : Cut) → IsUnheard n c → IsAhead n counter c
ahead_new n counter c h = λ t own above. h t own

pub ahead_later : (a b : ChannelState) (counter : ℕ) → IsLater a b → IsAhead a.client counter a.cut → IsAhead b.client counter b.cut
ahead_later a b counter x h = λ t own above. x.own a.client t refl (own ∙ x.client) ∙ h t (own ∙ x.client) above

-- and nothing of its own is announced
pub silent_later : (a b : ChannelState) → IsLater a b → (t : ℕ) → client_number t ≡ a.client
    → announced_for b.cut t ≡ announced_for a.cut t
silent_later a b x t own = x.own a.client t refl own

-- ---- a session that is on

pub on_self : (a : SessionState) → IsSound a.cut → IsOn a a
on_self a s = record { client = refl; grown = extends_self a.cut; risen = omega arith; sound = s }

pub on_trans : (a b c : SessionState) → IsOn a b → IsOn b c → IsOn a c
on_trans a b c x y = record {
  client = y.client ∙ x.client;
  grown = extends_trans a.cut b.cut c.cut x.grown y.grown;
  risen = omega (arith, x.risen, y.risen);
  sound = y.sound;
}

-- ---- a trim

-- the floor of an item that is trimmed is at its latest stamp, and so no lower than its latest stamp was before
pub floor_above : (c d : Cut) (p i : ℕ) → Extends c d → IsSound d → floor (prefix_at d p) i ≡ latest (prefix_at d p) i
    → latest (prefix_at c p) i ≤ floor (prefix_at d p) i
floor_above c d p i x sound e =
    let q = x.prefixes p in
    let legal = subst (λ (ms : List Mark). is_legal ms ≡ true) (sym q.1) (sound.legal p) in
    subst (λ (n : ℕ). latest (prefix_at c p) i ≤ n) (sym e)
    (subst (λ (ms : List Mark). latest (prefix_at c p) i ≤ latest ms i) q.1
    (latest_rises (prefix_at c p) q.0 i legal))
