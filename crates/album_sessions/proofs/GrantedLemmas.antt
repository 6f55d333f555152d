-- What a session has announced was granted: as it begins (`granted_new`), as more is seen (`granted_later`), and where a
-- write is announced (`granted_announced`). So each of its steps keeps what is true of each session: `session_later` and
-- `session_announced`.
use Rattle.std.proofs.Common.{◌≡◌, ℕ, arith, Bool, true, false, Option, Some, None, eqb, eqb-true, if◌then◌else◌, refl, sym, ap, ◌∙◌, subst}
use Rattle.album_eval.specs.declared.policies.Policy.{Policy}
use Rattle.album_passes.specs.Changes.{IsUnheard}
use Rattle.album_passes.specs.Cuts.{Cut, Announced, Announcement, announced_for, Extends}
use Rattle.album_passes.proofs.CutLemmas.{extends_trans}
use Rattle.album_stamps.specs.Clocks.{ClockState}
use Rattle.album_stamps.specs.Stamps.{client_number, counter_of}
use Rattle.album_grounds.specs.Granted.{IsGrantedWrite, IsGrantedFor, AreGranted}
use Rattle.album_channels.specs.Sending.{announced_with}
use Rattle.album_sessions.specs.Sending.{IsReached}
use Rattle.album_channels.specs.Channels.{ChannelState, IsLater}
use Rattle.album_sessions.specs.Sessions.{IsAhead, IsSession}
use Rattle.album_sessions.proofs.SendLemmas.{announced_else}
use Rattle.album_sessions.proofs.SessionLemmas.{ahead_later}

-- it was, as more is seen
still : (policy : Policy) (a b : Cut) (t : ℕ) (is : Announced) → Extends a b → IsGrantedWrite policy a t is
    → IsGrantedWrite policy b t is
still policy a b t is x w = record {
  principal = w.principal;
  ask = w.ask;
  begun = w.begun;
  then = w.then;
  since = extends_trans w.then a b w.since x;
  permitted = w.permitted;
}

pub granted_new : (policy : Policy) (n : ℕ) (c : Cut) → IsUnheard n c → AreGranted policy n c
granted_new policy n c h = λ t is own e. absurd (let none : announced_for c t ≡ None = h t own in
    let both : None ≡ Some is = sym none ∙ e in cc)

pub granted_later : (policy : Policy) (a b : ChannelState) → IsLater a b → AreGranted policy a.client a.cut
    → AreGranted policy b.client b.cut
granted_later policy a b x h = λ t is own e.
    let mine : client_number t ≡ a.client = own ∙ x.client in
    still policy a.cut b.cut t is x.grown (h t is mine (sym (x.own a.client t refl mine) ∙ e))

announced_by_case : (policy : Policy) (c d : Cut) (t u : ℕ) (is us : Announced) → Extends c d → IsGrantedWrite policy c t is
    → (announced_for c u ≡ Some us → IsGrantedWrite policy c u us)
    → (b : Bool) → eqb t u ≡ b → (if b then Some is else announced_for c u) ≡ Some us → IsGrantedWrite policy d u us
announced_by_case policy c d t u is us x w h true e there =
    let same : is ≡ us = cc in
    subst (λ (z : ℕ × Announced). IsGrantedWrite policy d z.0 z.1) (λ i. (eqb-true t u e i, same i)) (still policy c d t is x w)
announced_by_case policy c d t u is us x w h false e there = still policy c d u us x (h there)

pub granted_announced : (policy : Policy) (a b : ChannelState) (o : Option Announcement) → b.cut ≡ announced_with a.cut o
    → b.client ≡ a.client → Extends a.cut b.cut → IsGrantedFor policy a.cut o → AreGranted policy a.client a.cut
    → AreGranted policy b.client b.cut
granted_announced policy a b None is same x w h = λ u us own e.
    still policy a.cut b.cut u us x (h u us (own ∙ same) (ap (λ (c : Cut). announced_for c u) (sym is) ∙ e))
granted_announced policy a b (Some (t, is)) cut same x w h = λ u us own e.
    announced_by_case policy a.cut b.cut t u is us x w (h u us (own ∙ same)) (eqb t u) refl
    (ap (λ (c : Cut). announced_for c u) (sym cut) ∙ e)

-- ---- each step of a session

pub session_later : (named policy : Policy) (clock : ClockState) (a b : ChannelState) → IsLater a b
    → IsSession named policy clock a → IsSession named policy clock b
session_later named policy clock a b x h = record {
  policy_is = h.policy_is;
  own = h.own ∙ sym x.client;
  ahead = ahead_later a b clock.counter x h.ahead;
  granted = granted_later named a b x h.granted;
}

-- the clock has reached the stamp that is announced, and is ahead of all others
ahead_announced : (a b : ChannelState) (counter : ℕ) (o : Option Announcement) → b.cut ≡ announced_with a.cut o
    → b.client ≡ a.client → IsReached counter o → IsAhead a.client counter a.cut → IsAhead b.client counter b.cut
ahead_announced a b counter None is same reached h = λ u own above.
    ap (λ (c : Cut). announced_for c u) is ∙ h u (own ∙ same) above
ahead_announced a b counter (Some (t, is)) cut same reached h = λ u own above.
    ap (λ (c : Cut). announced_for c u) cut
    ∙ announced_else a.cut t u is (λ (e : u ≡ t). absurd (let low = ap counter_of e in omega (arith, low, above, reached)))
    ∙ h u (own ∙ same) above

pub session_announced : (named policy : Policy) (clock : ClockState) (a b : ChannelState) (o : Option Announcement)
    → b.cut ≡ announced_with a.cut o → b.client ≡ a.client → Extends a.cut b.cut
    → IsGrantedFor named a.cut o → IsReached clock.counter o
    → IsSession named policy clock a → IsSession named policy clock b
session_announced named policy clock a b o is same x granted reached h = record {
  policy_is = h.policy_is;
  own = h.own ∙ sym same;
  ahead = ahead_announced a b clock.counter o is same reached h.ahead;
  granted = granted_announced named a b o is same x granted h.granted;
}
