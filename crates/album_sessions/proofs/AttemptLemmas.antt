-- An ask that is attempted again: what is still so of a session that has only seen more (`still_on`), that an answer Aborted
-- rests then on what it did (`aborted_later`), and how the last answer rests (`rests_first`, `rests_again`). `Session` of
-- `attempts` cites these, and `ask_in_order` the last (`last_still`).
use Rattle.std.proofs.Common.{◌≡◌, ◌⊎◌, ⊎_elim, inl, inr, ℕ, ◌+◌, ◌<◌, ◌≤◌, true, Result, Ok, Err, IfOk, OnErr, refl, sym, ap, ◌∙◌, subst, arith}
use Rattle.album_eval.specs.declared.facts.Principal.{Principal}
use Rattle.album_stamps.specs.declared.refusals.Refusal.{Refusal}
use Rattle.album_eval.specs.declared.policies.Policy.{Policy}
use Rattle.album_partition.specs.declared.marks.Mark.TheVariants.{Discarded}
use Rattle.album_passes.specs.Cuts.{IsSound, Extends, IsPromisedSomewhere}
use Rattle.album_passes.proofs.CutLemmas.{backed_more}
use Rattle.album_permits.specs.Permits.{PermitState}
use Rattle.album_permits.specs.declared.answers.Answer.{Answer}
use Rattle.album_permits.specs.declared.answers.Answer.TheVariants as answer
use Rattle.album_views.specs.declared.asks.Ask.{Ask}
use Rattle.album_sessions.specs.Asks.{IsOn}
use Rattle.album_sessions.specs.Attempts.{WasTried, RestsOnLast}
use Rattle.album_sessions.specs.Attempts.WasTried.{NotYet, OnceMore}
use Rattle.album_sessions.specs.Phases.{Outset}
use Rattle.album_sessions.specs.Resting.{RestsOn}
use Rattle.album_sessions.specs.Sessions.{SessionState, AddsNothing}
use Rattle.album_sessions.specs.Steps.{IsStill}
use Rattle.album_sessions.specs.declared.attempts.TheConstants.{MAX_ATTEMPTS}
use Rattle.album_sessions.proofs.BegunLemmas.{begun_more}
use Rattle.album_sessions.proofs.InOrderLemmas.{rests_still, adds_earlier}
use Rattle.album_sessions.proofs.SessionLemmas.{on_trans}

-- ---- more was seen

-- a session that has seen more, and added nothing, is still what it was
pub still_on : (a b c : SessionState) → IsStill a b → Extends b.cut c.cut → IsSound c.cut → c.client ≡ b.client → AddsNothing b c
    → IsStill a c
still_on a b c h grown sound client adds = record {
  sound = h.sound;
  on = on_trans a b c h.on (record { client = client; grown = grown; risen = (let e = adds.drawn.counter in omega arith); sound = sound });
  adds = adds_earlier a b c h grown sound adds;
}

module _ (limit : ℕ) (policy : Policy) (principal : Principal) (ask : Ask) where
  abbrev Rests : SessionState → SessionState → Answer → Type 0
  Rests = RestsOn limit policy principal ask

  -- a stamp that is aborted stays so
  pub aborted_later : (old a b : SessionState) (t : ℕ) → IsOn old a → IsStill a b → Rests old a (answer.Aborted t) → Rests old b (answer.Aborted t)
  aborted_later old a b t on still h =
      let outset : Outset = record { principal = principal; ask = ask; session = old; hinted = true } in
      let m = begun_more policy outset a b t (λ (permit : PermitState). IsPromisedSomewhere a.cut t) still.adds.share still.adds.drawn.counter
      on.client still.adds.drawn.silent on.grown still.on.grown still.sound still.on.sound h in
      record {
        rows = m.rows;
        seen = m.seen;
        view = m.view;
        holds = (m.holds.0, m.holds.1, (m.holds.2.0, backed_more a.cut b.cut still.on.grown (Discarded t) m.holds.2.1));
      }

  -- it isn't answered that the write is aborted
  abbrev IsElse : Result Answer Refusal → Type 0
  IsElse r = (t : ℕ) → r ≡ Ok (answer.Aborted t) → ⊥

  -- where a write that was aborted was settled since, and nothing else was done
  pub settled_rests : (old a b : SessionState) (r : Result Answer Refusal) → IsOn old a → IsStill a b
      → (IsElse r → b ≡ a) → IfOk r (Rests old a) → IfOk r (Rests old b)
  settled_rests old a b (Err e) on still others h = tt
  settled_rests old a b (Ok given) on still others h = go given others h
    where
      stays : (x : Answer) → (IsElse (Ok x) → b ≡ a) → IsElse (Ok x)
          → Rests old a x → Rests old b x
      stays x same apart rests = subst (λ (s : SessionState). Rests old s x) (sym (same apart)) rests

      go : (x : Answer) → (IsElse (Ok x) → b ≡ a) → Rests old a x → Rests old b x
      go (answer.Aborted t) same rests = aborted_later old a b t on still rests
      go (answer.Served served) same rests = stays (answer.Served served) same (λ t e. absurd (cc (e))) rests
      go (answer.Denied denial) same rests = stays (answer.Denied denial) same (λ t e. absurd (cc (e))) rests
      go (answer.Missing object) same rests = stays (answer.Missing object) same (λ t e. absurd (cc (e))) rests
      go (answer.Busy why) same rests = stays (answer.Busy why) same (λ t e. absurd (cc (e))) rests
      go (answer.Committed u) same rests = stays (answer.Committed u) same (λ t e. absurd (cc (e))) rests
      go (answer.Unsettled u why) same rests = stays (answer.Unsettled u why) same (λ t e. absurd (cc (e))) rests
      go (answer.Refused why) same rests = stays (answer.Refused why) same (λ t e. absurd (cc (e))) rests

  pub settled_adds : (old a b : SessionState) (r : Result Answer Refusal) → (IsElse r → b ≡ a)
      → OnErr r (AddsNothing old a) → OnErr r (AddsNothing old b)
  settled_adds old a b (Ok given) others h = tt
  settled_adds old a b (Err e) others h = subst (AddsNothing old) (sym (others (λ t f. absurd (cc (f))))) h

  -- ---- attempt by attempt

  -- so many attempts so far, less than these, and on what the last one's answer rests
  pub record IsAttempted (old now : SessionState) (given : Answer) (most : ℕ) : Type 0 where
    pub count : ℕ
    pub few : count < most
    pub begun : SessionState
    pub tried : WasTried limit policy principal ask count old begun
    pub on : IsOn begun now
    pub since : IsOn old begun
    pub rests : Rests begun now given

  pub attempted_first : (old now : SessionState) (given : Answer) → IsOn old old → IsOn old now → Rests old now given
      → IsAttempted old now given 1
  attempted_first old now given self on rests =
      record { count = 0; few = omega arith; begun = old; tried = NotYet old; on = on; since = self; rests = rests }

  pub attempted_again : (old now new : SessionState) (t : ℕ) (given : Answer) (most : ℕ) → IsAttempted old now (answer.Aborted t) most
      → now.cut.checked ≡ true → IsOn now new → Rests now new given → IsAttempted old new given (most + 1)
  attempted_again old now new t given most h checked on rests = record {
    count = h.count + 1;
    few = (let few = h.few in omega arith);
    begun = now;
    tried = OnceMore h.count old h.begun now t h.tried (sym (h.on.grown.checked) ∙ checked) h.on h.rests;
    on = on;
    since = on_trans old h.begun now h.since h.on;
    rests = rests;
  }

  pub attempted_last : (old now : SessionState) (given : Answer) (most : ℕ) → most ≤ MAX_ATTEMPTS → IsAttempted old now given most
      → RestsOnLast limit policy principal ask old now given
  attempted_last old now given most less h =
      record { count = h.count; few = (let few = h.few in omega arith); begun = h.begun; tried = h.tried; rests = h.rests }

  -- where the next attempt is refused
  pub attempted_refused : (old now new : SessionState) (t : ℕ) (most : ℕ) → IsAttempted old now (answer.Aborted t) most → IsStill now new
      → IsAttempted old new (answer.Aborted t) most
  attempted_refused old now new t most h still = record {
    count = h.count;
    few = h.few;
    begun = h.begun;
    tried = h.tried;
    on = on_trans h.begun now new h.on still.on;
    since = h.since;
    rests = aborted_later h.begun now new t h.on still h.rests;
  }

  -- ---- from before the session had listened

  module _ (old begun : SessionState) (still : IsStill old begun) where
    -- it hasn't tried yet, or has since then
    tried_still : (count : ℕ) (a b : SessionState) → a ≡ begun → WasTried limit policy principal ask count a b
        → ((count ≡ 0) × (b ≡ begun)) ⊎ WasTried limit policy principal ask count old b
    tried_still _ a _ is (NotYet session) = inl (refl, is)
    tried_still _ a b is (OnceMore count _ mid _ t tried checked on rests) = ⊎_elim
        (λ none. inr (
        let first : Rests begun b (answer.Aborted t) = subst (λ (s : SessionState). Rests s b (answer.Aborted t)) none.1 rests in
        let on_begun : IsOn begun b = subst (λ (s : SessionState). IsOn s b) none.1 on in
        let checked_old : old.cut.checked ≡ true = sym still.on.grown.checked ∙ ap (λ (s : SessionState). s.cut.checked) (sym none.1) ∙ checked in
        subst (λ (n : ℕ). WasTried limit policy principal ask (n + 1) old b) (sym none.0)
        (OnceMore 0 old old b t (NotYet old) checked_old (on_trans old begun b still.on on_begun)
        (rests_still old begun b still on_begun.grown on_begun.sound policy principal ask limit (answer.Aborted t) first))))
        (λ some. inr (OnceMore count old mid b t some checked on rests))
        (tried_still count a mid is tried)

    pub last_still : (new : SessionState) (given : Answer) → Extends begun.cut new.cut → IsSound new.cut
        → RestsOnLast limit policy principal ask begun new given → RestsOnLast limit policy principal ask old new given
    last_still new given later sound h = ⊎_elim
        (λ none. record {
          count = h.count;
          few = h.few;
          begun = old;
          tried = subst (λ (n : ℕ). WasTried limit policy principal ask n old old) (sym none.0) (NotYet old);
          rests = rests_still old begun new still later sound policy principal ask limit given
              (subst (λ (s : SessionState). Rests s new given) none.1 h.rests);
        })
        (λ some. record { count = h.count; few = h.few; begun = h.begun; tried = some; rests = h.rests })
        (tried_still h.count begun h.begun refl h.tried)
