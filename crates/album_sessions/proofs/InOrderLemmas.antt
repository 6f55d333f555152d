-- What a session's answer rests on, it rests on too from before the session had listened. `Session::ask_in_order` cites
-- `rests_still`.
use Rattle.std.proofs.Common.{◌≡◌, ℕ, ◌+◌, List, refl, sym, ap, ◌∙◌, subst, arith, inl, inr, ⊎_elim, Option}
use Rattle.album_audit.specs.Books.{ShareState}
use Rattle.album_eval.specs.declared.facts.Principal.{Principal}
use Rattle.album_eval.specs.declared.policies.Policy.{Policy}
use Rattle.album_passes.specs.Cuts.{Cut, IsSound, Extends}
use Rattle.album_passes.proofs.CutLemmas.{extends_trans}
use Rattle.album_permits.specs.Permits.{PermitState}
use Rattle.album_permits.specs.declared.answers.Answer.{Answer}
use Rattle.album_permits.specs.declared.answers.Answer.TheVariants as answer
use Rattle.album_permits.specs.declared.findings.Finding.{Finding}
use Rattle.album_permits.specs.declared.findings.Finding.TheVariants as finding
use Rattle.album_reader.specs.Answers.{ReadVersion}
use Rattle.album_stamps.specs.declared.refusals.Refusal.{Refusal}
use Rattle.album_views.specs.declared.asks.Ask.{Ask}
use Rattle.album_views.specs.declared.viewing.Why.TheVariants.{Rounds, Wide}
use Rattle.album_sessions.specs.Asks.{counter_after}
use Rattle.album_grounds.specs.Grounds.{IsSeen, IsWide, AreInVain, IsOutOfReads}
use Rattle.album_grounds.specs.Grounds.AreInVain.{NoRead, OneMore}
use Rattle.album_sessions.specs.Resting.{IsShared, IsFoundOnView, HasSeen, IsDrawn, IsAnnounced, IsBegun, IsRefusedBy, RestsOn}
use Rattle.album_channels.specs.Channels.{ChannelState, IsLater}
use Rattle.album_sessions.specs.Sessions.{SessionState, AnnouncesNothing, AddsNothing}
use Rattle.album_sessions.specs.Steps.{IsStill}
use Rattle.album_grounds.proofs.LookLemmas.{seen_from}
use Rattle.album_grounds.proofs.TrimLemmas.{trims_stay}
use Rattle.album_views.specs.ReadSets.{looker_of}

-- ---- the cuts

module _ (old begun now : Cut) (on : Extends old begun) (later : Extends begun now) (sound : IsSound now) where
  seen_earlier : (rows : List ReadVersion) → IsSeen begun now rows → IsSeen old now rows
  seen_earlier rows h = seen_from old begun now rows on h

  wide_earlier : (looker : Option Principal) (ask : Ask) → IsWide begun now looker ask → IsWide old now looker ask
  wide_earlier looker ask h = record { rows = h.rows; seen = seen_earlier h.rows h.seen; lacking = h.lacking; wide = h.wide }

  vain_earlier : (looker : Option Principal) (ask : Ask) (items : List ℕ) (reads : List (List ReadVersion))
      → AreInVain begun now looker ask items reads → AreInVain old now looker ask items reads
  vain_earlier looker ask _ _ (NoRead items) = NoRead items
  vain_earlier looker ask _ _ (OneMore items rows more of seen lacking few rest) =
      OneMore items rows more of (seen_earlier rows seen) lacking few (vain_earlier looker ask _ more rest)

  out_earlier : IsSound old → IsSound begun → (looker : Option Principal) (ask : Ask) → IsOutOfReads begun now looker ask
      → IsOutOfReads old now looker ask
  out_earlier s r looker ask h = record {
    reads = h.reads;
    in_vain = vain_earlier looker ask _ h.reads h.in_vain;
    all = (let fewer = trims_stay old begun s r on in let all = h.all in omega arith);
  }

-- ---- the sessions

-- a session has seen more by its channel alone
pub still_later : (old : SessionState) (a b : ChannelState) (counter : ℕ) (share : ShareState)
    → record { client = a.client; counter = counter; cut = a.cut; share = share } ≡ old
    → IsLater a b → IsSound a.cut → IsSound b.cut
    → IsStill old (record { client = b.client; counter = counter; cut = b.cut; share = share })
still_later old a b counter share is later s r =
    subst (λ (o : SessionState). IsStill o (record { client = b.client; counter = counter; cut = b.cut; share = share })) is
    (record {
      sound = s;
      on = record { client = later.client; grown = later.grown; risen = omega arith; sound = r };
      adds = record { share = refl; drawn = record { counter = refl; silent = λ t own. later.own a.client t refl own } };
    })

module _ (old begun new : SessionState) (still : IsStill old begun) (later : Extends begun.cut new.cut)
    (sound : IsSound new.cut) where
  -- what is announced of the client's stamps, was so before
  silent_earlier : AnnouncesNothing begun new → AnnouncesNothing old new
  silent_earlier h = λ t own. h t (own ∙ sym still.on.client) ∙ still.adds.drawn.silent t own

  pub adds_earlier : AddsNothing begun new → AddsNothing old new
  adds_earlier h = record {
    share = h.share ∙ still.adds.share;
    drawn = record { counter = h.drawn.counter ∙ still.adds.drawn.counter; silent = silent_earlier h.drawn.silent };
  }

  shared_earlier : (case : PermitState) → IsShared begun.client begun.share new.share case
      → IsShared old.client old.share new.share case
  shared_earlier case h =
      subst (λ (c : ℕ). IsShared c old.share new.share case) still.on.client
      (subst (λ (s : ShareState). IsShared begun.client s new.share case) still.adds.share h)

  has_seen_earlier : (case : PermitState) → HasSeen begun new case → HasSeen old new case
  has_seen_earlier case h = subst (λ (n : ℕ). new.counter ≡ counter_after n case.view.rows) still.adds.drawn.counter h

  drawn_earlier : (case : PermitState) (t : ℕ) → IsDrawn begun new case t → IsDrawn old new case t
  drawn_earlier case t h =
      let own = h.own ∙ still.on.client in
      record {
        own = own;
        next = h.next ∙ ap (λ (n : ℕ). counter_after n case.view.rows + 1) still.adds.drawn.counter;
        last = h.last;
        unused = sym (still.adds.drawn.silent t own) ∙ h.unused;
      }

  announced_earlier : (case : PermitState) (t : ℕ) → IsAnnounced begun new case t → IsAnnounced old new case t
  announced_earlier case t h = record {
    drawn = drawn_earlier case t h.drawn;
    above = h.above;
    announced = h.announced;
    depends = (let d = h.depends in record {
      seen = d.seen;
      since = extends_trans old.cut begun.cut d.seen still.on.grown d.since;
      until = d.until;
      settled = d.settled;
      depended = d.depended;
    });
    alone = λ u own other. h.alone u (own ∙ sym still.on.client) other ∙ still.adds.drawn.silent u own;
  }

  refused_earlier : (why : Refusal) (case : PermitState) → IsRefusedBy begun new why case → IsRefusedBy old new why case
  refused_earlier why case h = ⊎_elim
      (λ f. inl (f.0, record { stamp = f.1.stamp; drawn = drawn_earlier case f.1.stamp f.1.drawn; full = f.1.full }))
      (λ s. inr (s.0, record { seen = has_seen_earlier case s.1.seen; end = s.1.end }))
      h

  module _ (policy : Policy) (principal : Principal) (ask : Ask) where
    on_view_earlier : (found : Finding) (Holds Held : PermitState → Type 0)
        → ((case : PermitState) → Holds case → Held case)
        → IsFoundOnView policy principal ask begun new found Holds → IsFoundOnView policy principal ask old new found Held
    on_view_earlier found Holds Held so h = record {
      rows = h.rows;
      seen = seen_earlier old.cut begun.cut new.cut still.on.grown later sound h.rows h.seen;
      view = h.view;
      holds = (h.holds.0, shared_earlier _ h.holds.1, so _ h.holds.2);
    }

    begun_earlier : (t : ℕ) (Holds : PermitState → Type 0) → IsBegun policy principal ask begun new t Holds
        → IsBegun policy principal ask old new t Holds
    begun_earlier t Holds h = on_view_earlier finding.Granted _ _ (λ case p. (announced_earlier case t p.0, p.1)) h

    pub rests_still : (limit : ℕ) (a : Answer) → RestsOn limit policy principal ask begun new a
        → RestsOn limit policy principal ask old new a
    rests_still limit (answer.Served served) h =
        (on_view_earlier finding.Granted _ _ (λ case p. (p.0, has_seen_earlier case p.1)) h.0, silent_earlier h.1)
    rests_still limit (answer.Denied denial) h =
        (on_view_earlier (finding.Denied denial) _ _ has_seen_earlier h.0, silent_earlier h.1)
    rests_still limit (answer.Missing object) h =
        (on_view_earlier (finding.Missing object) _ _ has_seen_earlier h.0, silent_earlier h.1)
    rests_still limit (answer.Busy Wide) h =
        (wide_earlier old.cut begun.cut new.cut still.on.grown later sound (looker_of policy principal) ask h.0, adds_earlier h.1)
    rests_still limit (answer.Busy Rounds) h =
        (out_earlier old.cut begun.cut new.cut still.on.grown later sound still.sound still.on.sound (looker_of policy principal) ask h.0, adds_earlier h.1)
    rests_still limit (answer.Committed t) h = begun_earlier t _ h
    rests_still limit (answer.Aborted t) h = begun_earlier t _ h
    rests_still limit (answer.Unsettled t why) h = begun_earlier t _ h
    rests_still limit (answer.Refused why) h =
        (on_view_earlier finding.Granted _ _ (refused_earlier why) h.0, silent_earlier h.1)
