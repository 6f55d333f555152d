-- A write that is granted on a view and begun at its stamp: how it begins (`begun_on`), stays so as more is seen
-- (`found_more`, `begun_more`), and on what its answer rests, where it ends (`ends_rest`) or is cut off (`cut_rests`).
use Rattle.std.proofs.Common.{Bool, ◌≡◌, ℕ, ◌≤◌, true, inl, inr, List, Option, Some, None, refl, sym, ap, ◌∙◌, subst}
use Rattle.album_calls.specs.declared.messages.Message.{Message}
use Rattle.album_client.specs.Clients.{stamp_at_work}
use Rattle.album_client.specs.Steps.{answer_of}
use Rattle.album_client.specs.declared.clients.Phase.{Phase}
use Rattle.album_client.specs.declared.clients.Phase.TheVariants as phase
use Rattle.album_eval.specs.declared.policies.Policy.{Policy}
use Rattle.album_items.specs.Transactions.{items_written, are_items}
use Rattle.album_passes.proofs.CutLemmas.{extends_trans}
use Rattle.album_passes.specs.Cuts.{Cut, Announced, announced_for, IsPromisedSomewhere, IsSound, Extends}
use Rattle.album_permits.specs.Effects.{effect_of}
use Rattle.album_permits.specs.Permits.{PermitState, permit_on}
use Rattle.album_permits.specs.declared.findings.Finding.{Finding}
use Rattle.album_permits.specs.declared.findings.Finding.TheVariants as finding
use Rattle.album_stamps.specs.declared.refusals.Refusal.{Refusal}
use Rattle.album_stamps.specs.declared.refusals.Refusal.TheVariants.{Full}
use Rattle.album_grounds.specs.Grounds.{IsKept}
use Rattle.album_sessions.specs.Phases.{Outset, IsUnderWay}
use Rattle.album_sessions.specs.Resting.{IsAnnounced, IsFoundOnView, IsBegun, IsUnsettledBy, RestsOn}
use Rattle.album_channels.specs.Channels.{IsClosedOrOutOfMemory}
use Rattle.album_sessions.specs.Sessions.{SessionState, AnnouncesNothing}
use Rattle.album_grounds.specs.Writes.{IsBegunOn, IsEndOf}
use Rattle.album_grounds.proofs.GroundLemmas.{seen_more}
use Rattle.album_writer.specs.Writing.{WritingState, prepare_round}
use Rattle.album_permits.specs.declared.answers.Answer.TheVariants as answer
use Rattle.album_writer.specs.declared.outcomes.Outcome.{Outcome}
use Rattle.album_writer.specs.declared.outcomes.Outcome.TheVariants as outcome
use Rattle.album_writer.proofs.Placing.{some-place}

pub begun_on : (checked : Bool) (permit : PermitState) (stamp client tag parts : ℕ) (c : Cut) → checked ≡ c.checked → parts ≡ c.parts → 1 ≤ parts
    → are_items (items_written (effect_of permit stamp)) ≡ true
    → IsBegunOn c (prepare_round checked permit stamp client tag parts)
begun_on checked permit stamp client tag parts c on same some items = record {
  parts = same;
  checked = on;
  some_parts = some;
  some = some-place parts (items_written (effect_of permit stamp)) some items;
  all = refl;
}

-- what isn't announced wasn't before
pub none_before : (c d : Cut) (t : ℕ) → Extends c d → announced_for d t ≡ None → announced_for c t ≡ None
none_before c d t x none = go (announced_for c t) refl
  where
    go : (o : Option Announced) → announced_for c t ≡ o → announced_for c t ≡ None
    go None e = e
    go (Some items) e = absurd (let now : announced_for d t ≡ Some items = x.announced t items e in let both : None ≡
        Some items = sym none ∙ now in cc)

module _ (policy : Policy) (o : Outset) where
  -- what is found on a view stays so as more is seen
  pub found_more : (a b : SessionState) (f : Finding) (P Q : PermitState → Type 0) → b.share ≡ a.share
      → Extends o.session.cut a.cut
      → Extends a.cut b.cut → IsSound a.cut → IsSound b.cut → ((case : PermitState) → P case → Q case)
      → IsFoundOnView policy o.principal o.ask o.session a f P → IsFoundOnView policy o.principal o.ask o.session b f Q
  found_more a b f P Q share before grown s r on h = record {
    rows = h.rows;
    seen = seen_more o.session.cut a.cut b.cut h.rows s r before grown h.seen;
    view = h.view;
    holds = (
      h.holds.0,
      record { notes = h.holds.1.notes; noted = h.holds.1.noted; added = share ∙ h.holds.1.added },
      on (permit_on policy o.principal o.ask h.rows) h.holds.2,
    );
  }

  pub begun_more : (a b : SessionState) (t : ℕ) (H : PermitState → Type 0) → b.share ≡ a.share → b.counter ≡ a.counter
      → a.client ≡ o.session.client → AnnouncesNothing a b
      → Extends o.session.cut a.cut → Extends a.cut b.cut → IsSound a.cut → IsSound b.cut
      → IsBegun policy o.principal o.ask o.session a t H → IsBegun policy o.principal o.ask o.session b t H
  begun_more a b t H share counter same silent before grown s r h =
      found_more a b finding.Granted (λ permit. IsAnnounced o.session a permit t × H permit)
      (λ permit. IsAnnounced o.session b permit t × H permit)
      share before grown s r
      (λ case y. (
        record {
          drawn = record {
            own = y.0.drawn.own;
            next = y.0.drawn.next;
            last = counter ∙ y.0.drawn.last;
            unused = y.0.drawn.unused;
          };
          above = y.0.above;
          announced = grown.announced _ _ y.0.announced;
          depends = (let d = y.0.depends in record {
            seen = d.seen;
            since = d.since;
            until = extends_trans d.seen a.cut b.cut d.until grown;
            settled = d.settled;
            depended = grown.depended _ _ d.depended;
          });
          alone = λ other own differs. silent other (own ∙ sym same) ∙ y.0.alone other own differs;
        },
        y.1,
      )) h

  module _ (now : SessionState) where
    -- it was begun for this permit, and that holds of it
    begun_as : (w : WritingState) (t : ℕ) → t ≡ w.stamp → (H : PermitState → Type 0) → H w.permit
        → IsBegun policy o.principal o.ask o.session now w.stamp (λ permit. permit ≡ w.permit)
        → IsBegun policy o.principal o.ask o.session now t H
    begun_as w t same H holds h =
        subst (λ (u : ℕ). IsBegun policy o.principal o.ask o.session now u H) (sym same) (record {
          rows = h.rows;
          seen = h.seen;
          view = h.view;
          holds = (h.holds.0, h.holds.1, (h.holds.2.0, subst H (sym h.holds.2.1) holds));
        })

    -- the write has ended so
    pub ends_rest : (limit : ℕ) (w : WritingState)
        → IsBegun policy o.principal o.ask o.session now w.stamp (λ permit. permit ≡ w.permit)
        → (out : Outcome) → IsEndOf limit now.cut w out
        → RestsOn limit policy o.principal o.ask o.session now (answer_of out)
    ends_rest limit w h (outcome.Committed t) (same, kept) =
        begun_as w t same (λ permit. IsKept now.cut permit t) (subst (IsKept now.cut w.permit) (sym same) kept) h
    ends_rest limit w h (outcome.Aborted t) (same, promised) =
        begun_as w t same (λ permit. IsPromisedSomewhere now.cut t)
        (subst (IsPromisedSomewhere now.cut) (sym same) promised) h
    ends_rest limit w h (outcome.Full t) (same, without) =
        begun_as w t same (IsUnsettledBy limit now t Full)
        (subst (λ (u : ℕ). IsUnsettledBy limit now u Full w.permit) (sym same) (inl (refl, without))) h

  -- the write that is under way, and that it was begun at its stamp
  record IsAtWork (now : SessionState) (t : ℕ) : Type 0 where
    begun : WritingState
    granted : IsBegun policy o.principal o.ask o.session now begun.stamp (λ permit. permit ≡ begun.permit)
    same : t ≡ begun.stamp

  at_work : (now : SessionState) (at : Cut) (sent : List Message) (d : Phase) (t : ℕ)
      → IsUnderWay policy o now at sent d
      → stamp_at_work d ≡ Some t → IsAtWork now t
  at_work now at sent (phase.Idle tag) t w e = absurd w.phase
  at_work now at sent (phase.Reads pending_ask round) t w e = absurd (cc)
  at_work now at sent (phase.Prepares writing) t w e = record {
    begun = w.phase.begun;
    granted = w.phase.granted;
    same = (let is : writing.stamp ≡ t = cc in sym is ∙ ap (λ (v : WritingState). v.stamp)
        w.phase.carried.further.same);
  }
  at_work now at sent (phase.Commits writing) t w e = record {
    begun = w.phase.begun;
    granted = w.phase.granted;
    same = (let is : writing.stamp ≡ t = cc in
        sym is ∙ ap (λ (v : WritingState). v.stamp) w.phase.carried.further.same
        ∙ ap (λ (v : WritingState). v.stamp) w.phase.carried.prepared.next_is);
  }

  -- it is cut off, once more was seen
  pub cut_rests : (limit : ℕ) (a b : SessionState) (at : Cut) (sent : List Message) (d : Phase) (t : ℕ) (why : Refusal)
      → IsUnderWay policy o a at sent d → stamp_at_work d ≡ Some t → IsClosedOrOutOfMemory why
      → b.share ≡ a.share → b.counter ≡ a.counter → AnnouncesNothing a b → Extends a.cut b.cut → IsSound b.cut
      → RestsOn limit policy o.principal o.ask o.session b (answer.Unsettled t why)
  cut_rests limit a b at sent d t why w e none share counter silent grown s =
      let u = at_work a at sent d t w e in
      begun_as b u.begun t u.same (IsUnsettledBy limit b t why) (inr none)
      (begun_more a b u.begun.stamp (λ permit. permit ≡ u.begun.permit) share counter w.on.client silent
      w.on.grown grown w.sound s
      u.granted)
