-- What a view leads to: `ruled_on`. What is granted and isn't served is written, at a stamp that is drawn for it.
use Rattle.std.proofs.Common.{◌≡◌, ◌≢◌, ℕ, ◌+◌, ◌<◌, ◌≤◌, Bool, true, false, inl, inr, IsTrue, List, [], All, Option, Some, None, Result, Ok, Err, nat_lt, if◌then◌else◌, get_or, refl, sym, ap, ◌∙◌, subst, arith, le_trans}
use Rattle.std.proofs.Math.Nat.{max-zero}
use Rattle.album_calls.specs.declared.messages.Message.{Message}
use Rattle.album_client.specs.Clients.{Client}
use Rattle.album_client.specs.Grants.{served_for}
use Rattle.album_client.specs.Transitions.{IsMoved}
use Rattle.album_client.specs.Terms.{Terms}
use Rattle.album_client.specs.Steps.{TransitionState, rules, rules_by, grants, draws_by, writes_unless, clock_after_rows}
use Rattle.album_client.specs.declared.clients.Phase.{Phase}
use Rattle.album_client.specs.declared.clients.Phase.TheVariants as phase
use Rattle.album_client.specs.declared.transitions.Transition.{Transition}
use Rattle.album_client.proofs.GrantLemmas.{served_is, unserved_writes}
use Rattle.album_eval.specs.declared.policies.Policy.{Policy}
use Rattle.album_audit.specs.Books.{ShareState}
use Rattle.album_listing.specs.Basis.{Basis}
use Rattle.album_listing.specs.GroupsFound.{basis_on}
use Rattle.album_listing.proofs.GroupsFoundLemmas.{basis-based}
use Rattle.album_passes.specs.Changes.{announced_cut}
use Rattle.album_passes.specs.Cuts.{Cut, announced_for, dependencies_of, IsSound, Extends}
use Rattle.album_passes.proofs.CutLemmas.{extends_self, extends_trans}
use Rattle.album_permits.specs.Effects.{is_full_for}
use Rattle.album_permits.specs.Findings.{ruling_of}
use Rattle.album_permits.specs.Notes.{notes_of}
use Rattle.album_permits.specs.Permits.{PermitState, permit_on, IsPermit}
use Rattle.album_permits.specs.declared.findings.Finding.{Finding}
use Rattle.album_permits.specs.declared.findings.Finding.TheVariants as finding
use Rattle.album_permits.specs.declared.serving.Served.{Served}
use Rattle.album_permits.proofs.Transacting.{effect_items}
use Rattle.album_reader.specs.Answers.{ReadVersion}
use Rattle.album_stamps.specs.Clocks.{ClockState, clock_after_reach, next_of}
use Rattle.album_stamps.specs.Stamps.{is_client, client_number, counter_of, stamp_number}
use Rattle.album_stamps.specs.declared.limits.TheConstants.{MAX_COUNTER}
use Rattle.album_stamps.specs.declared.refusals.Refusal.{Refusal}
use Rattle.album_stamps.specs.declared.refusals.Refusal.TheVariants.{AlbumFull, StampsSpent}
use Rattle.album_grounds.specs.Looks.{IsViewOf}
use Rattle.album_sessions.specs.Asks.{AreShared, counter_after}
use Rattle.album_grounds.specs.Granted.{IsGrantedWrite}
use Rattle.album_grounds.specs.Grounds.{AreSettled, IsSeen, write_of}
use Rattle.album_keepers.specs.Envelopes.{Shows}
use Rattle.album_sessions.specs.Phases.{Outset, IsUnderWay}
use Rattle.album_sessions.specs.Resting.{HasSeen, IsDrawn, IsAnnounced, IsFoundOnView, IsBegun, IsRefusedBy}
use Rattle.album_channels.specs.Sending.{announced_with, sent_last, sent_at}
use Rattle.album_sessions.specs.Sending.{to_announce, announced_by, IsFreeFor, IsFree, IsAnnouncedBy}
use Rattle.album_sessions.specs.Sessions.{SessionState, AnnouncesNothing, AddsNothing}
use Rattle.album_sessions.specs.Steps.{client_step_in, terms_in}
use Rattle.album_grounds.specs.Writes.{announcement_of, IsBegunOn, IsPreparedAt}
use Rattle.album_sessions.proofs.BegunLemmas.{begun_on, none_before, found_more}
use Rattle.album_sessions.proofs.ClockLemmas.{rows_client, rows_rise, rows_counter, rows_seen, number_own, number_counter, number_above}
use Rattle.album_sessions.proofs.TransitionLemmas.{IsNoted, IsMovedOn}
use Rattle.album_sessions.proofs.TransitionLemmas.IsMovedOn.{Told, Goes}
use Rattle.album_sessions.proofs.SendLemmas.{prepares_announce, some_prepares, last_sent, last_at, announced_here, announced_else, depended_here}
use Rattle.album_grounds.proofs.WriteLemmas.{begun_further, shows_prepares}
use Rattle.album_views.specs.Asks.{is_write}
use Rattle.album_writer.specs.Writing.{WritingState, places_in, prepare_round, prepares_of}
use Rattle.album_permits.specs.declared.answers.Answer.TheVariants as answer
use Rattle.album_views.specs.ReadSets.{looker_of}

module _ (limit : ℕ) (policy : Policy) (o : Outset) (now next noted : SessionState) (at : Cut) (sent : List Message)
    (transition : Transition)
    (N : IsNoted o now next noted transition) (only : AddsNothing o.session next) (tag : ℕ) (rows : List ReadVersion)
    (V : IsViewOf o.session.cut next.cut (looker_of policy o.principal) o.ask
    (record { looker = looker_of policy o.principal; ask = o.ask; rows = rows })) where
  abbrev After : Type 0
  After = IsMovedOn limit policy o noted at sent transition

  abbrev terms : Terms
  terms = terms_in policy next

  abbrev basis : Basis
  basis = basis_on policy o.principal rows

  abbrev case : PermitState
  case = permit_on policy o.principal o.ask rows

  -- the clock before it sees what was read: a session's clock begins at its opening's, so no other is reached
  abbrev from : ClockState
  from = clock_after_reach (client_step_in next).clock terms.first

  -- the clock once it has seen what was read, and the client with it
  abbrev k : ClockState
  k = clock_after_rows from rows

  abbrev y : Client
  y = record (client_step_in next) { clock = k }

  on_next : Extends o.session.cut next.cut
  on_next = extends_trans o.session.cut now.cut next.cut N.on.grown N.heard.grown

  on_noted : Extends o.session.cut noted.cut
  on_noted = subst (Extends o.session.cut) (sym N.cut) on_next

  silent_noted : AnnouncesNothing o.session noted
  silent_noted = λ t own. ap (λ (c : Cut). announced_for c t) N.cut ∙ only.drawn.silent t own

  sound_noted : IsSound noted.cut
  sound_noted = subst IsSound (sym N.cut) N.heard.sound

  -- this is found on the view, and what is noted of it is in the share
  found : (f : Finding) (Holds : PermitState → Type 0) → ruling_of basis o.ask ≡ f
      → transition.notes.items ≡ notes_of basis o.ask → Holds case
      → IsFoundOnView policy o.principal o.ask o.session noted f Holds
  found f Holds e noted_is h = record {
    rows = rows;
    seen = subst (λ (c : Cut). IsSeen o.session.cut c rows) (sym N.cut) V.seen;
    view = V.is;
    holds = (
      record { basis = basis; based = basis-based policy o.principal rows; is = e },
      record {
        notes = transition.notes.items;
        noted = record { basis = basis; based = basis-based policy o.principal rows; is = sym noted_is };
        added = subst (λ (z : ℕ × ShareState). AreShared z.0 z.1 noted.share transition.notes.items)
            (λ i. ((N.heard.client ∙ N.on.client) i, only.share i)) N.shared;
      },
      h,
    );
  }

  -- the clock has seen what was read
  clock_seen : k.counter ≡ counter_after o.session.counter rows
  clock_seen =
      rows_counter from rows ∙ ap (λ (n : ℕ). counter_after n rows) (max-zero next.counter ∙ only.drawn.counter)

  -- and where it draws nothing, it stays there
  seen_only : transition.client.clock.counter ≡ k.counter → HasSeen o.session noted case
  seen_only kept = N.counter ∙ kept ∙ clock_seen

  -- ---- a stamp is drawn

  abbrev stamp : ℕ
  stamp = stamp_number (k.counter + 1) k.client

  own : IsTrue (is_client k.client)
  own = subst (λ (n : ℕ). IsTrue (is_client n)) (sym (rows_client from rows)) N.heard.own

  stamp_own : client_number stamp ≡ next.client
  stamp_own = number_own (k.counter + 1) k.client own ∙ rows_client from rows

  stamp_counter : counter_of stamp ≡ k.counter + 1
  stamp_counter = number_counter (k.counter + 1) k.client own

  risen : next.counter ≤ k.counter
  risen = (let l : next.counter ≤ from.counter = omega arith in le_trans l (rows_rise from rows))

  unused_next : announced_for next.cut stamp ≡ None
  unused_next = N.heard.ahead stamp stamp_own (let a = stamp_counter in let b = risen in omega arith)

  unused : announced_for noted.cut stamp ≡ None
  unused = ap (λ (c : Cut). announced_for c stamp) N.cut ∙ unused_next

  drawn_by : (s : SessionState) → s.counter ≡ k.counter + 1 → IsDrawn o.session s case stamp
  drawn_by s counted = record {
    own = stamp_own ∙ N.heard.client ∙ N.on.client;
    next = stamp_counter ∙ ap (λ (n : ℕ). n + 1) clock_seen;
    last = counted ∙ sym stamp_counter;
    unused = none_before o.session.cut next.cut stamp on_next unused_next;
  }

  above : All (λ row. row.stamp < stamp) rows
  above = λ n row less. number_above k.counter k.client (get_or rows n row).stamp
      (rows_seen from rows n row less)

  -- ---- the write begins

  module _ (e : ruling_of basis o.ask ≡ finding.Granted) (noted_is : transition.notes.items ≡ notes_of basis o.ask)
      (change : is_write o.ask ≡ true) where
    abbrev w : WritingState
    w = prepare_round next.cut.checked case stamp next.client (tag + 1) next.cut.parts

    permit_is : IsPermit case
    permit_is = record { taken = N.taken; looks = refl; basis = basis; based = basis-based policy o.principal rows; granted = e }

    begun : (c : Cut) → c.parts ≡ next.cut.parts → c.checked ≡ next.cut.checked → IsBegunOn c w
    begun c same on = begun_on next.cut.checked case stamp next.client (tag + 1) next.cut.parts c (sym on) (sym same) N.heard.some
        (effect_items case stamp permit_is change)

    some : places_in w ≢ []
    some = (begun next.cut refl refl).some

    module _ (quiet : transition.answer ≡ None)
        (is : transition.client ≡ record y { clock = record k { counter = k.counter + 1 }; phase = phase.Prepares w })
        (sends : transition.sent.items ≡ prepares_of w) where
      first : to_announce transition.sent.items transition.client.phase ≡ Some (announcement_of w)
      first =
          ap (to_announce transition.sent.items) (ap (λ (z : Client). z.phase) is)
          ∙ prepares_announce transition.sent.items w (λ none. some_prepares w some (sym sends ∙ none))

      counted : noted.counter ≡ k.counter + 1
      counted = N.counter ∙ ap (λ (z : Client). z.clock.counter) is

      granted_write : IsGrantedWrite policy noted.cut stamp (write_of case stamp)
      unfolding found
      granted_write =
          let view = found finding.Granted (λ _. Unit {0}) e noted_is tt in
          record {
            principal = o.principal;
            ask = o.ask;
            begun = o.session.cut;
            then = noted.cut;
            since = extends_self noted.cut;
            permitted = record {
              rows = rows;
              seen = view.seen;
              view = view.view;
              holds = record { granted = view.holds.0; above = above; writes = refl };
            };
          }

      free : IsFree policy noted transition.sent.items transition.client.phase
      free = subst (IsFreeFor policy noted) (sym first) (record {
        granted = granted_write;
        unused = (stamp_own ∙ sym N.client, unused);
        reached = (let a = stamp_counter in let b = counted in omega arith);
      })

      shows : All (Shows (announced_by noted.cut transition.sent.items transition.client.phase)) transition.sent.items
      shows =
          subst (λ (z : Cut × List Message). All (Shows z.0) z.1)
          (λ i. (announced_with noted.cut (sym first i), sym sends i))
          (shows_prepares (announced_cut noted.cut stamp (write_of case stamp)) w (announced_here noted.cut stamp (write_of case stamp)))

      some_sent : transition.sent.items ≡ [] → ⊥
      some_sent none = some_prepares w some (sym sends ∙ none)

      module _ (new : SessionState) (a : IsAnnouncedBy noted new transition.sent.items transition.client.phase) where
        here : announced_for new.cut stamp ≡ Some (write_of case stamp)
        here = ap (λ (c : Cut). announced_for c stamp) (a.cut ∙ ap (announced_with noted.cut) first) ∙ announced_here
            noted.cut stamp (write_of case stamp)

        announced : IsAnnounced o.session new case stamp
        announced = record {
          drawn = drawn_by new (a.counter ∙ counted);
          above = above;
          announced = here;
          depends = record {
            seen = noted.cut;
            since = on_noted;
            until = a.grown;
            settled = subst (λ (c : Cut). AreSettled c rows) (sym N.cut) V.seen.settled;
            depended = ap (λ (c : Cut). dependencies_of c stamp) (a.cut ∙ ap (announced_with noted.cut) first)
                ∙ depended_here noted.cut stamp (write_of case stamp);
          };
          alone = λ other own differs. ap (λ (c : Cut). announced_for c other) (a.cut ∙ ap (announced_with noted.cut) first)
              ∙ announced_else noted.cut stamp other (write_of case stamp) differs ∙ silent_noted other own;
        }

        granted_here : IsBegun policy o.principal o.ask o.session new stamp (λ permit. permit ≡ case)
        granted_here =
            found_more policy o noted new finding.Granted (λ permit. permit ≡ case)
            (λ permit. IsAnnounced o.session new permit stamp × (permit ≡ case))
            a.share on_noted a.grown sound_noted a.sound
            (λ permit same. (subst (λ (p : PermitState). IsAnnounced o.session new p stamp) (sym same) announced, same))
            (found finding.Granted (λ permit. permit ≡ case) e noted_is refl)

        way : IsUnderWay policy o new new.cut (prepares_of w) (phase.Prepares w)
        way = record {
          taken = N.taken;
          on = record {
            client = a.client ∙ N.client ∙ N.heard.client ∙ N.on.client;
            grown = extends_trans o.session.cut noted.cut new.cut on_noted a.grown;
            risen = (let p : new.counter ≡ noted.counter = a.counter in let q = counted in let r = N.on.risen in
                let t : next.counter ≡ now.counter = N.heard.counter in let u = risen in omega arith);
            sound = a.sound;
          };
          sound = a.sound;
          phase = record {
            begun = w;
            granted = granted_here;
            since = extends_self new.cut;
            carried = record {
              over = begun new.cut (a.grown.parts ∙ ap (λ (c : Cut). c.parts) N.cut)
                  (a.grown.checked ∙ ap (λ (c : Cut). c.checked) N.cut);
              asks = refl;
              further = begun_further w (IsPreparedAt new.cut w) refl;
            };
          };
        }

      goes : (new : SessionState) → IsAnnouncedBy noted new transition.sent.items transition.client.phase
          → IsUnderWay policy o new (sent_at at new.cut transition.sent.items) (sent_last sent transition.sent.items)
          transition.client.phase
      goes new a =
          subst (λ (z : Cut × List Message × Phase). IsUnderWay policy o new z.0 z.1 z.2)
          (λ i. (
            sym (last_at at new.cut transition.sent.items some_sent) i,
            sym (last_sent sent transition.sent.items some_sent ∙ sends) i,
            sym (ap (λ (z : Client). z.phase) is) i,
          )) (way new a)

      begins : After
      begins = Goes quiet free shows goes

    -- ---- by what is drawn

    -- the client that has drawn, and the transition, by whether a stamp is left
    abbrev drawn_if : Bool → Client
    drawn_if b = record y { clock = (if b then record k { counter = k.counter + 1 } else k) }

    abbrev turn_if : Bool → TransitionState
    turn_if b = draws_by terms (drawn_if b) tag case (if b then Ok stamp else Err StampsSpent)

    unless : (full : Bool) → is_full_for case stamp ≡ full
        → transition.client ≡ (writes_unless terms (drawn_if true) tag case stamp full).client
        → transition.sent.items ≡ (writes_unless terms (drawn_if true) tag case stamp full).sent
        → transition.answer ≡ (writes_unless terms (drawn_if true) tag case stamp full).answer → After
    unless true full is sends told =
        Told (answer.Refused AlbumFull) told (
          found finding.Granted (IsRefusedBy o.session noted AlbumFull) e noted_is (inl (
            refl,
            record {
              stamp = stamp;
              drawn = drawn_by noted (N.counter ∙ ap (λ (z : Client). z.clock.counter) is);
              full = full;
            },
          )),
          silent_noted,
        )
    unless false full is sends told = begins told is sends

    draws : (b : Bool) → nat_lt k.counter MAX_COUNTER ≡ b → transition.client ≡ (turn_if b).client
        → transition.sent.items ≡ (turn_if b).sent
        → transition.answer ≡ (turn_if b).answer → After
    draws true less is sends told = unless (is_full_for case stamp) refl is sends told
    draws false less is sends told =
        let left : Bool → Result ℕ Refusal = λ b. if b then Ok stamp else Err StampsSpent in
        let spent : next_of transition.client.clock ≡ Err StampsSpent = ap (λ (z : Client). next_of z.clock) is ∙ ap left
        less in
        Told (answer.Refused StampsSpent) told (
          found finding.Granted (IsRefusedBy o.session noted StampsSpent) e noted_is (inr (
            refl,
            record {
              seen = seen_only (ap (λ (z : Client). z.clock.counter) is);
              end = N.counter ∙ N.spent spent;
            },
          )),
          silent_noted,
        )

  -- ---- by the ruling

  granted : (f : Option Served) → served_for case o.ask ≡ f → ruling_of basis o.ask ≡ finding.Granted
      → IsMoved (record (grants terms y tag case f) { noted = Some (notes_of basis o.ask) }) transition → After
  granted (Some served) s e is =
      Told (answer.Served served) is.answer (
        found finding.Granted _ e is.noted
            (served_is case o.ask refl served s, seen_only (ap (λ (z : Client). z.clock.counter) is.client)),
        silent_noted,
      )
  granted None s e is =
      draws e is.noted (unserved_writes case o.ask s) (nat_lt k.counter MAX_COUNTER) refl is.client is.sent
      is.answer

  by : (f : Finding) → ruling_of basis o.ask ≡ f
      → IsMoved (record (rules_by terms y tag case f) { noted = Some (notes_of basis o.ask) }) transition → After
  by finding.Granted e is = granted (served_for case o.ask) refl e is
  by (finding.Denied reasons) e is = Told (answer.Denied reasons) is.answer
      (found (finding.Denied reasons) _ e is.noted (seen_only (ap (λ (z : Client). z.clock.counter) is.client)), silent_noted)
  by (finding.Missing object) e is = Told (answer.Missing object) is.answer
      (found (finding.Missing object) _ e is.noted (seen_only (ap (λ (z : Client). z.clock.counter) is.client)), silent_noted)

  -- the ask of the view is ruled on
  pub ruled_on : IsMoved (rules terms (client_step_in next) tag o.principal (record {
    looker = looker_of policy o.principal;
    ask = o.ask;
    rows = rows;
  })) transition
      → After
  ruled_on is = by (ruling_of basis o.ask) refl is
