-- What a reply in a read leads to: `read_on`. And how an ask begins, with a read of its objects or of what a hint
-- names: `reads_begin` and `started_way`, whose messages ask with no stamps (`shown_first`).
use Rattle.std.proofs.Common.{◌≡◌, ◌≢◌, ℕ, ◌+◌, Bool, true, false, List, [], ◌∷◌, map, length, get_or, Option, Some, None, is_some, All, refl, sym, ap, ◌∙◌, subst, arith, nat_lt, nat_le, if◌then◌else◌}
use Rattle.std.specs.Option.{unwrap_or}
use Rattle.std.proofs.lemmas.List.Elements.{All-contains, Contains-get_or}
use Rattle.album_items.specs.ItemIds.{place_of}
use Rattle.std.proofs.lemmas.Bool.{ltb-false, or_left, or_right, true≢false}
use Rattle.album_calls.specs.declared.messages.Message.{Message}
use Rattle.album_client.specs.PendingAsks.{PendingAsk}
use Rattle.album_client.specs.Clients.{Client, IsProper}
use Rattle.album_client.specs.Transitions.{IsMoved}
use Rattle.album_client.specs.Terms.{Terms}
use Rattle.album_client.specs.Steps.{asker_at, read_begins, read_transition, views_by, rules}
use Rattle.album_client.specs.declared.clients.Phase.{Phase}
use Rattle.album_client.specs.declared.clients.Phase.TheVariants as phase
use Rattle.album_client.specs.declared.transitions.Transition.{Transition}
use Rattle.album_client.proofs.GrantLemmas.{taken_flawless}
use Rattle.album_client.proofs.MoveLemmas.{readable_open}
use Rattle.album_eval.specs.declared.facts.Principal.{Principal}
use Rattle.album_eval.specs.declared.policies.Policy.{Policy}
use Rattle.album_passes.specs.Cuts.{Cut, IsSound, Extends}
use Rattle.album_passes.specs.Reads.{IsCommitted, IsCommittedFor}
use Rattle.album_passes.proofs.CutLemmas.{extends_self, extends_trans}
use Rattle.album_reader.specs.Answers.{Asker, ReadVersion, answers_there}
use Rattle.album_reader.specs.Rounds.{RoundState, Step, IsOpen, asked_stamps, gets_of, get_of, first_round, stepped}
use Rattle.album_reader.specs.Rounds.Step.{Same, Next, Done, Gone}
use Rattle.album_reader.specs.StampSets.{stamps_of}
use Rattle.album_reader.proofs.StampSets.{stamps_of-Contains}
use Rattle.album_stamps.specs.declared.limits.TheConstants.{MAX_READ_ITEMS, MAX_READS}
use Rattle.album_sessions.specs.Asks.{IsOn, IsReadFor}
use Rattle.album_grounds.specs.Looks.{IsViewOf, IsBusy, LooksOnce}
use Rattle.album_keepers.specs.Envelopes.{Shows}
use Rattle.album_grounds.specs.Grounds.{AreSettled}
use Rattle.album_channels.specs.Reads.{begins_read}
use Rattle.album_sessions.specs.Hints.{are_among, is_busy, is_without_view}
use Rattle.album_sessions.specs.Phases.{Outset, IsRound, IsReading, IsUnderWay}
use Rattle.album_sessions.specs.Phases.IsRound.{First, Second}
use Rattle.album_keepers.specs.Replies.{IsReplied}
use Rattle.album_grounds.specs.Replies.{IsFirstOver, IsReadOf, IsTrimmedAway, Leads}
use Rattle.album_sessions.specs.Resting.{RestsOn}
use Rattle.album_sessions.specs.Sending.{to_announce}
use Rattle.album_sessions.specs.Sessions.{SessionState, AddsNothing}
use Rattle.album_keepers.specs.Settling.{AreCommitted}
use Rattle.album_sessions.specs.Steps.{client_step_in, terms_in, IsBegunFor, IsStarted, IsStill}
use Rattle.album_channels.specs.Rounds.{AskedState}
use Rattle.album_grounds.proofs.EndLemmas.{mapped_from, read_so, trimmed_away}
use Rattle.album_grounds.proofs.LookLemmas.{done_so, gone_so, looking_first, looking_next, looks_seen, looks_busy}
use Rattle.album_sessions.proofs.TransitionLemmas.{IsNoted, IsMovedOn, on_heard, adds_heard, heard_same, goes_plain, goes_sent}
use Rattle.album_sessions.proofs.TransitionLemmas.IsMovedOn.{Told}
use Rattle.album_grounds.proofs.RoundLemmas.{leads, none_yet, under_first, gets_shown, none_committed}
use Rattle.album_sessions.proofs.RuledLemmas.{ruled_on}
use Rattle.album_sessions.proofs.SendLemmas.{gets_plain}
use Rattle.album_sessions.proofs.SessionLemmas.{on_self}
use Rattle.album_views.specs.Asks.{objects_of}
use Rattle.album_views.specs.Checks.{flaw_of, refusal_of}
use Rattle.album_views.specs.ReadSets.{names_of, looker_of}
use Rattle.album_views.specs.Steps.{again, unclosed, AreReadable, AsksReadable}
use Rattle.album_views.specs.Steps.{stepped as viewed}
use Rattle.album_views.specs.Views.{ViewState, ViewingState, is_closed}
use Rattle.album_views.specs.declared.asks.Ask.{Ask}
use Rattle.album_views.specs.declared.viewing.ViewStep.{ViewStep}
use Rattle.album_views.specs.declared.viewing.ViewStep.TheVariants.{Again, Closed, Busy}
use Rattle.album_views.specs.declared.viewing.Why.{Why}
use Rattle.album_views.specs.declared.viewing.Why.TheVariants.{Rounds, Wide}
use Rattle.album_views.proofs.Closing.{names-readable}
use Rattle.album_permits.specs.declared.answers.Answer.TheVariants as answer

-- ---- why items are read

-- what is so of items, by a hint or not
pub for_sound : (hinted : Bool) (a b : Cut) (looker : Option Principal) (viewing : ViewingState) (items : List ℕ) → IsReadFor hinted a b looker viewing items → IsSound b
for_sound true a b looker viewing items h = h.sound
for_sound false a b looker viewing items h = h.sound

pub for_flawless : (hinted : Bool) (a b : Cut) (looker : Option Principal) (viewing : ViewingState) (items : List ℕ) → IsReadFor hinted a b looker viewing items
    → flaw_of viewing.ask ≡ None
for_flawless true a b looker viewing items h = h.flawless
for_flawless false a b looker viewing items h = h.flawless

pub for_readable : (hinted : Bool) (a b : Cut) (looker : Option Principal) (viewing : ViewingState) (items : List ℕ) → IsReadFor hinted a b looker viewing items
    → AreReadable items
for_readable true a b looker viewing items h = h.readable
for_readable false a b looker viewing items h = h.readable

-- ---- messages of a round

some_gets : (round : RoundState) → IsOpen round → (ts : List ℕ) → gets_of round.asker ts round.items ≡ [] → ⊥
some_gets round is ts e = (readable_open round is).some (none round.items e)
  where
    none : (items : List ℕ) → map (get_of round.asker ts) items ≡ [] → items ≡ []
    none [] f = refl
    none (i ∷ items) f = absurd (cc)

-- they begin it
begins_gets : (asker : Asker) (items : List ℕ) → (items ≡ [] → ⊥) → begins_read (gets_of asker [] items) ≡ true
begins_gets asker [] some = absurd (some refl)
begins_gets asker (i ∷ items) some = refl

-- what was read can be read again
readable_viewed : (looker : Option Principal) (viewing : ViewingState) (rows : List ReadVersion) → flaw_of viewing.ask ≡ None
    → AsksReadable (viewed looker viewing rows)
readable_viewed looker viewing rows flawless = go (is_closed looker viewing.ask rows)
  where
    last : (items : List ℕ) → AreReadable items → (b : Bool)
        → AsksReadable (if b then Busy Rounds else Again (record viewing { reads = viewing.reads + 1 }) items)
    last items readable true = tt
    last items readable false = readable

    wide : (b : Bool) → nat_lt MAX_READ_ITEMS (length (names_of rows looker viewing.ask)) ≡ b
        → AsksReadable (if b then Busy Wide else again viewing (names_of rows looker viewing.ask))
    wide true e = tt
    wide false e = last (names_of rows looker viewing.ask) (names-readable rows looker viewing.ask flawless (ltb-false _ _ e))
        (nat_le MAX_READS (viewing.reads + 1))

    go : (b : Bool) → AsksReadable (if b then Closed (record { looker = looker; ask = viewing.ask; rows = rows }) else unclosed viewing
        (names_of rows looker viewing.ask))
    go true = tt
    go false = wide (nat_lt MAX_READ_ITEMS (length (names_of rows looker viewing.ask))) refl

-- a read that begins
reading_first : (policy : Policy) (hinted : Bool) (principal : Principal) (ask : Ask) (old now : Cut) (terms : Terms) (x : Client) (tag : ℕ)
    (pending_ask : PendingAsk) (items : List ℕ)
    → pending_ask.viewing.ask ≡ ask → pending_ask.principal ≡ principal → terms.parts ≡ now.parts
    → IsOpen (first_round (asker_at terms x (tag + 1)) items)
    → IsReadFor hinted old now (looker_of policy principal) pending_ask.viewing items → Extends old now
    → IsReading policy hinted principal ask old now now (gets_of (asker_at terms x (tag + 1)) [] items) pending_ask
    (first_round (asker_at terms x (tag + 1)) items)
reading_first policy hinted principal ask old now terms x tag pending_ask items of whom parts opens looking before = record {
  of = of;
  whom = whom;
  start = now;
  begun = first_round (asker_at terms x (tag + 1)) items;
  looking = looking;
  which = First refl refl;
  asks = refl;
  parts = parts;
  under = under_first now (first_round (asker_at terms x (tag + 1)) items) opens (none_yet items);
  sound = for_sound hinted old now (looker_of policy principal) pending_ask.viewing items looking;
  before = before;
  on = extends_self now;
}

-- ---- what holds of the stamps of a round

-- what is settled is committed somewhere
settled_somewhere : (c : Cut) (xs : List ReadVersion) → AreSettled c xs → AreCommitted c (stamps_of xs)
settled_somewhere c xs h = λ k d l nz.
    let from = (stamps_of-Contains xs (get_or (stamps_of xs) k d)).0 (Contains-get_or (stamps_of xs) k d l) in
    let x = mapped_from (λ (row : ReadVersion). row.stamp) xs (get_or (stamps_of xs) k d) from in
    subst (IsCommitted c) x.2
    (place_of c.parts x.0.item, All-contains (λ (row : ReadVersion). row.stamp ≢ 0 → IsCommittedFor c row.stamp row.item) xs x.0 h x.1 (λ z. nz (sym x.2 ∙ z)))

-- and so are the stamps with which a round asks
pub asked_committed : (start at : Cut) (begun : RoundState) → IsRound start at begun → AreCommitted at (asked_stamps begun)
asked_committed start at begun (First none same) = subst (λ (o : Option (List ℕ)). AreCommitted at (unwrap_or o [])) (sym none) (none_committed at)
asked_committed start at begun (Second first gets on over) =
    subst (λ (r : RoundState). AreCommitted at (asked_stamps r)) (sym over.next_is) (settled_somewhere at over.answers over.are.settled)

-- ---- how an ask begins

module _ (policy : Policy) (hinted : Bool) (principal : Principal) (ask : Ask) (session now : SessionState) (terms : Terms)
    (x : Client) (tag : ℕ) (items : List ℕ) (transition : Transition)
    (is : IsMoved (read_begins terms x tag
    (record { viewing = record { ask = ask; reads = 0 }; principal = principal }) items) transition) where
  abbrev unread : ViewingState
  unread = record { ask = ask; reads = 0 }

  abbrev outset : Outset
  outset = record { principal = principal; ask = ask; session = session; hinted = hinted }

  -- its messages ask with no stamps
  pub shown_first : All (Shows now.cut) transition.sent.items
  shown_first = subst (All (Shows now.cut)) (sym is.sent) (gets_shown now.cut (asker_at terms x (tag + 1)) [] items (none_committed now.cut))

  module _ (proper : IsProper transition.client.phase) where
    opens : IsOpen (first_round (asker_at terms x (tag + 1)) items)
    opens = subst IsProper (ap (λ (z : Client). z.phase) is.client) proper

    pub readable_first : AreReadable items
    readable_first = readable_open _ opens

    pub reads_begin : terms.parts ≡ now.cut.parts → refusal_of ask principal ≡ None → IsStill session now → IsSound now.cut
        → IsReadFor hinted session.cut now.cut (looker_of policy principal) unread items
        → IsUnderWay policy outset now now.cut transition.sent.items transition.client.phase
    reads_begin parts taken still s looking =
        subst (λ (z : List Message × Phase). IsUnderWay policy outset now now.cut z.0 z.1)
        (λ i. (sym is.sent i, ap (λ (z : Client). z.phase) (sym is.client) i))
        (record {
          taken = taken;
          on = still.on;
          sound = s;
          phase = (
            reading_first policy hinted principal ask session.cut now.cut terms x tag
                (record { viewing = unread; principal = principal }) items refl refl parts opens looking still.on.grown,
            still.adds,
          );
        })

-- what its first messages begin is under way
pub started_way : (policy : Policy) (principal : Principal) (ask : Ask) (session : SessionState) (hinted : Bool)
    (old new : SessionState) (at : Cut) (transition : Transition) → new ≡ old → at ≡ old.cut
    → (IsProper transition.client.phase → IsUnderWay policy
    (record { principal = principal; ask = ask; session = session; hinted = hinted }) old old.cut transition.sent.items
    transition.client.phase)
    → (started : AskedState × Phase) → IsStarted at transition started
    → IsBegunFor policy principal ask session hinted new started
started_way policy principal ask session hinted old new at transition same from way started h =
    subst (λ (y : SessionState × Cut × List Message × Phase). IsUnderWay policy
    (record { principal = principal; ask = ask; session = session; hinted = hinted }) y.0 y.1 y.2 y.3)
    (λ i. (sym same i, sym (h.begun ∙ from) i, sym h.sent i, sym h.phase i)) (way h.proper)

pub still_self : (a : SessionState) → IsSound a.cut → IsStill a a
still_self a s = record {
  sound = s;
  on = on_self a s;
  adds = record { share = refl; drawn = record { counter = refl; silent = λ t own. refl } };
}

-- why its first read is of these items
pub plain_for : (old now : Cut) (looker : Option Principal) (ask : Ask) (principal : Principal) → refusal_of ask principal ≡ None
    → AreReadable (objects_of ask) → IsSound old → IsSound now → Extends old now
    → IsReadFor false old now looker (record { ask = ask; reads = 0 }) (objects_of ask)
plain_for old now looker ask principal taken readable r s x =
    looking_first old now (record { ask = ask; reads = 0 }) (objects_of ask) looker ask refl refl readable
    (taken_flawless ask principal taken) r s x

pub hint_for : (old now : Cut) (looker : Option Principal) (ask : Ask) (principal : Principal) (items : List ℕ) → refusal_of ask principal ≡ None
    → are_among (objects_of ask) items ≡ true → AreReadable items → IsSound now
    → IsReadFor true old now looker (record { ask = ask; reads = 0 }) items
hint_for old now looker ask principal items taken among readable s = record {
  flawless = taken_flawless ask principal taken;
  unread = refl;
  objects = among;
  readable = readable;
  sound = s;
}

-- ---- what a reply leads to

module _ (limit : ℕ) (policy : Policy) (o : Outset) (now next noted : SessionState) (at : Cut) (sent : List Message)
    (transition : Transition)
    (N : IsNoted o now next noted transition) (only_before : AddsNothing o.session now)
    (view_by : o.hinted ≡ true → is_without_view transition.sent.items transition.answer ≡ false) where
  abbrev After : Type 0
  After = IsMovedOn limit policy o noted at sent transition

  abbrev a : Cut
  a = o.session.cut

  abbrev c : Cut
  c = now.cut

  abbrev d : Cut
  d = next.cut

  abbrev x : Client
  x = client_step_in next

  abbrev terms : Terms
  terms = terms_in policy next

  only : AddsNothing o.session next
  only = adds_heard o.session now next N.on only_before N.heard

  on_next : IsOn o.session next
  on_next = on_heard o.session now next N.on N.heard

  -- nothing is noted, and the clock stays
  module _ (none : transition.notes.items ≡ []) (clock : transition.client.clock.counter ≡ next.counter) where
    same : noted ≡ next
    same = heard_same o now next noted transition N none clock

    -- it reads on
    waits : (pending_ask : PendingAsk) (round : RoundState) → transition.answer ≡ None
        → transition.client.phase ≡ phase.Reads pending_ask round → transition.sent.items ≡ []
        → IsReading policy o.hinted o.principal o.ask a at d sent pending_ask round → After
    waits pending_ask round quiet is empty w =
        goes_plain limit policy o noted at sent transition quiet [] empty refl (λ k l e. absurd (omega arith))
        (subst (λ (z : SessionState × Phase). IsUnderWay policy o z.0 at sent z.1) (λ i. (sym same i, sym is i))
        (record { taken = N.taken; on = on_next; sound = N.heard.sound; phase = (w, only) }))

    -- it sends these messages
    asks : (pending_ask : PendingAsk) (round : RoundState) (messages : List Message) → transition.answer ≡ None
        → transition.client.phase ≡ phase.Reads pending_ask round → transition.sent.items ≡ messages → (messages ≡ [] → ⊥)
        → IsReading policy o.hinted o.principal o.ask a d d messages pending_ask round → After
    asks pending_ask round messages quiet is sends some w =
        goes_sent limit policy o noted at sent transition quiet messages sends some
        (ap (to_announce messages) is ∙ gets_plain messages pending_ask round)
        (subst (λ (z : Cut × List Message). All (Shows z.0) z.1) (λ i. (sym N.cut i, sym w.asks i))
        (gets_shown d w.begun.asker (asked_stamps w.begun) w.begun.items (asked_committed w.start d w.begun w.which)))
        (subst (λ (z : SessionState × Phase). IsUnderWay policy o z.0 z.0.cut messages z.1)
        (λ i. (sym same i, sym is i))
        (record { taken = N.taken; on = on_next; sound = N.heard.sound; phase = (w, only) }))

    -- there is no view
    busy : (why : Why) → transition.answer ≡ Some (answer.Busy why) → IsBusy a d (looker_of policy o.principal) o.ask why → After
    busy why told h = Told (answer.Busy why) told (subst
        (λ (s : SessionState). RestsOn limit policy o.principal o.ask o.session s (answer.Busy why)) (sym same)
        (rests why h))
      where
        rests : (why : Why) → IsBusy a d (looker_of policy o.principal) o.ask why
            → RestsOn limit policy o.principal o.ask o.session next (answer.Busy why)
        rests Wide h = (h, only)
        rests Rounds h = (h, only)

  -- there is a view
  viewed_so : (tag : ℕ) (view : ViewState) → IsViewOf a d (looker_of policy o.principal) o.ask view
      → IsMoved (rules terms x tag o.principal view) transition → After
  viewed_so tag view h is =
      let same : view ≡ record { looker = looker_of policy o.principal; ask = o.ask; rows = view.rows } =
      λ i. record { looker = h.by i; ask = h.of i; rows = view.rows } in
      ruled_on limit policy o now next noted at sent transition N only tag view.rows
      (subst (IsViewOf a d (looker_of policy o.principal) o.ask) same h) (subst (λ (v : ViewState). IsMoved (rules terms x tag o.principal v) transition)
      same is)

  -- a read has led to this
  module _ (start : Cut) (tag : ℕ) (pending_ask : PendingAsk) (items : List ℕ) (of : pending_ask.viewing.ask ≡ o.ask)
      (whom : pending_ask.principal ≡ o.principal) (before : Extends a start) (since : Extends start d) where
    -- to another read, and it goes by no hint
    again_by : (hinted : Bool) → o.hinted ≡ hinted → IsReadFor hinted a start (looker_of policy o.principal) pending_ask.viewing items
        → (viewing : ViewingState) (names : List ℕ) → LooksOnce start d (looker_of policy o.principal) pending_ask.viewing items (Again viewing names)
        → IsMoved (views_by terms x tag pending_ask.principal (Again viewing names)) transition → After
    again_by true by looking viewing names led is =
        let does = ap (λ (z : Client). z.phase) is.client in
        let opens : IsOpen (first_round (asker_at terms x (tag + 1)) names) = subst IsProper does N.proper in
        let anew : is_without_view transition.sent.items transition.answer ≡ true =
        or_left _ _ (ap begins_read is.sent ∙ begins_gets (asker_at terms x (tag + 1)) names (readable_open _ opens).some) in
        absurd (true≢false (sym anew ∙ view_by by))
    again_by false by looking viewing names led is =
        let round = first_round (asker_at terms x (tag + 1)) names in
        let does = ap (λ (z : Client). z.phase) is.client in
        let opens : IsOpen round = subst IsProper does N.proper in
        asks is.noted (ap (λ (z : Client). z.clock.counter) is.client)
        (record { viewing = viewing; principal = pending_ask.principal }) round
        (gets_of (asker_at terms x (tag + 1)) [] names) is.answer does is.sent (some_gets round opens [])
        (reading_first policy o.hinted o.principal o.ask a d terms x tag
        (record { viewing = viewing; principal = pending_ask.principal }) names
        (ap (λ (v : ViewingState). v.ask) led.0 ∙ of) whom refl opens
        (subst (λ (h : Bool). IsReadFor h a d (looker_of policy o.principal) viewing names) (sym by)
        (looking_next a start d (looker_of policy o.principal) pending_ask.viewing items looking before since N.heard.sound viewing names led))
        (extends_trans a start d before since))

    -- to no view, and it goes by no hint
    busy_by : (hinted : Bool) → o.hinted ≡ hinted → IsReadFor hinted a start (looker_of policy o.principal) pending_ask.viewing items → (why : Why)
        → LooksOnce start d (looker_of policy o.principal) pending_ask.viewing items (Busy why)
        → IsMoved (views_by terms x tag pending_ask.principal (Busy why)) transition → After
    busy_by true by looking why led is =
        let vain : is_without_view transition.sent.items transition.answer ≡ true = or_right _ _ (ap is_busy is.answer) in
        absurd (true≢false (sym vain ∙ view_by by))
    busy_by false by looking why led is =
        busy is.noted (ap (λ (z : Client). z.clock.counter) is.client) why is.answer
        (looks_busy a start d (looker_of policy o.principal) pending_ask.viewing items looking before since N.heard.sound
        o.ask why of led)

    views : IsReadFor o.hinted a start (looker_of policy o.principal) pending_ask.viewing items → (f : ViewStep)
        → LooksOnce start d (looker_of policy o.principal) pending_ask.viewing items f
        → IsMoved (views_by terms x tag pending_ask.principal f) transition → After
    views looking (Again viewing names) led is = again_by o.hinted refl looking viewing names led is
    views looking (Closed view) led is =
        viewed_so tag view (looks_seen a start d (looker_of policy o.principal) pending_ask.viewing items before since N.heard.sound
        o.ask view of led)
        (subst (λ (p : Principal). IsMoved (rules terms x tag p view) transition) whom is)
    views looking (Busy why) led is = busy_by o.hinted refl looking why led is

  -- what a step of a round leads to
  steps : (tag : ℕ) (pending_ask : PendingAsk) (round : RoundState) (f : Step)
      (w : IsReading policy o.hinted o.principal o.ask a at c sent pending_ask round)
      → Leads at d w.begun f → IsMoved (read_transition terms x tag pending_ask f) transition → After
  steps tag pending_ask round (Same other) w led is =
      waits is.noted (ap (λ (z : Client). z.clock.counter) is.client) pending_ask other is.answer
      (ap (λ (z : Client). z.phase) is.client) is.sent (record {
        of = w.of;
        whom = w.whom;
        start = w.start;
        begun = w.begun;
        looking = w.looking;
        which = w.which;
        asks = w.asks;
        parts = w.parts;
        under = led;
        sound = w.sound;
        before = w.before;
        on = extends_trans at c d w.on N.heard.grown;
      })
  steps tag pending_ask round (Next other gets) w led is =
      asks is.noted (ap (λ (z : Client). z.clock.counter) is.client) pending_ask other gets is.answer
      (ap (λ (z : Client). z.phase) is.client) is.sent some (record {
        of = w.of;
        whom = w.whom;
        start = w.start;
        begun = other;
        looking = subst (λ (items : List ℕ). IsReadFor o.hinted a w.start (looker_of policy o.principal) pending_ask.viewing items)
            (sym (ap (λ (r : RoundState). r.items) led.next_is)) w.looking;
        which = which w.which;
        asks = led.gets_are ∙ sym (ap (λ (r : RoundState). gets_of r.asker (asked_stamps r) r.items) led.next_is);
        parts = ap (λ (r : RoundState). r.asker.parts) led.next_is ∙ w.parts ∙ sym since.parts;
        under = under_first d other led.still_open (ap (λ (r : RoundState). answers_there r.answers) led.next_is ∙
            none_yet w.begun.items);
        sound = N.heard.sound;
        before = w.before;
        on = extends_self d;
      })
    where
      since : Extends at d
      since = extends_trans at c d w.on N.heard.grown

      some : gets ≡ [] → ⊥
      some e = some_gets other led.still_open (asked_stamps other)
          (ap (λ (r : RoundState). gets_of r.asker (asked_stamps r) r.items) led.next_is ∙ sym led.gets_are ∙ e)

      which : IsRound w.start at w.begun → IsRound w.start d other
      which (First none same) = Second w.begun gets (subst (λ (e : Cut). Extends e d) same since)
          (subst (λ (e : Cut). IsFirstOver e d w.begun other gets) same led)
      which (Second first earlier y F) =
          let none = led.first in
          let some = ap (λ (r : RoundState). r.stamps) F.next_is in
          absurd (cc)
  steps tag pending_ask round (Done rows) w led is = which w.which
    where
      since : Extends at d
      since = extends_trans at c d w.on N.heard.grown

      which : IsRound w.start at w.begun → After
      which (First none same) = absurd (let some = led.0 in let no = ap is_some none in cc)
      which (Second first gets y F) =
          let found : IsReadOf w.start d first.items rows = read_so w.start at d first w.begun gets F rows
          (for_sound o.hinted a w.start (looker_of policy o.principal) pending_ask.viewing w.begun.items w.looking) w.sound N.heard.sound y since led.1 in
          let items : w.begun.items ≡ first.items = ap (λ (r : RoundState). r.items) F.next_is in
          let flawless = for_flawless o.hinted a w.start (looker_of policy o.principal) pending_ask.viewing w.begun.items w.looking in
          views w.start tag pending_ask w.begun.items w.of w.whom w.before (extends_trans w.start at d y since) w.looking
          (viewed (looker_of policy pending_ask.principal) pending_ask.viewing rows)
          (done_so w.start d (looker_of policy o.principal) pending_ask.viewing w.begun.items rows (viewed (looker_of policy pending_ask.principal) pending_ask.viewing rows) N.heard.sound
          flawless
          (subst (λ (is : List ℕ). IsReadOf w.start d is rows) (sym items) found)
          (ap (λ (p : Principal). viewed (looker_of policy p) pending_ask.viewing rows) w.whom)
          (readable_viewed (looker_of policy pending_ask.principal) pending_ask.viewing rows flawless))
          (record { client = is.client; noted = is.noted; sent = is.sent; answer = is.answer })
  steps tag pending_ask round (Gone items) w led is = which w.which
    where
      since : Extends at d
      since = extends_trans at c d w.on N.heard.grown

      which : IsRound w.start at w.begun → After
      which (First none same) = absurd (let some = led.0 in let no = ap is_some none in cc)
      which (Second first gets y F) =
          let found : IsTrimmedAway w.start d first.items items = trimmed_away w.start at d first w.begun gets F items
          (for_sound o.hinted a w.start (looker_of policy o.principal) pending_ask.viewing w.begun.items w.looking) w.sound N.heard.sound y since led.1 in
          let same : w.begun.items ≡ items = ap (λ (r : RoundState). r.items) F.next_is ∙ sym found.items_are in
          let looking = subst (λ (is : List ℕ). IsReadFor o.hinted a w.start (looker_of policy o.principal) pending_ask.viewing is) same w.looking in
          views w.start tag pending_ask items w.of w.whom w.before (extends_trans w.start at d y since) looking
          (again pending_ask.viewing items)
          (gone_so w.start d (looker_of policy o.principal) pending_ask.viewing items (again pending_ask.viewing items) found.trimmed
          (for_readable o.hinted a w.start (looker_of policy o.principal) pending_ask.viewing items looking) refl)
          (record { client = is.client; noted = is.noted; sent = is.sent; answer = is.answer })

  -- what a reply leads to
  pub read_on : (pending_ask : PendingAsk) (round : RoundState) (m : Message)
      → IsReading policy o.hinted o.principal o.ask a at c sent pending_ask round
      → IsReplied limit at d sent m → IsMoved (read_transition terms x round.asker.tag pending_ask (stepped round m)) transition → After
  read_on pending_ask round m w r is =
      steps round.asker.tag pending_ask round (stepped round m) w
      (leads limit at c d w.begun round m w.on N.heard.grown (extends_trans at c d w.on N.heard.grown) w.parts
      (subst (λ (ms : List Message). IsReplied limit at d ms m) w.asks r) w.under) is
