-- What replies rest on stays among the entries as more are added. For `Outgoing`, `entry_of` and the log's thread.
use Rattle.std.proofs.Common.{◌≡◌, ℕ, Bool, true, false, List, [], ◌∷◌, ◌++◌, ◌==◌, All, Contains, Option, Some, None, if◌then◌else◌, option_map, refl, sym, ap, subst, arith, eqb-true}
use Rattle.std.specs.List.{find}
use Rattle.std.proofs.lemmas.List.Elements.{All-push, All-weaker, Contains-append_left, Contains-append_right}
use Rattle.album_items.specs.Places.{is_placed}
use Rattle.album_calls.specs.Nodes.{is_part}
use Rattle.album_calls.specs.declared.messages.Body.{Body}
use Rattle.album_calls.specs.declared.messages.Body.TheVariants as body
use Rattle.album_calls.specs.declared.messages.Message.{Message}
use Rattle.album_calls.specs.declared.nodes.Node.{Node}
use Rattle.album_calls.specs.declared.nodes.Node.TheVariants.{Part, Client}
use Rattle.album_calls.specs.declared.replies.Reply.{Reply}
use Rattle.album_calls.specs.declared.replies.Reply.TheVariants.{Version, NotPrepared, Committed, Discarded, Clash, Gone}
use Rattle.album_calls.specs.declared.requests.Request.{Request}
use Rattle.album_calls.specs.declared.requests.Request.TheVariants.{Prepare, PrepareOn, Commit, Get, Check}
use Rattle.album_partition.specs.Answers.{Action, action_of, answer, commit_by, get_by, nothing, on_body, on_request, reply_to, says}
use Rattle.album_partition.specs.History.{kept_by, kept_mark}
use Rattle.album_partition.specs.Marks.{prepares, state_of}
use Rattle.album_partition.specs.Partition.{PartitionState, read_at, value_at}
use Rattle.album_partition.specs.declared.marks.Mark.{Mark}
use Rattle.album_terminate.specs.declared.deciding.StampState.{StampState}
use Rattle.album_terminate.specs.declared.deciding.StampState.TheVariants as state
use Rattle.album_keepers.specs.Envelopes.{ReplyEnvelopeState}
use Rattle.album_keepers.specs.Held.{may_be_prepared, may_prepare, stamp_prepared, stamp_replied, IsEntryOf, IsCoveredBy, IsCovered, AreCovered}
use Rattle.album_keepers.specs.declared.log_entries.LogEntry.{LogEntry}

-- ---- in lists

last_in : {X : Type 0} (xs : List X) (x : X) → Contains (xs ++ x ∷ []) x
last_in xs x = Contains-append_right xs (x ∷ []) x (0, omega arith, refl)

-- what is found passes, and is there
pub found : {X : Type 0} (f : X → Bool) (xs : List X) (x : X) → find f xs ≡ Some x → (f x ≡ true) × Contains xs x
found f [] x h = absurd (cc)
found {X} f (y ∷ ys) x h = go (f y) refl h (found f ys x)
  where
    go : (b : Bool) → f y ≡ b → (if b then Some y else find f ys) ≡ Some x
        → (find f ys ≡ Some x → (f x ≡ true) × Contains ys x) → (f x ≡ true) × Contains (y ∷ ys) x
    go true e k rest =
        let same : y ≡ x = cc in
        (subst (λ (z : X). f z ≡ true) same e, (0, omega arith, same))
    go false e k rest =
        let r = rest k in
        (r.0, Contains-append_right (y ∷ []) ys x r.1)

-- ---- what a reply rests on

none_or_some : {X : Type 0} (o : Option ℕ) (n : ℕ) → o ≡ None → o ≡ Some n → X
none_or_some o n a b = absurd (cc)

pub by_none : (es : List LogEntry) (r : ReplyEnvelopeState) → IsCoveredBy None r → IsCovered es r
by_none es r h = λ stamp is. none_or_some (stamp_prepared r.reply.body) stamp h is

pub by_some : (es : List LogEntry) (e : LogEntry) (r : ReplyEnvelopeState) → IsCoveredBy (Some e) r → IsCovered (es ++ e ∷ []) r
by_some es e r h = λ stamp is.
    let same : h.0 ≡ stamp = cc (h.1, is) in
    (e, last_in es e, subst (λ (t : ℕ). IsEntryOf r t e) same h.2)

covered_more : (es : List LogEntry) (e : LogEntry) (r : ReplyEnvelopeState) → IsCovered es r → IsCovered (es ++ e ∷ []) r
covered_more es e r c = λ stamp is.
    let x = c stamp is in
    (x.0, Contains-append_left es (e ∷ []) x.0 x.1, x.2)

-- an entry more, if it was added
pub entry_added : (b : Bool) (es now : List LogEntry) (e : LogEntry) (rs : List ReplyEnvelopeState) → AreCovered es rs
    → now ≡ (if b then es ++ e ∷ [] else es) → AreCovered now rs
entry_added true es now e rs h is =
    subst (λ (l : List LogEntry). AreCovered l rs) (sym is)
    (All-weaker (IsCovered es) (IsCovered (es ++ e ∷ [])) (covered_more es e) rs h)
entry_added false es now e rs h is = subst (λ (l : List LogEntry). AreCovered l rs) (sym is) h

reply_added : (b : Bool) (es : List LogEntry) (rs now : List ReplyEnvelopeState) (r : ReplyEnvelopeState) → AreCovered es rs
    → IsCovered es r → now ≡ (if b then rs ++ r ∷ [] else rs) → AreCovered es now
reply_added true es rs now r h c is = subst (AreCovered es) (sym is) (All-push (IsCovered es) rs r h c)
reply_added false es rs now r h c is = subst (AreCovered es) (sym is) h

-- a reply more, if it was added, which rests on none
pub free_added : (b : Bool) (es : List LogEntry) (rs now : List ReplyEnvelopeState) (r : ReplyEnvelopeState) → AreCovered es rs
    → IsCoveredBy None r → now ≡ (if b then rs ++ r ∷ [] else rs) → AreCovered es now
free_added b es rs now r h c is = reply_added b es rs now r h (by_none es r c) is

-- or on the last one
pub held_added : (b : Bool) (es mine : List LogEntry) (e : LogEntry) (rs now : List ReplyEnvelopeState) (r : ReplyEnvelopeState)
    → AreCovered es rs → mine ≡ es ++ e ∷ [] → IsCoveredBy (Some e) r → now ≡ (if b then rs ++ r ∷ [] else rs)
    → AreCovered mine now
held_added b es mine e rs now r h last c is =
    subst (λ (l : List LogEntry). AreCovered l now) (sym last)
    (reply_added b (es ++ e ∷ []) rs now r (entry_added true es (es ++ e ∷ []) e rs h refl) (by_some es e r c) is)

-- ---- a mark that is kept

pub kept_is : (s : StampState) (o : Option Mark) (m : Mark) → kept_by s o ≡ Some m → o ≡ Some m
kept_is state.Unknown o m h = absurd (cc)
kept_is state.Pending o m h = h
kept_is state.Committed o m h = h
kept_is state.Discarded o m h = absurd (cc)

-- it prepares the stamp, and is one of the marks
pub kept_there : (marks : List Mark) (stamp : ℕ) (m : Mark) → kept_mark marks stamp ≡ Some m
    → (prepares stamp m ≡ true) × Contains marks m
kept_there marks stamp m h = found (prepares stamp) marks m (kept_is (state_of marks stamp) (find (prepares stamp) marks) m h)

-- ---- who has sent it

pub sent_by : (node : Node) (part : ℕ) → is_part node part ≡ true → node ≡ Part part
sent_by (Part number) part h = ap Part (eqb-true number part h)
sent_by (Client client) part h = absurd (cc)

-- ---- the mails of a group

-- what holds of each entry of each mail
pub group_weaker : (old now : LogEntry → Type 0) → ((e : LogEntry) → old e → now e) → (group : List (List LogEntry))
    → All (All old) group → All (All now) group
group_weaker old now f group h = All-weaker (All old) (All now) (All-weaker old now f) group h

-- a mail more, and what it waits for
pub group_added : (old now : LogEntry → Type 0) → ((e : LogEntry) → old e → now e) → (group : List (List LogEntry))
    (entries : List LogEntry) → All (All old) group → All now entries → All (All now) (group ++ entries ∷ [])
group_added old now f group entries h mine =
    All-push (All now) group entries (group_weaker old now f group h) mine

-- ---- what is never said to be prepared

free_says : (said reply : Reply) → stamp_replied said ≡ None → Some said ≡ Some reply → stamp_replied reply ≡ None
free_says said reply h e =
    let same : said ≡ reply = cc in
    subst (λ (r : Reply). stamp_replied r ≡ None) same h

free_either : (b : Bool) (x y : Action) (reply : Reply) → (x.reply ≡ Some reply → stamp_replied reply ≡ None)
    → (y.reply ≡ Some reply → stamp_replied reply ≡ None) → (if b then x else y).reply ≡ Some reply
    → stamp_replied reply ≡ None
free_either true x y reply h k e = h e
free_either false x y reply h k e = k e

free_commit : (s : StampState) (stamp : ℕ) (reply : Reply) → (commit_by s stamp).reply ≡ Some reply → stamp_replied reply ≡ None
free_commit state.Unknown stamp reply e = free_says (NotPrepared stamp) reply refl e
free_commit state.Pending stamp reply e = free_says (Committed stamp) reply refl e
free_commit state.Committed stamp reply e = free_says (Committed stamp) reply refl e
free_commit state.Discarded stamp reply e = free_says (Discarded stamp) reply refl e

free_get : (p : PartitionState) (item : ℕ) (at : Option ℕ) (reply : Reply) → (get_by p item at).reply ≡ Some reply
    → stamp_replied reply ≡ None
free_get p item None reply e = free_says (Gone item) reply refl e
free_get p item (Some stamp) reply e = free_says (Version item stamp (value_at p item stamp)) reply refl e

free_request : (p : PartitionState) (request : Request) (reply : Reply) → may_be_prepared request ≡ false
    → (on_request p request).reply ≡ Some reply → stamp_replied reply ≡ None
free_request p (Prepare stamp writes items) reply h e = absurd (cc)
free_request p (PrepareOn stamp writes items bases) reply h e = absurd (cc)
free_request p (Check stamp) reply h e = absurd (cc)
free_request p (Commit stamp) reply h e =
    free_either (stamp == 0) (says Clash) (commit_by (state_of p.marks stamp) stamp) reply
    (free_says Clash reply refl) (free_commit (state_of p.marks stamp) stamp reply) e
free_request p (Get item stamps) reply h e =
    free_either (is_placed p.number p.parts item) (get_by p item (read_at p.marks item stamps)) (says Clash) reply
    (free_get p item (read_at p.marks item stamps) reply) (free_says Clash reply refl) e

free_body : (p : PartitionState) (from : Node) (b : Body) (reply : Reply) → may_prepare b ≡ false
    → (on_body p from b).reply ≡ Some reply → stamp_replied reply ≡ None
free_body p from (body.Request request) reply h e = free_request p request reply h e
free_body p from (body.Reply said) reply h e = absurd (cc)

free_mapped : (p : PartitionState) (m r : Message) (o : Option Reply) → ((said : Reply) → o ≡ Some said → stamp_replied said ≡ None)
    → option_map (reply_to p m) o ≡ Some r → stamp_prepared r.body ≡ None
free_mapped p m r None h e = absurd (cc)
free_mapped p m r (Some said) h e =
    let same : reply_to p m said ≡ r = cc in
    subst (λ (x : Message). stamp_prepared x.body ≡ None) same (h said refl)

-- a reply to a Commit or a Get says of no stamp that it is prepared
pub free_reply : (p : PartitionState) (m r : Message) → may_prepare m.body ≡ false → answer p m ≡ Some r
    → stamp_prepared r.body ≡ None
free_reply p m r h e =
    free_mapped p m r (action_of p m).reply
    (λ said is. free_either (is_part m.to p.number) (on_body p m.from m.body) nothing said
    (free_body p m.from m.body said h) (λ none. absurd (cc)) is) e
