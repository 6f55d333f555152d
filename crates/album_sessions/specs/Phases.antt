-- What is under way for an ask between two replies, a case for each phase of its client.
use Rattle.std.specs.Prelude.{◌≡◌, Bool, List, None}
use Rattle.album_calls.specs.declared.messages.Message.{Message}
use Rattle.album_client.specs.PendingAsks.{PendingAsk}
use Rattle.album_client.specs.declared.clients.Phase.{Phase}
use Rattle.album_client.specs.declared.clients.Phase.TheVariants.{Idle, Reads, Prepares, Commits}
use Rattle.album_eval.specs.declared.facts.Principal.{Principal}
use Rattle.album_eval.specs.declared.policies.Policy.{Policy}
use Rattle.album_passes.specs.Cuts.{Cut, IsSound, Extends}
use Rattle.album_reader.specs.Rounds.{RoundState, asked_stamps, gets_of}
use Rattle.album_sessions.specs.Asks.{IsReadFor, IsOn}
use Rattle.album_grounds.specs.Replies.{IsUnder, IsFirstOver}
use Rattle.album_sessions.specs.Resting.{IsBegun}
use Rattle.album_sessions.specs.Sessions.{SessionState, AddsNothing}
use Rattle.album_grounds.specs.Writes.{IsBegunOn, IsFurther, IsPreparedAt, IsCommittedAt, AreCommits}
use Rattle.album_views.specs.ReadSets.{looker_of}
use Rattle.album_views.specs.Checks.{refusal_of}
use Rattle.album_views.specs.declared.asks.Ask.{Ask}
use Rattle.album_writer.specs.Writing.{WritingState, prepares_of, commits_of, commit_round}

-- an ask as it began: its principal, the request, the session at that time, and whether it goes by a hint
pub record Outset : Type 0 where
  pub principal : Principal
  pub ask : Ask
  pub session : SessionState
  pub hinted : Bool

-- ---- a read

-- which round of a read began so: the first one, with which the read began; or the second one, when the first was over
pub data IsRound (start at : Cut) (begun : RoundState) : Type 0 where
  First : begun.stamps ≡ None → at ≡ start → IsRound start at begun
  Second : (first : RoundState) (gets : List Message) → Extends start at → IsFirstOver start at first begun gets
      → IsRound start at begun

-- It reads for the ask: a hint names its items, or what was read before led to no view. This round began at a cut,
-- where it sent its messages.
pub record IsReading
    (policy : Policy) (hinted : Bool) (principal : Principal) (ask : Ask) (old at now : Cut) (sent : List Message)
    (pending_ask : PendingAsk) (round : RoundState)
    : Type 0 where
  pub of : pending_ask.viewing.ask ≡ ask
  pub whom : pending_ask.principal ≡ principal
  pub start : Cut
  pub begun : RoundState
  pub looking : IsReadFor hinted old start (looker_of policy principal) pending_ask.viewing begun.items
  pub which : IsRound start at begun
  pub asks : sent ≡ gets_of begun.asker (asked_stamps begun) begun.items
  pub parts : begun.asker.parts ≡ at.parts
  pub under : IsUnder at now begun round
  pub sound : IsSound at
  pub before : Extends old start
  pub on : Extends at now

-- ---- a write

-- the Prepares of the write are sent, and each participant is outstanding or has prepared
pub record IsPreparing (at now : Cut) (sent : List Message) (begun writing : WritingState) : Type 0 where
  pub over : IsBegunOn at begun
  pub asks : sent ≡ prepares_of begun
  pub further : IsFurther begun (IsPreparedAt now begun) writing

-- each participant has prepared, the Commits are sent, and each is outstanding or has committed
pub record IsCommitting (at now : Cut) (sent : List Message) (begun writing : WritingState) : Type 0 where
  pub next : WritingState
  pub prepared : AreCommits at begun next (commits_of (commit_round begun))
  pub parts : begun.parts ≡ at.parts
  pub checked : begun.checked ≡ at.checked
  pub asks : sent ≡ commits_of next
  pub further : IsFurther next (IsCommittedAt now next) writing

-- what is under way of the write, by the phase
abbrev pub IsCarried : Cut → Cut → List Message → WritingState → Phase → Type 0
IsCarried at now sent begun (Idle tag) = ⊥
IsCarried at now sent begun (Reads pending_ask round) = ⊥
IsCarried at now sent begun (Prepares writing) = IsPreparing at now sent begun writing
IsCarried at now sent begun (Commits writing) = IsCommitting at now sent begun writing

-- It is granted on a view, and was begun at its stamp, which is announced; and that is under way of it.
pub record IsWriting
    (policy : Policy) (outset : Outset) (now : SessionState) (at : Cut) (sent : List Message) (phase : Phase)
    : Type 0 where
  pub begun : WritingState
  pub granted : IsBegun policy outset.principal outset.ask outset.session now begun.stamp
      (λ permit. permit ≡ begun.permit)
  pub since : Extends at now.cut
  pub carried : IsCarried at now.cut sent begun phase

-- ---- an ask

-- It reads, and has noted, drawn and announced nothing; or it writes.
abbrev pub IsPhase : Policy → Outset → SessionState → Cut → List Message → Phase → Type 0
IsPhase policy outset now at sent (Idle tag) = ⊥
IsPhase policy outset now at sent (Reads pending_ask round) =
    IsReading policy outset.hinted outset.principal outset.ask outset.session.cut at now.cut sent pending_ask round
    × AddsNothing outset.session now
IsPhase policy outset now at sent (Prepares writing) = IsWriting policy outset now at sent (Prepares writing)
IsPhase policy outset now at sent (Commits writing) = IsWriting policy outset now at sent (Commits writing)

-- The principal may ask it, the session extends what it was at the outset, and its client is in the current phase:
-- replies are outstanding to these messages, which were sent with that cut.
pub record IsUnderWay
    (policy : Policy) (outset : Outset) (now : SessionState) (at : Cut) (sent : List Message) (current : Phase)
    : Type 0 where
  pub taken : refusal_of outset.ask outset.principal ≡ None
  pub on : IsOn outset.session now
  pub sound : IsSound now.cut
  pub phase : IsPhase policy outset now at sent current
