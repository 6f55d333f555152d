-- On what each answer of a session rests.
use Rattle.std.specs.Prelude.{◌≡◌, ◌≢◌, ◌⊎◌, ◌+◌, ◌<◌, ℕ, true, List, All, Some, None}
use Rattle.album_stamps.specs.Stamps.{client_number, counter_of}
use Rattle.album_stamps.specs.declared.limits.TheConstants.{MAX_COUNTER}
use Rattle.album_stamps.specs.declared.refusals.Refusal.{Refusal}
use Rattle.album_stamps.specs.declared.refusals.Refusal.TheVariants.{OutOfMemory, AlbumFull, StampsSpent, Full, Closed}
use Rattle.album_audit.specs.Books.{ShareState, share_with}
use Rattle.album_audit.specs.Totals.{records_of}
use Rattle.album_eval.specs.declared.facts.Principal.{Principal}
use Rattle.album_eval.specs.declared.policies.Policy.{Policy}
use Rattle.album_passes.specs.Changes.{lengths_in}
use Rattle.album_passes.specs.Cuts.{Cut, IsPromisedSomewhere, Extends, announced_for, dependencies_of}
use Rattle.album_permits.specs.Effects.{is_full_for}
use Rattle.album_permits.specs.Permits.{PermitState}
use Rattle.album_permits.specs.Serving.{IsServed}
use Rattle.album_permits.specs.declared.findings.Finding.{Finding}
use Rattle.album_permits.specs.declared.findings.Finding.TheVariants as finding
use Rattle.album_permits.specs.declared.notes.Note.{Note}
use Rattle.album_permits.specs.Meaning.{Finds, Notes}
use Rattle.album_grounds.specs.Grounds.{AreSettled, IsOnView, write_of, IsKept, IsWithoutRoom, IsWide, IsOutOfReads}
use Rattle.album_sessions.specs.Asks.{counter_after}
use Rattle.album_sessions.specs.Sessions.{SessionState, AnnouncesNothing, AddsNothing}
use Rattle.album_permits.specs.declared.answers.Answer.{Answer}
use Rattle.album_permits.specs.declared.answers.Answer.TheVariants as answer
use Rattle.album_views.specs.ReadSets.{looker_of}
use Rattle.album_views.specs.declared.asks.Ask.{Ask}
use Rattle.album_views.specs.declared.viewing.Why.TheVariants.{Rounds, Wide}

-- What is noted of the ruling was added to the share, note by note, each as the client's. Nothing else was, so it is
-- what was noted last.
pub record IsShared (client : ℕ) (old new : ShareState) (case : PermitState) : Type 0 where
  pub notes : List Note
  pub noted : Notes case notes
  pub added : new ≡ share_with old (records_of client notes)

-- the ask has a view, the written policy finds this on it, what is noted of it is in the share, and this holds
abbrev pub IsFoundOnView :
    Policy → Principal → Ask → SessionState → SessionState → Finding → (PermitState → Type 0) → Type 0
IsFoundOnView policy principal ask old new found Holds =
    IsOnView old.cut new.cut policy principal ask
    (λ case. Finds case found × IsShared old.client old.share new.share case × Holds case)

-- the session's clock has seen what was read, and drawn no stamp
abbrev pub HasSeen : SessionState → SessionState → PermitState → Type 0
HasSeen old new case = new.counter ≡ counter_after old.counter case.view.rows

-- The stamp is the client's own, and the one that its clock drew in this ask: its counter is one above the greatest
-- that the clock drew or saw before. Nothing was announced for it.
pub record IsDrawn (old new : SessionState) (permit : PermitState) (stamp : ℕ) : Type 0 where
  pub own : client_number stamp ≡ old.client
  pub next : counter_of stamp ≡ counter_after old.counter permit.view.rows + 1
  pub last : new.counter ≡ counter_of stamp
  pub unused : announced_for old.cut stamp ≡ None

-- The write depends on what the session had seen as it announced it: on all that it had seen before the ask, and on
-- each version that it read.
pub record IsDepended (old new : SessionState) (permit : PermitState) (stamp : ℕ) : Type 0 where
  pub seen : Cut
  pub since : Extends old.cut seen
  pub until : Extends seen new.cut
  pub settled : AreSettled seen permit.view.rows
  pub depended : dependencies_of new.cut stamp ≡ Some (lengths_in seen)

-- The stamp was drawn in this ask, and is above all that was read. It was announced with exactly what is written, value
-- by value and each on its base, and with what it depends on; and no other stamp of the client's was.
pub record IsAnnounced (old new : SessionState) (permit : PermitState) (stamp : ℕ) : Type 0 where
  pub drawn : IsDrawn old new permit stamp
  pub above : All (λ row. row.stamp < stamp) permit.view.rows
  pub announced : announced_for new.cut stamp ≡ Some (write_of permit stamp)
  pub depends : IsDepended old new permit stamp
  pub alone : (other : ℕ) → client_number other ≡ old.client → other ≢ stamp
      → announced_for new.cut other ≡ announced_for old.cut other

-- it is granted, and was begun at this stamp; and this holds of it
abbrev pub IsBegun : Policy → Principal → Ask → SessionState → SessionState → ℕ → (PermitState → Type 0) → Type 0
IsBegun policy principal ask old new stamp Holds =
    IsFoundOnView policy principal ask old new finding.Granted
    (λ permit. IsAnnounced old new permit stamp × Holds permit)

-- why a write that was begun isn't settled: a participant had no room for it; or memory ran out, or the service is
-- closed, and then nothing more is known
abbrev pub IsUnsettledBy : ℕ → SessionState → ℕ → Refusal → PermitState → Type 0
IsUnsettledBy limit new stamp why permit =
    ((why ≡ Full) × IsWithoutRoom limit new.cut permit stamp) ⊎ ((why ≡ OutOfMemory) ⊎ (why ≡ Closed))

-- the album that gets a child is full at the stamp that was drawn for it
pub record IsAlbumFull (old new : SessionState) (permit : PermitState) : Type 0 where
  pub stamp : ℕ
  pub drawn : IsDrawn old new permit stamp
  pub full : is_full_for permit stamp ≡ true

-- what was read has brought the clock to its end, or it was there
pub record IsSpent (old new : SessionState) (permit : PermitState) : Type 0 where
  pub seen : HasSeen old new permit
  pub end : new.counter ≡ MAX_COUNTER

-- why what is granted can't be written: the album is full, or the clock is spent
abbrev pub IsRefusedBy : SessionState → SessionState → Refusal → PermitState → Type 0
IsRefusedBy old new why permit =
    ((why ≡ AlbumFull) × IsAlbumFull old new permit) ⊎ ((why ≡ StampsSpent) × IsSpent old new permit)

-- On what the answer rests, of a session before the ask and after it. After an answer that is no write's nothing was
-- announced, and so nothing was written; and the clock draws a stamp only for a write that is granted.
abbrev pub RestsOn : ℕ → Policy → Principal → Ask → SessionState → SessionState → Answer → Type 0
RestsOn limit policy principal ask old new (answer.Served served) =
    IsFoundOnView policy principal ask old new finding.Granted
    (λ permit. IsServed permit served × HasSeen old new permit)
    × AnnouncesNothing old new
RestsOn limit policy principal ask old new (answer.Denied denial) =
    IsFoundOnView policy principal ask old new (finding.Denied denial) (HasSeen old new) × AnnouncesNothing old new
RestsOn limit policy principal ask old new (answer.Missing object) =
    IsFoundOnView policy principal ask old new (finding.Missing object) (HasSeen old new) × AnnouncesNothing old new
RestsOn limit policy principal ask old new (answer.Busy Wide) =
    IsWide old.cut new.cut (looker_of policy principal) ask × AddsNothing old new
RestsOn limit policy principal ask old new (answer.Busy Rounds) =
    IsOutOfReads old.cut new.cut (looker_of policy principal) ask × AddsNothing old new
RestsOn limit policy principal ask old new (answer.Committed stamp) =
    IsBegun policy principal ask old new stamp (λ permit. IsKept new.cut permit stamp)
RestsOn limit policy principal ask old new (answer.Aborted stamp) =
    IsBegun policy principal ask old new stamp (λ permit. IsPromisedSomewhere new.cut stamp)
RestsOn limit policy principal ask old new (answer.Unsettled stamp why) =
    IsBegun policy principal ask old new stamp (IsUnsettledBy limit new stamp why)
RestsOn limit policy principal ask old new (answer.Refused why) =
    IsFoundOnView policy principal ask old new finding.Granted (IsRefusedBy old new why) × AnnouncesNothing old new
