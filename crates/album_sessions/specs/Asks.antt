-- The parts of a session that an ask keeps, and why it reads the items that it reads.
use Rattle.std.specs.Prelude.{◌≡◌, ◌≤◌, ℕ, Bool, true, false, max, List, [], ◌∷◌, All, None, IsTrue, Option}
use Rattle.album_stamps.specs.Stamps.{is_client, counter_of}
use Rattle.album_audit.specs.Books.{ShareState, share_with}
use Rattle.album_audit.specs.Totals.{records_of}
use Rattle.album_grounds.specs.Looks.{IsLooking}
use Rattle.album_passes.specs.Cuts.{Cut, Extends, IsSound}
use Rattle.album_permits.specs.declared.notes.Note.{Note}
use Rattle.album_reader.specs.Answers.{ReadVersion}
use Rattle.album_sessions.specs.Hints.{are_among}
use Rattle.album_sessions.specs.Sessions.{SessionState, IsAhead, AnnouncesNothing}
use Rattle.album_views.specs.Asks.{objects_of}
use Rattle.album_views.specs.Checks.{flaw_of}
use Rattle.album_views.specs.Steps.{AreReadable}
use Rattle.album_views.specs.Views.{ViewingState}
use Rattle.album_eval.specs.declared.facts.Principal.{Principal}

-- the same client has seen more, its clock went no way back, and what it has seen is sound
pub record IsOn (old new : SessionState) : Type 0 where
  pub client : new.client ≡ old.client
  pub grown : Extends old.cut new.cut
  pub risen : old.counter ≤ new.counter
  pub sound : IsSound new.cut

-- no stamp of what was read has a greater counter
abbrev pub AreSeenBy : ℕ → List ReadVersion → Type 0
AreSeenBy counter rows = All (λ row. counter_of row.stamp ≤ counter) rows

-- the greatest of this counter and those of the stamps of what was read
abbrev pub counter_after : ℕ → List ReadVersion → ℕ
counter_after counter [] = counter
counter_after counter (row ∷ rows) = counter_after (max counter (counter_of row.stamp)) rows

-- The same session has seen more, and nothing else is changed or announced. And what is so of each session: what it has
-- seen is sound, its clock is ahead of what is announced of it, and it is of a client.
pub record IsHeard (old new : SessionState) : Type 0 where
  pub client : new.client ≡ old.client
  pub counter : new.counter ≡ old.counter
  pub share : new.share ≡ old.share
  pub grown : Extends old.cut new.cut
  pub silent : AnnouncesNothing old new
  pub sound : IsSound new.cut
  pub ahead : IsAhead new.client new.counter new.cut
  pub some : 1 ≤ new.cut.parts
  pub own : IsTrue (is_client new.client)

-- the notes are in the share, each as the client's
abbrev pub AreShared : ℕ → ShareState → ShareState → List Note → Type 0
AreShared client old new notes = new ≡ share_with old (records_of client notes)

-- A hint names these items, and the ask's objects are among them. No read counts so far.
pub record IsTrying (now : Cut) (viewing : ViewingState) (items : List ℕ) : Type 0 where
  pub flawless : flaw_of viewing.ask ≡ None
  pub unread : viewing.reads ≡ 0
  pub objects : are_among (objects_of viewing.ask) items ≡ true
  pub readable : AreReadable items
  pub sound : IsSound now

-- why these items are read: a hint names them, or what was read before, for whoever looks
abbrev pub IsReadFor : Bool → Cut → Cut → Option Principal → ViewingState → List ℕ → Type 0
IsReadFor true begun now looker viewing items = IsTrying now viewing items
IsReadFor false begun now looker viewing items = IsLooking begun now looker viewing items
