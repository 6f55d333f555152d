-- The rule of the desk's table: its words, and all that the seats know, are of one history of each partition. Word 0
-- is how many numbers were drawn, and word `part + 1` how many marks the partition's history has.
use Rattle.std.specs.Prelude.{◌≡◌, ℕ, ◌<◌, ◌≤◌, true, List, ◌∷◌, map, length, Option, Some, is_some}
use mathlib.Core.Option.{some}
use lib.ListN.{get_elem?}
use Rattle.atomic_table.specs.Table.{State}
use Rattle.album_stamps.specs.Stamps.{client_number}
use Rattle.album_partition.specs.declared.marks.Mark.{Mark}
use Rattle.album_partition.specs.Bases.{IsChainedIf}
use Rattle.album_partition.specs.Marks.{is_legal}
use Rattle.album_passes.specs.Cuts.{Cut, Announced, marks_at, prefix_at, announced_for, dependencies_of, IsSound, IsPrefix}
use Rattle.album_passes.specs.Knowledge.{Terms, Knowledge, known, last_known, AreApart}

-- What the words and the seats are all of: the history of each partition, how many numbers were drawn, what was
-- announced for each stamp, what each depends on, the seat that owns each partition, and the seat that holds each
-- number.
pub record Run : Type 0 where
  pub histories : List (List Mark)
  pub drawn : ℕ
  pub announced : ℕ → Option Announced
  pub depended : ℕ → Option (List ℕ)
  pub owner : ℕ → ℕ
  pub holder : ℕ → ℕ

-- a sound cut of the run
pub record IsCutOf (terms : Terms) (run : Run) (cut : Cut) : Type 0 where
  pub opening : cut.opening ≡ terms.opening
  pub parts : cut.parts ≡ terms.parts
  pub checked : cut.checked ≡ terms.checked
  pub prefixes : (part : ℕ) → IsPrefix (prefix_at cut part) (marks_at run.histories part)
  pub announced : (stamp : ℕ) (all : Announced) → announced_for cut stamp ≡ Some all → run.announced stamp ≡ Some all
  pub depended : (stamp : ℕ) (lengths : List ℕ) → dependencies_of cut stamp ≡ Some lengths
      → run.depended stamp ≡ Some lengths
  pub sound : IsSound cut

-- the seat owns the partition, and its cut has the whole history
pub record Owns (run : Run) (id : ℕ) (cut : Cut) (part : ℕ) : Type 0 where
  pub alone : run.owner part ≡ id
  pub whole : prefix_at cut part ≡ marks_at run.histories part

-- the seat holds the client's number, which was drawn, and its cut has all that was announced of the client's stamps
pub record Holds (run : Run) (id : ℕ) (cut : Cut) (client : ℕ) : Type 0 where
  pub alone : run.holder client ≡ id
  pub positive : 0 < client
  pub counted : client ≤ run.drawn
  pub heard : (stamp : ℕ) → client_number stamp ≡ client → announced_for cut stamp ≡ run.announced stamp

-- what the seat knows is so
pub record Fits (terms : Terms) (run : Run) (id : ℕ) (seat : Knowledge) : Type 0 where
  pub cuts : (index : ℕ) (cut : Cut) → get_elem? seat.cuts index ≡ some cut → IsCutOf terms run cut
  pub owns : (part : ℕ) → seat.low ≤ part → part < seat.high → Owns run id (known seat) part
  pub number : (client : ℕ) → seat.number ≡ Some client → Holds run id (known seat) client
  pub guest : (client : ℕ) → seat.guest ≡ Some client → Holds run id (last_known seat) client
  pub apart : AreApart seat.number seat.guest
  pub seen : seat.drawn ≤ run.drawn

-- There is one run with which the words and all seats agree: each history has marks that may follow each other, on the
-- latest versions in a checked store, and is no longer than it may be. No more numbers are drawn than there are, and
-- what is announced is so of a client whose number is drawn.
pub record Agree (terms : Terms) (words : List ℕ) (seats : List Knowledge) : Type 0 where
  pub run : Run
  pub words_are : words ≡ run.drawn ∷ map length run.histories
  pub wide : length run.histories ≡ terms.parts
  pub legal : (part : ℕ) → is_legal (marks_at run.histories part) ≡ true
  pub chained : (part : ℕ) → IsChainedIf terms.checked (marks_at run.histories part)
  pub few : (part : ℕ) → length (marks_at run.histories part) ≤ terms.limit
  pub most : run.drawn ≤ terms.sessions
  pub named : (stamp : ℕ) (all : Announced) → run.announced stamp ≡ Some all → client_number stamp ≤ run.drawn
  pub depends : (stamp : ℕ) → is_some (run.depended stamp) ≡ is_some (run.announced stamp)
  pub each : (id : ℕ) (seat : Knowledge) → get_elem? seats id ≡ some seat → Fits terms run id seat

-- the rule, as the table asks for it
abbrev pub Keeps : {S : Type 0} → Terms → State S Knowledge → Type 0
Keeps terms state = Agree terms state.words state.views
