-- The board: what was published, and what was seen of it.
use Rattle.std.specs.Prelude.{◌≡◌, ℕ, List, All, Some, None, slice_get}
use Rattle.atomic_table.specs.Seated.{TableId}
use Rattle.album_passes.specs.Cuts.{Cut, Extends}
use Rattle.album_passes.specs.Pass.{PassState}
use Rattle.album_board.specs.Writer.{number_of}

-- what was published, in order, and a cut that extends the cut of each
pub record BoardState : Type 0 where
  pub cut : Cut
  pub published : List PassState

-- the number of a publication and its cut; or how much was published before one listened, and a cut that has all of it
pub record Numbered : Type 0 where
  pub number : ℕ
  pub cut : Cut

-- the cut extends that of each pass
abbrev pub HasSeen : Cut → List PassState → Type 0
HasSeen cut published = All (λ pass. Extends pass.cut cut) published

-- the pass is of this table and has no number, and has seen what was published
pub record IsSeeing (table : TableId) (pass : PassState) (published : List PassState) : Type 0 where
  pub of : pass.table ≡ table
  pub unnumbered : pass.number ≡ None
  pub seen : HasSeen pass.cut published

-- a pass with the cut is in the list, under the number
pub record Stands (number : ℕ) (cut : Cut) (published : List PassState) : Type 0 where
  pub index : ℕ
  pub pass : PassState
  pub there : slice_get published index ≡ Some pass
  pub same : pass.cut ≡ cut
  pub number_is : number ≡ number_of index
