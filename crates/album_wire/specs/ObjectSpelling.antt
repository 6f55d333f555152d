-- How whole numbers, truths and the members of objects are spelled in JSON.
use Rattle.std.specs.Prelude.{◌≡◌, ℕ, List, [], ◌∷◌, Bool, IsSomeAnd, MatchOption}
use Rattle.serde_json.specs.Data.{Data, boolean}
use Rattle.serde_json.specs.Find.{get}
use Rattle.album_lines.specs.Spelling.{HasOnly, whole_data}

-- a whole number
abbrev pub IsWhole : ℕ → Data → Type 0
IsWhole n d = d ≡ whole_data n

-- true or false
abbrev pub IsTruth : Bool → Data → Type 0
IsTruth b d = d ≡ boolean b

-- an object with a member of this name, whose value has this form
abbrev pub HasMember : List ℕ → (Data → Type 0) → Data → Type 0
HasMember name Is d = IsSomeAnd (get name d) Is

-- an object whose member of this name has this form, and may be left out where this holds
abbrev pub MayHave : List ℕ → Type 0 → (Data → Type 0) → Data → Type 0
MayHave name LeftOut Is d = MatchOption (get name d) LeftOut Is

-- an object with one member, which has this name, and whose value has this form
pub record HasJust (name : List ℕ) (Is : Data → Type 0) (d : Data) : Type 0 where
  pub names : HasOnly (name ∷ []) d
  pub value : HasMember name Is d
