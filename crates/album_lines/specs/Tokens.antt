-- What is taken of a line's tokens, a value at a time, with no tree between. What is taken is what the tree gives.
use Rattle.std.specs.Prelude.{◌≡◌, ◌≤◌, ◌&&◌, ℕ, List, length, map, codes, Bool, true, Option, Some, None, MatchOption, Result, Ok}
use Rattle.json.specs.Token.{Token}
use Rattle.json.specs.Json as json
use Rattle.json.specs.Find.{get_member}
use Rattle.serde_json.specs.Data.{Data}
use Rattle.album_stamps.specs.declared.refusals.Refusal.{Refusal}
use Rattle.album_stamps.specs.Outcome.{◌>>=◌}
use Rattle.album_lines.specs.Fields.{data_of, is_among, each, text_of, whole_of}
use Rattle.album_lines.specs.Shapes.{spelled_entry, entry_shapes_of}
use Rattle.album_lines.specs.JudgeShape.{SpelledJudge, judge_shape_of, judge_keys, spelled_group, groups_shape_of, kind_shape_of, policy_shape_of}
use Rattle.album_lines.specs.Trees.{is_in_range, are_in_range, hold_in_range, data_in, items_in}
use Rattle.album_lines.specs.declared.judge_tokens.Fields.{Fields}

-- the tokens begin with this value, nested at most so deep, and the others are left
abbrev pub Begins : ℕ → List Token → json.Json → List Token → Type 0
Begins deep ts j left = (depth : ℕ) → deep ≤ depth → json.value depth ts ≡ Some (j, left)

-- the same of the items of a list, up to its bracket, and of the members of an object, up to its brace
abbrev pub BeginItems : ℕ → List Token → json.Items → List Token → Type 0
BeginItems deep ts js left =
    (depth : ℕ) → (n : ℕ) → deep ≤ depth → length ts ≤ n → json.items (json.value depth) n ts ≡ Some (js, left)

abbrev pub BeginMembers : ℕ → List Token → json.Members → List Token → Type 0
BeginMembers deep ts ms left =
    (depth : ℕ) → (n : ℕ) → deep ≤ depth → length ts ≤ n → json.members (json.value depth) n ts ≡ Some (ms, left)

-- the value that the tokens begin with is in range, and is read as this
abbrev pub Takes : {A : Type 0} → ℕ → (Data → Result A Refusal) → List Token → A → List Token → Type 0
Takes deep read ts a left =
    (j : json.Json) × Begins deep ts j left × (is_in_range j ≡ true) × (read (data_in j) ≡ Ok a)

-- the items that they begin with are in range, and each is read as one of these
abbrev pub TakesAll : {A : Type 0} → ℕ → (Data → Result A Refusal) → List Token → List A → List Token → Type 0
TakesAll deep read ts xs left =
    (js : json.Items) × BeginItems deep ts js left × (are_in_range js ≡ true) × (each read (items_in js) ≡ Ok xs)

-- the shape of the line of these bytes
abbrev pub line_shape_of : List ℕ → Result SpelledJudge Refusal
line_shape_of bytes = data_of bytes >>= judge_shape_of

-- ---- the members of a judge line

-- each has one of these names
abbrev pub are_named : List (List ℕ) → json.Members → Bool
are_named names json.no_members = true
are_named names (json.member k j ms) = is_among names k && are_named names ms

-- one more after them
abbrev pub with_last : json.Members → List ℕ → json.Json → json.Members
with_last json.no_members k j = json.member k j json.no_members
with_last (json.member l i ms) k j = json.member l i (with_last ms k j)

-- the last member of this name is read as the field; where there is no field there is none
abbrev pub IsField : {A B : Type 0} → (Data → Result B Refusal) → (A → B) → List ℕ → json.Members → Option A → Type 0
IsField read view name ms field =
    MatchOption field (get_member name ms ≡ None)
    (λ a. (j : json.Json) × (get_member name ms ≡ Some j) × (read (data_in j) ≡ Ok (view a)))

-- the fields are read of these members, and each member is in range and has a name that it may have
pub record AreFields (ms : json.Members) (f : Fields) : Type 0 where
  pub in_range : hold_in_range ms ≡ true
  pub named : are_named judge_keys ms ≡ true
  pub entries : IsField entry_shapes_of (λ v. map spelled_entry v.items) (codes "entries") ms f.entries
  pub holder : IsField (λ d. kind_shape_of (Some d)) (λ h. h) (codes "kind") ms f.holder
  pub head_group : IsField whole_of (λ n. n) (codes "group") ms f.head_group
  pub groups : IsField (λ d. groups_shape_of (Some d)) (λ v. map spelled_group v.items) (codes "groups") ms f.groups
  pub owner : IsField text_of (λ t. t.now) (codes "owner") ms f.owner
  pub who : IsField text_of (λ t. t.now) (codes "who") ms f.who
  pub mask : IsField whole_of (λ n. n) (codes "mask") ms f.mask
  pub policy : IsField (λ d. policy_shape_of (Some d)) (λ p. p) (codes "policy") ms f.policy

-- the tokens begin with the value of a member of this name, which makes these fields those
abbrev pub TakesField : List ℕ → List Token → List Token → Fields → Fields → Type 0
TakesField name ts left old new =
    (j : json.Json)
    × Begins 3 ts j left
    × ((ms : json.Members) → AreFields ms old → AreFields (with_last ms name j) new)

-- the tokens begin with the members that these fields are read from
abbrev pub TakesFields : List Token → Fields → List Token → Type 0
TakesFields ts f left = (ms : json.Members) × BeginMembers 3 ts ms left × AreFields ms f
