-- The shape of a judge line: its fields, each of its form, or a bad request.
use Rattle.std.specs.Prelude.{ℕ, List, [], ◌∷◌, codes, bytes_eq, if◌then◌else◌, Option, Some, None, Result, Ok, map}
use Rattle.std.specs.Option.{ok_or}
use Rattle.serde_json.specs.Data.{Data}
use Rattle.serde_json.specs.Find.{get}
use Rattle.album_stamps.specs.declared.refusals.Refusal.{Refusal}
use Rattle.album_stamps.specs.declared.refusals.Refusal.TheVariants.{BadRequest}
use Rattle.album_stamps.specs.Outcome.{◌>>=◌}
use Rattle.album_stamps.specs.Distinct.{are_distinct}
use Rattle.album_lists.specs.declared.lists.Holder.{Holder}
use Rattle.album_lists.specs.declared.lists.Holder.TheVariants.{Plain, Folder}
use Rattle.album_eval.specs.Policies.{policy_of}
use Rattle.album_eval.specs.declared.policies.Policy.{Policy}
use Rattle.album_eval.specs.declared.policies.Policy.TheVariants.{One}
use Rattle.album_lines.specs.Fields.{guard, only_of, field_of, item_of, text_of, whole_of, list_of, sized, each}
use Rattle.album_lines.specs.Shapes.{SpelledEntry, spelled_entry, entry_shapes_of, texts_of}
use Rattle.album_lines.specs.declared.judge_shape.GroupShape.{GroupShape}
use Rattle.album_lines.specs.declared.judge_shape.JudgeShape.{JudgeShape}

-- the names of its members
abbrev pub judge_keys : List (List ℕ)
judge_keys =
    codes "entries" ∷ codes "kind" ∷ codes "group" ∷ codes "groups" ∷ codes "owner"
    ∷ codes "who" ∷ codes "mask" ∷ codes "policy" ∷ []

-- a group as it is spelled
pub record SpelledGroup : Type 0 where
  pub number : ℕ
  pub members : List (List ℕ)

-- a judge line as it is spelled
pub record SpelledJudge : Type 0 where
  pub entries : List SpelledEntry
  pub holder : Holder
  pub head_group : ℕ
  pub groups : List SpelledGroup
  pub owner : List ℕ
  pub who : List ℕ
  pub mask : ℕ
  pub policy : Policy

abbrev pub spelled_group : GroupShape → SpelledGroup
spelled_group g = record { number = g.number; members = map (λ text. text.now) g.members.items }

abbrev pub spelled_judge : JudgeShape → SpelledJudge
spelled_judge s = record {
  entries = map spelled_entry s.entries.items;
  holder = s.holder;
  head_group = s.head_group;
  groups = map spelled_group s.groups.items;
  owner = s.owner.now;
  who = s.who.now;
  mask = s.mask;
  policy = s.policy;
}

-- [number, members]
unfoldable pub group_shape_of : Data → Result SpelledGroup Refusal
group_shape_of d = do
  _ ← sized 2 d
  number ← item_of 0 d >>= whole_of
  members ← item_of 1 d >>= texts_of
  Ok (record { number = number; members = members })

abbrev pub numbers : List SpelledGroup → List ℕ
numbers gs = map (λ g. g.number) gs

-- `groups` may be left out: then there are none
unfoldable pub groups_shape_of : Option Data → Result (List SpelledGroup) Refusal
groups_shape_of None = Ok []
groups_shape_of (Some d) = do
  groups ← list_of d >>= each group_shape_of
  _ ← guard (are_distinct (numbers groups))
  Ok groups

-- what a kind of object is to its list
abbrev pub holder_of : List ℕ → Option Holder
holder_of word =
    if bytes_eq word (codes "picture") then Some Plain
    else if bytes_eq word (codes "album") then Some Folder
    else if bytes_eq word (codes "group") then Some Plain
    else None

-- `kind` may be left out: then it is a picture
unfoldable pub kind_shape_of : Option Data → Result Holder Refusal
kind_shape_of None = Ok Plain
kind_shape_of (Some d) = text_of d >>= λ word. ok_or (holder_of word) BadRequest

-- `policy` may be left out: then it is policy 1
unfoldable pub policy_shape_of : Option Data → Result Policy Refusal
policy_shape_of None = Ok One
policy_shape_of (Some d) = whole_of d >>= λ number. ok_or (policy_of number) BadRequest

-- the members of a line's object, each of its form
unfoldable pub judge_shape_of : Data → Result SpelledJudge Refusal
judge_shape_of d = do
  _ ← only_of judge_keys d
  holder ← kind_shape_of (get (codes "kind") d)
  head_group ← field_of (codes "group") d >>= whole_of
  owner ← field_of (codes "owner") d >>= text_of
  who ← field_of (codes "who") d >>= text_of
  mask ← field_of (codes "mask") d >>= whole_of
  policy ← policy_shape_of (get (codes "policy") d)
  entries ← field_of (codes "entries") d >>= entry_shapes_of
  groups ← groups_shape_of (get (codes "groups") d)
  Ok (record {
    entries = entries;
    holder = holder;
    head_group = head_group;
    groups = groups;
    owner = owner;
    who = who;
    mask = mask;
    policy = policy;
  })
