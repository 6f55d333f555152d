-- What a judge line asks: may `who` do what `mask` says to an object that carries this list?
use Rattle.std.specs.Prelude.{◌≡◌, ◌≢◌, ◌⊎◌, ℕ, List, [], ◌∷◌, codes, if◌then◌else◌, IsTrue, IsSomeAnd, MatchOption, AllPairs, Some, Result, Ok, Err, map}
use Rattle.std.specs.Option.{ok_or}
use Rattle.serde_json.specs.Data.{Data}
use Rattle.serde_json.specs.Find.{get}
use Rattle.album_stamps.specs.declared.refusals.Refusal.{Refusal}
use Rattle.album_stamps.specs.declared.refusals.Refusal.TheVariants.{BadWho, BadFlags}
use Rattle.album_stamps.specs.Outcome.{◌>>=◌}
use Rattle.album_access.specs.Bits.{mask_bits, is_mask, mask_of}
use Rattle.album_access.specs.declared.masks.Mask.{Mask}
use Rattle.album_lists.specs.Whos.{IsUserText, user_of}
use Rattle.album_lists.specs.Entries.{fits}
use Rattle.album_lists.specs.declared.lists.Ace.{Ace}
use Rattle.album_lists.specs.declared.lists.Holder.{Holder}
use Rattle.album_lists.specs.declared.lists.Holder.TheVariants.{Plain, Folder}
use Rattle.album_lists.specs.declared.whos.Member.{Member}
use Rattle.album_eval.specs.Matching.{IsPrincipalText, principal_of}
use Rattle.album_eval.specs.declared.facts.Principal.{Principal}
use Rattle.album_eval.specs.declared.policies.Policy.{Policy}
use Rattle.album_eval.specs.declared.policies.Policy.TheVariants.{One, Two, Three}
use Rattle.album_lines.specs.Fields.{data_of}
use Rattle.album_lines.specs.Shapes.{SpelledEntry}
use Rattle.album_lines.specs.Values.{each_of, entries_read, members_read}
use Rattle.album_lines.specs.Spelling.{IsJson, HasOnly, IsText, IsList, IsAccessList, AreMembers, whole_data, list_data}
use Rattle.album_lines.specs.JudgeShape.{SpelledGroup, SpelledJudge, judge_shape_of}
use Rattle.album_lines.specs.declared.judge_line.Group.{Group}
use Rattle.album_lines.specs.declared.judge_line.JudgeLine.{JudgeLine}

-- a group and its members
pub record Listing : Type 0 where
  pub number : ℕ
  pub members : List Member

-- a judge line, without where it lies in memory
pub record Question : Type 0 where
  pub list : List Ace
  pub holder : Holder
  pub head_group : ℕ
  pub groups : List Listing
  pub owner : List ℕ
  pub who : Principal
  pub mask : Mask
  pub policy : Policy

abbrev pub listing : Group → Listing
listing g = record { number = g.number; members = g.members.items }

abbrev pub question : JudgeLine → Question
question line = record {
  list = line.list;
  holder = line.holder;
  head_group = line.head_group;
  groups = map listing line.groups.items;
  owner = line.owner;
  who = line.who;
  mask = line.mask;
  policy = line.policy;
}

-- ---- spelled

-- the words of the objects that carry a list
abbrev pub IsKindText : Holder → List ℕ → Type 0
IsKindText Plain text = (text ≡ codes "picture") ⊎ (text ≡ codes "group")
IsKindText Folder text = text ≡ codes "album"

-- the numbers of the policies
abbrev pub IsPolicyNumber : Policy → Data → Type 0
IsPolicyNumber One d = d ≡ whole_data 1
IsPolicyNumber Two d = d ≡ whole_data 2
IsPolicyNumber Three d = d ≡ whole_data 3

-- [number, members]
pub record IsGroup (group : Listing) (d : Data) : Type 0 where
  pub members_data : Data
  pub items : d ≡ list_data (whole_data group.number ∷ members_data ∷ [])
  pub members : AreMembers group.members members_data

-- a list of groups, no number twice
pub record AreGroups (groups : List Listing) (d : Data) : Type 0 where
  pub each : IsList IsGroup groups d
  pub apart : AllPairs (λ a b. a ≢ b) (map (λ group. group.number) groups)

-- the names of the members that a line may have
abbrev pub member_names : List (List ℕ)
member_names =
    codes "entries" ∷ codes "kind" ∷ codes "group" ∷ codes "groups" ∷ codes "owner"
    ∷ codes "who" ∷ codes "mask" ∷ codes "policy" ∷ []

-- An object, member by member. Where `kind` is left out it is a picture, where `groups` is there are none, and where
-- `policy` is it is policy 1.
pub record IsQuestion (q : Question) (d : Data) : Type 0 where
  pub names : HasOnly member_names d
  pub entries : IsSomeAnd (get (codes "entries") d) (IsAccessList q.holder q.list)
  pub kind : MatchOption (get (codes "kind") d) (q.holder ≡ Plain) (IsText (IsKindText q.holder))
  pub group : get (codes "group") d ≡ Some (whole_data q.head_group)
  pub groups : MatchOption (get (codes "groups") d) (q.groups ≡ []) (AreGroups q.groups)
  pub owner : IsSomeAnd (get (codes "owner") d) (IsText (IsUserText q.owner))
  pub who : IsSomeAnd (get (codes "who") d) (IsText (IsPrincipalText q.who))
  pub mask : get (codes "mask") d ≡ Some (whole_data (mask_bits q.mask))
  pub has_mask : IsTrue (is_mask (mask_bits q.mask))
  pub policy : MatchOption (get (codes "policy") d) (q.policy ≡ One) (IsPolicyNumber q.policy)

-- the bytes of a line that asks this
abbrev pub IsJudgeLine : Question → List ℕ → Type 0
IsJudgeLine q bytes = (d : Data) × IsJson d bytes × IsQuestion q d

-- ---- read: the values of what has its shape, in this order, or the first refusal

-- the object may carry the list
abbrev pub carried : Holder → List Ace → Result (List Ace) Refusal
carried holder list = if fits holder list then Ok list else Err BadFlags

abbrev pub carried_list_of : Holder → List SpelledEntry → Result (List Ace) Refusal
carried_list_of holder entries = entries_read entries >>= carried holder

unfoldable pub listing_of : SpelledGroup → Result Listing Refusal
listing_of g = members_read g.members >>= λ members. Ok (record { number = g.number; members = members })

unfoldable pub question_of : SpelledJudge → Result Question Refusal
question_of s = do
  list ← carried_list_of s.holder s.entries
  groups ← each_of listing_of s.groups
  owner ← ok_or (user_of s.owner) BadWho
  who ← ok_or (principal_of s.who) BadWho
  mask ← mask_of s.mask
  Ok (record {
    list = list;
    holder = s.holder;
    head_group = s.head_group;
    groups = groups;
    owner = owner;
    who = who;
    mask = mask;
    policy = s.policy;
  })

-- What the bytes of a line ask, or the first test that they fail. That it is what they spell is a law.
unfoldable pub judge_of : List ℕ → Result Question Refusal
judge_of bytes = data_of bytes >>= judge_shape_of >>= question_of
