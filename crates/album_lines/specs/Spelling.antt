-- How values are spelled in JSON: texts, whole numbers, lists, entries and members, wherever a line has one.
use Rattle.std.specs.Prelude.{◌≡◌, ◌≤◌, ℕ, List, [], ◌∷◌, length, codes, IsTrue, Contains, Some}
use Rattle.std.specs.List.{list_all, AllZip}
use Rattle.std.specs.Str.{IsUtf8}
use Rattle.serde_json.specs.Data.{Data, number, unsigned, string, array, object, Members}
use Rattle.serde_json.specs.Find.{get}
use Rattle.serde_json.specs.Read.{read}
use Rattle.serde_json.specs.View.{items_of}
use Rattle.album_stamps.specs.declared.limits.TheConstants.{MAX_ENTRIES, MAX_MEMBERS}
use Rattle.album_access.specs.Bits.{mask_bits, flag_bits, is_mask, is_within, all_flag_bits}
use Rattle.album_access.specs.declared.types.AceType.{AceType}
use Rattle.album_access.specs.declared.types.AceType.TheVariants.{Allowed, Denied, Audit, Alarm}
use Rattle.album_lists.specs.Whos.{IsMemberText, IsWhoText}
use Rattle.album_lists.specs.Entries.{is_of_use, fits}
use Rattle.album_lists.specs.declared.lists.Ace.{Ace}
use Rattle.album_lists.specs.declared.lists.Holder.{Holder}
use Rattle.album_lists.specs.declared.whos.Member.{Member}

-- ---- JSON

-- the bytes are UTF-8, and one JSON text, nested at most 127 deep, of this value
pub record IsJson (d : Data) (bytes : List ℕ) : Type 0 where
  pub utf8 : IsUtf8 bytes
  pub value : read bytes ≡ Some d

-- a whole number
abbrev pub whole_data : ℕ → Data
whole_data n = number (unsigned n)

-- [..]
abbrev pub list_data : List Data → Data
list_data ds = array (items_of ds)

-- an object with no member of another name than these
pub record HasOnly (names : List (List ℕ)) (d : Data) : Type 0 where
  pub members : Members
  pub is_object : d ≡ object members
  pub known : (name : List ℕ) (value : Data) → get name d ≡ Some value → Contains names name

-- a text with this property
abbrev pub IsText : (List ℕ → Type 0) → Data → Type 0
IsText P d = (text : List ℕ) × (d ≡ string text) × P text

-- a list whose items spell these values, one each, in their order
abbrev pub IsList : {A : Type 0} → (A → Data → Type 0) → List A → Data → Type 0
IsList Is xs d = (ds : List Data) × (d ≡ list_data ds) × AllZip Is xs ds

-- ---- entries

-- the word of an entry's type
abbrev pub type_word : AceType → List ℕ
type_word Allowed = codes "allow"
type_word Denied = codes "deny"
type_word Audit = codes "audit"
type_word Alarm = codes "alarm"

-- [type, who, mask, flags]
abbrev pub entry_data : Ace → List ℕ → Data
entry_data entry who = list_data (
    string (type_word entry.sort)
    ∷ string who
    ∷ whole_data (mask_bits entry.mask)
    ∷ whole_data (flag_bits entry.flags)
    ∷ [])

-- the mask and the flags have the bits of their tables, and the who is one that goes with the flags
pub record IsEntry (entry : Ace) (d : Data) : Type 0 where
  pub who_text : List ℕ
  pub items : d ≡ entry_data entry who_text
  pub mask : IsTrue (is_mask (mask_bits entry.mask))
  pub flags : IsTrue (is_within (flag_bits entry.flags) all_flag_bits)
  pub who : IsWhoText entry.who entry.flags who_text

-- a list of entries that an object of this kind may carry
pub record IsAccessList (holder : Holder) (entries : List Ace) (d : Data) : Type 0 where
  pub each : IsList IsEntry entries d
  pub few : length entries ≤ MAX_ENTRIES
  pub are_of_use : IsTrue (list_all is_of_use entries)
  pub may_be_carried : IsTrue (fits holder entries)

-- ---- members

-- a list of members of a group
pub record AreMembers (members : List Member) (d : Data) : Type 0 where
  pub each : IsList (λ member. IsText (IsMemberText member)) members d
  pub few : length members ≤ MAX_MEMBERS
