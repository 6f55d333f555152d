-- The lines that explain a store's lines.
use Rattle.std.specs.Prelude.{◌≡◌, ◌⊎◌, ℕ, List, codes, Bool, true, false, not, if◌then◌else◌, None, Result, Ok, Err, refl}
use Rattle.std.proofs.Common.{inr}
use Rattle.serde_json.specs.Data.{Data, string, object, Members, no_members, member}
use Rattle.album_stamps.specs.declared.refusals.Refusal.{Refusal}
use Rattle.album_stamps.specs.declared.refusals.Refusal.TheVariants.{OutOfMemory}
use Rattle.album_lines.specs.Output.{line_text}
use Rattle.album_lines.specs.Spelling.{whole_data}
use Rattle.album_explain.specs.Explanations.{refused_json}
use Rattle.album_explain.specs.Judging.{IsRefused}
use Rattle.album_explain_store.specs.declared.explanations.Lines.{Lines}
use Rattle.album_explain_store.specs.declared.explanations.Lines.TheVariants as lines
use Rattle.album_explain_store.specs.declared.explanations.Kind.{Kind}
use Rattle.album_explain_store.specs.declared.explanations.Kind.TheVariants as kind
use Rattle.album_explain_store.specs.declared.explanations.Taken.{Taken}

-- the name in a line that says what it is
abbrev pub kind_word : Kind → List ℕ
kind_word (kind.Open checked) = codes "open"
kind_word kind.Item = codes "item"
kind_word kind.Begin = codes "begin"
kind_word kind.Ask = codes "ask"
kind_word kind.Deliver = codes "deliver"
kind_word kind.Sweep = codes "sweep"
kind_word kind.Stop = codes "stop"
kind_word kind.Restart = codes "restart"
kind_word kind.Trim = codes "trim"
kind_word kind.Who = codes "who"
kind_word kind.Pending = codes "pending"
kind_word kind.Dump = codes "dump"

-- as what a line is read
abbrev pub lines_word : Lines → List ℕ
lines_word lines.Opening = codes "opening"
lines_word lines.Events = codes "event"
lines_word lines.Talk = codes "talk"

-- whether the line is the header of a store that isn't checked
abbrev pub is_unchecked : Kind → Bool
is_unchecked (kind.Open checked) = not checked
is_unchecked kind.Item = false
is_unchecked kind.Begin = false
is_unchecked kind.Ask = false
is_unchecked kind.Deliver = false
is_unchecked kind.Sweep = false
is_unchecked kind.Stop = false
is_unchecked kind.Restart = false
is_unchecked kind.Trim = false
is_unchecked kind.Who = false
is_unchecked kind.Pending = false
is_unchecked kind.Dump = false

-- what it means that a store isn't checked
abbrev pub unchecked_remark : List ℕ
unchecked_remark = codes "of writes of one item that race, all but one may be lost; checked true prevents it"

-- what is said of a line besides what it is
abbrev pub remarks_on : Kind → Members
remarks_on kind =
    if is_unchecked kind then member (codes "remark") (string unchecked_remark) no_members else no_members

-- a line of this number is taken, as this
abbrev pub taken_json : ℕ → Taken → Data
taken_json number taken = object (
    member (codes "kind") (string (kind_word taken.kind)) (
    member (codes "line") (whole_data number) (
    member (codes "reads") (string (lines_word taken.lines)) (remarks_on taken.kind))))

-- the line for what was read, and whether that is a refusal, whose place is left open
abbrev pub IsReply : ℕ → Result Taken Refusal → Bool → List ℕ → Type 0
IsReply number (Ok taken) is_refused text =
    (is_refused ≡ false) × (text ≡ line_text (taken_json number taken))
IsReply number (Err refusal) is_refused text = (is_refused ≡ true) × IsRefused number refusal text

-- the same, or that memory ran out on it
abbrev pub IsReplyIfRoom : ℕ → Result Taken Refusal → Bool → List ℕ → Type 0
IsReplyIfRoom number reading is_refused text =
    IsReply number reading is_refused text ⊎ IsReply number (Err OutOfMemory) is_refused text

-- the outcome of a line: what it is, or its refusal; and its explainer's state then
pub record Step (S : Type 0) : Type 0 where
  pub reading : Result Taken Refusal
  pub next : S

-- A line's explanation is its outcome; or that memory ran out on it, which changes nothing.
abbrev pub ExplainsBy : {S : Type 0} → Step S → S → ℕ → Bool → List ℕ → S → Type 0
ExplainsBy step old number is_refused text new =
    (IsReply number step.reading is_refused text × (new ≡ step.next))
    ⊎ (IsReply number (Err OutOfMemory) is_refused text × (new ≡ old))

-- that memory ran out is an explanation of every line
pub out_of_memory_explanation : {S : Type 0} (step : Step S) (old : S) (number : ℕ)
    → (is_refused : Bool) × (text : List ℕ) × (new : S) × ExplainsBy step old number is_refused text new
out_of_memory_explanation step old number =
    (true, line_text (refused_json number OutOfMemory None), old, inr ((refl, (None, refl)), refl))
