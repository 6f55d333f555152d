-- The explanations of judge lines.
use Rattle.std.specs.Prelude.{◌≡◌, ◌↔◌, ◌⊎◌, ℕ, List, Bool, true, false, Option, None, IsTrue, Result, Ok, Err, refl}
use Rattle.std.specs.BTreeSet as set
use Rattle.std.specs.BTreeSet.{BTreeSet}
use Rattle.std.specs.Ordering.{nat_cmp}
use Rattle.std.proofs.Common.{inr}
use Rattle.album_stamps.specs.declared.refusals.Refusal.{Refusal}
use Rattle.album_stamps.specs.declared.refusals.Refusal.TheVariants.{OutOfMemory}
use Rattle.album_eval.specs.Groups.{IsMember}
use Rattle.album_eval.specs.Verdict.{IsVerdict}
use Rattle.album_eval.specs.declared.verdicts.Verdict.{Verdict}
use Rattle.album_lines.specs.JudgeLine.{Question}
use Rattle.album_lines.specs.Lines.{Line}
use Rattle.album_lines.specs.Output.{line_text}
use Rattle.album_judge.specs.Judge.{listed_by, case_by, read_of}
use Rattle.album_explain.specs.Explanations.{Place, refused_json, explanation_json, bit_rows}

-- the line that explains the verdict on a question, judged with exactly the groups that its principal is in
pub record ExplainsQuestion (number : ℕ) (q : Question) (text : List ℕ) : Type 0 where
  pub groups : BTreeSet ℕ
  pub exact : (group : ℕ) → IsTrue (set.contains nat_cmp groups group) ↔ IsMember (listed_by q.groups) q.who group
  pub verdict : Verdict
  pub judged : IsVerdict (case_by q (set.contains nat_cmp groups)) q.list q.mask verdict
  pub line : text ≡ line_text (explanation_json number verdict (set.keys groups)
      (bit_rows (case_by q (set.contains nat_cmp groups)) q.list q.holder q.mask))

-- the line of a refusal; which place it names is left open
abbrev pub IsRefused : ℕ → Refusal → List ℕ → Type 0
IsRefused number refusal text = (place : Option Place) × (text ≡ line_text (refused_json number refusal place))

-- the line for what was read, and whether that is a refusal
abbrev pub IsReply : ℕ → Result Question Refusal → Bool → List ℕ → Type 0
IsReply number (Ok q) is_refused text = (is_refused ≡ false) × ExplainsQuestion number q text
IsReply number (Err refusal) is_refused text = (is_refused ≡ true) × IsRefused number refusal text

-- the explanation of a judge line: the line for what it says, or that memory ran out on it
abbrev pub ExplainsJudgeLine : ℕ → Line → Bool → List ℕ → Type 0
ExplainsJudgeLine number line is_refused text =
    IsReply number (read_of line) is_refused text ⊎ IsReply number (Err OutOfMemory) is_refused text

-- that memory ran out is an explanation of every line
pub out_of_memory_explanation : (number : ℕ) (line : Line)
    → (is_refused : Bool) × (text : List ℕ) × ExplainsJudgeLine number line is_refused text
out_of_memory_explanation number line =
    (true, line_text (refused_json number OutOfMemory None), inr (refl, (None, refl)))
