-- The answer to a judge line.
use Rattle.std.specs.Prelude.{◌≡◌, ◌≢◌, ◌↔◌, ◌⊎◌, ◌==◌, ℕ, List, [], ◌∷◌, ◌++◌, Bool, if◌then◌else◌, IsTrue, IsOkAnd, Some, None, Result, Ok, Err, MatchBool}
use Rattle.album_stamps.specs.declared.refusals.Refusal.{Refusal}
use Rattle.album_stamps.specs.declared.refusals.Refusal.TheVariants.{OutOfMemory, BadLine}
use Rattle.album_lists.specs.declared.whos.Member.{Member}
use Rattle.album_eval.specs.Groups.{IsMember}
use Rattle.album_eval.specs.Matching.{Case}
use Rattle.album_eval.specs.Verdict.{IsVerdict}
use Rattle.album_eval.specs.declared.verdicts.Verdict.{Verdict}
use Rattle.album_lines.specs.Lines.{Line, is_blank}
use Rattle.album_lines.specs.JudgeLine.{Listing, Question, judge_of}
use Rattle.album_lines.specs.Output.{verdict_line, refusal_line}

-- what the groups of a line list: nobody in a group that isn't there
abbrev pub listed_by : List Listing → ℕ → List Member
listed_by [] number = []
listed_by (l ∷ ls) number = if number == l.number then l.members else listed_by ls number

-- what a question is judged on, where `is_in` has the groups that its principal is in
abbrev pub case_by : Question → (ℕ → Bool) → Case
case_by q is_in =
    record { policy = q.policy; principal = q.who; owner = q.owner; head_group = q.head_group; is_in = is_in }

-- the verdict of the question's list, judged with exactly the groups that its principal is in
pub record IsJudged (q : Question) (v : Verdict) : Type 0 where
  pub is_in : ℕ → Bool
  pub groups : (group : ℕ) → IsTrue (is_in group) ↔ IsMember (listed_by q.groups) q.who group
  pub verdict : IsVerdict (case_by q is_in) q.list q.mask v

-- what a line spells: nothing that is too long is read
abbrev pub read_of : Line → Result Question Refusal
read_of None = Err BadLine
read_of (Some bytes) = judge_of bytes

-- the line of the verdict, or of the refusal
abbrev pub IsReply : Result Question Refusal → List ℕ → Type 0
IsReply (Ok q) text = (v : Verdict) × IsJudged q v × (text ≡ verdict_line v)
IsReply (Err refusal) text = text ≡ refusal_line refusal

-- Nothing for a blank line; for another its reply, or that memory ran out on it.
abbrev pub IsAnswer : Line → List ℕ → Type 0
IsAnswer line text =
    MatchBool (is_blank line) (text ≡ []) (IsReply (read_of line) text ⊎ (text ≡ refusal_line OutOfMemory))

-- the answers to these lines, in their order, and nothing else
abbrev pub Answers : List Line → List ℕ → Type 0
Answers [] text = text ≡ []
Answers (line ∷ lines) text =
    (first : List ℕ) × (others : List ℕ) × IsAnswer line first × Answers lines others × (text ≡ first ++ others)

-- what a call made of the line, unless memory ran out
abbrev pub Judges : Result Question Refusal → Result Verdict Refusal → Type 0
Judges read (Ok v) = IsOkAnd read (λ q. IsJudged q v)
Judges read (Err e) = e ≢ OutOfMemory → read ≡ Err e
