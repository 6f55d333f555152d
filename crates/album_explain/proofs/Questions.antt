-- The explanation of a question, for `explain_question`.
use Rattle.std.proofs.Common.{◌≡◌, ◌↔◌, ℕ, List, Bool, IsTrue, subst}
use Rattle.std.specs.BTreeSet as set
use Rattle.std.specs.BTreeSet.{BTreeSet}
use Rattle.std.specs.Ordering.{nat_cmp}
use mathlib.Core.Path.{fun_ext}
use Rattle.album_lists.specs.declared.whos.Member.{Member}
use Rattle.album_eval.specs.Groups.{IsMember}
use Rattle.album_eval.specs.declared.facts.Principal.{Principal}
use Rattle.album_eval.specs.Verdict.{IsVerdict}
use Rattle.album_eval.specs.declared.verdicts.Verdict.{Verdict}
use Rattle.album_lines.specs.JudgeLine.{Question}
use Rattle.album_lines.specs.Output.{line_text}
use Rattle.album_judge.specs.Judge.{listed_by, case_by}
use Rattle.album_explain.specs.Explanations.{explanation_json, bit_rows}
use Rattle.album_explain.specs.Judging.{ExplainsQuestion}

-- who is in the groups of the map is in those of the line
pub in_same : (listed lists : ℕ → List Member) (who : Principal) (is_in : ℕ → Bool)
    → ((n : ℕ) → listed n ≡ lists n)
    → ((group : ℕ) → IsTrue (is_in group) ↔ IsMember listed who group)
    → (group : ℕ) → IsTrue (is_in group) ↔ IsMember lists who group
in_same listed lists who is_in same =
    subst (λ (f : ℕ → List Member). (group : ℕ) → IsTrue (is_in group) ↔ IsMember f who group) (fun_ext same)

-- an explanation on the groups of the line that the principal is in is one of the line
pub explained_on : (number : ℕ) (q : Question) (v : Verdict) (groups : BTreeSet ℕ) (text : List ℕ)
    → ((group : ℕ) → IsTrue (set.contains nat_cmp groups group) ↔ IsMember (listed_by q.groups) q.who group)
    → IsVerdict (case_by q (set.contains nat_cmp groups)) q.list q.mask v
    → text ≡ line_text (explanation_json number v (set.keys groups)
    (bit_rows (case_by q (set.contains nat_cmp groups)) q.list q.holder q.mask))
    → ExplainsQuestion number q text
explained_on number q v groups text tied judged line = record {
  groups = groups;
  exact = tied;
  verdict = v;
  judged = judged;
  line = line;
}
