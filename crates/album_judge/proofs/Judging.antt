-- The groups of a line by their numbers, for `group_map`; and what is judged on them, for `verdict` and `one_judgement`.
use Rattle.std.proofs.Common.{◌≡◌, ◌↔◌, ◌==◌, ◌++◌, ℕ, List, [], ◌∷◌, Bool, true, false, cond, map, Vec, Global, Some, None, IsTrue, refl, sym, ap, ◌∙◌, subst}
use mathlib.Core.Path.{fun_ext}
use Rattle.std.specs.Ordering.{nat_cmp}
use Rattle.std.specs.BTreeMap as tree
use Rattle.std.specs.BTreeMap.{BTreeMap, is_at}
use Rattle.std.proofs.lemmas.Bool.Decides.{same_from_decides}
use Rattle.std.proofs.lemmas.List.{map-append}
use Rattle.album_lists.specs.declared.whos.Member.{Member}
use Rattle.album_eval.specs.Groups.{IsMember, members_found, listed_in}
use Rattle.album_eval.specs.declared.verdicts.Verdict.{Verdict}
use Rattle.album_eval.proofs.Computing.{one_verdict}
use Rattle.album_eval.specs.Verdict.{IsVerdict}
use Rattle.album_lines.specs.JudgeLine.{Listing, Question, listing}
use Rattle.album_lines.specs.declared.judge_line.Group.{Group}
use Rattle.album_lines.proofs.Distinct.{same_key}
use Rattle.album_judge.specs.Judge.{listed_by, case_by, IsJudged}

-- the groups of a list, and where it has none of that number, those that are there already
abbrev pub listed_or : (ℕ → List Member) → List Listing → ℕ → List Member
listed_or there [] number = there number
listed_or there (l ∷ ls) number = cond (number == l.number) l.members (listed_or there ls number)

listed_by_or : (ls : List Listing) (there : ℕ → List Member) (number : ℕ)
    → ((n : ℕ) → there n ≡ [])
    → listed_or there ls number ≡ listed_by ls number
listed_by_or [] there number none = none number
listed_by_or (l ∷ ls) there number none = ap (cond (number == l.number) l.members) (listed_by_or ls there number none)

same_there : (f g : ℕ → List Member)
    → ((n : ℕ) → f n ≡ g n)
    → (ls : List Listing) (number : ℕ)
    → listed_or f ls number ≡ listed_or g ls number
same_there f g same [] number = same number
same_there f g same (l ∷ ls) number = ap (cond (number == l.number) l.members) (same_there f g same ls number)

last_there : (there : ℕ → List Member) (l : Listing) (ls : List Listing) (number : ℕ)
    → listed_or there (ls ++ l ∷ []) number ≡ listed_or (λ n. cond (n == l.number) l.members (there n)) ls number
last_there there l [] number = refl
last_there there l (k ∷ ls) number = ap (cond (number == k.number) k.members) (last_there there l ls number)

-- a group more is in the map
inserted : (old new : BTreeMap ℕ (Vec Member Global)) (k : ℕ) (members : Vec Member Global)
    → ((q : ℕ) → tree.get nat_cmp new q ≡ cond (is_at (nat_cmp k) q) (Some members) (tree.get nat_cmp old q))
    → (q : ℕ) → listed_in new q ≡ cond (q == k) members.items (listed_in old q)
inserted old new k members updates q =
    ap members_found (updates q ∙ ap (λ b. cond b (Some members) (tree.get nat_cmp old q)) (same_key k q)) ∙ go (q == k)
  where
    go : (b : Bool)
        → members_found (cond b (Some members) (tree.get nat_cmp old q)) ≡ cond b members.items (listed_in old q)
    go true = refl
    go false = refl

-- ---- the loop that moves groups from the end of a list into a map

pub groups_begin : (empty : BTreeMap ℕ (Vec Member Global)) (ls : List Listing)
    → empty.entries ≡ []
    → (number : ℕ)
    → listed_or (listed_in empty) ls number ≡ listed_by ls number
groups_begin empty ls none number =
    listed_by_or ls (listed_in empty) number (λ n. let e : tree.get nat_cmp empty n ≡ None = rw none refl in ap members_found e)

pub groups_step : (old new : BTreeMap ℕ (Vec Member Global)) (before after : List Group) (g : Group) (ls : List Listing)
    → before ≡ after ++ g ∷ []
    → ((q : ℕ) → tree.get nat_cmp new q ≡ cond (is_at (nat_cmp g.number) q) (Some g.members) (tree.get nat_cmp old q))
    → ((number : ℕ) → listed_or (listed_in old) (map listing before) number ≡ listed_by ls number)
    → (number : ℕ) → listed_or (listed_in new) (map listing after) number ≡ listed_by ls number
groups_step old new before after g ls is updates so number =
    same_there (listed_in new) (λ n. cond (n == g.number) g.members.items (listed_in old n)) (inserted old new g.number g.members updates) (map listing after) number
    ∙ sym (last_there (listed_in old) (listing g) (map listing after) number)
    ∙ ap (λ xs. listed_or (listed_in old) xs number) (sym (map-append listing after (g ∷ [])) ∙ ap (map listing) (sym is))
    ∙ so number

-- ---- one verdict

pub one_judgement : (q : Question) (v w : Verdict) → IsJudged q v → IsJudged q w → v ≡ w
one_judgement q v w a b =
    let same : a.is_in ≡ b.is_in =
    fun_ext (λ group. same_from_decides (a.is_in group) (b.is_in group) (a.groups group) (b.groups group)) in
    one_verdict (case_by q a.is_in) q.list q.mask v w a.verdict (subst (λ (f : ℕ → Bool). IsVerdict (case_by q f) q.list q.mask w) (sym same) b.verdict)

-- a verdict on the groups of the map is one on those of the line
pub judged_on : (q : Question) (v : Verdict) (listed : ℕ → List Member) (is_in : ℕ → Bool)
    → ((number : ℕ) → listed number ≡ listed_by q.groups number)
    → ((group : ℕ) → IsTrue (is_in group) ↔ IsMember listed q.who group)
    → IsVerdict (case_by q is_in) q.list q.mask v
    → IsJudged q v
judged_on q v listed is_in same tied verdict = record {
  is_in = is_in;
  groups = subst (λ (f : ℕ → List Member). (group : ℕ) → IsTrue (is_in group) ↔ IsMember f q.who group) (fun_ext same) tied;
  verdict = verdict;
}
