-- The texts that answer judge lines. For `write_answers`, and for the turns of `judge`.
use Rattle.std.proofs.Common.{◌≡◌, ◌≢◌, ◌⊎◌, ℕ, ◌+◌, ◌<◌, List, [], ◌∷◌, ◌++◌, length, take, drop, map, get_or, Bool, true, false, Option, Result, Ok, Err, OnErr, IfErr, MatchBool, inr, refl, sym, ap, ◌∙◌, subst, arith, append_assoc, append-nil, take-append-drop, length-drop}
use Rattle.std.proofs.lemmas.List.{take_more, map-append, length-map}
use Rattle.std.specs.Io.KnownBytes.{Appends}
use Rattle.std.proofs.KnownBytes.{Appends-trans, Appends-nil}
use Rattle.album_stamps.specs.declared.refusals.Refusal.TheVariants.{OutOfMemory}
use Rattle.album_lines.specs.Lines.{Line, is_blank}
use Rattle.album_lines.specs.Output.{refusal_line}
use Rattle.album_judge.specs.declared.fault.Fault.{Fault}
use Rattle.album_judge.specs.declared.fault.Fault.TheVariants.{Writing, Memory}
use Rattle.album_judge.specs.Judge.{Answers, IsAnswer, IsReply, read_of}
use Rattle.album_judge.specs.Writes.{Gains, Writes, IsPrefixOf, IsCutShort, IsLeftBy}
use Rattle.album_judge.proofs.Answering.{Answering, GoesOn, goes_on}

-- ---- lists of lines

-- every line has an answer, if only that memory ran out
answer_by : (b : Bool) (line : Line)
    → (text : List ℕ) × MatchBool b (text ≡ []) (IsReply (read_of line) text ⊎ (text ≡ refusal_line OutOfMemory))
answer_by true line = ([], refl)
answer_by false line = (refusal_line OutOfMemory, inr refl)

answers_exist : (lines : List Line) → (text : List ℕ) × Answers lines text
answers_exist [] = ([], refl)
answers_exist (line ∷ lines) =
    let first = answer_by (is_blank line) line in
    let rest = answers_exist lines in
    (first.0 ++ rest.0, (first.0, rest.0, first.1, rest.1, refl))

pub answers_append : (xs ys : List Line) (a b : List ℕ) → Answers xs a → Answers ys b → Answers (xs ++ ys) (a ++ b)
answers_append [] ys a b none h = subst (Answers ys) (ap (λ t. t ++ b) (sym none)) h
answers_append (x ∷ xs) ys a b g h =
    (g.0, g.1 ++ b, g.2, answers_append xs ys g.1 b g.3 h, ap (λ t. t ++ b) g.4 ∙ append_assoc g.0 g.1 b)

pub one_answer : (line : Line) (text : List ℕ) → IsAnswer line text → Answers (line ∷ []) text
one_answer line text h = (text, [], h, refl, sym (append-nil text))

-- answers continue, whatever lines come
pub answers_go_on : GoesOn Answers
answers_go_on lines later text h =
    let more = answers_exist later in
    (more.0, answers_append lines later text more.0 h more.1)

-- ---- what a writer gains

pub writes_none : (a : Option (List ℕ)) → Writes (λ text. text ≡ []) a a
writes_none a = ([], refl, Appends-nil a)

pub writes_weaker : (P Q : List ℕ → Type 0) → ((text : List ℕ) → P text → Q text)
    → (a b : Option (List ℕ)) → Writes P a b → Writes Q a b
writes_weaker P Q so a b h = (h.0, so h.0 h.1, h.2)

-- one text after another
pub writes_both : (P Q R : List ℕ → Type 0) → ((x y : List ℕ) → P x → Q y → R (x ++ y))
    → (a b c : Option (List ℕ)) → Writes P a b → Writes Q b c → Writes R a c
writes_both P Q R both a b c g h = (g.0 ++ h.0, both g.0 h.0 g.1 h.1, Appends-trans a b c g.0 h.0 g.2 h.2)

-- ---- the loop over lines

-- the lines before an index, and that line
pub up_to_next : {X : Type 0} (f : X → Line) (xs : List X) (i : ℕ) (x : X)
    → i < length xs → x ≡ get_or xs i x
    → map f (take (i + 1) xs) ≡ map f (take i xs) ++ f x ∷ []
up_to_next f xs i x h e =
    ap (map f) (take_more xs i x h ∙ ap (λ y. take i xs ++ y ∷ []) (sym e)) ∙ map-append f (take i xs) (x ∷ [])

-- the lines before an index, and the others
pub with_others : {X : Type 0} (f : X → Line) (xs : List X) (i : ℕ) → map f xs ≡ map f (take i xs) ++ map f (drop i xs)
with_others f xs i = ap (map f) (sym (take-append-drop i xs)) ∙ map-append f (take i xs) (drop i xs)

-- the next line is answered too
pub next_added : {X : Type 0} (f : X → Line) (xs : List X) (i : ℕ) (x : X) (old new : List ℕ)
    → i < length xs → x ≡ get_or xs i x
    → Answers (map f (take i xs)) old
    → Gains (IsAnswer (f x)) old new
    → Answers (map f (take (i + 1) xs)) new
next_added f xs i x old new h e g added =
    let all = answers_append _ _ old added.0 g (one_answer (f x) added.0 added.1) in
    let lines : map f (take i xs) ++ f x ∷ [] ≡ map f (take (i + 1) xs) = sym (up_to_next f xs i x h e) in
    subst (λ ls. Answers ls new) lines (subst (Answers (map f (take i xs) ++ f x ∷ [])) (sym added.2) all)

-- there is no memory for the next answer
pub no_memory_at : {X : Type 0} (f : X → Line) (xs : List X) (i : ℕ) (text : List ℕ)
    → i < length xs
    → Answers (map f (take i xs)) text
    → IsLeftBy Memory Answers (map f xs) text
no_memory_at f xs i text h g =
    let later : map f (drop i xs) ≢ [] =
    λ none. absurd (omega (arith, ap length none, length-map (drop i xs) f, length-drop i xs, h)) in
    (map f (take i xs), map f (drop i xs), later, with_others f xs i, g)

-- ---- the text of answers, written

-- a text with this property is written
pub writes_this : (P : List ℕ → Type 0) (text written : List ℕ) (a b c : Option (List ℕ))
    → b ≡ a → written ≡ text → P text → Appends b c written → Writes P a c
writes_this P text written a b c from is h w =
    (text, h, subst (λ t. Appends a c t) is (subst (λ o. Appends o c written) from w))

-- it is not written whole: a prefix of answers, cut short
pub not_all_written : (A : Answering) (lines : List Line) (text written : List ℕ) (a b c : Option (List ℕ))
    → b ≡ a → written ≡ text
    → IsPrefixOf (A lines) text
    → Writes (IsCutShort (λ whole. whole ≡ written)) b c
    → Writes (IsLeftBy Writing A lines) a c
not_all_written A lines text written a b c from is begin w =
    let p = subst (λ o. Writes (IsCutShort (λ whole. whole ≡ written)) o c) from w in
    let whole : text ++ begin.0 ≡ p.0 ++ (p.1.0 ++ begin.0) =
    ap (λ t. t ++ begin.0) (sym (p.1.2 ∙ is)) ∙ append_assoc p.0 p.1.0 begin.0 in
    (p.0, (p.1.0 ++ begin.0, goes_on p.1.0 begin.0 p.1.1, subst (A lines) whole begin.1), p.2)

pub all_are_prefix : (A : Answering) (lines : List Line) (text : List ℕ) → A lines text → IsPrefixOf (A lines) text
all_are_prefix A lines text all = ([], subst (A lines) (sym (append-nil text)) all)

-- a fault of writing leaves them so
pub left_by_writing : (A : Answering) (r : Result Unit Fault) (lines : List Line) (a c : Option (List ℕ))
    → OnErr r (Writes (IsLeftBy Writing A lines) a c)
    → IfErr r (λ fault. fault ≡ Writing)
    → IfErr r (λ fault. Writes (IsLeftBy fault A lines) a c)
left_by_writing A (Ok u) lines a c left is = is
left_by_writing A (Err fault) lines a c left is = subst (λ f. Writes (IsLeftBy f A lines) a c) (sym is) left
