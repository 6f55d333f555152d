-- An engine's loop: what was read so far, and what was written for it. For `judge` and `converse`; `IsSoFar` is its
-- invariant, and the lemmas below it are the ways out of a turn. Which texts answer lines each engine says: `A` those so
-- far, `N` the next ones, and `B` or `All` both.
use Rattle.std.proofs.Common.{◌≡◌, ◌≢◌, ◌≤◌, ◌<◌, ◌+◌, ◌*◌, ℕ, List, [], ◌++◌, length, Option, Some, IfSome, refl, sym, ap, ◌∙◌, subst, append-nil, length-append, arith}
use Rattle.std.specs.Io.KnownBytes.{Consumes, IsAtEnd, Keeps}
use Rattle.std.proofs.KnownBytes.{Consumes-trans, Consumes-nil, Appends-nil}
use Rattle.album_lines.specs.Lines.{Line, cut, last, ended, begun, lines_of}
use Rattle.album_judge.specs.declared.engine.TheConstants.{PIECE}
use Rattle.album_judge.specs.declared.fault.Fault.{Fault}
use Rattle.album_judge.specs.declared.fault.Fault.TheVariants.{Reading, Writing, Memory}
use Rattle.album_judge.specs.Writes.{HasRead, Writes, Exchanges, IsPrefixOf, IsLeftBy, IsEndedBy}
use Rattle.album_judge.proofs.Pieces.{lines_split, both_cut, both_lines, some_lines}
use Rattle.album_judge.proofs.Answering.{Answering, Are, Joins, GoesOn, left_is_prefix, left_after, prefix_before, prefix_after}
use Rattle.album_judge.proofs.Texts.{writes_none}
use Rattle.album_judge.proofs.Exchanging.{exchanges_weaker, exchanges_kept, exchanges_more, exchanges_last, by_input, by_whole_input}

-- so many turns have read these bytes, and the text answers the lines that end in them
pub record IsSoFar (A : Answering) (turns : ℕ) (unfinished : Line) (given text : List ℕ) : Type 0 where
  pub line : unfinished ≡ begun given
  pub few : length given ≤ turns * PIECE
  pub answers : A (ended given) text

-- the engine so far, with what it reads and what it writes
abbrev pub HasAnswered :
    Answering → ℕ → Line → Option (List ℕ) → Option (List ℕ) → Option (List ℕ) → Option (List ℕ) → Type 0
HasAnswered A turns unfinished a b c d = Exchanges (IsSoFar A turns unfinished) a b c d

-- at the start nothing is read or written
pub begins : (A : Answering) → A [] [] → (a c : Option (List ℕ)) → HasAnswered A 0 (Some []) a a c c
begins A start a c = ([], Consumes-nil a, ([], record { line = refl; few = omega arith; answers = start }, Appends-nil c))

pub has_read : (A : Answering) (turns k : ℕ) (line : Line) (a b c d : Option (List ℕ))
    → HasAnswered A turns line a b c d
    → turns ≤ k
    → HasRead k a b
has_read A turns k line a b c d h within = (h.0, h.1, omega (arith, h.2.1.few, within))

pub has_read_more : (A : Answering) (turns k : ℕ) (line : Line) (piece : List ℕ) (a b e c d : Option (List ℕ))
    → HasAnswered A turns line a b c d → Consumes b e piece → length piece ≤ PIECE → turns < k → HasRead k a e
has_read_more A turns k line piece a b e c d h more short within =
    let fits : length (h.0 ++ piece) ≤ k * PIECE = omega (arith, length-append h.0 piece, h.2.1.few, short, within) in
    (h.0 ++ piece, Consumes-trans a b e h.0 piece h.1 more, fits)

-- ---- the lines of what was read

-- a prefix of the answers to lines that have ended is one of all the answers
prefix_of_all : (All : Answering) → GoesOn All → (given later text : List ℕ)
    → IsPrefixOf (All (ended given)) text
    → IsPrefixOf (All (lines_of (given ++ later))) text
prefix_of_all All on given later text h =
    let more = (cut (begun given) later).0 ++ last (cut (begun given) later).1 in
    subst (λ ls. IsPrefixOf (All ls) text) (sym (lines_split given later)) (prefix_before All on (ended given) more text h)

-- what is left of the answers to the lines of what was read
ended_by : (All : Answering) (fault : Fault) (given text : List ℕ)
    → IsLeftBy fault All (lines_of given) text
    → IsEndedBy fault All given text
ended_by All Reading given text h = absurd h
ended_by All Writing given text h = h
ended_by All Memory given text h = h

-- ---- the ways out of a turn

-- reading ends early
pub reading_ends : (A All : Answering) → Are A All → (turns : ℕ) (line : Line) (a b c d : Option (List ℕ))
    → HasAnswered A turns line a b c d → Exchanges (IsEndedBy Reading All) a b c d
reading_ends A All are turns line a b c d h =
    exchanges_weaker _ _ (λ given text is. are (ended given) text is.answers) a b c d h

pub reading_fails : (A All : Answering) → Are A All → (turns : ℕ) (line : Line) (a b e c d : Option (List ℕ))
    → HasAnswered A turns line a b c d → Keeps b e → Exchanges (IsEndedBy Reading All) a e c d
reading_fails A All are turns line a b e c d h k =
    exchanges_kept _ a b e c d (reading_ends A All are turns line a b c d h) k

pub prefix_so_far : (A All : Answering) → Are A All → GoesOn All
    → (turns : ℕ) (line : Line) (a b c d : Option (List ℕ))
    → HasAnswered A turns line a b c d → IfSome a (λ input. Writes (IsPrefixOf (All (lines_of input))) c d)
prefix_so_far A All are on turns line a b c d h =
    by_input _ (λ input. IsPrefixOf (All (lines_of input)))
    (λ given later text is. prefix_of_all All on given later text
    ([], subst (All (ended given)) (sym (append-nil text)) (are (ended given) text is.answers)))
    a b c d h

-- a piece more is read, which ends these lines and begins the next
module _ (A N : Answering) (turns : ℕ) (line : Line) (piece : List ℕ) (ends : List Line) (next : Line)
    (cuts : cut line piece ≡ (ends, next)) where
  two_pieces : (given text : List ℕ)
      → IsSoFar A turns line given text
      → cut (Some []) (given ++ piece) ≡ (ended given ++ ends, next)
  two_pieces given text is = both_cut line piece ends next cuts given is.line

  lines_now : (given text : List ℕ)
      → IsSoFar A turns line given text
      → lines_of (given ++ piece) ≡ ended given ++ (ends ++ last next)
  lines_now given text is = both_lines line piece ends next cuts given is.line

  -- the lines are answered
  answered : (B : Answering) → Joins A N B → length piece ≤ PIECE
      → (given x y : List ℕ) → IsSoFar A turns line given x → N ends y
      → IsSoFar B (turns + 1) next (given ++ piece) (x ++ y)
  answered B joins short given x y is h =
      let both = two_pieces given x is in
      let all : B (ended given ++ ends) (x ++ y) = joins (ended given) ends x y is.answers h in
      record {
        line = sym (ap (λ c. c.1) both);
        few = omega (arith, length-append given piece, is.few, short);
        answers = subst (λ ls. B ls (x ++ y)) (sym (ap (λ c. c.0) both)) all;
      }

  pub turn_done : (B : Answering) → Joins A N B → (a b e c d f : Option (List ℕ)) → length piece ≤ PIECE
      → HasAnswered A turns line a b c d → Consumes b e piece → Writes (N ends) d f
      → HasAnswered B (turns + 1) next a e c f
  turn_done B joins a b e c d f short h more w =
      exchanges_more _ _ _ piece (answered B joins short) a b e c d f h more w

  -- an answer is not
  pub turn_left : (All : Answering) → Joins A N All → GoesOn All → (fault : Fault) (a b e c d f : Option (List ℕ))
      → HasAnswered A turns line a b c d → Consumes b e piece → Writes (IsLeftBy fault N ends) d f
      → Exchanges (IsEndedBy fault All) a e c f
  turn_left All joins on fault a b e c d f h more w = exchanges_more _ _ _ piece left a b e c d f h more w
    where
      left : (given x y : List ℕ) → IsSoFar A turns line given x → IsLeftBy fault N ends y
          → IsEndedBy fault All (given ++ piece) (x ++ y)
      left given x y is l =
          let all = left_after A N All joins on fault (ended given) ends (last next) x y is.answers l in
          ended_by All fault (given ++ piece) (x ++ y)
          (subst (λ ls. IsLeftBy fault All ls (x ++ y)) (sym (lines_now given x is)) all)

  -- they could not be cut
  pub turn_uncut : (All : Answering) → Are A All → (a b e c d : Option (List ℕ)) → piece ≢ []
      → HasAnswered A turns line a b c d → Consumes b e piece
      → Exchanges (IsEndedBy Memory All) a e c d
  turn_uncut All are a b e c d some h more = exchanges_more _ _ _ piece uncut a b e c d d h more (writes_none d)
    where
      uncut : (given x y : List ℕ) → IsSoFar A turns line given x → y ≡ []
          → IsEndedBy Memory All (given ++ piece) (x ++ y)
      uncut given x y is none =
          let later : ends ++ last next ≢ [] = some_lines line piece ends next cuts some in
          let text : x ≡ x ++ y = sym (append-nil x) ∙ ap (λ t. x ++ t) (sym none) in
          let done = subst (All (ended given)) text (are (ended given) x is.answers) in
          (ended given, ends ++ last next, later, lines_now given x is, done)

  pub prefix_of_turn : (All : Answering) → Joins A N All → GoesOn N → GoesOn All
      → (fault : Fault) (a b e c d f : Option (List ℕ))
      → HasAnswered A turns line a b c d → Consumes b e piece → Writes (IsLeftBy fault N ends) d f
      → IfSome a (λ input. Writes (IsPrefixOf (All (lines_of input))) c f)
  prefix_of_turn All joins on_next on fault a b e c d f h more w =
      let S : List ℕ → List ℕ → Type 0 =
      λ given text. (later : List ℕ) → IsPrefixOf (All (lines_of (given ++ later))) text in
      let all : Exchanges S a e c f =
      exchanges_more _ _ S piece (λ given x y is l later. front given later x y is (left_is_prefix N on_next fault ends y l))
      a b e c d f h more w in
      by_input S (λ input. IsPrefixOf (All (lines_of input))) (λ given later text is. is later) a e c f all
    where
      front : (given later x y : List ℕ) → IsSoFar A turns line given x → IsPrefixOf (N ends) y
          → IsPrefixOf (All (lines_of ((given ++ piece) ++ later))) (x ++ y)
      front given later x y is l =
          let now : ended (given ++ piece) ≡ ended given ++ ends = ap (λ c. c.0) (two_pieces given x is) in
          let all = prefix_after A N All joins (ended given) ends x y is.answers l in
          prefix_of_all All on (given ++ piece) later (x ++ y) (subst (λ ls. IsPrefixOf (All ls) (x ++ y)) (sym now) all)

-- the reader is at its end, and the last line is answered, or not
module _ (A N : Answering) (turns : ℕ) (line : Line) (none : List ℕ) (nothing : none ≡ [])
    (a b e c d f : Option (List ℕ)) (h : HasAnswered A turns line a b c d) (more : Consumes b e none) where
  pub last_done : (B : Answering) → Joins A N B → IsAtEnd e
      → Writes (N (last line)) d f
      → IfSome a (λ input. Writes (B (lines_of input)) c f)
  last_done B joins end w =
      let S : List ℕ → List ℕ → Type 0 = λ given. B (lines_of given) in
      let all : Exchanges S a e c f =
      exchanges_last _ _ S none nothing
      (λ given x y is l. joins (ended given) (last (begun given)) x y is.answers (subst (λ u. N (last u) y) is.line l))
      a b e c d f h more w in
      by_whole_input S a e c f end all

  pub last_left : (All : Answering) → Joins A N All → GoesOn All → (fault : Fault)
      → Writes (IsLeftBy fault N (last line)) d f
      → Exchanges (IsEndedBy fault All) a e c f
  last_left All joins on fault w =
      exchanges_last _ _ _ none nothing
      (λ given x y is l. ended_by All fault given (x ++ y) (all_left given x y is l))
      a b e c d f h more w
    where
      all_left : (given x y : List ℕ) → IsSoFar A turns line given x → IsLeftBy fault N (last line) y
          → IsLeftBy fault All (lines_of given) (x ++ y)
      all_left given x y is l =
          let here = left_after A N All joins on fault (ended given) (last (begun given)) [] x y is.answers
          (subst (λ u. IsLeftBy fault N (last u) y) is.line l) in
          subst (λ ls. IsLeftBy fault All (ended given ++ ls) (x ++ y)) (append-nil (last (begun given))) here

  pub prefix_of_last : (All : Answering) → Joins A N All → GoesOn N → (fault : Fault) → IsAtEnd e
      → Writes (IsLeftBy fault N (last line)) d f
      → IfSome a (λ input. Writes (IsPrefixOf (All (lines_of input))) c f)
  prefix_of_last All joins on_next fault end w =
      let S : List ℕ → List ℕ → Type 0 = λ given. IsPrefixOf (All (lines_of given)) in
      let all : Exchanges S a e c f =
      exchanges_last _ _ S none nothing (λ given x y is l. front given x y is l) a b e c d f h more w in
      by_whole_input S a e c f end all
    where
      front : (given x y : List ℕ) → IsSoFar A turns line given x → IsLeftBy fault N (last line) y
          → IsPrefixOf (All (lines_of given)) (x ++ y)
      front given x y is l =
          prefix_after A N All joins (ended given) (last (begun given)) x y is.answers
          (subst (λ u. IsPrefixOf (N (last u)) y) is.line (left_is_prefix N on_next fault (last line) y l))
