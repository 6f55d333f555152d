-- The loop of the engine of replays: what was read so far, and what was written for it. For `replay`; `HasReplayed` is
-- its invariant, and the lemmas below it are the ways out of a turn.
use Rattle.std.proofs.Common.{◌≡◌, ◌≢◌, ◌≤◌, ◌<◌, ◌+◌, ◌*◌, ℕ, List, [], ◌∷◌, ◌++◌, length, true, Option, Some, IfSome, inl, inr, refl, sym, ap, ◌∙◌, subst, append_assoc, append-nil, length-append, arith}
use Rattle.std.specs.Io.KnownBytes.{Consumes, IsAtEnd, Keeps}
use Rattle.std.proofs.KnownBytes.{Consumes-trans, Consumes-nil, Appends-nil}
use Rattle.album_world.specs.Past.{Past}
use Rattle.album_lines.specs.Lines.{Line, cut, last, ended, begun, lines_of}
use Rattle.album_judge.specs.declared.engine.TheConstants.{PIECE}
use Rattle.album_judge.specs.declared.fault.Fault.{Fault}
use Rattle.album_judge.specs.declared.fault.Fault.TheVariants.{Reading, Writing, Memory}
use Rattle.album_replay.specs.declared.engine.stages.Stage.{Stage as Kept}
use Rattle.album_replay.specs.declared.engine.stages.Stage.TheVariants as kept
use Rattle.album_replay.specs.Replay.{Stage, Unopened, Over, Replays, IsReplay, StopsAmid, EndsAmid, IsLeftOf, IsOverBy, end_text, replayed, step_of}
use Rattle.album_replay.specs.Stages.{Ends, IsLeftAmid, IsLeftAtEnd, Replayed, is_over, no_past, stage_of}
use Rattle.album_judge.specs.Writes.{HasRead, Writes, Exchanges, IsPrefixOf}
use Rattle.album_judge.proofs.Exchanging.{exchanges_weaker, exchanges_kept, exchanges_more, exchanges_last, by_input, by_whole_input}
use Rattle.album_judge.proofs.Pieces.{lines_split, both_cut, both_lines, some_lines}
use Rattle.album_replay.proofs.Replaying.{front_of_replay, nothing_printed, replays, replays_append, steps}
use Rattle.album_replay.proofs.Standing.{over}
use Rattle.album_judge.proofs.Answering.{goes_on}
use Rattle.album_judge.proofs.Texts.{writes_none}

-- so many turns have read these bytes, and of the lines that end in them the text is printed, up to this stage
pub record IsReplayed (turns : ℕ) (unfinished : Line) (stage : Stage) (given text : List ℕ) : Type 0 where
  pub line : unfinished ≡ begun given
  pub few : length given ≤ turns * PIECE
  pub taken : Replays Unopened (ended given) stage text

-- the engine so far, whatever has happened to the world that it keeps
abbrev pub IsSoFar : ℕ → Line → Kept → List ℕ → List ℕ → Type 0
IsSoFar turns unfinished stage given text =
    (past : Past) × IsReplayed turns unfinished (stage_of stage past) given text

-- with what it reads and what it writes
abbrev pub HasReplayed :
    ℕ → Line → Kept → Option (List ℕ) → Option (List ℕ) → Option (List ℕ) → Option (List ℕ) → Type 0
HasReplayed turns unfinished stage a b c d = Exchanges (IsSoFar turns unfinished stage) a b c d

-- at the start nothing is read or written
pub begins : (a c : Option (List ℕ)) → HasReplayed 0 (Some []) kept.Unopened a a c c
begins a c = (
  [],
  Consumes-nil a,
  ([], (no_past, record { line = refl; few = omega arith; taken = (refl, refl) }), Appends-nil c),
)

pub has_read : (turns k : ℕ) (line : Line) (stage : Kept) (a b c d : Option (List ℕ))
    → HasReplayed turns line stage a b c d
    → turns ≤ k
    → HasRead k a b
has_read turns k line stage a b c d h within = (h.0, h.1, omega (arith, h.2.1.1.few, within))

pub has_read_more : (turns k : ℕ) (line : Line) (stage : Kept) (piece : List ℕ) (a b e c d : Option (List ℕ))
    → HasReplayed turns line stage a b c d → Consumes b e piece → length piece ≤ PIECE → turns < k → HasRead k a e
has_read_more turns k line stage piece a b e c d h more short within =
    let fits : length (h.0 ++ piece) ≤ k * PIECE =
    omega (arith, length-append h.0 piece, h.2.1.1.few, short, within) in
    (h.0 ++ piece, Consumes-trans a b e h.0 piece h.1 more, fits)

-- ---- what was read and written, where something is known of the past

-- a piece more is read, and something is written for it, whatever has happened
more_of : (X : Type 0) (S : X → List ℕ → List ℕ → Type 0) (Q : X → List ℕ → Type 0) (T : List ℕ → List ℕ → Type 0)
    → (piece : List ℕ)
    → ((x : X) (given s t : List ℕ) → S x given s → Q x t → T (given ++ piece) (s ++ t))
    → (a b e c d f : Option (List ℕ)) → Exchanges (λ given text. (x : X) × S x given text) a b c d
    → Consumes b e piece → ((x : X) → Writes (Q x) d f)
    → Exchanges T a e c f
more_of X S Q T piece both a b e c d f h k w =
    let x = h.2.1.0 in
    exchanges_more (S x) (Q x) T piece (both x) a b e c d f (h.0, h.1, (h.2.0, h.2.1.1, h.2.2)) k (w x)

last_of : (X : Type 0) (S : X → List ℕ → List ℕ → Type 0) (Q : X → List ℕ → Type 0) (T : List ℕ → List ℕ → Type 0)
    → (none : List ℕ) → none ≡ []
    → ((x : X) (given s t : List ℕ) → S x given s → Q x t → T given (s ++ t))
    → (a b e c d f : Option (List ℕ)) → Exchanges (λ given text. (x : X) × S x given text) a b c d
    → Consumes b e none → ((x : X) → Writes (Q x) d f)
    → Exchanges T a e c f
last_of X S Q T none is both a b e c d f h k w =
    let x = h.2.1.0 in
    exchanges_last (S x) (Q x) T none is (both x) a b e c d f (h.0, h.1, (h.2.0, h.2.1.1, h.2.2)) k (w x)

-- ---- the text of more lines

-- lines are taken, and after them others end the text
ends_of : (stage between : Stage) (lines more : List Line) (front text : List ℕ)
    → Replays stage lines between front
    → Ends between more text
    → Ends stage (lines ++ more) (front ++ text)
ends_of stage between lines more front text taken h = record {
  last = h.last;
  front = front ++ h.front;
  taken = replays_append stage between h.last lines more front h.front taken h.taken;
  whole = ap (λ t. front ++ t) h.whole ∙ sym (append_assoc front h.front (end_text h.last));
}

is_replay : (input text : List ℕ) → Ends Unopened (lines_of input) text → IsReplay input text
is_replay input text h = record { last = h.last; front = h.front; lines = h.taken; whole = h.whole }

-- the first of some lines end a text in its midst
stops_of : (stage between : Stage) (lines ends later : List Line) (front text : List ℕ)
    → Replays stage lines between front
    → StopsAmid between ends text
    → StopsAmid stage (lines ++ (ends ++ later)) (front ++ text)
stops_of stage between lines ends later front text taken h = record {
  done = lines ++ h.done;
  line = h.line;
  later = h.later ++ later;
  between = h.between;
  front = front ++ h.front;
  part = h.part;
  split = rw h.split (simp append_assoc);
  taken = replays_append stage between h.between lines h.done front h.front taken h.taken;
  amid = h.amid;
  whole = ap (λ t. front ++ t) h.whole ∙ sym (append_assoc front h.front h.part);
}

-- from any stage, there is a text of the lines up to the end
some_end : (stage : Stage) (lines : List Line) → (text : List ℕ) × Ends stage lines text
some_end stage lines = (
  (replayed stage lines).1 ++ end_text (replayed stage lines).0,
  record {
    last = (replayed stage lines).0;
    front = (replayed stage lines).1;
    taken = replays stage lines;
    whole = refl;
  },
)

head_of : {X : Type 0} (xs : List X) → xs ≢ [] → (x : X) × (rest : List X) × (xs ≡ x ∷ rest)
head_of [] some = absurd (some refl)
head_of (x ∷ xs) some = (x, xs, refl)

-- of lines that are there, the first is not taken
stops_at_first : (stage : Stage) (lines : List Line) → lines ≢ [] → StopsAmid stage lines []
stops_at_first stage lines some =
    let first = head_of lines some in
    let step = step_of stage first.0 in
    record {
      done = [];
      line = first.0;
      later = first.1;
      between = stage;
      front = [];
      part = [];
      split = first.2;
      taken = (refl, refl);
      amid = (step.text, (step.next, steps stage first.0));
      whole = refl;
    }

-- what a fault leaves of lines is a prefix of their text
left_is_front : (fault : Fault) (stage : Stage) (lines : List Line) (text : List ℕ)
    → IsLeftAmid fault stage lines text
    → IsPrefixOf (λ whole. (last : Stage) × Replays stage lines last whole) text
left_is_front Reading stage lines text h = absurd h
left_is_front Writing stage lines text h = (h.0, h.2)
left_is_front Memory stage lines text h =
    let of_line = h.amid in
    let rest = replayed of_line.1.0 h.later in
    let step_text = h.part ++ of_line.0 in
    let line_and_later : Replays h.between (h.line ∷ h.later) rest.0 (step_text ++ rest.1) =
    (record { next = of_line.1.0; text = step_text }, rest.1, of_line.1.1, replays of_line.1.0 h.later, refl) in
    let all : Replays stage (h.done ++ h.line ∷ h.later) rest.0 (h.front ++ (step_text ++ rest.1)) =
    replays_append stage h.between rest.0 h.done (h.line ∷ h.later) h.front (step_text ++ rest.1) h.taken line_and_later in
    let whole : h.front ++ (step_text ++ rest.1) ≡ text ++ (of_line.0 ++ rest.1) = rw h.whole (simp append_assoc) in (
      of_line.0 ++ rest.1,
      (
        rest.0,
        subst (λ ls. Replays stage ls rest.0 (text ++ (of_line.0 ++ rest.1))) (sym h.split)
            (subst (λ t. Replays stage (h.done ++ h.line ∷ h.later) rest.0 t) whole all),
      ),
    )

-- a prefix of the text of lines that have ended is one of the text of the whole input
prefix_of_all : (given later text : List ℕ)
    → IsPrefixOf (λ whole. (stage : Stage) × Replays Unopened (ended given) stage whole) text
    → IsPrefixOf (IsReplay (given ++ later)) text
prefix_of_all given later text h =
    let all = front_of_replay given later (text ++ h.0) h.1.0 h.1.1 in
    (h.0 ++ all.0, subst (IsReplay (given ++ later)) (append_assoc text h.0 all.0) all.1)

-- once an opening was refused, what is printed is the text of the whole input
over_is_all : (given later text : List ℕ)
    → Replays Unopened (ended given) Over text
    → IsReplay (given ++ later) text
over_is_all given later text taken =
    let more = (cut (begun given) later).0 ++ last (cut (begun given) later).1 in
    let all = replays_append Unopened Over Over (ended given) more text [] taken (nothing_printed more) in
    record {
      last = Over;
      front = text ++ [];
      lines = subst (λ ls. Replays Unopened ls Over (text ++ [])) (sym (lines_split given later)) all;
      whole = sym (append-nil (text ++ []) ∙ append-nil text);
    }

-- ---- the ways out of a turn

-- reading ends early
pub reading_ends : (turns : ℕ) (line : Line) (stage : Kept) (a b c d : Option (List ℕ))
    → HasReplayed turns line stage a b c d → Exchanges (IsLeftOf Reading) a b c d
reading_ends turns line stage a b c d h =
    exchanges_weaker _ _ (λ given text is. (stage_of stage is.0, is.1.taken)) a b c d h

pub reading_fails : (turns : ℕ) (line : Line) (stage : Kept) (a b e c d : Option (List ℕ))
    → HasReplayed turns line stage a b c d → Keeps b e → Exchanges (IsLeftOf Reading) a e c d
reading_fails turns line stage a b e c d h k =
    exchanges_kept _ a b e c d (reading_ends turns line stage a b c d h) k

pub prefix_so_far : (turns : ℕ) (line : Line) (stage : Kept) (a b c d : Option (List ℕ))
    → HasReplayed turns line stage a b c d → IfSome a (λ input. Writes (IsPrefixOf (IsReplay input)) c d)
prefix_so_far turns line stage a b c d h =
    by_input _ (λ input. IsPrefixOf (IsReplay input))
    (λ given later text is. front_of_replay given later text (stage_of stage is.0) is.1.taken)
    a b c d h

-- an opening was refused
pub over_now : (turns : ℕ) (line : Line) (stage : Kept) (a b c d : Option (List ℕ))
    → is_over stage ≡ true
    → HasReplayed turns line stage a b c d
    → Exchanges IsOverBy a b c d
over_now turns line stage a b c d is h =
    exchanges_weaker _ _
    (λ given text so. subst (λ s. Replays Unopened (ended given) s text) (over stage so.0 is) so.1.taken)
    a b c d h

pub over_whole : (turns : ℕ) (line : Line) (stage : Kept) (a b c d : Option (List ℕ))
    → is_over stage ≡ true
    → HasReplayed turns line stage a b c d
    → IfSome a (λ input. Writes (IsReplay input) c d)
over_whole turns line stage a b c d is h =
    by_input IsOverBy IsReplay over_is_all a b c d (over_now turns line stage a b c d is h)

-- a piece more is read, which ends these lines and begins the next
module _ (turns : ℕ) (line : Line) (stage : Kept) (piece : List ℕ) (ends : List Line) (next : Line)
    (cuts : cut line piece ≡ (ends, next)) where
  -- the lines are taken
  taken : (new : Kept) → length piece ≤ PIECE → (past : Past) (given x y : List ℕ)
      → IsReplayed turns line (stage_of stage past) given x
      → Replayed stage past ends new y
      → IsSoFar (turns + 1) next new (given ++ piece) (x ++ y)
  taken new short past given x y is h =
      let both = both_cut line piece ends next cuts given is.line in
      let all : Replays Unopened (ended given ++ ends) (stage_of new h.0) (x ++ y) =
      replays_append Unopened (stage_of stage past) (stage_of new h.0) (ended given) ends x y is.taken h.1 in (
        h.0,
        record {
          line = sym (ap (λ c. c.1) both);
          few = omega (arith, length-append given piece, is.few, short);
          taken = subst (λ ls. Replays Unopened ls (stage_of new h.0) (x ++ y)) (sym (ap (λ c. c.0) both)) all;
        },
      )

  -- one is not
  left : (fault : Fault) (past : Past) (given x y : List ℕ)
      → IsReplayed turns line (stage_of stage past) given x
      → IsLeftAmid fault (stage_of stage past) ends y
      → IsLeftOf fault (given ++ piece) (x ++ y)
  left Reading past given x y is h = absurd h
  left Writing past given x y is h =
      let rest = some_end h.2.0 (last next) in
      let here = ends_of (stage_of stage past) h.2.0 ends (last next) (y ++ h.0) rest.0 h.2.1 rest.1 in
      let all = ends_of Unopened (stage_of stage past) (ended given) (ends ++ last next) x ((y ++ h.0) ++ rest.0) is.taken here in
      let text : x ++ ((y ++ h.0) ++ rest.0) ≡ (x ++ y) ++ (h.0 ++ rest.0) = simp append_assoc in
      let lines = sym (both_lines line piece ends next cuts given is.line) in (
        h.0 ++ rest.0,
        goes_on h.0 rest.0 h.1,
        is_replay (given ++ piece) ((x ++ y) ++ (h.0 ++ rest.0))
            (subst (λ ls. Ends Unopened ls ((x ++ y) ++ (h.0 ++ rest.0))) lines
            (subst (Ends Unopened (ended given ++ (ends ++ last next))) text all)),
      )
  left Memory past given x y is h =
      let all = stops_of Unopened (stage_of stage past) (ended given) ends (last next) x y is.taken h in
      inl (subst (λ ls. StopsAmid Unopened ls (x ++ y)) (sym (both_lines line piece ends next cuts given is.line)) all)

  -- they could not be cut
  uncut : piece ≢ [] → (given x y : List ℕ) → IsSoFar turns line stage given x → y ≡ []
      → IsLeftOf Memory (given ++ piece) (x ++ y)
  uncut some given x y is none =
      let later : ends ++ last next ≢ [] = some_lines line piece ends next cuts some in
      let here = stops_at_first (stage_of stage is.0) (ends ++ last next) later in
      let all = stops_of Unopened (stage_of stage is.0) (ended given) (ends ++ last next) [] x [] is.1.taken here in
      let lines : ended given ++ ((ends ++ last next) ++ []) ≡ lines_of (given ++ piece) =
      ap (λ ls. ended given ++ ls) (append-nil (ends ++ last next))
      ∙ sym (both_lines line piece ends next cuts given is.1.line) in
      inl (subst (λ t. StopsAmid Unopened (lines_of (given ++ piece)) (x ++ t)) (sym none)
      (subst (λ ls. StopsAmid Unopened ls (x ++ [])) lines all))

  begun_prefix : (fault : Fault) (past : Past) (given x y : List ℕ)
      → IsReplayed turns line (stage_of stage past) given x
      → IsLeftAmid fault (stage_of stage past) ends y
      → (later : List ℕ) → IsPrefixOf (IsReplay ((given ++ piece) ++ later)) (x ++ y)
  begun_prefix fault past given x y is h later =
      let front = left_is_front fault (stage_of stage past) ends y h in
      let all = replays_append Unopened (stage_of stage past) front.1.0 (ended given) ends x (y ++ front.0) is.taken front.1.1 in
      let lines : ended given ++ ends ≡ ended (given ++ piece) =
      sym (ap (λ c. c.0) (both_cut line piece ends next cuts given is.line)) in
      let text : x ++ (y ++ front.0) ≡ (x ++ y) ++ front.0 = sym (append_assoc x y front.0) in
      prefix_of_all (given ++ piece) later (x ++ y) (
        front.0,
        (
          front.1.0,
          subst (λ ls. Replays Unopened ls front.1.0 ((x ++ y) ++ front.0)) lines
              (subst (λ t. Replays Unopened (ended given ++ ends) front.1.0 t) text all),
        ),
      )

  pub turn_done : (new : Kept) (a b e c d f : Option (List ℕ)) → length piece ≤ PIECE
      → HasReplayed turns line stage a b c d → Consumes b e piece
      → ((past : Past) → Writes (Replayed stage past ends new) d f)
      → HasReplayed (turns + 1) next new a e c f
  turn_done new a b e c d f short h more w =
      more_of Past (λ past. IsReplayed turns line (stage_of stage past)) (λ past. Replayed stage past ends new) _ piece
      (taken new short) a b e c d f h more w

  pub turn_left : (fault : Fault) (a b e c d f : Option (List ℕ))
      → HasReplayed turns line stage a b c d → Consumes b e piece
      → ((past : Past) → Writes (IsLeftAmid fault (stage_of stage past) ends) d f)
      → Exchanges (IsLeftOf fault) a e c f
  turn_left fault a b e c d f h more w =
      more_of Past (λ past. IsReplayed turns line (stage_of stage past))
      (λ past. IsLeftAmid fault (stage_of stage past) ends) _ piece (left fault) a b e c d f h more w

  pub turn_uncut : (a b e c d : Option (List ℕ)) → piece ≢ []
      → HasReplayed turns line stage a b c d → Consumes b e piece
      → Exchanges (IsLeftOf Memory) a e c d
  turn_uncut a b e c d some h more = exchanges_more _ _ _ piece (uncut some) a b e c d d h more (writes_none d)

  pub prefix_of_turn : (fault : Fault) (a b e c d f : Option (List ℕ))
      → HasReplayed turns line stage a b c d → Consumes b e piece
      → ((past : Past) → Writes (IsLeftAmid fault (stage_of stage past) ends) d f)
      → IfSome a (λ input. Writes (IsPrefixOf (IsReplay input)) c f)
  prefix_of_turn fault a b e c d f h more w =
      let S : List ℕ → List ℕ → Type 0 =
      λ given text. (later : List ℕ) → IsPrefixOf (IsReplay (given ++ later)) text in
      let all : Exchanges S a e c f =
      more_of Past (λ past. IsReplayed turns line (stage_of stage past))
      (λ past. IsLeftAmid fault (stage_of stage past) ends) S piece (begun_prefix fault) a b e c d f h more w in
      by_input S (λ input. IsPrefixOf (IsReplay input)) (λ given later text is. is later) a e c f all

-- the reader is at its end, and what the input ends in is taken, or not
module _ (turns : ℕ) (line : Line) (stage : Kept) (none : List ℕ) (nothing : none ≡ []) (a b e c d f : Option (List ℕ))
    (h : HasReplayed turns line stage a b c d) (more : Consumes b e none) where
  pub last_done : IsAtEnd e
      → ((past : Past) → Writes (Ends (stage_of stage past) (last line)) d f)
      → IfSome a (λ input. Writes (IsReplay input) c f)
  last_done end w =
      let all : Exchanges IsReplay a e c f =
      last_of Past (λ past. IsReplayed turns line (stage_of stage past)) (λ past. Ends (stage_of stage past) (last line))
      IsReplay none nothing
      (λ past given x y is l. is_replay given (x ++ y)
      (ends_of Unopened (stage_of stage past) (ended given) (last (begun given)) x y is.taken
      (subst (λ u. Ends (stage_of stage past) (last u) y) is.line l)))
      a b e c d f h more w in
      by_whole_input IsReplay a e c f end all

  at_end : (fault : Fault) (past : Past) (given x y : List ℕ)
      → IsReplayed turns line (stage_of stage past) given x
      → IsLeftAtEnd fault (stage_of stage past) (last line) y
      → IsLeftOf fault given (x ++ y)
  at_end fault past given x y is l =
      go fault (subst (λ u. IsLeftAtEnd fault (stage_of stage past) (last u) y) is.line l)
    where
      amid : StopsAmid (stage_of stage past) (last (begun given)) y → StopsAmid Unopened (lines_of given) (x ++ y)
      amid s =
          subst (λ ls. StopsAmid Unopened (ended given ++ ls) (x ++ y)) (append-nil (last (begun given)))
          (stops_of Unopened (stage_of stage past) (ended given) (last (begun given)) [] x y is.taken s)

      early : EndsAmid (stage_of stage past) (last (begun given)) y → EndsAmid Unopened (lines_of given) (x ++ y)
      early s = record {
        last = s.last;
        front = x ++ s.front;
        part = s.part;
        taken =
            replays_append Unopened (stage_of stage past) s.last (ended given) (last (begun given)) x s.front is.taken s.taken;
        due = s.due;
        amid = s.amid;
        whole = ap (λ t. x ++ t) s.whole ∙ sym (append_assoc x s.front s.part);
      }

      go : (fault : Fault) → IsLeftAtEnd fault (stage_of stage past) (last (begun given)) y → IsLeftOf fault given (x ++ y)
      go Reading s = absurd s
      go Writing s = (
        s.0,
        s.1,
        is_replay given ((x ++ y) ++ s.0)
            (subst (Ends Unopened (lines_of given)) (sym (append_assoc x y s.0))
            (ends_of Unopened (stage_of stage past) (ended given) (last (begun given)) x (y ++ s.0) is.taken s.2)),
      )
      go Memory (inl s) = inl (amid s)
      go Memory (inr s) = inr (early s)

  pub last_left : (fault : Fault)
      → ((past : Past) → Writes (IsLeftAtEnd fault (stage_of stage past) (last line)) d f)
      → Exchanges (IsLeftOf fault) a e c f
  last_left fault w =
      last_of Past (λ past. IsReplayed turns line (stage_of stage past))
      (λ past. IsLeftAtEnd fault (stage_of stage past) (last line)) _ none nothing (at_end fault) a b e c d f h more w

  -- that is a prefix of the whole text
  prefix_left : (fault : Fault) (given text : List ℕ) → IsLeftOf fault given text → fault ≢ Reading → IsPrefixOf (IsReplay given) text
  prefix_left Reading given text s not = absurd (not refl)
  prefix_left Writing given text s not = (s.0, s.2)
  prefix_left Memory given text (inl s) not =
      let front = left_is_front Memory Unopened (lines_of given) text s in (
        front.0 ++ end_text front.1.0,
        record {
          last = front.1.0;
          front = text ++ front.0;
          lines = front.1.1;
          whole = sym (append_assoc text front.0 (end_text front.1.0));
        },
      )
  prefix_left Memory given text (inr s) not = (
    s.amid.0,
    record {
      last = s.last;
      front = s.front;
      lines = s.taken;
      whole =
          ap (λ t. t ++ s.amid.0) s.whole ∙ append_assoc s.front s.part s.amid.0 ∙ ap (λ t. s.front ++ t) s.amid.1;
    },
  )

  not_reading : (fault : Fault) (stage : Stage) (lines : List Line) (text : List ℕ)
      → IsLeftAtEnd fault stage lines text
      → fault ≢ Reading
  not_reading Reading stage lines text s is = absurd s
  not_reading Writing stage lines text s is = cc
  not_reading Memory stage lines text s is = cc

  pub prefix_of_last : (fault : Fault) → IsAtEnd e
      → ((past : Past) → Writes (IsLeftAtEnd fault (stage_of stage past) (last line)) d f)
      → IfSome a (λ input. Writes (IsPrefixOf (IsReplay input)) c f)
  prefix_of_last fault end w =
      let S : List ℕ → List ℕ → Type 0 = λ given. IsPrefixOf (IsReplay given) in
      let all : Exchanges S a e c f =
      last_of Past (λ past. IsReplayed turns line (stage_of stage past))
      (λ past. IsLeftAtEnd fault (stage_of stage past) (last line)) S none nothing
      (λ past given x y is l. prefix_left fault given (x ++ y) (at_end fault past given x y is l)
      (not_reading fault (stage_of stage past) (last line) y l))
      a b e c d f h more w in
      by_whole_input S a e c f end all
