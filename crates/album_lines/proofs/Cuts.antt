-- Laws of `cut`. For `Lines` and for `any_pieces` and `joined_lines`, which are `cut_append` and `lines_of_joined`.
use Rattle.std.proofs.Common.{◌≡◌, Some, None, ℕ, ◌+◌, ◌<◌, ◌≤◌, List, [], ◌∷◌, ◌++◌, length, map, Bool, true, false, cond, not, ◌&&◌, nat_eq, nat_lt, IsTrue, refl, ap, sym, ◌∙◌, arith, append_assoc, length-append}
use Rattle.std.proofs.lemmas.List.{append-nil, map-append}
use Rattle.std.proofs.Math.ListN.{set}
use Rattle.std.proofs.lemmas.Bool.{lt-ltb, le-ltb, ltb-true, ltb-false}
use Rattle.std.specs.List.{fold, list_all, flat_map}
use Rattle.album_lines.specs.declared.lines.LineIn.{LineIn}
use Rattle.album_stamps.specs.declared.limits.TheConstants.{MAX_LINE}
use Rattle.album_lines.specs.Lines.{Line, said, kept, longer, cut, continued, last, lines_of, has_no_newline}
use Rattle.std.proofs.lemmas.Bool.{and_parts}

-- the step of `cut_append` at a byte, which is a newline or is not
at_byte : (line : Line) (e : Bool) (f : Line → List Line × Line) (p q u v : List Line × Line)
    → p ≡ continued u.0 (f u.1) → q ≡ continued v.0 (f v.1)
    → cond e (line ∷ p.0, p.1) q ≡ continued (cond e (line ∷ u.0, u.1) v).0 (f (cond e (line ∷ u.0, u.1) v).1)
at_byte line true f p q u v first other = ap (continued (line ∷ [])) first
at_byte line false f p q u v first other = other

-- a text that comes in two pieces
pub cut_append : (line : Line) (a b : List ℕ) → cut line (a ++ b) ≡ continued (cut line a).0 (cut (cut line a).1 b)
cut_append line [] b = refl
cut_append line (x ∷ a) b =
    at_byte line (nat_eq x 10) (λ l. cut l b) _ _ _ _ (cut_append (Some []) a b) (cut_append (longer line x) a b)

-- the step of `cut_part` at a byte
by_test : {A : Type 0} (e r : Bool) (p q want : A) → (not e && r) ≡ true → (r ≡ true → q ≡ want) → cond e p q ≡ want
by_test true r p q want all others = let wrong : false ≡ true = all in cc
by_test false r p q want all others = others all

-- a part with no newline makes the line longer
pub cut_part : (line : Line) (part : List ℕ)
    → IsTrue (has_no_newline part)
    → cut line part ≡ ([], fold longer line part)
cut_part line [] none = refl
cut_part line (x ∷ part) none = by_test (nat_eq x 10) (has_no_newline part) _ _ _ none (cut_part (longer line x) part)

-- a text with a newline
pub cut_line : (line : Line) (front rest : List ℕ) → IsTrue (has_no_newline front)
    → cut line (front ++ 10 ∷ rest) ≡ continued (fold longer line front ∷ []) (cut (Some []) rest)
cut_line line front rest none = cut_append line front (10 ∷ rest) ∙ rw (cut_part line front none) refl

-- a line that is too long stays so
pub longer_none : (part : List ℕ) → fold longer None part ≡ None
longer_none [] = refl
longer_none (x ∷ part) = longer_none part

kept_short : (bytes : List ℕ) → length bytes ≤ MAX_LINE → kept bytes ≡ Some bytes
kept_short bytes short = rw (le-ltb MAX_LINE (length bytes) short) refl

kept_long : (bytes : List ℕ) → MAX_LINE < length bytes → kept bytes ≡ None
kept_long bytes long = rw (lt-ltb MAX_LINE (length bytes) long) refl

-- the step of `longer_kept` at a byte, which still fits or does not
by_length : (bytes part : List ℕ) (x : ℕ) (e : Bool) → nat_lt MAX_LINE (length (bytes ++ x ∷ [])) ≡ e
    → (length (bytes ++ x ∷ []) ≤ MAX_LINE
    → fold longer (Some (bytes ++ x ∷ [])) part ≡ kept ((bytes ++ x ∷ []) ++ part))
    → fold longer (cond e None (Some (bytes ++ x ∷ []))) part ≡ kept (bytes ++ x ∷ part)
by_length bytes part x true is others =
    let long : MAX_LINE < length (bytes ++ x ∷ []) = ltb-true _ _ is in
    let longer_still : MAX_LINE < length (bytes ++ x ∷ part) =
    omega (arith, long, length-append bytes (x ∷ []), length-append bytes (x ∷ part)) in
    longer_none part ∙ sym (kept_long (bytes ++ x ∷ part) longer_still)
by_length bytes part x false is others = others (ltb-false _ _ is) ∙ ap kept (append_assoc bytes (x ∷ []) part)

-- bytes after those of a line
pub longer_kept : (bytes part : List ℕ) → length bytes ≤ MAX_LINE
    → fold longer (Some bytes) part ≡ kept (bytes ++ part)
longer_kept bytes [] short = rw append-nil (sym (kept_short bytes short))
longer_kept bytes (x ∷ part) short =
    by_length bytes part x (nat_lt MAX_LINE (length (bytes ++ x ∷ []))) refl (longer_kept (bytes ++ x ∷ []) part)

-- bytes that fit after those of a line
pub longer_short : (bytes part : List ℕ) → length bytes + length part ≤ MAX_LINE
    → fold longer (Some bytes) part ≡ Some (bytes ++ part)
longer_short bytes part short =
    longer_kept bytes part (omega arith) ∙ kept_short (bytes ++ part) (omega (arith, length-append bytes part))

-- bytes that do not fit after those of a line
pub longer_long : (bytes part : List ℕ) → length bytes ≤ MAX_LINE → MAX_LINE < length bytes + length part
    → fold longer (Some bytes) part ≡ None
longer_long bytes part short long =
    longer_kept bytes part short ∙ kept_long (bytes ++ part) (omega (arith, length-append bytes part))

joined : (lines : List (List ℕ)) (rest : List ℕ) → IsTrue (list_all has_no_newline lines) → IsTrue (has_no_newline rest)
    → cut (Some []) (flat_map (λ line. line ++ 10 ∷ []) lines ++ rest) ≡ (map kept lines, kept rest)
joined [] rest all none =
    cut_part (Some []) rest none ∙ ap (λ (line : Line). continued [] ([], line)) (longer_kept [] rest (omega arith))
joined (line ∷ lines) rest all none =
    let each : IsTrue (has_no_newline line) × IsTrue (list_all has_no_newline lines) = and_parts _ _ all in
    let others : List ℕ = flat_map (λ bytes. bytes ++ 10 ∷ []) lines ++ rest in
    let text : (line ++ 10 ∷ []) ++ flat_map (λ bytes. bytes ++ 10 ∷ []) lines ++ rest ≡ line ++ 10 ∷ others =
    simp append_assoc in
    ap (λ t. cut (Some []) t) text ∙ cut_line (Some []) line others each.0
    ∙ rw (joined lines rest each.1 none, longer_kept [] line (omega arith)) refl

-- the lines of a text are the parts between its newlines
pub lines_of_joined : (lines : List (List ℕ)) (rest : List ℕ)
    → IsTrue (list_all has_no_newline lines)
    → IsTrue (has_no_newline rest)
    → lines_of (flat_map (λ line. line ++ 10 ∷ []) lines ++ rest) ≡ map kept lines ++ last (kept rest)
lines_of_joined lines rest all none = ap (λ (c : List Line × Line). c.0 ++ last c.1) (joined lines rest all none)

-- lines before lines before a cut
pub continued_append : (a b : List Line) (c : List Line × Line) → continued (a ++ b) c ≡ continued a (continued b c)
continued_append a b c = rw append_assoc refl

-- one more line is put after those of a cut
pub line_more : (lines : List LineIn) (line : Line) (rest front behind : List ℕ) (new : LineIn)
    → rest ≡ front ++ 10 ∷ behind → IsTrue (has_no_newline front) → said new ≡ fold longer line front
    → continued (map said (lines ++ new ∷ [])) (cut (Some []) behind) ≡ continued (map said lines) (cut line rest)
line_more lines line rest front behind new parts none is =
    rw (map-append, parts, cut_line line front behind none, is)
    (continued_append (map said lines) (fold longer line front ∷ []) (cut (Some []) behind))

-- no line is put after those of a cut
pub line_last : (lines : List Line) (line : Line) (rest : List ℕ) → IsTrue (has_no_newline rest)
    → continued lines (cut line rest) ≡ (lines, fold longer line rest)
line_last lines line rest none = rw (cut_part line rest none, append-nil) refl

-- the first line is put into its place
pub first_put : (line next : Line) (piece front behind : List ℕ) (later : List LineIn) (first : LineIn)
    → piece ≡ front ++ 10 ∷ behind → IsTrue (has_no_newline front)
    → map said later ≡ None ∷ (cut (Some []) behind).0
    → next ≡ (cut (Some []) behind).1
    → said first ≡ fold longer line front
    → cut line piece ≡ (map said (set later 0 first), next)
first_put line next piece front behind [] first parts none lines more is =
    let wrong : [] ≡ None ∷ (cut (Some []) behind).0 = lines in cc
first_put line next piece front behind (place ∷ later) first parts none lines more is =
    let places : said place ∷ map said later ≡ None ∷ (cut (Some []) behind).0 = lines in
    let others : map said later ≡ (cut (Some []) behind).0 = cc in
    rw (parts, cut_line line front behind none, is, others, more) refl
