-- The lines of what was read, a piece at a time. For the turns of both engines.
use Rattle.std.proofs.Common.{◌≡◌, ◌≢◌, ℕ, List, [], ◌∷◌, ◌++◌, length, Bool, true, false, cond, nat_eq, nat_lt, Some, None, refl, sym, ap, ◌∙◌, subst, append_assoc}
use Rattle.album_stamps.specs.declared.limits.TheConstants.{MAX_LINE}
use Rattle.album_lines.specs.Lines.{Line, longer, cut, continued, last, ended, begun, lines_of}
use Rattle.album_lines.proofs.Cuts.{cut_append}

pub lines_split : (given later : List ℕ)
    → lines_of (given ++ later) ≡ ended given ++ ((cut (begun given) later).0 ++ last (cut (begun given) later).1)
lines_split given later =
    ap (λ c. c.0 ++ last c.1) (cut_append (Some []) given later) ∙ append_assoc (ended given) (cut (begun given) later).0 _

-- a line with a byte more is one
longer_last : (line : Line) (x : ℕ) → last (longer line x) ≢ []
longer_last None x = λ none. cc
longer_last (Some bytes) x = by_length (nat_lt MAX_LINE (length (bytes ++ x ∷ []))) bytes
  where
    by_length : (e : Bool) (begin : List ℕ) → last (cond e None (Some (begin ++ x ∷ []))) ≢ []
    by_length true begin none = cc
    by_length false [] none = cc
    by_length false (b ∷ begin) none = cc

-- a byte ends the line, or the line continues
by_byte : (e : Bool) (line next : Line) (later : List Line) (unended : Line) (others : List Line)
    → others ++ last unended ≢ []
    → (cond {A = List Line × Line} e (line ∷ later, next) (others, unended)).0
    ++ last (cond {A = List Line × Line} e (line ∷ later, next) (others, unended)).1
    ≢ []
by_byte true line next later unended others some = λ none. cc
by_byte false line next later unended others some = some

-- bytes end a line, or begin one
some_line : (line : Line) (piece : List ℕ) → piece ≢ [] → (cut line piece).0 ++ last (cut line piece).1 ≢ []
some_line line [] some = absurd (some refl)
some_line line (x ∷ []) some = by_byte (nat_eq x 10) line (Some []) [] (longer line x) [] (longer_last line x)
some_line line (x ∷ y ∷ piece) some =
    let others = cut (longer line x) (y ∷ piece) in
    let after = cut (Some []) (y ∷ piece) in
    by_byte (nat_eq x 10) line after.1 after.0 others.1 others.0 (some_line (longer line x) (y ∷ piece) (λ none. cc))

-- a piece more is read, which ends these lines and begins the next
module _ (line : Line) (piece : List ℕ) (ends : List Line) (next : Line) (cuts : cut line piece ≡ (ends, next)) where
  pub both_cut : (given : List ℕ) → line ≡ begun given → cut (Some []) (given ++ piece) ≡ (ended given ++ ends, next)
  both_cut given is =
      cut_append (Some []) given piece ∙ ap (continued (ended given)) (ap (λ l. cut l piece) (sym is) ∙ cuts)

  pub both_lines : (given : List ℕ)
      → line ≡ begun given
      → lines_of (given ++ piece) ≡ ended given ++ (ends ++ last next)
  both_lines given is =
      ap (λ c. c.0 ++ last c.1) (both_cut given is) ∙ append_assoc (ended given) ends (last next)

  pub some_lines : piece ≢ [] → ends ++ last next ≢ []
  some_lines some = subst (λ (c : List Line × Line). c.0 ++ last c.1 ≢ []) cuts (some_line line piece some)
