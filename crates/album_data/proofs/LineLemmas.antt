-- Lines in texts.
use Rattle.std.proofs.Common.{◌≡◌, ℕ, Bool, true, false, List, ◌++◌, if◌then◌else◌, sym, ap, ◌∙◌, subst, append_assoc}
use Rattle.album_log.specs.Texts.{IsWholeText}
use Rattle.album_log.proofs.TextLemmas.{whole_append}
use Rattle.album_data.specs.Texts.{HasLine}

-- more behind a text
pub line_more : (text more line : List ℕ) → HasLine text line → HasLine (text ++ more) line
line_more text more line h = record {
  before = h.before;
  after = h.after ++ more;
  whole = h.whole;
  one = h.one;
  there = ap (λ (t : List ℕ). t ++ more) h.there ∙ (append_assoc h.before (line ++ h.after) more
      ∙ ap (λ (t : List ℕ). h.before ++ t) (append_assoc line h.after more));
}

-- whole lines before it
pub line_behind : (some text line : List ℕ) → IsWholeText some → HasLine text line → HasLine (some ++ text) line
line_behind some text line whole h = record {
  before = some ++ h.before;
  after = h.after;
  whole = whole_append some h.before whole h.whole;
  one = h.one;
  there = ap (λ (t : List ℕ). some ++ t) h.there ∙ sym (append_assoc some h.before (line ++ h.after));
}

-- more behind it, if it was added
pub line_if : (b : Bool) (text now more line : List ℕ) → now ≡ (if b then text ++ more else text) → HasLine text line → HasLine now line
line_if true text now more line is h = subst (λ (t : List ℕ). HasLine t line) (sym is) (line_more text more line h)
line_if false text now more line is h = subst (λ (t : List ℕ). HasLine t line) (sym is) h
