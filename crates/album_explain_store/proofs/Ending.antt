-- The end of a script, after the explanations of its lines. For `explain_script`, and for `explain_end`:
-- `end_not_whole`.
use Rattle.std.proofs.Common.{◌≡◌, ℕ, List, [], ◌++◌, Bool, false, cond, Option, Some, None, IfSome, refl, sym, ap, ◌∙◌, subst, append_assoc}
use Rattle.std.specs.Io.KnownBytes.{Appends}
use Rattle.std.proofs.KnownBytes.{Appends-trans}
use Rattle.album_lines.specs.Lines.{lines_of}
use Rattle.album_judge.specs.Writes.{Writes, IsPrefixOf, IsCutShort}
use Rattle.album_explain.specs.declared.explaining.Progress.{Progress}
use Rattle.album_explain.specs.Explain.{at_start, Explains, ExplainsOn}
use Rattle.album_explain_store.specs.declared.openings.OpeningLines.{OpeningLines}
use Rattle.album_explain_store.specs.declared.openings.OpeningLines.TheVariants.{Unopened}
use Rattle.album_explain_store.specs.Openings.{stage_of, has_begun, ExplainsScriptLine}
use Rattle.album_explain_store.specs.Scripts.{missing_line, end_text, has_missed, ExplainsScript, ExplainsSomeScript}

-- the lines are explained, and then the end
pub end_explained : (end : Progress OpeningLines) (refused : Bool) (o a b c : Option (List ℕ))
    → IfSome o (λ input. Writes (Explains ExplainsScriptLine (at_start Unopened) (lines_of input) end) a b)
    → Appends b c (end_text end)
    → refused ≡ has_missed end
    → IfSome o (λ input. Writes (ExplainsScript refused (lines_of input)) a c)
end_explained end refused None a b c h w is = h
end_explained end refused (Some input) a b c h w is = (
  h.0 ++ end_text end,
  record { end = end; front = h.0; explained = h.1; whole = refl; refused = is },
  Appends-trans a b c h.0 (end_text end) h.2 w,
)

-- the end is cut short
pub end_cut : (end : Progress OpeningLines) (o a b c : Option (List ℕ))
    → IfSome o (λ input. Writes (Explains ExplainsScriptLine (at_start Unopened) (lines_of input) end) a b)
    → Writes (IsPrefixOf (λ whole. whole ≡ end_text end)) b c
    → IfSome o (λ input. Writes (IsPrefixOf (ExplainsSomeScript (lines_of input))) a c)
end_cut end None a b c h w = h
end_cut end (Some input) a b c h w = (
  h.0 ++ w.0,
  (
    w.1.0,
    (
      has_missed end,
      record {
        end = end;
        front = h.0;
        explained = h.1;
        whole = append_assoc h.0 w.0 w.1.0 ∙ ap (λ t. h.0 ++ t) w.1.1;
        refused = refl;
      },
    ),
  ),
  Appends-trans a b c h.0 w.0 h.2 w.2,
)

-- the lines are cut short
pub lines_cut : (o a b : Option (List ℕ))
    → IfSome o (λ input. Writes (IsPrefixOf (ExplainsOn ExplainsScriptLine (at_start Unopened) (lines_of input))) a b)
    → IfSome o (λ input. Writes (IsPrefixOf (ExplainsSomeScript (lines_of input))) a b)
lines_cut None a b h = h
lines_cut (Some input) a b h = (
  h.0,
  (
    h.1.0 ++ end_text h.1.1.0,
    (
      has_missed h.1.1.0,
      record {
        end = h.1.1.0;
        front = h.0 ++ h.1.0;
        explained = h.1.1.1;
        whole = sym (append_assoc h.0 h.1.0 (end_text h.1.1.0));
        refused = refl;
      },
    ),
  ),
  h.2,
)

-- the line of the end is not written whole
pub end_not_whole : (end : Progress OpeningLines) (written text : List ℕ) (b c : Option (List ℕ))
    → false ≡ has_begun (stage_of end.explainer)
    → written ≡ text
    → text ≡ missing_line end.next
    → Writes (IsCutShort (λ whole. whole ≡ written)) b c
    → Writes (IsPrefixOf (λ whole. whole ≡ end_text end)) b c
end_not_whole end written text b c begun is line w =
    let e = subst (λ (x : Bool). cond x [] (missing_line end.next) ≡ missing_line end.next) begun refl in
    (w.0, (w.1.0, w.1.2 ∙ is ∙ line ∙ sym e), w.2)
