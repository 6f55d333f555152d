use Rattle.std.proofs.Common.{◌≡◌, ℕ, List, Ok, refl, ◌∙◌, subst}
use Rattle.album_wire.specs.MarkLine.{mark_line_of}
use Rattle.album_data.proofs.entries.read_entry.Goals as goal

pub returns : goal.returns
returns c = record {
  body = c.in-Some.body.now;
  mark = c.in_ok-part.field-0;
  is = c.in-Some.ensures;
  says = subst (λ (t : List ℕ). mark_line_of t ≡ Ok c.in_ok-part.field-0) (c.deref.ensures.value ∙ c.in_ok-text.ensures) c.in_ok-part.ensures;
  spells = refl;
}
