use Rattle.std.proofs.Common.{◌≡◌, ◌≤◌, Some, None, length, ◌∙◌, sym, refl, ap, arith}
use Rattle.album_stamps.specs.declared.limits.TheConstants.{MAX_LINE}
use Rattle.album_lines.specs.Lines.{said}
use Rattle.album_lines.proofs.Cuts.{longer_none, longer_short, longer_long}
use Rattle.album_lines.proofs.lines.Lines.add.Goals as goal

-- a line that is too long stays so
pub returns-in_default-clause-ok : goal.returns-in_default-clause-ok
returns-in_default-clause-ok c =
    let is : c.args.self.now ≡ None = sym c.self.view_is ∙ ap said c.in_default.is in
    rw (c.in_default.is, is, longer_none) refl

-- it becomes too long
pub returns-then-part-len-clause-ok : goal.returns-then-part-len-clause-ok
returns-then-part-len-clause-ok c =
    let is : c.args.self.now ≡ Some c.in-Text.bytes.items = sym c.self.view_is ∙ ap said c.in-Text.is in
    let short : length c.in-Text.bytes.items ≤ MAX_LINE = c.self.invariant _ (ap said c.in-Text.is) in
    rw (is, longer_long c.in-Text.bytes.items c.args.part.now short (omega (arith, short))) refl

-- it still fits
pub returns-clause-ok : goal.returns-clause-ok
returns-clause-ok c =
    let is : c.args.self.now ≡ Some c.in-Text.bytes.items = sym c.self.view_is ∙ ap said c.in-Text.is in
    let short : length c.in-Text.bytes.items ≤ MAX_LINE = c.self.invariant _ (ap said c.in-Text.is) in
    rw (c.in_ok-extend_from_slice.ensures.items, is, longer_short c.in-Text.bytes.items c.args.part.now (omega (arith, short))) refl
