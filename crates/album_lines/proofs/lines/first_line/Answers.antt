use Rattle.std.proofs.Common.{◌∙◌, sym}
use Rattle.album_lines.proofs.Newlines.{none_before, none_at_all, parts_at}
use Rattle.album_lines.proofs.lines.first_line.Goals as goal

pub returns-in_err-at-clause-none : goal.returns-in_err-at-clause-none
returns-in_err-at-clause-none c =
    rw c.from_residual.ensures (none_at_all c.args.text.now (sym c.newline_index.ensures ∙ c.in_err-at.was))

pub returns-clause-found : goal.returns-clause-found
returns-clause-found c =
    rw (c.split_at.ensures.front, c.split_at-2.ensures.back) (parts_at _ _ (sym c.newline_index.ensures ∙ c.in_ok-at.was))

pub returns-clause-first : goal.returns-clause-first
returns-clause-first c = rw c.split_at.ensures.front (none_before _ _ (sym c.newline_index.ensures ∙ c.in_ok-at.was))
