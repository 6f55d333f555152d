use Rattle.album_lines.specs.Lines.{said}
use Rattle.album_explain.proofs.Joining.{blank_gained}
use Rattle.album_explain.proofs.explaining.explain_line.Goals as goal

pub returns-then-is_blank-clause-ok : goal.returns-then-is_blank-clause-ok
returns-then-is_blank-clause-ok g c =
    blank_gained g.E.Explainer.IsExplanation c.args.progress.now c.go_on.new.self (said c.args.line.now) _ c.if-is_blank.ensures c.go_on.ensures
