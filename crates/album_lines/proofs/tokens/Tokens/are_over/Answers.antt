use Rattle.std.proofs.Common.{sym, ap, ◌∙◌}
use Rattle.album_lines.specs.Front.{tokens_at}
use Rattle.album_lines.proofs.Fronts.{none_behind}
use Rattle.album_lines.proofs.tokens.Tokens.are_over.Goals as goal

pub returns-in-AfterValue : goal.returns-in-AfterValue
returns-in-AfterValue c = λ yes.
    sym c.self.view_is ∙ ap (λ place. tokens_at place c.self.inside.rest.now) c.in-AfterValue.is ∙ none_behind c.self.inside.rest.now c.is_empty.result c.is_empty.ensures yes
