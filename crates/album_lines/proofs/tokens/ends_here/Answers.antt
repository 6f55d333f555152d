use Rattle.std.proofs.Common.{ap, ◌∙◌}
use Rattle.std.specs.List.{slice_get}
use Rattle.album_lines.proofs.Fronts.{first_none, ends_at_bracket, ends_at_brace}
use Rattle.album_lines.proofs.tokens.ends_here.Goals as goal

pub returns-in-None : goal.returns-in-None
returns-in-None c = λ _. first_none c.args.text.now (c.in-None.ensures.value ∙ ap (λ bytes. slice_get bytes 0) c.as_bytes.ensures.value)

pub returns-in-93 : goal.returns-in-93
returns-in-93 c = λ _. ends_at_bracket c.args.text.now c.in-Some.byte.now (c.in-Some.ensures.value ∙ ap (λ bytes. slice_get bytes 0) c.as_bytes.ensures.value) c.in-93.is

pub returns-in-93-2 : goal.returns-in-93-2
returns-in-93-2 c = λ _. ends_at_brace c.args.text.now c.in-Some.byte.now (c.in-Some.ensures.value ∙ ap (λ bytes. slice_get bytes 0) c.as_bytes.ensures.value) c.in-93.is
