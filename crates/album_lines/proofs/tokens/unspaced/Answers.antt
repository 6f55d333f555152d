use Rattle.std.proofs.Common.{◌≡◌, drop, ap, ◌∙◌}
use Rattle.std.specs.List.{prefix_len}
use Rattle.json.specs.Lex.{between, lex}
use Rattle.album_lines.specs.Front.{is_blank}
use Rattle.album_lines.proofs.Fronts.{blanks_passed}
use Rattle.album_lines.proofs.tokens.unspaced.Goals as goal

pub returns-in-Some : goal.returns-in-Some
returns-in-Some c =
    let len : c.blanks_len.result ≡ prefix_len is_blank c.args.text.now = c.blanks_len.ensures ∙ ap (prefix_len is_blank) c.as_bytes.ensures.value in
    ap (lex between) (c.in-Some.ensures.back ∙ ap (λ n. drop n c.args.text.now) len) ∙ blanks_passed c.args.text.now
