use Rattle.std.proofs.Common.{take, refl, sym, ap, ◌∙◌, rules, ◌≡◌, true}
use Rattle.json.specs.Word.{ends_word}
use Rattle.album_lines.proofs.Fronts.{a_number, split_parts}
use Rattle.album_lines.proofs.tokens.whole.Goals as goal

pub returns : goal.returns
returns c =
    let text = c.args.text.now in
    let front = take c.in_ok-n.len text in
    let ended : ends_word c.in_ok-more.more.now ≡ true = search rules in
    a_number text front c.in_ok-more.more.now c.in_ok-n.n
    (split_parts text front c.in_ok-more.more.now _ refl c.in_ok-more.ensures.back)
    c.in_ok-n.ensures.0 (sym (ap (take c.in_ok-n.len) c.as_bytes.ensures.value) ∙ c.in_ok-n.ensures.1) ended
