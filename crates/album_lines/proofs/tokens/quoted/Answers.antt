use Rattle.std.proofs.Common.{◌≡◌, take, ap, ◌∙◌}
use Rattle.std.specs.List.{prefix_len}
use Rattle.json.specs.Run.{is_plain}
use Rattle.album_lines.proofs.Fronts.{a_quoted, split_parts}
use Rattle.album_lines.proofs.tokens.quoted.Goals as goal

pub returns : goal.returns
returns c =
    let len : c.plain_len.result ≡ prefix_len is_plain c.in_ok-body.body.now = c.plain_len.ensures ∙ ap (prefix_len is_plain) c.as_bytes.ensures.value in
    let front : c.in_ok-front.front.now ≡ take (prefix_len is_plain c.in_ok-body.body.now) c.in_ok-body.body.now =
    c.in_ok-front.ensures.front ∙ ap (λ n. take n c.in_ok-body.body.now) len in
    a_quoted c.args.text.now c.in_ok-body.body.now c.in_ok-front.front.now c.in_ok-front.back.now c.in_ok-more.more.now c.in_ok-body.ensures front
    (split_parts c.in_ok-body.body.now c.in_ok-front.front.now c.in_ok-front.back.now _ c.in_ok-front.ensures.front c.in_ok-front.ensures.back)
    c.in_ok-more.ensures
