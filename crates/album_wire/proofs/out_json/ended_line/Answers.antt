use Rattle.std.proofs.Common.{◌≡◌, ◌++◌, [], ◌∷◌, ℕ, List, codes, decimal, IfOk, ◌∙◌, subst}
use Rattle.json.specs.Token.{key, number}
use Rattle.album_wire.proofs.AnswerTexts.{begun, ended_text}
use Rattle.album_wire.proofs.out_json.ended_line.Goals as goal

pub returns : goal.returns
returns c =
    let written : c.put_number.new.out.tokens
    ≡ begun c.args.word.now c.args.client ++ key (codes "stamp") ∷ number (decimal c.args.stamp) ∷ [] =
    c.in_ok-put_number.ensures.tokens
    ∙ (λ i. c.in_ok-out.ensures.tokens i ++ key (codes "stamp") ∷ number (decimal (c.value.ensures.value i)) ∷ []) in
    subst (λ (text : List ℕ). IfOk c.end_line.result (λ bytes. bytes.items ≡ text ++ 10 ∷ []))
    (ended_text c.args.client c.args.word.now c.args.stamp c.put_number.new.out.tokens written) c.end_line.ensures
