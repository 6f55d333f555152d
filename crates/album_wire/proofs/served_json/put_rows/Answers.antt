use Rattle.std.proofs.Common.{◌≡◌, ◌++◌, [], ◌∷◌, codes, arith, ◌∙◌}
use Rattle.std.proofs.lemmas.Result.{on_ok_weaker}
use Rattle.json.specs.Token.{key, begin_array}
use Rattle.album_wire.specs.ServedJson.{row_json}
use Rattle.album_wire.proofs.AnswerTexts.{list-put}
use Rattle.album_wire.proofs.served_json.put_rows.Goals as goal

pub returns-clause-tokens : goal.returns-clause-tokens
returns-clause-tokens c =
    let begun : c.begin_array.new.self.tokens ≡ (c.args.out.now.tokens ++ key (codes "rows") ∷ []) ++ begin_array ∷ [] =
    c.in_ok-begin_array.ensures.ok ∙ (λ i. c.in_ok-key.ensures.ok i ++ begin_array ∷ []) in
    on_ok_weaker c.end_array.result
    (list-put row_json (codes "rows") c.args.rows.now c.loop-row.row-index c.args.out.now.tokens c.begin_array.new.self.tokens
    c.loop-row.out.tokens c.end_array.new.self.tokens (omega arith) begun c.loop-row.invariant.tokens)
    c.end_array.ensures.ok
