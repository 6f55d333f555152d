use Rattle.std.proofs.Common.{◌≡◌, ◌++◌, [], ◌∷◌, List, ℕ, codes, decimal, IfOk, ◌∙◌, subst}
use Rattle.json.specs.Token.{key, string, number}
use Rattle.json.specs.Tree.{json_tokens}
use Rattle.serde_json.specs.Written.{outline}
use Rattle.album_items.specs.ItemIds.{text_of}
use Rattle.album_wire.specs.ServedJson.{rows_json}
use Rattle.album_wire.proofs.AnswerTexts.{begun, listed_text}
use Rattle.album_wire.proofs.served_json.listed_line.Goals as goal

pub returns : goal.returns
returns c =
    let object : c.as_str.result.now ≡ text_of c.args.album = c.as_str.ensures.value ∙ c.in_ok-object.ensures in
    let first : c.put_text.new.out.tokens
    ≡ begun (codes "listed") c.args.client ++ key (codes "object") ∷ string (text_of c.args.album) ∷ [] =
    c.in_ok-put_text.ensures.tokens
    ∙ (λ i. c.in_ok-out.ensures.tokens i ++ key (codes "object") ∷ string (object i) ∷ []) in
    let second : c.put_rows.new.out.tokens
    ≡ (begun (codes "listed") c.args.client ++ key (codes "object") ∷ string (text_of c.args.album) ∷ [])
    ++ key (codes "rows") ∷ json_tokens (outline (rows_json c.args.rows.now)) =
    c.in_ok-put_rows.ensures.tokens
    ∙ (λ i. first i ++ key (codes "rows") ∷ json_tokens (outline (rows_json c.args.rows.now))) in
    let written : c.put_number.new.out.tokens
    ≡ ((begun (codes "listed") c.args.client ++ key (codes "object") ∷ string (text_of c.args.album) ∷ [])
    ++ key (codes "rows") ∷ json_tokens (outline (rows_json c.args.rows.now)))
    ++ key (codes "stamp") ∷ number (decimal c.args.stamp) ∷ [] =
    c.in_ok-put_number.ensures.tokens
    ∙ (λ i. second i ++ key (codes "stamp") ∷ number (decimal (c.value.ensures.value i)) ∷ []) in
    subst (λ (text : List ℕ). IfOk c.end_line.result (λ bytes. bytes.items ≡ text ++ 10 ∷ []))
    (listed_text c.args.client c.args.album c.args.stamp c.args.rows.now c.put_number.new.out.tokens written)
    c.end_line.ensures
