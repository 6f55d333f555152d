use Rattle.std.proofs.Common.{◌≡◌, ◌++◌, [], ◌∷◌, ℕ, List, codes, decimal, IfOk, ap, ◌∙◌, subst}
use Rattle.hex.specs.Hex.{encode_lower}
use Rattle.json.specs.Token.{key, string, number}
use Rattle.album_items.specs.ItemIds.{text_of}
use Rattle.album_wire.proofs.AnswerTexts.{begun, picture_text}
use Rattle.album_wire.proofs.served_json.picture_line.Goals as goal

pub returns : goal.returns
returns c =
    let content : c.as_str.result.now ≡ encode_lower c.args.content.now =
    c.as_str.ensures.value ∙ c.in_ok-content.ensures ∙ ap encode_lower c.as_slice.ensures.bytes in
    let first : c.put_text.new.out.tokens
    ≡ begun (codes "served") c.args.client ++ key (codes "content") ∷ string (encode_lower c.args.content.now) ∷ [] =
    c.in_ok-put_text.ensures.tokens
    ∙ (λ i. c.in_ok-out.ensures.tokens i ++ key (codes "content") ∷ string (content i) ∷ []) in
    let object : c.as_str-2.result.now ≡ text_of c.args.object = c.as_str-2.ensures.value ∙ c.in_ok-object.ensures in
    let second : c.put_text-2.new.out.tokens
    ≡ (begun (codes "served") c.args.client ++ key (codes "content") ∷ string (encode_lower c.args.content.now) ∷ [])
    ++ key (codes "object") ∷ string (text_of c.args.object) ∷ [] =
    c.in_ok-put_text-2.ensures.tokens ∙ (λ i. first i ++ key (codes "object") ∷ string (object i) ∷ []) in
    let third : c.put_number.new.out.tokens
    ≡ ((begun (codes "served") c.args.client ++ key (codes "content") ∷ string (encode_lower c.args.content.now) ∷ [])
    ++ key (codes "object") ∷ string (text_of c.args.object) ∷ [])
    ++ key (codes "stamp") ∷ number (decimal c.args.stamp) ∷ [] =
    c.in_ok-put_number.ensures.tokens
    ∙ (λ i. second i ++ key (codes "stamp") ∷ number (decimal (c.value.ensures.value i)) ∷ []) in
    let written : c.put_text-3.new.out.tokens
    ≡ (((begun (codes "served") c.args.client ++ key (codes "content") ∷ string (encode_lower c.args.content.now) ∷ [])
    ++ key (codes "object") ∷ string (text_of c.args.object) ∷ [])
    ++ key (codes "stamp") ∷ number (decimal c.args.stamp) ∷ [])
    ++ key (codes "title") ∷ string c.args.title.now ∷ [] =
    c.in_ok-put_text-3.ensures.tokens
    ∙ (λ i. third i ++ key (codes "title") ∷ string (c.as_str-3.ensures.text i) ∷ []) in
    subst (λ (text : List ℕ). IfOk c.end_line.result (λ bytes. bytes.items ≡ text ++ 10 ∷ []))
    (picture_text c.args.client c.args.object c.args.stamp c.args.title.now c.args.content.now c.put_text-3.new.out.tokens written)
    c.end_line.ensures
