use Rattle.std.proofs.Common.{◌≡◌, ◌++◌, [], ◌∷◌, List, ℕ, codes, decimal, IfOk, ◌∙◌, subst}
use Rattle.json.specs.Token.{begin_object, key, string, number}
use Rattle.json.specs.Tree.{json_tokens}
use Rattle.serde_json.specs.Written.{outline}
use Rattle.album_items.specs.ItemIds.{text_of}
use Rattle.album_wire.specs.ValueJson.{item_list_json}
use Rattle.album_wire.proofs.AnswerTexts.{children_text}
use Rattle.album_wire.proofs.served_json.children_line.Goals as goal

pub returns : goal.returns
returns c =
    let object : c.as_str.result.now ≡ text_of c.args.album = c.as_str.ensures.value ∙ c.in_ok-object.ensures in
    let client : c.from.result ≡ c.args.client = cc in
    let first : c.put_text.new.out.tokens ≡ begin_object ∷ key (codes "answer") ∷ string (codes "served") ∷ [] =
    c.in_ok-put_text.ensures.tokens
    ∙ (λ i. c.in_ok-out.ensures.tokens i ++ key (codes "answer") ∷ string (codes "served") ∷ []) in
    let second : c.put_children.new.out.tokens
    ≡ (begin_object ∷ key (codes "answer") ∷ string (codes "served") ∷ [])
    ++ key (codes "children") ∷ json_tokens (outline (item_list_json c.args.children.now)) =
    c.in_ok-put_children.ensures.tokens
    ∙ (λ i. first i ++ key (codes "children") ∷ json_tokens (outline (item_list_json c.args.children.now))) in
    let third : c.put_number.new.out.tokens
    ≡ ((begin_object ∷ key (codes "answer") ∷ string (codes "served") ∷ [])
    ++ key (codes "children") ∷ json_tokens (outline (item_list_json c.args.children.now)))
    ++ key (codes "client") ∷ number (decimal c.args.client) ∷ [] =
    c.in_ok-put_number.ensures.tokens
    ∙ (λ i. second i ++ key (codes "client") ∷ number (decimal (client i)) ∷ []) in
    let fourth : c.put_text-2.new.out.tokens
    ≡ (((begin_object ∷ key (codes "answer") ∷ string (codes "served") ∷ [])
    ++ key (codes "children") ∷ json_tokens (outline (item_list_json c.args.children.now)))
    ++ key (codes "client") ∷ number (decimal c.args.client) ∷ [])
    ++ key (codes "object") ∷ string (text_of c.args.album) ∷ [] =
    c.in_ok-put_text-2.ensures.tokens
    ∙ (λ i. third i ++ key (codes "object") ∷ string (object i) ∷ []) in
    let written : c.put_number-2.new.out.tokens
    ≡ ((((begin_object ∷ key (codes "answer") ∷ string (codes "served") ∷ [])
    ++ key (codes "children") ∷ json_tokens (outline (item_list_json c.args.children.now)))
    ++ key (codes "client") ∷ number (decimal c.args.client) ∷ [])
    ++ key (codes "object") ∷ string (text_of c.args.album) ∷ [])
    ++ key (codes "stamp") ∷ number (decimal c.args.stamp) ∷ [] =
    c.in_ok-put_number-2.ensures.tokens
    ∙ (λ i. fourth i ++ key (codes "stamp") ∷ number (decimal (c.value.ensures.value i)) ∷ []) in
    subst (λ (text : List ℕ). IfOk c.end_line.result (λ bytes. bytes.items ≡ text ++ 10 ∷ []))
    (children_text c.args.client c.args.album c.args.stamp c.args.children.now c.put_number-2.new.out.tokens written)
    c.end_line.ensures
