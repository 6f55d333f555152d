-- The texts of answers that are written token by token: `picture_text`, for `picture_line`, `ended_text`, for
-- `ended_line`, `listed_text`, for `listed_line`, and `children_text`, for `children_line`. For `put_rows` and
-- `put_children`: `list-put`.
use Rattle.std.proofs.Common.{◌≡◌, ◌≤◌, ℕ, List, [], ◌∷◌, ◌++◌, codes, decimal, length, take, map, refl, ap, ◌∙◌, append_assoc}
use Rattle.std.proofs.lemmas.List.{take_all}
use Rattle.std.specs.List.{flat_map}
use Rattle.hex.specs.Hex.{encode_lower}
use Rattle.json.specs.Print.{print}
use Rattle.json.specs.Token.{Token, begin_object, end_object, begin_array, end_array, key, string, number}
use Rattle.json.specs.Tree.{json_tokens, items_tokens}
use Rattle.serde_json.specs.Data.{Data}
use Rattle.serde_json.specs.View.{items_of}
use Rattle.serde_json.specs.Written.{compact_text, outline, items_outline}
use Rattle.serde_json.proofs.Texts.{print-outline}
use Rattle.album_items.specs.ItemIds.{text_of}
use Rattle.album_listing.specs.declared.rows.Row.{Row}
use Rattle.album_lines.specs.Spelling.{list_data}
use Rattle.album_wire.specs.ServedJson.{rows_json, picture_served, listed_json, children_json}
use Rattle.album_wire.specs.ValueJson.{item_list_json}
use Rattle.album_wire.specs.OutJson.{ended_json}

-- the tokens of an answer's beginning
abbrev pub begun : List ℕ → ℕ → List Token
begun word client = begin_object ∷ key (codes "answer") ∷ string word ∷ key (codes "client") ∷ number (decimal client) ∷ []

pub picture_text : (client object stamp : ℕ) (title content : List ℕ) (ts : List Token)
    → ts ≡ (((begun (codes "served") client ++ key (codes "content") ∷ string (encode_lower content) ∷ [])
    ++ key (codes "object") ∷ string (text_of object) ∷ []) ++ key (codes "stamp") ∷ number (decimal stamp) ∷ [])
    ++ key (codes "title") ∷ string title ∷ []
    → print (ts ++ end_object ∷ []) ≡ compact_text (picture_served client object stamp title content)
picture_text client object stamp title content ts is =
    ap (λ (us : List Token). print (us ++ end_object ∷ [])) is ∙ print-outline (picture_served client object stamp title content)

pub ended_text : (client : ℕ) (word : List ℕ) (stamp : ℕ) (ts : List Token)
    → ts ≡ begun word client ++ key (codes "stamp") ∷ number (decimal stamp) ∷ []
    → print (ts ++ end_object ∷ []) ≡ compact_text (ended_json client word stamp)
ended_text client word stamp ts is =
    ap (λ (us : List Token). print (us ++ end_object ∷ [])) is ∙ print-outline (ended_json client word stamp)

-- ---- lists

module _ {A : Type 0} (f : A → Data) where
  abbrev pub item-tokens : A → List Token
  item-tokens x = json_tokens (outline (f x))

  -- the tokens of items, and the bracket that closes their list
  pub list-closed :
      (xs : List A) → flat_map item-tokens xs ++ end_array ∷ [] ≡ items_tokens (items_outline (items_of (map f xs)))
  list-closed [] = refl
  list-closed (x ∷ xs) =
      append_assoc (item-tokens x) (flat_map item-tokens xs) (end_array ∷ [])
      ∙ ap (λ (us : List Token). item-tokens x ++ us) (list-closed xs)

  -- a member that is a list: its name and a bracket, the first n of the items and so all, and the bracket
  pub list-put :
      (name : List ℕ) (xs : List A) (n : ℕ) (old begun put whole : List Token) → length xs ≤ n
      → begun ≡ (old ++ key name ∷ []) ++ begin_array ∷ [] → put ≡ begun ++ flat_map item-tokens (take n xs)
      → whole ≡ put ++ end_array ∷ [] → whole ≡ old ++ key name ∷ json_tokens (outline (list_data (map f xs)))
  list-put name xs n old begun put whole all b p w =
      let start = (old ++ key name ∷ []) ++ begin_array ∷ [] in
      let rest = items_tokens (items_outline (items_of (map f xs))) in
      let items : put ≡ start ++ flat_map item-tokens xs =
      p ∙ ap (λ (us : List Token). us ++ flat_map item-tokens (take n xs)) b
      ∙ ap (λ (ys : List A). start ++ flat_map item-tokens ys) (take_all n xs all) in
      w
      ∙ ap (λ (us : List Token). us ++ end_array ∷ []) items
      ∙ append_assoc start (flat_map item-tokens xs) (end_array ∷ [])
      ∙ ap (λ (us : List Token). start ++ us) (list-closed xs)
      ∙ append_assoc (old ++ key name ∷ []) (begin_array ∷ []) rest
      ∙ append_assoc old (key name ∷ []) (begin_array ∷ rest)

pub listed_text : (client album stamp : ℕ) (rows : List Row) (ts : List Token)
    → ts ≡ ((begun (codes "listed") client ++ key (codes "object") ∷ string (text_of album) ∷ [])
    ++ key (codes "rows") ∷ json_tokens (outline (rows_json rows))) ++ key (codes "stamp") ∷ number (decimal stamp) ∷ []
    → print (ts ++ end_object ∷ []) ≡ compact_text (listed_json client album stamp rows)
listed_text client album stamp rows ts is =
    let list = json_tokens (outline (rows_json rows)) in
    ap (λ (us : List Token). print (us ++ end_object ∷ [])) is
    ∙ ap
    (λ (us : List Token). print (begin_object ∷ key (codes "answer") ∷ string (codes "listed") ∷ key (codes "client")
    ∷ number (decimal client) ∷ key (codes "object") ∷ string (text_of album) ∷ key (codes "rows") ∷ us))
    (append_assoc list (key (codes "stamp") ∷ number (decimal stamp) ∷ []) (end_object ∷ []))
    ∙ print-outline (listed_json client album stamp rows)

pub children_text : (client album stamp : ℕ) (children : List ℕ) (ts : List Token)
    → ts ≡ ((((begin_object ∷ key (codes "answer") ∷ string (codes "served") ∷ [])
    ++ key (codes "children") ∷ json_tokens (outline (item_list_json children)))
    ++ key (codes "client") ∷ number (decimal client) ∷ [])
    ++ key (codes "object") ∷ string (text_of album) ∷ []) ++ key (codes "stamp") ∷ number (decimal stamp) ∷ []
    → print (ts ++ end_object ∷ []) ≡ compact_text (children_json client album stamp children)
children_text client album stamp children ts is =
    let list = json_tokens (outline (item_list_json children)) in
    let one = key (codes "client") ∷ number (decimal client) ∷ [] in
    let two = key (codes "object") ∷ string (text_of album) ∷ [] in
    let three = key (codes "stamp") ∷ number (decimal stamp) ∷ [] in
    let regrouped :
    (((list ++ one) ++ two) ++ three) ++ end_object ∷ []
    ≡ list ++ (one ++ (two ++ (three ++ end_object ∷ []))) =
    append_assoc ((list ++ one) ++ two) three (end_object ∷ [])
    ∙ append_assoc (list ++ one) two (three ++ end_object ∷ [])
    ∙ append_assoc list one (two ++ (three ++ end_object ∷ [])) in
    ap (λ (us : List Token). print (us ++ end_object ∷ [])) is
    ∙ ap
    (λ (us : List Token). print (begin_object ∷ key (codes "answer") ∷ string (codes "served")
    ∷ key (codes "children") ∷ us))
    regrouped
    ∙ print-outline (children_json client album stamp children)
