-- What is read of a line of an opening is what spells it. For `openings_by_line`, which is `one_opening_line`.
use Rattle.std.proofs.Common.{◌≡◌, ◌↔◌, ℕ, List, [], ◌∷◌, codes, true, false, Option, Some, None, MatchOption, Ok, refl, sym, ap, ◌∙◌, subst}
use Rattle.serde_json.specs.Data.{Data}
use Rattle.serde_json.specs.Find.{get}
use Rattle.album_items.specs.declared.values.Value.{Value}
use Rattle.album_lines.specs.Fields.{guard, has, member_or, text_of, whole_of, truth_of}
use Rattle.album_wire.specs.EventShape.{stamp_named}
use Rattle.album_wire.specs.EventSpelling.{IsStamp}
use Rattle.album_wire.specs.ItemShapes.{SpelledValue, value_shape_of}
use Rattle.album_wire.specs.ItemTexts.{owner_read}
use Rattle.album_wire.specs.OpeningShape.{SpelledHeader, SpelledOpening, Open, Item, Begin, header_keys, item_keys, root_shape_of, header_of, open_shape_of, item_shape_of, begin_shape_of, opening_shape_of}
use Rattle.album_wire.specs.OpeningLine.{root_read, header_with, value_read, opening_read, opening_line_of}
use Rattle.album_wire.specs.ObjectSpelling.{IsWhole, IsTruth, HasMember, HasJust}
use Rattle.album_wire.specs.ItemSpelling.{IsItem, IsValue}
use Rattle.album_wire.specs.OpeningSpelling.{IsRoot, IsHeader, IsFirstValue, IsOpening, IsOpeningLine}
use Rattle.album_wire.specs.declared.opening_line.OpeningLine.{OpeningLine}
use Rattle.album_wire.specs.declared.opening_line.OpeningLine.TheVariants as line
use Rattle.album_wire.specs.declared.opening_shape.Header.{Header}
use Rattle.album_wire.specs.declared.opening_shape.TheConstants.{DEFAULT_LIMIT, DEFAULT_POLICY}
use Rattle.album_lines.proofs.Steps.{step_taken, same_value, test_passed}
use Rattle.album_wire.proofs.Forms.{step_then, string_form, on_test, on_true, on_false, whole_form, read_whole, truth_form, read_truth, names_taken, names_then, member_taken, member_then, member_as, member_parts, may_form, read_may, is_in, is_out, line_by, known_taken, known_then, whole_taken, whole_then}
use Rattle.album_wire.proofs.EventSpelling.{stamp_form, read_stamp}
use Rattle.album_wire.proofs.ItemSpelling.{ReadsItems, owner_form, owner_parts, value_spelled, value_parts, item_taken, item_then}

-- ---- headers

-- the text of a root says who it is, and so does what is read of it
root_form : (o : Option Data) (text root : Option (List ℕ)) → member_or None root_shape_of o ≡ Ok text
    → root_read text ≡ Ok root → MatchOption o (root ≡ None) (IsRoot root)
root_form None text root h g =
    let none : None ≡ text = same_value _ _ h in
    sym (same_value _ _ (ap root_read none ∙ g))
root_form (Some e) text root h g =
    let spelled = step_taken (text_of e) (λ t. Ok (Some t)) text h in
    let some : Some spelled.0 ≡ text = same_value _ _ spelled.2 in
    let name = step_taken (owner_read spelled.0) (λ n. Ok (Some n)) root (ap root_read some ∙ g) in
    let same : Some name.0 ≡ root = same_value _ _ name.2 in
    subst (λ r. IsRoot r e) same (owner_form name.0 spelled.0 name.1 e (string_form spelled.0 e spelled.1))

root_parts : (o : Option Data) (root : Option (List ℕ)) → MatchOption o (root ≡ None) (IsRoot root)
    → (text : Option (List ℕ)) × (member_or None root_shape_of o ≡ Ok text) × (root_read text ≡ Ok root)
root_parts None root is = (None, refl, ap Ok (sym is))
root_parts (Some e) None is = absurd is
root_parts (Some e) (Some name) is =
    let text = owner_parts name e is in (
      Some text.0,
      step_then (text_of e) _ text.0 (Some text.0) text.1 refl,
      step_then (owner_read text.0) _ name (Some name) text.2 refl,
    )

-- what is read of a header with a root
header_form : (s : SpelledHeader) (root : Option (List ℕ)) (d : Data) → header_of d ≡ Ok s → root_read s.root ≡ Ok root
    → IsHeader (header_with s root) d
unfolding header_of
header_form s root d h g =
    let names = names_taken header_keys d _ s h in
    let parts = whole_taken (codes "parts") d _ s names.1 in
    let limit = step_taken (member_or DEFAULT_LIMIT whole_of (get (codes "limit") d)) _ s parts.2 in
    let policy = step_taken (member_or DEFAULT_POLICY whole_of (get (codes "policy") d)) _ s limit.2 in
    let checked = step_taken (member_or false truth_of (get (codes "checked") d)) _ s policy.2 in
    let text = step_taken (member_or None root_shape_of (get (codes "root") d)) _ s checked.2 in
    let first = step_taken (member_or 0 whole_of (get (codes "first") d)) _ s text.2 in
    let trace = step_taken (member_or false truth_of (get (codes "trace") d)) _ s first.2 in
    let made : SpelledHeader =
    record {
      parts = parts.0;
      limit = limit.0;
      policy = policy.0;
      checked = checked.0;
      root = text.0;
      first = first.0;
      trace = trace.0;
    } in
    let same : made ≡ s = same_value made s trace.2 in
    let read : root_read text.0 ≡ Ok root = ap (λ (k : SpelledHeader). root_read k.root) same ∙ g in
    let is : IsHeader (header_with made root) d = record {
      names = names.0;
      parts = parts.1;
      limit = may_form (get (codes "limit") d) DEFAULT_LIMIT whole_of IsWhole whole_form limit.0 limit.1;
      policy = may_form (get (codes "policy") d) DEFAULT_POLICY whole_of IsWhole whole_form policy.0 policy.1;
      checked = may_form (get (codes "checked") d) false truth_of IsTruth truth_form checked.0 checked.1;
      root = root_form (get (codes "root") d) text.0 root text.1 read;
      first = may_form (get (codes "first") d) 0 whole_of IsWhole whole_form first.0 first.1;
      trace = may_form (get (codes "trace") d) false truth_of IsTruth truth_form trace.0 trace.1;
    } in
    subst (λ k. IsHeader (header_with k root) d) same is

-- a header as it is spelled, but for its root
abbrev spelled_with : Header → Option (List ℕ) → SpelledHeader
spelled_with header text = record {
  parts = header.parts;
  limit = header.limit;
  policy = header.policy;
  checked = header.checked;
  root = text;
  first = header.first;
  trace = header.trace;
}

read_header : (header : Header) (text : Option (List ℕ)) (d : Data) → IsHeader header d
    → member_or None root_shape_of (get (codes "root") d) ≡ Ok text → header_of d ≡ Ok (spelled_with header text)
unfolding header_of
read_header header text d is root =
    let s : SpelledHeader = spelled_with header text in
    let limit =
    read_may (get (codes "limit") d) DEFAULT_LIMIT whole_of (IsWhole header.limit) header.limit
    (read_whole header.limit) is.limit in
    let policy =
    read_may (get (codes "policy") d) DEFAULT_POLICY whole_of (IsWhole header.policy) header.policy
    (read_whole header.policy) is.policy in
    let checked =
    read_may (get (codes "checked") d) false truth_of (IsTruth header.checked) header.checked
    (read_truth header.checked) is.checked in
    let first =
    read_may (get (codes "first") d) 0 whole_of (IsWhole header.first) header.first (read_whole header.first)
    is.first in
    let trace =
    read_may (get (codes "trace") d) false truth_of (IsTruth header.trace) header.trace (read_truth header.trace)
    is.trace in
    names_then header_keys d _ s is.names
    (whole_then (codes "parts") d header.parts _ s is.parts
    (step_then (member_or DEFAULT_LIMIT whole_of (get (codes "limit") d)) _ header.limit s limit
    (step_then (member_or DEFAULT_POLICY whole_of (get (codes "policy") d)) _ header.policy s policy
    (step_then (member_or false truth_of (get (codes "checked") d)) _ header.checked s checked
    (step_then (member_or None root_shape_of (get (codes "root") d)) _ text s root
    (step_then (member_or 0 whole_of (get (codes "first") d)) _ header.first s first
    (step_then (member_or false truth_of (get (codes "trace") d)) _ header.trace s trace refl)))))))

open_spelled : (v : OpeningLine) (s : SpelledOpening) (d : Data) → open_shape_of d ≡ Ok s → opening_read s ≡ Ok v
    → IsOpening v d
unfolding open_shape_of opening_read
open_spelled v s d h g =
    let names = names_taken (codes "open" ∷ []) d _ s h in
    let header = known_taken (codes "open") d header_of _ s names.1 in
    let shape : Open header.0 ≡ s = same_value _ _ header.2 in
    let root = step_taken (root_read header.0.root) _ v (ap opening_read shape ∙ g) in
    let same : line.Open (header_with header.0 root.0) ≡ v = same_value _ _ root.2 in
    let is : IsOpening (line.Open (header_with header.0 root.0)) d = record {
      names = names.0;
      value =
          member_as (codes "open") d (λ e. header_of e ≡ Ok header.0) (IsHeader (header_with header.0 root.0))
          (λ e known. header_form header.0 root.0 e known root.1) header.1;
    } in
    subst (λ w. IsOpening w d) same is

open_parts : (header : Header) (d : Data) → HasJust (codes "open") (IsHeader header) d
    → (s : SpelledOpening) × (opening_shape_of d ≡ Ok s) × (opening_read s ≡ Ok (line.Open header))
unfolding open_shape_of opening_read
open_parts header d is =
    let known =
    member_parts (codes "open") d header_of (IsHeader header) (λ s. SpellsIt s)
    (λ e form.
    let root = root_parts (get (codes "root") e) header.root form.root in
    (spelled_with header root.0, read_header header root.0 e form root.1, (root.2, refl))) is.value in
    let s : SpelledOpening = Open known.0 in
    let shape : open_shape_of d ≡ Ok s =
    names_then (codes "open" ∷ []) d _ s is.names (known_then (codes "open") d header_of known.0 _ s known.1 refl) in
    let which : opening_shape_of d ≡ Ok s =
    on_true (has (codes "open") d) _ _ s (is_in (codes "open") (IsHeader header) d is.value) shape in
    let read : opening_read s ≡ Ok (line.Open header) =
    step_then (root_read known.0.root) _ header.root (line.Open header) known.2.0 (ap (λ k. Ok (line.Open k)) known.2.1) in
    (s, which, read)
  where
    SpellsIt : SpelledHeader → Type 0
    SpellsIt s = (root_read s.root ≡ Ok header.root) × (header_with s header.root ≡ header)

-- ---- the end of an opening

begin_spelled : (v : OpeningLine) (s : SpelledOpening) (d : Data) → begin_shape_of d ≡ Ok s → opening_read s ≡ Ok v
    → IsOpening v d
unfolding begin_shape_of opening_read
begin_spelled v s d h g =
    let names = names_taken (codes "begin" ∷ []) d _ s h in
    let begin = member_taken (codes "begin") d truth_of IsTruth truth_form _ s names.1 in
    let test = step_taken (guard begin.0) _ s begin.2 in
    let shape : Begin ≡ s = same_value _ _ test.2 in
    let same : line.Begin ≡ v = same_value _ _ (ap opening_read shape ∙ g) in
    let yes : HasMember (codes "begin") (IsTruth true) d =
    subst (λ b. HasMember (codes "begin") (IsTruth b) d) (test_passed begin.0 test.0 test.1) begin.1 in
    let is : IsOpening line.Begin d = record { names = names.0; value = yes } in
    subst (λ w. IsOpening w d) same is

begin_parts : (d : Data) → HasJust (codes "begin") (IsTruth true) d
    → (s : SpelledOpening) × (opening_shape_of d ≡ Ok s) × (opening_read s ≡ Ok line.Begin)
unfolding begin_shape_of opening_read
begin_parts d is =
    let shape : begin_shape_of d ≡ Ok Begin =
    names_then (codes "begin" ∷ []) d _ Begin is.names
    (member_then (codes "begin") d truth_of (IsTruth true) true (read_truth true) _ Begin is.value refl) in
    let which : opening_shape_of d ≡ Ok Begin =
    on_false (has (codes "open") d) _ _ Begin (is_out _ (codes "open") d is.names refl)
    (on_false (has (codes "item") d) _ _ Begin (is_out _ (codes "item") d is.names refl) shape) in
    (Begin, which, refl)

module _ (reads : ReadsItems) where
  -- ---- items

  item_spelled : (v : OpeningLine) (s : SpelledOpening) (d : Data) → item_shape_of d ≡ Ok s → opening_read s ≡ Ok v
      → IsOpening v d
  unfolding item_shape_of opening_read
  item_spelled v s d h g =
      let Shape : SpelledValue → Data → Type 0 = λ t e. value_shape_of e ≡ Ok t in
      let names = names_taken item_keys d _ s h in
      let item = item_taken reads (codes "item") d _ s names.1 in
      let stamp = step_taken (member_or 0 stamp_named (get (codes "stamp") d)) _ s item.2 in
      let of_value = known_taken (codes "value") d value_shape_of _ s stamp.2 in
      let shape : Item item.0 stamp.0 of_value.0 ≡ s = same_value _ _ of_value.2 in
      let good = step_taken (value_read of_value.0) _ v (ap opening_read shape ∙ g) in
      let same : line.Item item.0 stamp.0 good.0 ≡ v = same_value _ _ good.2 in
      let is : IsFirstValue item.0 stamp.0 good.0 d = record {
        names = names.0;
        item_there = item.1;
        stamped = may_form (get (codes "stamp") d) 0 stamp_named IsStamp stamp_form stamp.0 stamp.1;
        value_there =
            member_as (codes "value") d (Shape of_value.0) (IsValue good.0)
            (λ e read. value_spelled reads good.0 of_value.0 e read good.1) of_value.1;
      } in
      subst (λ w. IsOpening w d) same is

  item_parts : (item stamp : ℕ) (value : Value) (d : Data) → IsFirstValue item stamp value d
      → (s : SpelledOpening) × (opening_shape_of d ≡ Ok s) × (opening_read s ≡ Ok (line.Item item stamp value))
  unfolding item_shape_of opening_read
  item_parts item stamp value d is =
      let stamped =
      read_may (get (codes "stamp") d) 0 stamp_named (IsStamp stamp) stamp (read_stamp stamp) is.stamped in
      let of_value =
      member_parts (codes "value") d value_shape_of (IsValue value) (λ t. value_read t ≡ Ok value)
      (value_parts reads value) is.value_there in
      let s : SpelledOpening = Item item stamp of_value.0 in
      let shape : item_shape_of d ≡ Ok s =
      names_then item_keys d _ s is.names
      (item_then reads (codes "item") d item _ s is.item_there
      (step_then (member_or 0 stamp_named (get (codes "stamp") d)) _ stamp s stamped
      (known_then (codes "value") d value_shape_of of_value.0 _ s of_value.1 refl))) in
      let read : opening_read s ≡ Ok (line.Item item stamp value) =
      step_then (value_read of_value.0) _ value _ of_value.2 refl in
      let which : opening_shape_of d ≡ Ok s =
      on_false (has (codes "open") d) _ _ s (is_out _ (codes "open") d is.names refl)
      (on_true (has (codes "item") d) _ _ s (is_in (codes "item") (IsItem item) d is.item_there) shape) in
      (s, which, read)

  -- ---- lines

  opening_spelled : (v : OpeningLine) (s : SpelledOpening) (d : Data) → opening_shape_of d ≡ Ok s
      → opening_read s ≡ Ok v → IsOpening v d
  opening_spelled v s d h g =
      on_test (has (codes "open") d) _ _ s h (λ _ header. open_spelled v s d header g)
      (λ h. on_test (has (codes "item") d) _ _ s h (λ _ item. item_spelled v s d item g)
      (λ begin. begin_spelled v s d begin g))

  opening_parts : (v : OpeningLine) (d : Data) → IsOpening v d
      → (s : SpelledOpening) × (opening_shape_of d ≡ Ok s) × (opening_read s ≡ Ok v)
  opening_parts (line.Open header) d is = open_parts header d is
  opening_parts (line.Item item stamp value) d is = item_parts item stamp value d is
  opening_parts line.Begin d is = begin_parts d is

  pub one_opening_line : (line : OpeningLine) (bytes : List ℕ)
      → (opening_line_of bytes ≡ Ok line) ↔ IsOpeningLine line bytes
  unfolding opening_line_of
  one_opening_line line bytes = line_by opening_shape_of opening_read IsOpening opening_spelled opening_parts line bytes
