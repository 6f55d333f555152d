-- What is read of a mark's line is what spells it. For `marks_by_line`, which is `one_mark_line`.
use Rattle.std.proofs.Common.{◌≡◌, ◌↔◌, ℕ, List, [], ◌∷◌, codes, false, Option, Some, None, Ok, refl, sym, ap, ◌∙◌, subst}
use Rattle.serde_json.specs.Data.{Data, null, boolean, number, string, array, object}
use Rattle.serde_json.specs.Find.{get}
use Rattle.album_items.specs.declared.values.Value.{Value}
use Rattle.album_items.specs.declared.values.Value.TheVariants as value
use Rattle.album_lines.specs.Fields.{sized, is_nothing}
use Rattle.album_lines.specs.Spelling.{IsList, list_data}
use Rattle.album_lines.specs.Values.{each_of}
use Rattle.album_lines.proofs.Json.{two, sized_read}
use Rattle.album_lines.proofs.Steps.{step_taken, same_value, there, taken, each_of_read, read_each_of, zip_through, zip_between}
use Rattle.album_wire.specs.EventShape.{part_named, stamp_named}
use Rattle.album_wire.specs.EventSpelling.{IsStamp, IsPart}
use Rattle.album_wire.specs.ItemShapes.{SpelledValue, item_named, picture_shape_of, value_shape_of}
use Rattle.album_wire.specs.ItemSpelling.{IsItem, IsValue}
use Rattle.album_wire.specs.MarkLine.{written_read, write_read, mark_read, mark_line_of}
use Rattle.album_wire.specs.MarkShape.{SpelledWrite, SpelledMark, written_shape_of, write_shape_of, mark_keys, mark_shape_of}
use Rattle.album_wire.specs.MarkSpelling.{IsWritten, IsWrite, IsMark, IsMarkLine}
use Rattle.album_wire.specs.ObjectSpelling.{HasMember}
use Rattle.album_wire.specs.declared.mark_line.PreparedMark.{PreparedMark}
use Rattle.album_wire.proofs.EventSpelling.{stamp_form, read_stamp, part_form, read_part}
use Rattle.album_wire.proofs.Forms.{step_then, on_test, on_false, names_taken, names_then, member_taken, member_then, member_as, list_taken, list_then, line_by}
use Rattle.album_wire.proofs.ItemSpelling.{ReadsItems, nothing_read, item_form, read_item, value_spelled, value_parts}

-- a value that has a shape is there
shape_there : (d : Data) (s : SpelledValue) → value_shape_of d ≡ Ok s → is_nothing d ≡ false
unfolding picture_shape_of
shape_there null s h = cc
shape_there (boolean b) s h = refl
shape_there (number n) s h = refl
shape_there (string t) s h = refl
shape_there (array ds) s h = refl
shape_there (object ms) s h = refl

pub value_written : (v : Value) (d : Data) → IsValue v d → IsWritten v d
value_written value.Missing d is = absurd is
value_written (value.Picture picture) d is = is
value_written (value.Album album) d is = is
value_written (value.List entries) d is = is
value_written (value.Group group) d is = is

module _ (reads : ReadsItems) where
  -- ---- writes

  written_spelled : (v : Value) (s : Option SpelledValue) (d : Data) → written_shape_of d ≡ Ok s → written_read s ≡ Ok v
      → IsWritten v d
  written_spelled v s d h g =
      on_test (is_nothing d) _ _ s h
      (λ nothing none.
      let missing : None ≡ s = same_value None s none in
      let same : value.Missing ≡ v = same_value _ _ (ap written_read missing ∙ g) in
      let is : IsWritten value.Missing d = nothing_read d nothing in
      subst (λ w. IsWritten w d) same is)
      (λ some.
      let shape = step_taken (value_shape_of d) (λ t. Ok (Some t)) s some in
      let whole : Some shape.0 ≡ s = same_value _ _ shape.2 in
      value_written v d (value_spelled reads v shape.0 d shape.1 (ap written_read whole ∙ g)))

  there_parts : (v : Value) (d : Data) → IsValue v d
      → (s : Option SpelledValue) × (written_shape_of d ≡ Ok s) × (written_read s ≡ Ok v)
  there_parts v d is =
      let parts = value_parts reads v d is in
      let shape : written_shape_of d ≡ Ok (Some parts.0) =
      on_false (is_nothing d) _ _ (Some parts.0) (shape_there d parts.0 parts.1)
      (step_then (value_shape_of d) _ parts.0 _ parts.1 refl) in
      (Some parts.0, shape, parts.2)

  written_parts : (v : Value) (d : Data) → IsWritten v d
      → (s : Option SpelledValue) × (written_shape_of d ≡ Ok s) × (written_read s ≡ Ok v)
  written_parts value.Missing d is = (None, ap written_shape_of is, refl)
  written_parts (value.Picture picture) d is = there_parts (value.Picture picture) d is
  written_parts (value.Album album) d is = there_parts (value.Album album) d is
  written_parts (value.List entries) d is = there_parts (value.List entries) d is
  written_parts (value.Group group) d is = there_parts (value.Group group) d is

  write_of_two : (a b : Data) (s : SpelledWrite) → write_shape_of (list_data (a ∷ b ∷ [])) ≡ Ok s
      → IsItem s.item a × (written_shape_of b ≡ Ok s.value)
  unfolding write_shape_of
  write_of_two a b s h =
      let item = step_taken (item_named a) _ s h in
      let shape = step_taken (written_shape_of b) _ s item.2 in
      let parts : SpelledWrite = record { item = item.0; value = shape.0 } in
      let same : parts ≡ s = same_value parts s shape.2 in
      let Spells : SpelledWrite → Type 0 = λ t. IsItem t.item a × (written_shape_of b ≡ Ok t.value) in
      subst Spells same (item_form reads item.0 a item.1, shape.1)

  write_spelled : (w : ℕ × Value) (s : SpelledWrite) (d : Data)
      → write_read s ≡ Ok w
      → write_shape_of d ≡ Ok s
      → IsWrite w d
  unfolding write_read write_shape_of
  write_spelled w s d g h =
      let long = step_taken (sized 2 d) _ s h in
      let items = sized_read 2 d long.0 long.1 in
      let parts = two items.0 items.2 in
      let is : d ≡ list_data (parts.0 ∷ parts.1 ∷ []) = items.1 ∙ ap array parts.2 in
      let shape = write_of_two parts.0 parts.1 s (ap write_shape_of (sym is) ∙ h) in
      let written = step_taken (written_read s.value) _ w g in
      let made : ℕ × Value = (s.item, written.0) in
      let spells : IsWrite made d = record {
        item_data = parts.0;
        value_data = parts.1;
        parts = is;
        item = shape.0;
        value = written_spelled written.0 s.value parts.1 shape.1 written.1;
      } in
      subst (λ x. IsWrite x d) (same_value made w written.2) spells

  write_parts : (w : ℕ × Value) (d : Data) → IsWrite w d
      → (s : SpelledWrite) × (write_read s ≡ Ok w) × (write_shape_of d ≡ Ok s)
  unfolding write_read write_shape_of
  write_parts w d is =
      let written = written_parts w.1 is.value_data is.value in
      let s : SpelledWrite = record { item = w.0; value = written.0 } in
      let read : write_read s ≡ Ok w = step_then (written_read written.0) _ w.1 w written.2 refl in
      let shape : write_shape_of (list_data (is.item_data ∷ is.value_data ∷ [])) ≡ Ok s =
      step_then (item_named is.item_data) _ w.0 s (read_item reads w.0 is.item_data is.item)
      (step_then (written_shape_of is.value_data) _ written.0 s written.1 refl) in
      (s, read, ap write_shape_of is.parts ∙ shape)

  -- ---- marks

  mark_spelled : (m : PreparedMark) (s : SpelledMark) (d : Data) → mark_shape_of d ≡ Ok s → mark_read s ≡ Ok m
      → IsMark m d
  unfolding mark_shape_of mark_read
  mark_spelled m s d h g =
      let Shape : SpelledWrite → Data → Type 0 = λ w e. write_shape_of e ≡ Ok w in
      let names = names_taken mark_keys d _ s h in
      let items = list_taken (codes "items") d item_named IsItem (item_form reads) _ s names.1 in
      let part = member_taken (codes "part") d part_named IsPart part_form _ s items.2 in
      let stamp = member_taken (codes "stamp") d stamp_named IsStamp stamp_form _ s part.2 in
      let shapes = list_taken (codes "writes") d write_shape_of Shape (λ w e read. read) _ s stamp.2 in
      let spelled : SpelledMark =
      record { part = part.0; stamp = stamp.0; writes = shapes.0; items = items.0 } in
      let shape : spelled ≡ s = same_value _ _ shapes.2 in
      let writes = step_taken (each_of write_read shapes.0) _ m (ap mark_read shape ∙ g) in
      let made : PreparedMark = record { part = part.0; stamp = stamp.0; writes = writes.0; items = items.0 } in
      let each_read = each_of_read write_read shapes.0 writes.0 writes.1 in
      let is : IsMark made d = record {
        names = names.0;
        items = items.1;
        part = part.1;
        stamp = stamp.1;
        writes =
            member_as (codes "writes") d (IsList Shape shapes.0) (IsList IsWrite writes.0)
            (λ e e_is. (e_is.0, e_is.1, zip_through _ _ IsWrite write_spelled writes.0 shapes.0 e_is.0 each_read e_is.2))
            shapes.1;
      } in
      subst (λ k. IsMark k d) (same_value made m writes.2) is

  mark_parts : (m : PreparedMark) (d : Data) → IsMark m d
      → (s : SpelledMark) × (mark_shape_of d ≡ Ok s) × (mark_read s ≡ Ok m)
  unfolding mark_shape_of mark_read
  mark_parts m d is =
      let Shape : SpelledWrite → Data → Type 0 = λ w e. write_shape_of e ≡ Ok w in
      let member = taken (get (codes "writes") d) (IsList IsWrite m.writes) is.writes in
      let between = zip_between _ _ IsWrite write_parts m.writes member.2.0 member.2.2 in
      let s : SpelledMark = record { part = m.part; stamp = m.stamp; writes = between.0; items = m.items } in
      let shaped : HasMember (codes "writes") (IsList Shape between.0) d =
      there (get (codes "writes") d) member.0 (IsList Shape between.0) member.1 (member.2.0, member.2.1, between.2) in
      let shape : mark_shape_of d ≡ Ok s =
      names_then mark_keys d _ s is.names
      (list_then (codes "items") d item_named IsItem m.items (read_item reads) _ s is.items
      (member_then (codes "part") d part_named (IsPart m.part) m.part (read_part m.part) _ s is.part
      (member_then (codes "stamp") d stamp_named (IsStamp m.stamp) m.stamp (read_stamp m.stamp) _ s is.stamp
      (list_then (codes "writes") d write_shape_of Shape between.0 (λ w e read. read) _ s shaped refl)))) in
      let read : mark_read s ≡ Ok m =
      step_then (each_of write_read between.0) _ m.writes _ (read_each_of write_read between.0 m.writes between.1)
      refl in
      (s, shape, read)

  pub one_mark_line : (mark : PreparedMark) (bytes : List ℕ) → (mark_line_of bytes ≡ Ok mark) ↔ IsMarkLine mark bytes
  unfolding mark_line_of
  one_mark_line mark bytes = line_by mark_shape_of mark_read IsMark mark_spelled mark_parts mark bytes
