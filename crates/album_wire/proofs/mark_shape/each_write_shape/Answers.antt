use Rattle.std.proofs.Common.{◌≡◌, ◌+◌, suc, List, [], ◌∷◌, ◌++◌, drop, map, Result, Ok, Err, refl, sym, ap, ◌∙◌, append_assoc, add-one, drop-cons}
use Rattle.std.proofs.lemmas.List.{map-append}
use Rattle.serde_json.specs.Data.{Data, Items, item}
use Rattle.album_stamps.specs.declared.refusals.Refusal.{Refusal}
use Rattle.album_stamps.specs.Outcome.{◌>>=◌}
use Rattle.album_lines.specs.Fields.{each}
use Rattle.album_lines.specs.Trees.{value_data, items_data}
use Rattle.album_lines.proofs.Lists.{with_front}
use Rattle.album_wire.specs.MarkShape.{spelled_write, write_shape_of}
use Rattle.album_wire.proofs.mark_shape.each_write_shape.Goals as goal

-- one more, after what was read before
read_one : {A : Type 0} (read : Data → Result A Refusal) (front : List A) (first : A) (d : Data) (ds : Items)
    → read d ≡ Ok first
    → with_front front (each read (item d ds)) ≡ with_front (front ++ first ∷ []) (each read ds)
read_one {A = A} read front first d ds h = rw h (go (each read ds))
  where
    go : (others : Result (List A) Refusal)
        → with_front front (others >>= λ xs. Ok (first ∷ xs)) ≡ with_front (front ++ first ∷ []) others
    go (Ok xs) = ap (λ ys. Ok ys) (sym (append_assoc front (first ∷ []) xs))
    go (Err e) = refl

pub loop-value-preserved : goal.loop-value-preserved
loop-value-preserved c =
    let at = c.loop-value.value-index in
    let rest = drop (at + 1) c.args.values.now in
    let front = map spelled_write c.loop-value.shapes.items in
    let first = spelled_write c.in_ok-write_shape.field-0 in
    let mapped : map spelled_write c.push.new.self.items ≡ front ++ first ∷ [] =
    ap (map spelled_write) c.in_ok-push.ensures.items ∙ map-append spelled_write c.loop-value.shapes.items _ in
    let below = c.loop-value-test.true in
    let cut : drop at c.args.values.now ≡ c.value-item.result ∷ rest =
    drop-cons c.args.values.now at c.value-item.result below
    ∙ ap (λ v. v ∷ drop (suc at) c.args.values.now) (sym c.value-item.is)
    ∙ ap (λ n. c.value-item.result ∷ drop n c.args.values.now) (sym (add-one at)) in
    ap (λ fs. with_front fs (each write_shape_of (items_data rest))) mapped
    ∙ sym (read_one write_shape_of front first (value_data c.value-item.result) (items_data rest) c.in_ok-write_shape.ensures)
    ∙ ap (λ vs. with_front front (each write_shape_of (items_data vs))) (sym cut)
    ∙ c.loop-value.invariant
