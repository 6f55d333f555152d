use Rattle.std.proofs.Common.{Bor, [], ◌∷◌, map, subst, sym, ℕ, List, ◌≡◌, if◌then◌else◌}
use Rattle.std.proofs.lemmas.List.{map-append}
use Rattle.album_items.specs.FirstStamps.{first_stamp}
use Rattle.album_epochs.specs.Folding.{stamp_left, kept_in}
use Rattle.album_epochs.proofs.StampLemmas.{is_in, left_more}
use Rattle.album_epochs.proofs.folds.stamps_of.Goals as goal

pub loop-item-preserved : goal.loop-item-preserved
loop-item-preserved c =
    let left : ℕ → ℕ = λ q. stamp_left c.args.stamps.now q (kept_in c.args.found.now q) in
    subst (λ (items : List ℕ). (q : ℕ) → first_stamp c.note.new.self q ≡ (if is_in items q then left q else 0))
    (sym (map-append (λ (item : Bor ℕ). item.now) c.loop-item.yielded (c.in-Some.item ∷ [])))
    (left_more c.loop-item.next c.note.new.self left (map (λ (item : Bor ℕ). item.now) c.loop-item.yielded) c.in-Some.item.now
    c.stamp_left.result c.loop-item.invariant c.stamp_left.ensures c.in_ok-note.ensures.item)
