use Rattle.std.proofs.Common.{◌≡◌, ◌*◌, ◌+◌, ◌/◌, ◌%◌, ◌<◌, arith}
use Rattle.std.proofs.Math.Nat.{mod-add-mod}
use Rattle.album_items.specs.ItemIds.{code_of}
use Rattle.album_items.specs.ItemBack.{code_small}
use Rattle.album_items.proofs.item_ids.place.Goals as goal

pub returns-clause-place : goal.returns-clause-place
returns-clause-place c =
    let k = code_of c.item.inside.kind in
    let n = c.item.inside.number in
    let small : k < 4 = code_small c.item.inside.kind in
    let e : n * 4 + k ≡ c.args.item = c.item.view_is in
    let a : c.args.item / 4 ≡ n = omega arith in
    let b : c.args.item % 4 ≡ k = omega arith in
    rw (a, b, c.code.ensures) (mod-add-mod n c.args.parts k)
