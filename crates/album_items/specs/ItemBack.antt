-- An item is got back from its number.
use Rattle.std.specs.Prelude.{◌≡◌, ◌+◌, ◌*◌, ◌/◌, ◌%◌, ◌<◌, ℕ, refl}
use Rattle.std.proofs.Common.{arith}
use Rattle.album_items.specs.ItemIds.{code_of, kind_with, item, kind_of, number_of}
use Rattle.album_items.specs.declared.item_ids.Kind.{Kind}
use Rattle.album_items.specs.declared.item_ids.Kind.TheVariants as kind
use Rattle.album_items.specs.declared.item_ids.ItemId.TheInside.{Inside}

-- each kind is got back from its code, which is below 4
pub kind_with-code_of : (k : Kind) → kind_with (code_of k) ≡ k
kind_with-code_of kind.Picture = refl
kind_with-code_of kind.Album = refl
kind_with-code_of kind.List = refl
kind_with-code_of kind.Group = refl

pub code_small : (k : Kind) → code_of k < 4
code_small kind.Picture = omega arith
code_small kind.Album = omega arith
code_small kind.List = omega arith
code_small kind.Group = omega arith

-- the parts of an item
pub kind_of-item : (c n : ℕ) → c < 4 → (n * 4 + c) % 4 ≡ c
kind_of-item c n small = omega arith

pub number_of-item : (c n : ℕ) → c < 4 → (n * 4 + c) / 4 ≡ n
number_of-item c n small = omega arith

-- the whole item
pub item_back : (a : Inside) → record {
  kind = kind_with (kind_of (item (code_of a.kind) a.number));
  number = number_of (item (code_of a.kind) a.number);
} ≡ a
item_back a =
    rw (
      kind_of-item (code_of a.kind) a.number (code_small a.kind),
      number_of-item (code_of a.kind) a.number (code_small a.kind),
      kind_with-code_of a.kind,
    ) refl
