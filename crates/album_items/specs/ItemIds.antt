-- Items, each seen as one number, and the text of an item, spelled and read.
use Rattle.std.specs.Prelude.{◌≡◌, ◌<◌, ◌^◌, ◌+◌, ◌*◌, ◌/◌, ◌%◌, ◌++◌, ◌==◌, ℕ, zero, suc, Bool, List, codes, bytes_eq, if◌then◌else◌, Option, Some, None, option_map, option_and_then}
use Rattle.std.specs.Fmt.{decimal}
use Rattle.std.specs.List.{before_first, after_first}
use Rattle.album_lists.specs.Whos.{whole_number_of}
use Rattle.album_items.specs.declared.item_ids.Kind.{Kind}
use Rattle.album_items.specs.declared.item_ids.Kind.TheVariants as kind

-- the code of a kind
abbrev pub code_of : Kind → ℕ
code_of kind.Picture = 0
code_of kind.Album = 1
code_of kind.List = 2
code_of kind.Group = 3

-- the kind of a code
abbrev pub kind_with : ℕ → Kind
kind_with zero = kind.Picture
kind_with (suc zero) = kind.Album
kind_with (suc (suc zero)) = kind.List
kind_with (suc (suc (suc n))) = kind.Group

-- the item of this kind's code and this number
abbrev pub item : ℕ → ℕ → ℕ
item code number = number * 4 + code

-- the code of an item's kind
abbrev pub kind_of : ℕ → ℕ
kind_of item = item % 4

-- an item's number
abbrev pub number_of : ℕ → ℕ
number_of item = item / 4

-- the items of each kind
abbrev pub picture : ℕ → ℕ
picture number = item 0 number

abbrev pub album : ℕ → ℕ
album number = item 1 number

abbrev pub list : ℕ → ℕ
list number = item 2 number

abbrev pub group : ℕ → ℕ
group number = item 3 number

-- the partition of an item, of so many
abbrev pub place_of : ℕ → ℕ → ℕ
place_of parts item = (number_of item + kind_of item) % parts

-- ---- spelled

-- the word of a kind, by its code
abbrev pub word_of : ℕ → List ℕ
word_of zero = codes "picture"
word_of (suc zero) = codes "album"
word_of (suc (suc zero)) = codes "list"
word_of (suc (suc (suc n))) = codes "group"

-- the word, a slash, and the number in decimal without leading zeros
abbrev pub text_of : ℕ → List ℕ
text_of item = word_of (kind_of item) ++ codes "/" ++ decimal (number_of item)

-- the text is the item's, whose number is below 2 ^ 64
abbrev pub IsItemText : ℕ → List ℕ → Type 0
IsItemText item text = (number_of item < 2 ^ 64) × (text ≡ text_of item)

-- ---- read: the one item that is spelled so, if there is one

-- the byte is a slash
abbrev pub is_slash : ℕ → Bool
is_slash b = b == 47

-- the code of the kind of this word
unfoldable pub code_named : List ℕ → Option ℕ
code_named word =
    if bytes_eq word (codes "picture") then Some 0
    else if bytes_eq word (codes "album") then Some 1
    else if bytes_eq word (codes "list") then Some 2
    else if bytes_eq word (codes "group") then Some 3
    else None

-- the item that the text names: the kind before its first slash, the number after it
unfoldable pub item_of : List ℕ → Option ℕ
item_of text =
    option_and_then (λ code. option_map (item code) (whole_number_of (after_first is_slash text)))
    (code_named (before_first is_slash text))
