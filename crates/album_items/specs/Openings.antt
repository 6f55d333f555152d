-- Which states the service may open with.
use Rattle.std.specs.Prelude.{ℕ, List, Bool, true, false, not, ◌&&◌, ◌||◌, ◌==◌, ◌+◌, ◌*◌, nat_le, length, Option, Some, None, if◌then◌else◌}
use Rattle.std.specs.List.{list_all}
use Rattle.std.specs.Option.{option_map_or}
use Rattle.album_lists.specs.Entries.{fits}
use Rattle.album_lists.specs.declared.lists.Holder.{Holder}
use Rattle.album_lists.specs.declared.lists.Holder.TheVariants.{Plain, Folder}
use Rattle.album_stamps.specs.declared.limits.TheConstants.{MAX_PARTS, MIN_MARKS, MAX_MARKS, MAX_CHILDREN, MAX_OPENING_ITEMS, MAX_OPENING_NUMBER, MAX_COUNTER, CLIENTS}
use Rattle.album_items.specs.ItemIds.{list, kind_of, number_of}
use Rattle.album_stamps.specs.Distinct.{no_two, are_distinct}
use Rattle.album_items.specs.FirstStamps.{are_early}
use Rattle.album_items.specs.Values.{is_of, is_there, head_of, children_of}
use Rattle.album_items.specs.declared.values.Value.{Value}
use Rattle.album_items.specs.declared.values.Value.TheVariants as value
use Rattle.album_items.specs.declared.openings.Opening.{Opening}

-- an item with its value
abbrev pub Row : Type 0
Row = ℕ × Value

-- ---- what is tested of one row

-- the value is there, and of its item's kind
abbrev pub has_own_value : Row → Bool
has_own_value row = is_there row.1 && is_of row.1 (kind_of row.0)

-- a number is at most the greatest that may be used
abbrev pub is_low : (greatest number : ℕ) → Bool
is_low greatest number = nat_le number greatest

-- the number of each item is low
abbrev pub are_low : ℕ → List ℕ → Bool
are_low greatest items = list_all (λ item. is_low greatest (number_of item)) items

-- the list that the head names, the home and the children have low numbers (the group may have any)
abbrev pub has_low_numbers : ℕ → Value → Bool
has_low_numbers greatest value.Missing = true
has_low_numbers greatest (value.Picture picture) = is_low greatest picture.head.list && is_low greatest picture.home
has_low_numbers greatest (value.Album album) =
    is_low greatest album.head.list && option_map_or (is_low greatest) album.home true
    && are_low greatest album.children
has_low_numbers greatest (value.List entries) = true
has_low_numbers greatest (value.Group group) = is_low greatest group.head.list

-- so have the item and its value
abbrev pub is_low_row : ℕ → Row → Bool
is_low_row greatest row = is_low greatest (number_of row.0) && has_low_numbers greatest row.1

-- an album has at most 128 children
abbrev pub has_few_children : Row → Bool
has_few_children row = nat_le (length (children_of row.1)) MAX_CHILDREN

-- no album has a child twice
abbrev pub has_single_children : Row → Bool
has_single_children row = are_distinct (children_of row.1)

-- a row of a first epoch is right by itself
abbrev pub is_right_row : Row → Bool
is_right_row row =
    has_own_value row && is_low_row MAX_OPENING_NUMBER row && has_few_children row && has_single_children row

-- ---- what is tested of two rows

-- both are of one item
abbrev pub same_item : Row → Row → Bool
same_item a b = a.0 == b.0

-- the head of the value, if it has one, names this list
abbrev pub names_list : ℕ → Value → Bool
names_list number value = option_map_or (λ head. head.list == number) (head_of value) false

-- the heads of both, if they have any, name one list
abbrev pub same_list : Row → Row → Bool
same_list a b = option_map_or (λ head. names_list head.list b.1) (head_of a.1) false

-- what carries the list of the head
abbrev pub holder_of : Value → Holder
holder_of value.Missing = Plain
holder_of (value.Picture picture) = Plain
holder_of (value.Album album) = Folder
holder_of (value.List entries) = Plain
holder_of (value.Group group) = Plain

-- a list fits the holder
abbrev pub fits_holder : Holder → Value → Bool
fits_holder held value.Missing = true
fits_holder held (value.Picture picture) = true
fits_holder held (value.Album album) = true
fits_holder held (value.List entries) = fits held entries
fits_holder held (value.Group group) = true

-- the number of the list of a picture or a group
abbrev pub plain_list : Value → Option ℕ
plain_list value.Missing = None
plain_list (value.Picture picture) = Some picture.head.list
plain_list (value.Album album) = None
plain_list (value.List entries) = None
plain_list (value.Group group) = Some group.head.list

-- where the second is the list that the head of the first names, it fits
abbrev pub suits : Row → Row → Bool
suits a b =
    option_map_or (λ head. not (b.0 == list head.list) || fits_holder (holder_of a.1) b.1) (head_of a.1) true

-- ---- an opening

-- 1 to 16 partitions
abbrev pub has_parts : ℕ → Bool
has_parts parts = nat_le 1 parts && nat_le parts MAX_PARTS

-- the history of a partition has room for 2 to 1,000,000 marks
abbrev pub has_limit : ℕ → Bool
has_limit limit = nat_le MIN_MARKS limit && nat_le limit MAX_MARKS

-- lists are judged by one of the policies 1 to 3
abbrev pub has_policy : ℕ → Bool
has_policy policy = policy == 1 || policy == 2 || policy == 3

-- a root is named by policy 3 alone
abbrev pub has_root : ℕ → Option (List ℕ) → Bool
has_root policy None = true
has_root policy (Some root) = policy == 3

-- the counters of the stamps that the epochs before drew are at most one that a stamp may have
abbrev pub has_first : ℕ → Bool
has_first first = nat_le first MAX_COUNTER

-- the greatest number that an epoch may find: an object has the number of the stamp that made it, so it is that of the
-- greatest stamp with this counter, and in a first epoch, where no stamp was drawn, 65,535
abbrev pub greatest_number : ℕ → ℕ
greatest_number first = first * CLIENTS + MAX_OPENING_NUMBER

-- its counts are ones, there is a policy of its number, and its clocks begin at a counter
abbrev pub has_counts : Opening → Bool
has_counts opening =
    has_parts opening.parts && has_limit opening.limit && has_policy opening.policy && has_first opening.first

-- at most 4,096 items
abbrev pub has_few_items : List Row → Bool
has_few_items rows = nat_le (length rows) MAX_OPENING_ITEMS

-- no item has two values
abbrev pub has_single_rows : List Row → Bool
has_single_rows rows = no_two same_item rows

-- no two heads name one list
abbrev pub has_own_lists : List Row → Bool
has_own_lists rows = no_two same_list rows

-- a list that a head names, if it is there, fits what carries it
abbrev pub has_fit_lists : List Row → Bool
has_fit_lists rows = list_all (λ row. list_all (suits row) rows) rows

-- the first epoch may open with these, which somebody wrote
abbrev pub are_first_rows : List Row → Bool
are_first_rows rows =
    has_few_items rows && list_all is_right_row rows
    && (has_single_rows rows && has_own_lists rows && has_fit_lists rows)

-- the second is not above the first
abbrev pub is_not_above : Row → Row → Bool
is_not_above a b = nat_le b.0 a.0

-- the items rise
abbrev pub are_rising : List Row → Bool
are_rising rows = no_two is_not_above rows

-- a later epoch may open with these, which the epochs before left, of which the greatest counter was this
abbrev pub are_later_rows : ℕ → List Row → Bool
are_later_rows first rows =
    are_rising rows && list_all has_own_value rows && list_all (is_low_row (greatest_number first)) rows

-- all that an opening must be
abbrev pub is_opening : Opening → Bool
is_opening opening =
    has_counts opening && has_root opening.policy opening.root
    && (if opening.first == 0 then are_first_rows opening.items else are_later_rows opening.first opening.items)
    && are_early (greatest_number opening.first) opening.stamps

-- What partitions may open on: each opening, and what an epoch leaves. Each value is of its item's kind, no item has
-- two, and no number is above those that the epochs before gave.
abbrev pub is_base_opening : Opening → Bool
is_base_opening opening =
    has_counts opening
    && (has_single_rows opening.items && list_all has_own_value opening.items
    && list_all (is_low_row (greatest_number opening.first)) opening.items)
