-- A JSON value as the grammar has it, and the value that it is where its numbers are in range.
use Rattle.std.specs.Prelude.{List, Bool, true, ◌&&◌, is_some, unwrap_or, option_map}
use Rattle.std.specs.declared.alloc.Global.{Global}
use Rattle.json.specs.Json as json
use Rattle.json.specs.Value.{value_view, items_view}
use Rattle.json.specs.declared.value.Value.{Value}
use Rattle.serde_json.specs.Data.{Data, null, boolean, number, string, array, object, Items, no_items, item, Members, no_members, put}
use Rattle.serde_json.specs.Read.{number_of}

-- each number in it is in range
abbrev mutual
  pub is_in_range : json.Json → Bool
  is_in_range json.null = true
  is_in_range (json.boolean b) = true
  is_in_range (json.number s) = is_some (number_of s)
  is_in_range (json.string s) = true
  is_in_range (json.array js) = are_in_range js
  is_in_range (json.object ms) = hold_in_range ms

  pub are_in_range : json.Items → Bool
  are_in_range json.no_items = true
  are_in_range (json.item j js) = is_in_range j && are_in_range js

  pub hold_in_range : json.Members → Bool
  hold_in_range json.no_members = true
  hold_in_range (json.member k j ms) = is_in_range j && hold_in_range ms

-- its value, a number that is out of range being nothing; of two members with one name the last counts
abbrev mutual
  pub data_in : json.Json → Data
  data_in json.null = null
  data_in (json.boolean b) = boolean b
  data_in (json.number s) = unwrap_or (option_map number (number_of s)) null
  data_in (json.string s) = string s
  data_in (json.array js) = array (items_in js)
  data_in (json.object ms) = object (members_in ms no_members)

  pub items_in : json.Items → Items
  items_in json.no_items = no_items
  items_in (json.item j js) = item (data_in j) (items_in js)

  pub members_in : json.Members → Members → Members
  members_in json.no_members before = before
  members_in (json.member k j ms) before = members_in ms (put k (data_in j) before)

-- what a value in memory is
abbrev pub value_data : Value Global → Data
value_data v = data_in (value_view v)

abbrev pub items_data : List (Value Global) → Items
items_data vs = items_in (items_view vs)
