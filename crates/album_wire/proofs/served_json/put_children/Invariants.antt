use Rattle.std.proofs.Common.{◌≡◌, ◌++◌, take}
use Rattle.std.specs.List.{flat_map}
use Rattle.album_wire.specs.ValueJson.{item_json}
use Rattle.album_wire.proofs.AnswerTexts.{item-tokens}
use Rattle.album_wire.proofs.served_json.put_children.Given as goal

abbrev pub invariant-loop-child : goal.invariant-loop-child
invariant-loop-child l = record {
  before : l.out.before ≡ l.initial.out.before;
  tokens : l.out.tokens ≡ l.initial.out.tokens ++ flat_map (item-tokens item_json) (take l.child-index l.children);
}
