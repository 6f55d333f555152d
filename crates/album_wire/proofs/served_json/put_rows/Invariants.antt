use Rattle.std.proofs.Common.{◌≡◌, ◌++◌, take}
use Rattle.std.specs.List.{flat_map}
use Rattle.album_wire.specs.ServedJson.{row_json}
use Rattle.album_wire.proofs.AnswerTexts.{item-tokens}
use Rattle.album_wire.proofs.served_json.put_rows.Given as goal

abbrev pub invariant-loop-row : goal.invariant-loop-row
invariant-loop-row l = record {
  before : l.out.before ≡ l.initial.out.before;
  tokens : l.out.tokens ≡ l.initial.out.tokens ++ flat_map (item-tokens row_json) (take l.row-index l.rows);
}
