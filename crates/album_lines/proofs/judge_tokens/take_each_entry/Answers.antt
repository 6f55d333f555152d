use Rattle.std.proofs.Common.{ap, ◌≡◌, ◌∷◌, arith}
use Rattle.album_lines.specs.Shapes.{entry_shape_of}
use Rattle.album_lines.specs.Tokens.{Takes}
use Rattle.json.specs.Token.{end_array}
use Rattle.json.specs.Json.{after_end_array}
use Rattle.album_lines.proofs.Taking.{shorter, one_more, all_there}
use Rattle.album_lines.proofs.judge_tokens.take_each_entry.Goals as goal

pub loop-shapes-smaller : goal.loop-shapes-smaller
loop-shapes-smaller c =
    let going : c.take_end.new.self ≡ c.loop-shapes.tokens = grind arith in
    let put = c.in_ok-put_entry.ensures in
    let taken : Takes 1 entry_shape_of c.loop-shapes.tokens put.0 c.put_entry.new.tokens = rw (← going) put.2 in
    shorter 1 c.loop-shapes.tokens c.put_entry.new.tokens taken.0 taken.1

pub loop-shapes-preserved : goal.loop-shapes-preserved
loop-shapes-preserved c =
    let going : c.take_end.new.self ≡ c.loop-shapes.tokens = grind arith in
    let put = c.in_ok-put_entry.ensures in
    let taken : Takes 1 entry_shape_of c.loop-shapes.tokens put.0 c.put_entry.new.tokens = rw (← going) put.2 in
    one_more 1 entry_shape_of c.args.tokens.now c.loop-shapes.tokens c.put_entry.new.tokens _ _ _ c.loop-shapes.invariant put.1 taken

pub returns : goal.returns
returns c =
    let closed : c.loop-shapes.tokens ≡ end_array ∷ c.take_end.new.self = grind arith in
    all_there 1 entry_shape_of c.args.tokens.now c.loop-shapes.tokens c.take_end.new.self _ c.loop-shapes.invariant (ap after_end_array closed)
