use Rattle.std.proofs.Common.{refl, sym, ap, ◌∙◌, arith}
use lib.Count.{count_trailing_zeros}
use Rattle.json.specs.Run.{is_stop, is_plain}
use Rattle.album_lines.proofs.Runs.{run_through, run_stops}
use Rattle.album_lines.proofs.tokens.plain_len.Goals as goal

pub returns-then-found-ne0 : goal.returns-then-found-ne0
returns-then-found-ne0 c =
    let found = c.stops-found in
    let run = run_stops is_stop is_plain (λ x. refl) c.args.text.now c.loop-len.len 16 (omega arith) (omega arith) (omega (arith, found.ensures)) ∙ ap (count_trailing_zeros 64) (sym found.ensures) in
    omega (arith, run, c.loop-len.invariant.0)

pub loop-len-preserved : goal.loop-len-preserved
loop-len-preserved c =
    let run = run_through is_stop is_plain (λ x. refl) c.args.text.now c.loop-len.len 16 (omega arith) (omega (arith, c.stops-found.ensures)) in
    (omega (arith, run, c.loop-len.invariant.0), omega arith)
