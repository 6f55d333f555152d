use Rattle.std.proofs.Common.{◌-◌, ◌≤◌, length}
use Rattle.album_lines.specs.declared.tokens.TheConstants.{MAX_DIGITS}
use Rattle.album_lines.proofs.Numerals.{IsRead}
use Rattle.album_lines.proofs.tokens.number_at_front.Given as goal

abbrev pub invariant-loop-len : goal.invariant-loop-len
invariant-loop-len l = record { read : IsRead l.text l.n l.len; short : l.len ≤ MAX_DIGITS }

abbrev pub decreases-loop-len : goal.decreases-loop-len
decreases-loop-len l = length l.text - l.len
