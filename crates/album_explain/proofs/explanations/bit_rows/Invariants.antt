use Rattle.std.proofs.Common.{◌≡◌, ◌++◌, drop, map}
use Rattle.album_access.specs.Bits.{mask_bits}
use Rattle.album_eval.specs.Matching.{case_of}
use Rattle.album_explain.specs.Explanations.{bit_row, row_of, is_row}
use Rattle.album_explain.proofs.Rows.{made}
use Rattle.album_explain.proofs.explanations.bit_rows.Given as goal

abbrev pub invariant-loop-flag : goal.invariant-loop-flag
invariant-loop-flag l =
    map bit_row l.rows.items
    ++ made (λ f. (f.name.now, mask_bits f.value)) (is_row l.mask) (row_of (case_of l.facts) l.list l.holder) (drop l.flag-index l.flag-items)
    ≡ made (λ f. (f.name.now, mask_bits f.value)) (is_row l.mask) (row_of (case_of l.facts) l.list l.holder) l.flag-items
