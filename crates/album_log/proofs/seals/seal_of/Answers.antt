-- The digits are those of the sum.
use Rattle.std.proofs.Common.{◌++◌, ℕ, List, ap, ◌∙◌}
use Rattle.std.specs.Int.{w64, to_be_bytes}
use Rattle.hex.specs.Hex.{encode_lower}
use Rattle.album_log.specs.Seals.{opening, closing, digits_of}
use Rattle.album_log.proofs.seals.seal_of.Goals as goal

pub returns : goal.returns
unfolding digits_of
returns c =
    let written = rw c.unwrap.ensures at c.encode_to_slice.ensures.written in
    let digits = written ∙ ap encode_lower (c.as_slice.ensures ∙ c.to_be_bytes-sum.ensures ∙ ap (λ (n : ℕ). to_be_bytes w64 n) c.digest_of.ensures.value) in
    ap (λ (ds : List ℕ). opening ++ (ds ++ closing)) digits
