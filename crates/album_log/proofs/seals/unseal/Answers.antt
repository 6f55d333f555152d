-- The line's end is compared with the seal of its front.
use Rattle.std.proofs.Common.{◌∙◌, sym, ap, Some, arith}
use Rattle.std.proofs.lemmas.Slice.Eq.{slice_eq-Decides}
use Rattle.std.proofs.lemmas.Bool.{false≢true}
use Rattle.std.proofs.lemmas.Bool.Decides.{Decides-eqb}
use Rattle.album_log.proofs.SealLemmas.{length_of_sealed, back_of_sealed, other_digits}
use Rattle.album_log.proofs.seals.unseal.Goals as goal

pub returns-then-line-lt-SEAL_LEN-clause-found : goal.returns-then-line-lt-SEAL_LEN-clause-found
returns-then-line-lt-SEAL_LEN-clause-found c body is = absurd (omega (arith, length_of_sealed _ body is))

pub returns-then-eq-clause-found : goal.returns-then-eq-clause-found
returns-then-eq-clause-found c body is = ap Some (omega (arith, length_of_sealed _ body is))

pub returns-else-eq-clause-found : goal.returns-else-eq-clause-found
returns-else-eq-clause-found c body is =
    let same = back_of_sealed c.args.line.now body _ _ _ is c.split_at.ensures.front c.split_at.ensures.back (c.as_slice.ensures ∙ c.seal_of.ensures) in
    let passes = (slice_eq-Decides Decides-eqb _ _ _ c.eq.ensures).1 same in
    absurd (false≢true (sym c.if-eq.false ∙ passes))

pub returns-then-eq-clause-other : goal.returns-then-eq-clause-other
returns-then-eq-clause-other c body digits is long differs =
    let same = (slice_eq-Decides Decides-eqb _ _ _ c.eq.ensures).0 c.if-eq.true in
    absurd (other_digits c.args.line.now body digits _ _ _ is long differs c.split_at.ensures.front c.split_at.ensures.back (c.as_slice.ensures ∙ c.seal_of.ensures) same)
