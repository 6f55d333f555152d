use Rattle.std.proofs.Common.{sym, ap, subst, arith}
use Rattle.album_passes.specs.Cuts.{Cut, Extends}
use Rattle.album_passes.specs.Knowledge.{Knowledge, known}
use Rattle.album_passes.specs.Owner.{OwnerState}
use Rattle.album_passes.proofs.CutLemmas.{extends_marked}
use Rattle.album_passes.proofs.owner.Owner.append.Goals as goal

-- the partition is one of the cut's
pub returns-clause-grown : goal.returns-clause-grown
returns-clause-grown c =
    let h = c.self.inside.holding.seat in
    let wide = c.length.ensures.sound.wide in
    let inside = c.self.invariant.inside in
    let e = extends_marked (known h) c.self.inside.part c.args.mark.now (omega arith) in
    subst (λ (y : Cut × Knowledge). Extends y.0 (known y.1)) (λ i. (ap (λ (o : OwnerState). o.cut) c.self.view_is i, sym c.append.ensures.seat i)) e
