use Rattle.std.proofs.Common.{sym, subst, Bool}
use Rattle.album_partition.proofs.StandingLemmas.{IsSetIn, set_with}
use Rattle.album_partition.proofs.standings.Standings.decide.Goals as goal

pub invariant_of-self-2 : goal.invariant_of-self-2
invariant_of-self-2 c =
    set_with c.self.inside.all.entries c.insert.new.self.entries c.self.inside.pending c.remove.new.self c.args.stamp
    c.args.standing c.self.invariant
    (subst (λ (has : Bool). IsSetIn c.args.stamp has c.self.inside.pending c.remove.new.self) (sym c.requires)
    c.remove.ensures.updates.0)
    c.in_ok-insert.ensures.updates.0
