use Rattle.std.proofs.Common.{◌∙◌, sym, subst, ℕ, List}
use Rattle.album_partition.specs.Standings.{AreInSet}
use Rattle.album_partition.specs.declared.standings.Standing.{Standing}
use Rattle.album_partition.proofs.StandingLemmas.{set_with, taken_back, was_new}
use Rattle.album_partition.proofs.standings.Standings.begin.Goals as goal

pub invariant_of-self-in-Ok : goal.invariant_of-self-in-Ok
invariant_of-self-in-Ok c =
    set_with c.self.inside.all.entries c.insert-2.new.self.entries c.self.inside.pending c.insert.new.self c.args.stamp _
    c.self.invariant c.in_ok-is_new.ensures.updates.0 c.in-Ok.ensures.updates.0

-- there was no memory for the stamp's state, and the set is as it was
pub invariant_of-self-then-is_new : goal.invariant_of-self-then-is_new
invariant_of-self-then-is_new c =
    let new = was_new _ (sym c.if-is_new.true ∙ c.in_ok-is_new.ensures.added) in
    subst (λ (entries : List (ℕ × Standing)). AreInSet entries c.remove.new.self) (sym c.in-Err.ensures.err)
    (taken_back c.self.inside.all.entries c.self.inside.pending c.insert.new.self c.remove.new.self c.args.stamp
    c.self.invariant new c.in_ok-is_new.ensures.updates.0 c.remove.ensures.updates.0)
