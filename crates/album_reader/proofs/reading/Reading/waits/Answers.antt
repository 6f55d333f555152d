use Rattle.std.proofs.Common.{◌≡◌, Bool, true, false, refl, sym, subst, ◌∙◌}
use Rattle.album_reader.specs.Rounds.{RoundState, IsOpen}
use Rattle.album_reader.proofs.Ends.{waits_open}
use Rattle.album_reader.proofs.reading.Reading.waits.Goals as goal

-- the round continues, or is as it was
pub invariant_of-self-2 : goal.invariant_of-self-2
invariant_of-self-2 c = go c.in_ok-waits.field-0 refl
  where
    go : (b : Bool) → c.in_ok-waits.field-0 ≡ b → IsOpen c.waits.new.self
    go true e =
        waits_open c.self.inside.round c.waits.new.self c.args.message.now
        (sym c.is_gone.ensures ∙ c.if-is_gone.false) (c.in_ok-waits.ensures.step e) c.self.invariant
    go false e = subst (λ (r : RoundState). IsOpen r) (sym (c.in_ok-waits.ensures.left e)) c.self.invariant
