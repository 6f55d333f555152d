use Rattle.std.proofs.Common.{refl, sym, ◌∙◌}
use Rattle.album_permits.proofs.Agreeing.{ruling-alike, notes-alike}
use Rattle.album_permits.proofs.ruling_laws.one_ruling.Goals as goal

-- a snapshot agrees with itself
pub returns : goal.returns
returns c =
    record {
      ruling = λ policy me view one other l m.
          l.finding
          ∙ ruling-alike policy me view.ask view.rows view.rows l.basis m.basis (record { same = λ item named. refl }) l.based m.based
          ∙ sym m.finding;
      notes = λ policy me view one other l m.
          l.noted
          ∙ notes-alike policy me view.ask view.rows view.rows l.basis m.basis (record { same = λ item named. refl }) l.based m.based
          ∙ sym m.noted;
    }
