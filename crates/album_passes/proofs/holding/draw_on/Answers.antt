use Rattle.std.proofs.Common.{rules, ◌≡◌, [], ◌∷◌, sym, subst, ap, ◌∙◌, refl, arith}
use Rattle.album_passes.specs.Desk.{DeskState}
use Rattle.album_passes.specs.Knowledge.{first_of}
use Rattle.album_passes.proofs.StepLemmas.{draws}
use Rattle.album_passes.proofs.holding.draw_on.Goals as goal

-- the seat has the cut that it had, and no guest
pub compare_exchange-found-requires : goal.compare_exchange-found-requires
compare_exchange-found-requires g c =
    let one = subst (λ cs. cs ≡ first_of cs ∷ []) (sym (ap (λ m. m.0.cuts) c.loop.invariant.3)) c.requires.one_cut in
    let alone = ap (λ m. m.0.guest) c.loop.invariant.3 ∙ c.requires.alone in
    let d = c.desk.invariant in (
      c.loop.invariant.2 ∙ c.requires.table ∙ sym (ap (λ (p : DeskState). p.table) c.desk.view_is),
      search rules,
      draws _ _ _ _ _ _ _ one alone (let l = c.if-guess-desk.false in let e = d.sessions_are in omega arith) refl,
    )
