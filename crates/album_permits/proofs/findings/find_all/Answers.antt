use Rattle.std.proofs.Common.{◌≡◌, ◌∙◌, ◌+◌, ◌<◌, ◌++◌, ◌⊎◌, ℕ, suc, List, ◌∷◌, length, get_or, drop, drop-cons, add-one, ap, sym, append_assoc, arith, inl, inr}
use Rattle.album_listing.specs.Basis.{Basis}
use Rattle.album_listing.specs.RulingContexts.{basis_of}
use Rattle.album_listing.specs.declared.reasons.Alternative.{Alternative}
use Rattle.album_listing.specs.declared.reasons.Reason.{Reason}
use Rattle.album_permits.specs.Findings.{need_found, needs_found, and_then_found}
use Rattle.album_permits.specs.Notes.{need_notes, needs_noted, and_then_noted}
use Rattle.album_permits.specs.declared.findings.Finding.{Finding}
use Rattle.album_permits.specs.declared.findings.Finding.TheVariants.{Granted, Denied, Missing}
use Rattle.album_permits.specs.declared.notes.Note.{Note}
use Rattle.album_permits.proofs.findings.find_all.Goals as goal

-- the needs from an index on are the one there, and those after it
front : (needs : List (List Alternative)) (i : ℕ) (need item : List Alternative) → i < length needs → need ≡ item → item ≡ get_or needs i item → drop i needs ≡ need ∷ drop (i + 1) needs
front needs i need item within same here =
    rw add-one (drop-cons needs i item within ∙ ap (λ y. y ∷ drop (suc i) needs) (sym here ∙ sym same))

found_next : (basis : Basis) (need : List Alternative) (needs rest : List (List Alternative)) (finding : Finding) → needs ≡ need ∷ rest → finding ≡ need_found basis need → needs_found basis needs ≡ and_then_found finding (needs_found basis rest)
found_next basis need needs rest finding is found =
    ap (needs_found basis) is ∙ ap (λ (f : Finding). and_then_found f (needs_found basis rest)) (sym found)

noted_next : (basis : Basis) (need : List Alternative) (needs rest : List (List Alternative)) (finding : Finding) → needs ≡ need ∷ rest → finding ≡ need_found basis need → needs_noted basis needs ≡ and_then_noted finding (need_notes basis need) (needs_noted basis rest)
noted_next basis need needs rest finding is found =
    ap (needs_noted basis) is
    ∙ ap (λ (f : Finding). and_then_noted f (need_notes basis need) (needs_noted basis rest)) (sym found)

-- what fails decides
failed : (finding later : Finding) (notes more : List Note) → ((reasons : List Reason) × (finding ≡ Denied reasons)) ⊎ ((object : ℕ) × (finding ≡ Missing object)) → (and_then_found finding later ≡ finding) × (and_then_noted finding notes more ≡ notes)
failed finding later notes more (inl is) =
    (ap (λ (f : Finding). and_then_found f later) is.1 ∙ sym is.1, ap (λ (f : Finding). and_then_noted f notes more) is.1)
failed finding later notes more (inr is) =
    (ap (λ (f : Finding). and_then_found f later) is.1 ∙ sym is.1, ap (λ (f : Finding). and_then_noted f notes more) is.1)

pub returns-in-Denied : goal.returns-in-Denied
returns-in-Denied c =
    let basis : Basis = basis_of c.args.context.now in
    let need : List Alternative = c.as_slice.result.now in
    let needs : List (List Alternative) = drop c.loop-need.need-index c.args.needs.now in
    let rest : List (List Alternative) = drop (c.loop-need.need-index + 1) c.args.needs.now in
    let finding : Finding = c.in_ok-finding.finding in
    let at : needs ≡ need ∷ rest = front c.args.needs.now c.loop-need.need-index need c.need-item.result (omega (arith, c.loop-need-test.true)) c.as_slice.ensures c.need-item.is in
    let fails : (and_then_found finding (needs_found basis rest) ≡ finding) × (and_then_noted finding (need_notes basis need) (needs_noted basis rest) ≡ need_notes basis need) = failed finding (needs_found basis rest) (need_notes basis need) (needs_noted basis rest) c.in-Denied.is in
    record {
      finding = sym
          (c.loop-need.invariant.0
          ∙ found_next basis need needs rest finding at c.in_ok-finding.ensures.finding
          ∙ fails.0);
      notes = sym
          (c.loop-need.invariant.1
          ∙ ap (λ (notes : List Note). c.loop-need.notes.items ++ notes)
          (noted_next basis need needs rest finding at c.in_ok-finding.ensures.finding ∙ fails.1)
          ∙ sym c.in_ok-finding.ensures.notes);
      memory = tt;
    }

pub loop-need-preserved : goal.loop-need-preserved
loop-need-preserved c =
    let basis : Basis = basis_of c.args.context.now in
    let need : List Alternative = c.as_slice.result.now in
    let needs : List (List Alternative) = drop c.loop-need.need-index c.args.needs.now in
    let rest : List (List Alternative) = drop (c.loop-need.need-index + 1) c.args.needs.now in
    let at : needs ≡ need ∷ rest = front c.args.needs.now c.loop-need.need-index need c.need-item.result (omega (arith, c.loop-need-test.true)) c.as_slice.ensures c.need-item.is in
    let granted : Granted ≡ need_found basis need = sym c.in-Granted.is ∙ c.in_ok-finding.ensures.finding in (
      c.loop-need.invariant.0 ∙ found_next basis need needs rest Granted at granted,
      c.loop-need.invariant.1
          ∙ ap (λ (notes : List Note). c.loop-need.notes.items ++ notes)
          (noted_next basis need needs rest Granted at granted)
          ∙ sym (append_assoc c.loop-need.notes.items (need_notes basis need) (needs_noted basis rest))
          ∙ ap (λ (notes : List Note). notes ++ needs_noted basis rest) (sym c.in_ok-finding.ensures.notes),
    )
