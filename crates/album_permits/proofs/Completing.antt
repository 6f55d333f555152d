-- Each entry that takes note of a reason of a denial (`denied-noted`), or of the first alternative of a need of a granted
-- ask (`first-noted`), has its note, for the law `what_takes_note_is_noted`.
use Rattle.std.proofs.Common.{◌≡◌, ◌<◌, ◌+◌, ◌++◌, ℕ, zero, suc, length, List, [], ◌∷◌, Bool, true, false, Option, Some, None, Contains, is_some, map, take, position, option_map, option_to_list, refl, sym, ap, subst, ◌∙◌, arith, add-one, get_or, if◌then◌else◌}
use Rattle.std.specs.List.{flat_map, cons_option, slice_index_or}
use Rattle.std.specs.Option.{option_map_or}
use Rattle.std.proofs.lemmas.Bool.{both_ways}
use Rattle.std.proofs.lemmas.List.Elements.{Contains-append_left, Contains-append_right, Contains-get_or}
use Rattle.std.proofs.lemmas.List.Quantifiers.{position-Some}
use Rattle.album_items.specs.Values.{head_of}
use Rattle.album_items.specs.declared.values.Head.{Head}
use Rattle.album_eval.specs.Audit.{audited}
use Rattle.album_views.specs.declared.asks.Ask.{Ask}
use Rattle.album_listing.specs.Basis.{Basis}
use Rattle.album_listing.specs.Reasons.{case_on, entries_on, verdict_on, with_verdict, is_grant, is_granted_on}
use Rattle.album_listing.specs.declared.reasons.Alternative.{Alternative}
use Rattle.album_listing.specs.declared.reasons.Reason.{Reason}
use Rattle.album_permits.specs.Findings.{missing_in, reasons_of, is_met, found_by, need_found, and_then_found, needs_found, ruling_of}
use Rattle.album_permits.specs.Needs.{needs_of}
use Rattle.album_permits.specs.Notes.{is_alarm_at, note_by, notes_on, notes_for, checked, need_notes, and_then_noted, needs_noted, notes_of}
use Rattle.album_permits.specs.declared.findings.Finding.{Finding}
use Rattle.album_permits.specs.declared.findings.Finding.TheVariants.{Granted, Denied, Missing}
use Rattle.album_permits.specs.declared.notes.Note.{Note}
use Rattle.album_permits.proofs.Elements.{Each, each-one, first, behind}
use Rattle.album_permits.proofs.NoteVerdicts.{none-met}

-- ---- elements

among-mapped : (f : ℕ → Note) (xs : List ℕ) (x : ℕ) → Contains xs x → Contains (map f xs) (f x)
among-mapped f [] x c = absurd (omega (arith, c.1))
among-mapped f (y ∷ xs) x c = go c.0 c.1 c.2 (among-mapped f xs x)
  where
    go :
        (k : ℕ) → k < suc (length xs) → slice_index_or (y ∷ xs) k x ≡ x
        → (Contains xs x → Contains (map f xs) (f x)) → Contains (f y ∷ map f xs) (f x)
    go zero below same rest = (0, omega arith, ap f same)
    go (suc k) below same rest = behind (f y) (map f xs) (f x) (rest (k, omega (arith, below), same))

among-flat :
    (f : Reason → List Note) (rs : List Reason) (r : Reason) (note : Note) → Contains rs r → Contains (f r) note
    → Contains (flat_map f rs) note
among-flat f [] r note c d = absurd (omega (arith, c.1))
among-flat f (q ∷ rs) r note c d = go c.0 c.1 c.2 (λ e. among-flat f rs r note e d)
  where
    go :
        (k : ℕ) → k < suc (length rs) → slice_index_or (q ∷ rs) k r ≡ r
        → (Contains rs r → Contains (flat_map f rs) note) → Contains (f q ++ flat_map f rs) note
    go zero below same rest =
        Contains-append_left (f q) (flat_map f rs) note (subst (λ (x : Reason). Contains (f x) note) (sym same) d)
    go (suc k) below same rest =
        Contains-append_right (f q) (flat_map f rs) note (rest (k, omega (arith, below), same))

-- ---- one reason

module _ (basis : Basis) where
  for-noted :
      (r : Reason) (head : Head) (index : ℕ) → head_of (basis.seen r.object) ≡ Some head
      → Contains (audited (case_on basis head) r.mask (is_grant r.verdict) (entries_on basis head)) index
      → Contains (notes_for basis r) (note_by r (entries_on basis head) index)
  for-noted r head index e c =
      subst
      (λ (o : Option Head). Contains (flat_map (notes_on basis r) (option_to_list o)) (note_by r (entries_on basis head) index))
      (sym e)
      (Contains-append_left (notes_on basis r head) [] (note_by r (entries_on basis head) index)
      (among-mapped (note_by r (entries_on basis head))
      (audited (case_on basis head) r.mask (is_grant r.verdict) (entries_on basis head)) index c))

  -- ---- one need

  need-noted :
      (need : List Alternative) (r : Reason) (note : Note) → missing_in basis need ≡ None
      → Contains (checked (reasons_of basis need)) r → Contains (notes_for basis r) note
      → Contains (need_notes basis need) note
  need-noted need r note none c d =
      subst
      (λ (o : Option ℕ). Contains (if is_some o then [] else flat_map (notes_for basis) (checked (reasons_of basis need))) note)
      (sym none) (among-flat (notes_for basis) (checked (reasons_of basis need)) r note c d)

  -- where none grants, all are checked
  all-checked :
      (rs : List Reason) (r : Reason) → Each (λ (q : Reason). is_grant q.verdict ≡ false) rs → Contains rs r
      → Contains (checked rs) r
  all-checked rs r none c = go (position (λ (reason : Reason). is_grant reason.verdict) rs) refl
    where
      go :
          (o : Option ℕ) → position (λ (reason : Reason). is_grant reason.verdict) rs ≡ o
          → Contains (option_map_or (λ index. take (index + 1) rs) o rs) r
      go None e = c
      go (Some k) e =
          let p = position-Some (λ (reason : Reason). is_grant reason.verdict) rs k r e in
          absurd (both_ways (is_grant (get_or rs k r).verdict)
          (each-one (λ (q : Reason). is_grant q.verdict ≡ false) rs (get_or rs k r) none (Contains-get_or rs k r p.0))
          p.1)

  -- the first is checked
  first-checked : (r : Reason) (rs : List Reason) → Contains (checked (r ∷ rs)) r
  first-checked r rs = go (position (λ (reason : Reason). is_grant reason.verdict) (r ∷ rs))
    where
      go : (o : Option ℕ) → Contains (option_map_or (λ index. take (index + 1) (r ∷ rs)) o (r ∷ rs)) r
      go None = first r rs
      go (Some k) = rw add-one (first r (take k rs))

  -- what a denied need means
  denied-need :
      (need : List Alternative) (reasons : List Reason) (r : Reason) (note : Note)
      → need_found basis need ≡ Denied reasons → Contains reasons r → Contains (notes_for basis r) note
      → Contains (need_notes basis need) note
  denied-need need reasons r note e c d = missing (missing_in basis need) refl e
    where
      met :
          (b : Bool) → missing_in basis need ≡ None → is_met (reasons_of basis need) ≡ b
          → (if b then Granted else Denied (reasons_of basis need)) ≡ Denied reasons
          → Contains (need_notes basis need) note
      met true none m e = absurd (cc)
      met false none m e =
          let same : reasons_of basis need ≡ reasons = cc in
          let here : Contains (reasons_of basis need) r = subst (λ (rs : List Reason). Contains rs r) (sym same) c in
          let lacks = none-met (reasons_of basis need) m in
          need-noted need r note none (all-checked (reasons_of basis need) r lacks here) d

      missing :
          (o : Option ℕ) → missing_in basis need ≡ o → found_by o (reasons_of basis need) ≡ Denied reasons
          → Contains (need_notes basis need) note
      missing (Some object) none e = absurd (cc)
      missing None none e = met (is_met (reasons_of basis need)) none refl e

  -- ---- all needs

  denied-needs :
      (needs : List (List Alternative)) (reasons : List Reason) (r : Reason) (note : Note)
      → needs_found basis needs ≡ Denied reasons → Contains reasons r → Contains (notes_for basis r) note
      → Contains (needs_noted basis needs) note
  denied-needs [] reasons r note e c d = absurd (cc)
  denied-needs (need ∷ needs) reasons r note e c d =
      go (need_found basis need) refl e (λ f. denied-needs needs reasons r note f c d)
    where
      go :
          (f : Finding) → need_found basis need ≡ f → and_then_found f (needs_found basis needs) ≡ Denied reasons
          → (needs_found basis needs ≡ Denied reasons → Contains (needs_noted basis needs) note)
          → Contains (and_then_noted f (need_notes basis need) (needs_noted basis needs)) note
      go Granted same e rest =
          Contains-append_right (need_notes basis need) (needs_noted basis needs) note (rest e)
      go (Denied rs) same e rest = denied-need need reasons r note (same ∙ e) c d
      go (Missing object) same e rest = absurd (cc)

  -- a granted need has no missing object
  granted-there : (need : List Alternative) → need_found basis need ≡ Granted → missing_in basis need ≡ None
  granted-there need e = go (missing_in basis need) e
    where
      go : (o : Option ℕ) → found_by o (reasons_of basis need) ≡ Granted → o ≡ None
      go None e = refl
      go (Some object) e = absurd (cc)

  granted-needs :
      (needs : List (List Alternative)) (need : List Alternative) (note : Note)
      → needs_found basis needs ≡ Granted → Contains needs need
      → (missing_in basis need ≡ None → Contains (need_notes basis need) note)
      → Contains (needs_noted basis needs) note
  granted-needs [] need note e c d = absurd (omega (arith, c.1))
  granted-needs (n ∷ needs) need note e c d =
      go (need_found basis n) refl e (λ f k. granted-needs needs need note f k d)
    where
      at :
          (k : ℕ) → k < suc (length needs) → slice_index_or (n ∷ needs) k need ≡ need → need_found basis n ≡ Granted
          → (Contains needs need → Contains (needs_noted basis needs) note)
          → Contains (need_notes basis n ++ needs_noted basis needs) note
      at zero below same found rest =
          let met : need_found basis need ≡ Granted =
          subst (λ (x : List Alternative). need_found basis x ≡ Granted) same found in
          Contains-append_left (need_notes basis n) (needs_noted basis needs) note
          (subst (λ (x : List Alternative). Contains (need_notes basis x) note) (sym same)
          (d (granted-there need met)))
      at (suc k) below same found rest =
          Contains-append_right (need_notes basis n) (needs_noted basis needs) note
          (rest (k, omega (arith, below), same))

      go :
          (f : Finding) → need_found basis n ≡ f → and_then_found f (needs_found basis needs) ≡ Granted
          → (needs_found basis needs ≡ Granted → Contains needs need → Contains (needs_noted basis needs) note)
          → Contains (and_then_noted f (need_notes basis n) (needs_noted basis needs)) note
      go Granted same e rest = at c.0 c.1 c.2 same (rest e)
      go (Denied rs) same e rest = absurd (cc)
      go (Missing object) same e rest = absurd (cc)

  -- what the first alternative of a need is noted
  first-need :
      (a : Alternative) (more : List Alternative) (head : Head) (index : ℕ) (success : Bool)
      → is_granted_on basis a.object a.mask ≡ success → head_of (basis.seen a.object) ≡ Some head
      → Contains (audited (case_on basis head) a.mask success (entries_on basis head)) index
      → missing_in basis (a ∷ more) ≡ None
      → Contains (need_notes basis (a ∷ more)) (record {
        object = a.object;
        mask = a.mask;
        index = index;
        alarm = is_alarm_at (entries_on basis head) index;
        success = success;
      })
  first-need a more head index success g e c none =
      let r : Reason = with_verdict a (verdict_on basis head a.mask) in
      let grants : is_grant (verdict_on basis head a.mask) ≡ success =
      sym (ap
      (λ (o : Option Head). option_map_or (λ (q : Reason). is_grant q.verdict)
      (option_map (λ h. with_verdict a (verdict_on basis h a.mask)) o) false) e)
      ∙ g in
      let here : Contains (checked (reasons_of basis (a ∷ more))) r =
      subst
      (λ (o : Option Head). Contains (checked (cons_option
      (option_map (λ h. with_verdict a (verdict_on basis h a.mask)) o) (reasons_of basis more))) r)
      (sym e) (first-checked r (reasons_of basis more)) in
      subst
      (λ (b : Bool). Contains (need_notes basis (a ∷ more)) (record {
        object = a.object;
        mask = a.mask;
        index = index;
        alarm = is_alarm_at (entries_on basis head) index;
        success = b;
      }))
      grants
      (need-noted (a ∷ more) r (note_by r (entries_on basis head) index) none here
      (for-noted r head index e
      (subst (λ (b : Bool). Contains (audited (case_on basis head) a.mask b (entries_on basis head)) index) (sym grants) c)))

-- ---- the law

-- what is known of a reason of a denial
reason-denied :
    (basis : Basis) (needs : List (List Alternative)) (reasons : List Reason) (r : Reason)
    → needs_found basis needs ≡ Denied reasons → Contains reasons r → is_grant r.verdict ≡ false
reason-denied basis [] reasons r e c = absurd (cc)
reason-denied basis (need ∷ needs) reasons r e c =
    go (need_found basis need) refl e (λ f. reason-denied basis needs reasons r f c)
  where
    met :
        (b : Bool) → is_met (reasons_of basis need) ≡ b
        → (if b then Granted else Denied (reasons_of basis need)) ≡ Denied reasons → is_grant r.verdict ≡ false
    met true m e = absurd (cc)
    met false m e =
        let same : reasons_of basis need ≡ reasons = cc in
        each-one (λ (q : Reason). is_grant q.verdict ≡ false) (reasons_of basis need) r
        (none-met (reasons_of basis need) m) (subst (λ (rs : List Reason). Contains rs r) (sym same) c)

    missing : (o : Option ℕ) → found_by o (reasons_of basis need) ≡ Denied reasons → is_grant r.verdict ≡ false
    missing (Some object) e = absurd (cc)
    missing None e = met (is_met (reasons_of basis need)) refl e

    go :
        (f : Finding) → need_found basis need ≡ f → and_then_found f (needs_found basis needs) ≡ Denied reasons
        → (needs_found basis needs ≡ Denied reasons → is_grant r.verdict ≡ false) → is_grant r.verdict ≡ false
    go Granted same e rest = rest e
    go (Denied rs) same e rest = missing (missing_in basis need) (same ∙ e)
    go (Missing object) same e rest = absurd (cc)

pub denied-noted :
    (basis : Basis) (ask : Ask) (reasons : List Reason) (r : Reason) (head : Head) (index : ℕ)
    → ruling_of basis ask ≡ Denied reasons → Contains reasons r → head_of (basis.seen r.object) ≡ Some head
    → Contains (audited (case_on basis head) r.mask false (entries_on basis head)) index
    → Contains (notes_of basis ask) (record {
      object = r.object;
      mask = r.mask;
      index = index;
      alarm = is_alarm_at (entries_on basis head) index;
      success = false;
    })
denied-noted basis ask reasons r head index e c h d =
    let needs = needs_of basis.seen ask in
    let lacks : is_grant r.verdict ≡ false = reason-denied basis needs reasons r e c in
    subst
    (λ (b : Bool). Contains (notes_of basis ask) (record {
      object = r.object;
      mask = r.mask;
      index = index;
      alarm = is_alarm_at (entries_on basis head) index;
      success = b;
    }))
    lacks
    (denied-needs basis needs reasons r (note_by r (entries_on basis head) index) e c
    (for-noted basis r head index h
    (subst (λ (b : Bool). Contains (audited (case_on basis head) r.mask b (entries_on basis head)) index) (sym lacks) d)))

pub first-noted :
    (basis : Basis) (ask : Ask) (a : Alternative) (more : List Alternative) (head : Head) (index : ℕ) (success : Bool)
    → ruling_of basis ask ≡ Granted → Contains (needs_of basis.seen ask) (a ∷ more)
    → is_granted_on basis a.object a.mask ≡ success → head_of (basis.seen a.object) ≡ Some head
    → Contains (audited (case_on basis head) a.mask success (entries_on basis head)) index
    → Contains (notes_of basis ask) (record {
      object = a.object;
      mask = a.mask;
      index = index;
      alarm = is_alarm_at (entries_on basis head) index;
      success = success;
    })
first-noted basis ask a more head index success e c g h d =
    granted-needs basis (needs_of basis.seen ask) (a ∷ more) (record {
      object = a.object;
      mask = a.mask;
      index = index;
      alarm = is_alarm_at (entries_on basis head) index;
      success = success;
    }) e c
    (λ none. first-need basis a more head index success g h d none)
