-- What each step of a viewing is, for `Viewing::on_names` (`step-closed`, `step-unclosed`, `unclosed-readable`) and for
-- the law `a_view_is_the_first_closed_read` (`closed-by`, `wide-by`, `rounds-by`, `again-by`).
use Rattle.std.proofs.Common.{◌≡◌, ◌≤◌, ◌<◌, ◌+◌, ◌↔◌, ℕ, Bool, true, false, None, Option, List, length, nat_le, nat_lt, if◌then◌else◌, refl, sym, ap, ◌∙◌}
use Rattle.std.proofs.lemmas.Bool.{lt-ltb, le-ltb, ltb-true, ltb-false, le-leb, lt-leb, leb-true, leb-false}
use Rattle.album_stamps.specs.declared.limits.TheConstants.{MAX_READ_ITEMS, MAX_READS}
use Rattle.album_eval.specs.declared.facts.Principal.{Principal}
use Rattle.album_reader.specs.Answers.{ReadVersion}
use Rattle.album_views.specs.Checks.{flaw_of}
use Rattle.album_views.specs.ReadSets.{names_of}
use Rattle.album_views.specs.Steps.{again, unclosed, stepped, AreReadable, AsksReadable}
use Rattle.album_views.specs.Views.{ViewState, ViewingState, IsClosed, is_closed}
use Rattle.album_views.proofs.Closing.{closed-is, is-closed, not-closed, names-readable}
use Rattle.album_views.specs.declared.viewing.ViewStep.{ViewStep}
use Rattle.album_views.specs.declared.viewing.ViewStep.TheVariants.{Again, Closed, Busy}
use Rattle.album_views.specs.declared.viewing.Why.TheVariants.{Rounds, Wide}

pub step-closed :
    (looker : Option Principal) (viewing : ViewingState) (rows : List ReadVersion) → is_closed looker viewing.ask rows ≡ true
    → stepped looker viewing rows ≡ Closed (record { looker = looker; ask = viewing.ask; rows = rows })
step-closed looker viewing rows e =
    ap (λ b. if b then Closed (record { looker = looker; ask = viewing.ask; rows = rows }) else unclosed viewing (names_of rows looker viewing.ask)) e

pub step-unclosed :
    (looker : Option Principal) (viewing : ViewingState) (rows : List ReadVersion) → is_closed looker viewing.ask rows ≡ false
    → stepped looker viewing rows ≡ unclosed viewing (names_of rows looker viewing.ask)
step-unclosed looker viewing rows e =
    ap (λ b. if b then Closed (record { looker = looker; ask = viewing.ask; rows = rows }) else unclosed viewing (names_of rows looker viewing.ask)) e

pub unclosed-wide :
    (viewing : ViewingState) (names : List ℕ) → MAX_READ_ITEMS < length names → unclosed viewing names ≡ Busy Wide
unclosed-wide viewing names l = ap (λ b. if b then Busy Wide else again viewing names) (lt-ltb MAX_READ_ITEMS (length names) l)

pub unclosed-again :
    (viewing : ViewingState) (names : List ℕ)
    → length names ≤ MAX_READ_ITEMS → unclosed viewing names ≡ again viewing names
unclosed-again viewing names l =
    ap (λ b. if b then Busy Wide else again viewing names) (le-ltb MAX_READ_ITEMS (length names) l)

pub again-readable : (viewing : ViewingState) (items : List ℕ) → AreReadable items → AsksReadable (again viewing items)
again-readable viewing items readable = go (nat_le MAX_READS (viewing.reads + 1))
  where
    go : (b : Bool) → AsksReadable (if b then Busy Rounds else Again (record viewing { reads = viewing.reads + 1 }) items)
    go true = tt
    go false = readable

pub unclosed-readable :
    (looker : Option Principal) (viewing : ViewingState) (rows : List ReadVersion) → flaw_of viewing.ask ≡ None
    → AsksReadable (unclosed viewing (names_of rows looker viewing.ask))
unclosed-readable looker viewing rows sound = go (nat_lt MAX_READ_ITEMS (length names)) refl
  where
    names : List ℕ
    names = names_of rows looker viewing.ask

    go :
        (b : Bool) → nat_lt MAX_READ_ITEMS (length names) ≡ b
        → AsksReadable (if b then Busy Wide else again viewing names)
    go true e = tt
    go false e = again-readable viewing names (names-readable rows looker viewing.ask sound (ltb-false _ _ e))

-- ---- what a step says of the snapshot

module _ (looker : Option Principal) (viewing : ViewingState) (rows : List ReadVersion) where
  abbrev names : List ℕ
  names = names_of rows looker viewing.ask

  abbrev whole : ViewState
  whole = record { looker = looker; ask = viewing.ask; rows = rows }

  abbrev next : ViewingState
  next = record { ask = viewing.ask; reads = viewing.reads + 1 }

  -- the step, by whether the snapshot is closed, its names are too many, and the read was the last one
  abbrev chosen : Bool → Bool → Bool → ViewStep
  chosen closed wide last =
      if closed then Closed whole else if wide then Busy Wide else if last then Busy Rounds else Again next names

  -- what of each test a step shows
  closed-chosen : (a b c : Bool) (view : ViewState) → chosen a b c ≡ Closed view → (a ≡ true) × (view ≡ whole)
  closed-chosen true b c view e = (refl, cc)
  closed-chosen false true c view e = absurd (cc)
  closed-chosen false false true view e = absurd (cc)
  closed-chosen false false false view e = absurd (cc)

  wide-chosen : (a b c : Bool) → chosen a b c ≡ Busy Wide → (a ≡ false) × (b ≡ true)
  wide-chosen true b c e = absurd (cc)
  wide-chosen false true c e = (refl, refl)
  wide-chosen false false true e = absurd (cc)
  wide-chosen false false false e = absurd (cc)

  rounds-chosen : (a b c : Bool) → chosen a b c ≡ Busy Rounds → (a ≡ false) × (b ≡ false) × (c ≡ true)
  rounds-chosen true b c e = absurd (cc)
  rounds-chosen false true c e = absurd (cc)
  rounds-chosen false false true e = (refl, refl, refl)
  rounds-chosen false false false e = absurd (cc)

  again-chosen :
      (a b c : Bool) (other : ViewingState) (items : List ℕ) → chosen a b c ≡ Again other items
      → (a ≡ false) × (b ≡ false) × (c ≡ false) × (items ≡ names) × (other ≡ next)
  again-chosen true b c other items e = absurd (cc)
  again-chosen false true c other items e = absurd (cc)
  again-chosen false false true other items e = absurd (cc)
  again-chosen false false false other items e = (refl, refl, refl, cc, cc)

  -- the same, of the tests themselves
  is-lacking : (IsClosed looker viewing.ask rows → ⊥) → is_closed looker viewing.ask rows ≡ false
  is-lacking lacking = go (is_closed looker viewing.ask rows) refl
    where
      go : (b : Bool) → is_closed looker viewing.ask rows ≡ b → is_closed looker viewing.ask rows ≡ false
      go false e = e
      go true e = absurd (lacking (closed-is rows looker viewing.ask e))

  pub closed-by :
      (view : ViewState) → (stepped looker viewing rows ≡ Closed view) ↔ (IsClosed looker viewing.ask rows × (view ≡ whole))
  closed-by view = (
    λ e. (let all = closed-chosen _ _ _ view e in (closed-is rows looker viewing.ask all.0, all.1)),
    λ h. step-closed looker viewing rows (is-closed rows looker viewing.ask h.0) ∙ ap Closed (sym h.1),
  )

  pub wide-by :
      (stepped looker viewing rows ≡ Busy Wide)
      ↔ ((IsClosed looker viewing.ask rows → ⊥) × (MAX_READ_ITEMS < length (names_of rows looker viewing.ask)))
  wide-by = (
    λ e. (let all = wide-chosen _ _ _ e in (not-closed rows looker viewing.ask all.0, ltb-true _ _ all.1)),
    λ h. step-unclosed looker viewing rows (is-lacking h.0) ∙ unclosed-wide viewing names h.1,
  )

  pub rounds-by :
      (stepped looker viewing rows ≡ Busy Rounds)
      ↔ ((IsClosed looker viewing.ask rows → ⊥)
      × (length (names_of rows looker viewing.ask) ≤ MAX_READ_ITEMS)
      × (MAX_READS ≤ viewing.reads + 1))
  rounds-by = (
    λ e. (let all = rounds-chosen _ _ _ e in
        (not-closed rows looker viewing.ask all.0, ltb-false _ _ all.1, leb-true _ _ all.2)),
    λ h. step-unclosed looker viewing rows (is-lacking h.0)
        ∙ unclosed-again viewing names h.1
        ∙ ap (λ b. if b then Busy Rounds else Again next names) (le-leb MAX_READS (viewing.reads + 1) h.2),
  )

  pub again-by :
      (other : ViewingState) (items : List ℕ)
      → (stepped looker viewing rows ≡ Again other items)
      ↔ ((IsClosed looker viewing.ask rows → ⊥)
      × (length (names_of rows looker viewing.ask) ≤ MAX_READ_ITEMS)
      × (viewing.reads + 1 < MAX_READS)
      × (items ≡ names_of rows looker viewing.ask)
      × (other ≡ record { ask = viewing.ask; reads = viewing.reads + 1 }))
  again-by other items = (
    λ e. (let all = again-chosen _ _ _ other items e in
        (not-closed rows looker viewing.ask all.0, ltb-false _ _ all.1, leb-false _ _ all.2, all.3, all.4)),
    λ h. step-unclosed looker viewing rows (is-lacking h.0)
        ∙ unclosed-again viewing names h.1
        ∙ ap (λ b. if b then Busy Rounds else Again next names) (lt-leb MAX_READS (viewing.reads + 1) h.2)
        ∙ ap (λ (v : ViewingState). Again v names) (sym h.4)
        ∙ ap (λ (is : List ℕ). Again other is) (sym h.3),
  )
