-- The outcome of one read more for an ask: `done_so` and `gone_so`. And that of all reads so far: `looking_first`,
-- `looking_next`, `looks_seen` and `looks_busy`.
use Rattle.std.proofs.Common.{◌≡◌, inl, inr, ℕ, ◌+◌, ◌<◌, ◌≤◌, Bool, true, false, None, List, [], ◌∷◌, ◌++◌, length, length-append, nat_le, nat_lt, if◌then◌else◌, refl, sym, ◌∙◌, subst, arith, Option}
use Rattle.std.proofs.lemmas.Bool.{ltb-true, ltb-false, leb-true}
use Rattle.album_stamps.specs.declared.limits.TheConstants.{MAX_READ_ITEMS, MAX_READS}
use Rattle.album_reader.specs.Answers.{ReadVersion}
use Rattle.album_reader.specs.Snapshots.{items_read}
use Rattle.album_passes.specs.Cuts.{Cut, IsSound, Extends}
use Rattle.album_passes.proofs.CutLemmas.{extends_trans}
use Rattle.album_views.specs.Asks.{objects_of}
use Rattle.album_views.specs.Checks.{flaw_of}
use Rattle.album_views.specs.ReadSets.{names_of}
use Rattle.album_views.specs.Steps.{again, stepped, AreReadable, AsksReadable}
use Rattle.album_views.specs.Views.{ViewState, ViewingState, IsClosed, is_closed}
use Rattle.album_views.specs.declared.asks.Ask.{Ask}
use Rattle.album_views.specs.declared.viewing.ViewStep.{ViewStep}
use Rattle.album_views.specs.declared.viewing.ViewStep.TheVariants.{Again, Closed, Busy}
use Rattle.album_views.specs.declared.viewing.Why.{Why}
use Rattle.album_views.specs.declared.viewing.Why.TheVariants.{Rounds, Wide}
use Rattle.album_views.proofs.Closing.{closed-is, not-closed}
use Rattle.album_grounds.specs.Looks.{IsViewOf, IsVain, LooksOnce, IsLooking, IsBusy, items_next}
use Rattle.album_grounds.specs.Grounds.{IsSeen, AreInVain, IsOutOfReads, trims_in}
use Rattle.album_grounds.specs.Grounds.AreInVain.{NoRead, OneMore}
use Rattle.album_grounds.specs.Replies.{IsReadOf}
use Rattle.album_grounds.proofs.GroundLemmas.{seen_more}
use Rattle.album_grounds.proofs.TrimLemmas.{trims_stay}
use Rattle.album_eval.specs.declared.facts.Principal.{Principal}

-- ---- the outcome of a read

module _ (b c : Cut) (looker : Option Principal) (viewing : ViewingState) (items : List ℕ) where
  abbrev next : ViewingState
  next = record { ask = viewing.ask; reads = viewing.reads + 1 }

  -- the step, by whether what was read is closed, its names are too many, and the read was the last one
  abbrev chosen : List ReadVersion → Bool → Bool → Bool → ViewStep
  chosen rows closed wide last =
      if closed then Closed (record { looker = looker; ask = viewing.ask; rows = rows })
      else if wide then Busy Wide
      else if last then Busy Rounds
      else Again next (names_of rows looker viewing.ask)

  -- it is done, and closed, names too many items, is the last one, or is read anew
  pub done_so : (rows : List ReadVersion) (step : ViewStep) → IsSound c → flaw_of viewing.ask ≡ None → IsReadOf b c items rows
      → step ≡ stepped looker viewing rows → AsksReadable step → LooksOnce b c looker viewing items step
  done_so rows step s flawless read is readable =
      go (is_closed looker viewing.ask rows) (nat_lt MAX_READ_ITEMS (length names)) (nat_le MAX_READS (viewing.reads + 1)) refl refl refl is
    where
      names : List ℕ
      names = names_of rows looker viewing.ask

      vain : is_closed looker viewing.ask rows ≡ false → nat_lt MAX_READ_ITEMS (length names) ≡ false → IsVain b c looker viewing.ask items rows
      vain e f = record {
        of = read.items_are;
        seen = read.seen;
        lacking = not-closed rows looker viewing.ask e;
        few = ltb-false _ _ f;
      }

      go : (x y z : Bool) → is_closed looker viewing.ask rows ≡ x → nat_lt MAX_READ_ITEMS (length names) ≡ y
          → nat_le MAX_READS (viewing.reads + 1) ≡ z → step ≡ chosen rows x y z → LooksOnce b c looker viewing items step
      go true y z e f g h =
          subst (LooksOnce b c looker viewing items) (sym h) (record {
            of = refl;
            by = refl;
            is = record { sound = flawless; closed = closed-is rows looker viewing.ask e };
            seen = read.seen;
            sound = s;
          })
      go false true z e f g h =
          subst (LooksOnce b c looker viewing items) (sym h) (record {
            rows = rows;
            seen = read.seen;
            lacking = not-closed rows looker viewing.ask e;
            wide = ltb-true _ _ f;
          })
      go false false true e f g h = subst (LooksOnce b c looker viewing items) (sym h) (leb-true _ _ g, inl (rows, vain e f))
      go false false false e f g h =
          subst (LooksOnce b c looker viewing items) (sym h) (refl, subst AsksReadable h readable, inl (rows, vain e f, refl))

  -- a trim has let go of an item's version
  pub gone_so : (step : ViewStep) → trims_in b < trims_in c → AreReadable items → step ≡ again viewing items
      → LooksOnce b c looker viewing items step
  gone_so step more readable is = go (nat_le MAX_READS (viewing.reads + 1)) refl is
    where
      go : (z : Bool) → nat_le MAX_READS (viewing.reads + 1) ≡ z → step ≡ (if z then Busy Rounds else Again next items)
          → LooksOnce b c looker viewing items step
      go true g h = subst (LooksOnce b c looker viewing items) (sym h) (leb-true _ _ g, inr more)
      go false g h = subst (LooksOnce b c looker viewing items) (sym h) (refl, readable, inr (more, refl))

-- ---- reads in vain

-- what was seen since a later cut was seen since an earlier one
pub seen_from : (a b c : Cut) (rows : List ReadVersion) → Extends a b → IsSeen b c rows → IsSeen a c rows
seen_from a b c rows x h = record {
  atomic = h.atomic;
  at = h.at;
  since = extends_trans a b h.at x h.since;
  until = h.until;
  sound = h.sound;
  known = h.known;
  fresh = h.fresh;
  settled = h.settled;
}

in_vain_more : (a b c : Cut) (looker : Option Principal) (ask : Ask) (items : List ℕ) (reads : List (List ReadVersion)) → IsSound b → IsSound c
    → Extends a b → Extends b c → AreInVain a b looker ask items reads → AreInVain a c looker ask items reads
in_vain_more a b c looker ask _ _ s r x y (NoRead items) = NoRead items
in_vain_more a b c looker ask _ _ s r x y (OneMore items rows later of seen lacking few rest) =
    OneMore items rows later of (seen_more a b c rows s r x y seen) lacking few
    (in_vain_more a b c looker ask (names_of rows looker ask) later s r x y rest)

in_vain_push : (a c : Cut) (looker : Option Principal) (ask : Ask) (items : List ℕ) (reads : List (List ReadVersion)) (rows : List ReadVersion)
    → AreInVain a c looker ask items reads → items_read rows ≡ items_next looker ask items reads → IsSeen a c rows
    → (IsClosed looker ask rows → ⊥) → length (names_of rows looker ask) ≤ MAX_READ_ITEMS
    → AreInVain a c looker ask items (reads ++ rows ∷ [])
in_vain_push a c looker ask _ _ rows (NoRead items) of seen lacking few =
    OneMore items rows [] of seen lacking few (NoRead (names_of rows looker ask))
in_vain_push a c looker ask _ _ rows (OneMore items first later of_first seen_first lacking_first few_first rest) of seen lacking few =
    OneMore items first (later ++ rows ∷ []) of_first seen_first lacking_first few_first
    (in_vain_push a c looker ask (names_of first looker ask) later rows rest of seen lacking few)

next_push : (looker : Option Principal) (ask : Ask) (items : List ℕ) (reads : List (List ReadVersion)) (rows : List ReadVersion)
    → items_next looker ask items (reads ++ rows ∷ []) ≡ names_of rows looker ask
next_push looker ask items [] rows = refl
next_push looker ask items (first ∷ later) rows = next_push looker ask (names_of first looker ask) later rows

-- ---- so far

pub looking_first : (a c : Cut) (viewing : ViewingState) (items : List ℕ) (looker : Option Principal) (ask : Ask)
    → viewing ≡ record { ask = ask; reads = 0 }
    → items ≡ objects_of ask → AreReadable items → flaw_of ask ≡ None → IsSound a → IsSound c → Extends a c
    → IsLooking a c looker viewing items
looking_first a c viewing items looker ask is of readable flawless r s x =
    subst (λ (v : ViewingState). IsLooking a c looker v items) (sym is) (record {
      flawless = flawless;
      reads = [];
      in_vain = NoRead (objects_of ask);
      next = of;
      all = (let stay = trims_stay a c r s x in omega arith);
      readable = readable;
      sound = s;
    })

pub looks_seen : (a b c : Cut) (looker : Option Principal) (viewing : ViewingState) (items : List ℕ) → Extends a b
    → Extends b c → IsSound c → (ask : Ask) (view : ViewState) → viewing.ask ≡ ask
    → LooksOnce b c looker viewing items (Closed view) → IsViewOf a c looker ask view
looks_seen a b c looker viewing items x y s ask view of is =
    (record {
      of = is.of ∙ of;
      by = is.by;
      is = is.is;
      seen = seen_from a b c view.rows x is.seen;
      sound = s;
    })

module _ (a b c : Cut) (looker : Option Principal) (viewing : ViewingState) (items : List ℕ)
    (h : IsLooking a b looker viewing items) (x : Extends a b) (y : Extends b c)
    (s : IsSound c) where
  abbrev one_more : ViewingState
  one_more = record { ask = viewing.ask; reads = viewing.reads + 1 }

  pushed : (rows : List ReadVersion) → IsVain b c looker viewing.ask items rows
      → AreInVain a c looker viewing.ask (objects_of viewing.ask) (h.reads ++ rows ∷ [])
  pushed rows vain =
      in_vain_push a c looker viewing.ask (objects_of viewing.ask) h.reads rows
      (in_vain_more a b c looker viewing.ask (objects_of viewing.ask) h.reads h.sound s x y h.in_vain)
      (vain.of ∙ h.next) (seen_from a b c rows x vain.seen) vain.lacking vain.few

  counted : (n : ℕ) (rows : List ReadVersion) → n ≤ viewing.reads + 1 → n + trims_in a ≤ length (h.reads ++ rows ∷ []) + trims_in c
  counted n rows few =
      let stay = trims_stay b c h.sound s y in
      let long = length-append h.reads (rows ∷ []) in
      let all = h.all in
      omega arith

  pub looking_next : (other : ViewingState) (names : List ℕ) → LooksOnce b c looker viewing items (Again other names)
      → IsLooking a c looker other names
  looking_next other names (is, readable, inl (rows, vain, named)) =
      subst (λ (v : ViewingState). IsLooking a c looker v names) (sym is) (record {
        flawless = h.flawless;
        reads = h.reads ++ rows ∷ [];
        in_vain = pushed rows vain;
        next = named ∙ sym (next_push looker viewing.ask (objects_of viewing.ask) h.reads rows);
        all = counted (viewing.reads + 1) rows (omega arith);
        readable = readable;
        sound = s;
      })
  looking_next other names (is, readable, inr (more, same)) =
      subst (λ (v : ViewingState). IsLooking a c looker v names) (sym is) (record {
        flawless = h.flawless;
        reads = h.reads;
        in_vain = in_vain_more a b c looker viewing.ask (objects_of viewing.ask) h.reads h.sound s x y h.in_vain;
        next = same ∙ h.next;
        all = omega (arith, h.all, more);
        readable = readable;
        sound = s;
      })

  out_of_reads : LooksOnce b c looker viewing items (Busy Rounds) → IsOutOfReads a c looker viewing.ask
  out_of_reads (last, inl (rows, vain)) = record {
    reads = h.reads ++ rows ∷ [];
    in_vain = pushed rows vain;
    all = counted MAX_READS rows last;
  }
  out_of_reads (last, inr more) = record {
    reads = h.reads;
    in_vain = in_vain_more a b c looker viewing.ask (objects_of viewing.ask) h.reads h.sound s x y h.in_vain;
    all = omega (arith, h.all, more, last);
  }

  busy_so : (why : Why) → LooksOnce b c looker viewing items (Busy why) → IsBusy a c looker viewing.ask why
  busy_so Wide is = record {
    rows = is.rows;
    seen = seen_from a b c is.rows x is.seen;
    lacking = is.lacking;
    wide = is.wide;
  }
  busy_so Rounds is = out_of_reads is

  pub looks_busy : (ask : Ask) (why : Why) → viewing.ask ≡ ask → LooksOnce b c looker viewing items (Busy why)
      → IsBusy a c looker ask why
  looks_busy ask why of is = subst (λ (k : Ask). IsBusy a c looker k why) of (busy_so why is)
