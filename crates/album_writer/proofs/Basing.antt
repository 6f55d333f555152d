-- Each Prepare of a checked write is on the bases of its writes (`on-bases`), and one of another write names none
-- (`plain`), for the law `checked_writes_name_their_bases`.
use Rattle.std.proofs.Common.{◌≡◌, ◌<◌, ℕ, zero, suc, Bool, true, false, List, [], ◌∷◌, Option, Some, None, Contains, map, length, refl, sym, ap, ◌∙◌, arith, if◌then◌else◌}
use Rattle.std.specs.List.{AllZip, slice_index_or}
use Rattle.std.specs.Option.{option_map_or}
use Rattle.std.proofs.lemmas.List.{length-map}
use Rattle.album_items.specs.Openings.{Row}
use Rattle.album_items.specs.Places.{rows_placed_at}
use Rattle.album_items.specs.declared.values.Value.{Value}
use Rattle.album_calls.specs.declared.messages.Body.{Body}
use Rattle.album_calls.specs.declared.messages.Body.TheVariants as body
use Rattle.album_calls.specs.declared.messages.Message.{Message}
use Rattle.album_calls.specs.declared.requests.Request.TheVariants.{Prepare, PrepareOn}
use Rattle.album_reader.specs.Snapshots.{version_read}
use Rattle.album_listing.specs.ViewLookups.{stamp_seen}
use Rattle.album_writer.specs.Bases.{IsBase, IsOnBases, IsPlain}
use Rattle.album_writer.specs.Bases.IsBase.{Shown, NotShown}
use Rattle.album_writer.specs.Writing.{WritingState, writes_in, items_in, places_in, bases_of, prepare_to, prepares_of}

-- what is among what is made of each is made of one
made-of : (f : ℕ → Message) (xs : List ℕ) (m : Message) → Contains (map f xs) m → (x : ℕ) × (f x ≡ m)
made-of f [] m c = absurd (omega (arith, c.1))
made-of f (x ∷ xs) m c = go c.0 c.1 c.2 (made-of f xs m)
  where
    go :
        (k : ℕ) → k < suc (length (map f xs)) → slice_index_or (f x ∷ map f xs) k m ≡ m
        → (Contains (map f xs) m → (x : ℕ) × (f x ≡ m)) → (x : ℕ) × (f x ≡ m)
    go zero below same rest = (x, same)
    go (suc k) below same rest = rest (k, omega (arith, below), same)

module _ (writing : WritingState) where
  base : (item : ℕ) → IsBase writing.permit item (stamp_seen writing.permit.view.rows item)
  base item = go (version_read writing.permit.view.rows item) refl
    where
      go :
          (found : Option (ℕ × Value)) → version_read writing.permit.view.rows item ≡ found
          → IsBase writing.permit item (option_map_or (λ version. version.0) found 0)
      go None e = NotShown e
      go (Some version) e = Shown version.0 version.1 e

  each-base :
      (rows : List Row)
      → AllZip (λ (write : Row) base. IsBase writing.permit write.0 base) rows (bases_of writing rows)
  each-base [] = tt
  each-base (row ∷ rows) = (base row.0, each-base rows)

  abbrev rows_at : ℕ → List Row
  rows_at place = rows_placed_at place writing.parts (writes_in writing)

  abbrev asked_if : Bool → ℕ → Body
  asked_if checked place =
      body.Request (if checked then PrepareOn writing.stamp (rows_at place) (items_in writing) (bases_of writing (rows_at place))
      else Prepare writing.stamp (rows_at place) (items_in writing))

  pub on-bases :
      (message : Message) → writing.checked ≡ true → Contains (prepares_of writing) message → IsOnBases writing message
  on-bases message is there =
      let (place, same) = made-of (prepare_to writing) (places_in writing) message there in
      record {
        place = place;
        rows = rows_at place;
        bases = bases_of writing (rows_at place);
        to = sym (ap (λ (m : Message). m.to) same);
        placed = refl;
        asked = sym (ap (λ (m : Message). m.body) same) ∙ ap (λ (b : Bool). asked_if b place) is;
        one_each = length-map (rows_at place) (λ (row : Row). stamp_seen writing.permit.view.rows row.0);
        each = each-base (rows_at place);
      }

  pub plain :
      (message : Message) → writing.checked ≡ false → Contains (prepares_of writing) message → IsPlain writing message
  plain message is there =
      let (place, same) = made-of (prepare_to writing) (places_in writing) message there in
      record {
        place = place;
        rows = rows_at place;
        to = sym (ap (λ (m : Message). m.to) same);
        placed = refl;
        asked = sym (ap (λ (m : Message). m.body) same) ∙ ap (λ (b : Bool). asked_if b place) is;
      }
