-- A stamp stays with its value: for the law `stamps_stay`.
use Rattle.std.proofs.Common.{◌≡◌, ◌≢◌, ℕ, Bool, true, false, Option, Some, None, sym, ap, ◌∙◌, if◌then◌else◌, ne_eqb}
use Rattle.std.specs.Option.{unwrap_or}
use Rattle.album_items.specs.FirstStamps.{Stamps, first_stamp, shown}
use Rattle.album_items.specs.Values.{is_there}
use Rattle.album_items.specs.declared.values.Value.{Value}
use Rattle.album_items.specs.declared.values.Value.TheVariants.{Missing}
use Rattle.album_partition.specs.Marks.{first_value}
use Rattle.album_passes.specs.Cuts.{Cut}
use Rattle.album_passes.specs.Reads.{written_value}
use Rattle.album_epochs.specs.Carried.{carried_stamp, carried_value, value_carried_at, AreNextStamps}

-- what is there is shown
there_shown : (c : Cut) (stamps next : Stamps) (i : ℕ) → AreNextStamps c stamps next
    → is_there (carried_value c i) ≡ true → first_stamp next i ≡ shown stamps i (carried_stamp c i)
there_shown c stamps next i n there =
    n i ∙ ap (λ (b : Bool). if b then shown stamps i (carried_stamp c i) else 0) there

pub left_alone : (c : Cut) (stamps next : Stamps) (i : ℕ) → AreNextStamps c stamps next
    → carried_stamp c i ≡ 0 → is_there (carried_value c i) ≡ true
    → (first_stamp next i ≡ first_stamp stamps i) × (carried_value c i ≡ first_value c.opening i)
left_alone c stamps next i n zero there =
    (there_shown c stamps next i n there ∙ ap (shown stamps i) zero, ap (value_carried_at c i) zero)

-- a value that is there is no default
given : (o : Option Value) (v : Value) → v ≡ unwrap_or o Missing → is_there v ≡ true → o ≡ Some v
given None v e there = absurd (let f : is_there v ≡ false = ap is_there e in cc (f, there))
given (Some w) v e there = ap (λ (x : Value). Some x) (sym e)

pub as_written : (c : Cut) (stamps next : Stamps) (i : ℕ) → AreNextStamps c stamps next
    → carried_stamp c i ≢ 0 → is_there (carried_value c i) ≡ true
    → (first_stamp next i ≢ 0) × (written_value c i (first_stamp next i) ≡ Some (carried_value c i))
as_written c stamps next i n some there =
    let own : shown stamps i (carried_stamp c i) ≡ carried_stamp c i =
    ap (λ (b : Bool). if b then first_stamp stamps i else carried_stamp c i) (ne_eqb (carried_stamp c i) 0 some) in
    let is : first_stamp next i ≡ carried_stamp c i = there_shown c stamps next i n there ∙ own in
    let value : carried_value c i ≡ unwrap_or (written_value c i (carried_stamp c i)) Missing =
    ap (λ (b : Bool). if b then first_value c.opening i else unwrap_or (written_value c i (carried_stamp c i)) Missing)
    (ne_eqb (carried_stamp c i) 0 some) in (
      λ (z : first_stamp next i ≡ 0). some (sym is ∙ z),
      ap (written_value c i) is ∙ given (written_value c i (carried_stamp c i)) (carried_value c i) value there,
    )

pub gone : (c : Cut) (stamps next : Stamps) (i : ℕ) → AreNextStamps c stamps next
    → is_there (carried_value c i) ≡ false → first_stamp next i ≡ 0
gone c stamps next i n away = n i ∙ ap (λ (b : Bool). if b then shown stamps i (carried_stamp c i) else 0) away
