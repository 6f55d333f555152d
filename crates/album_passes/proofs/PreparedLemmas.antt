-- What backs a mark that prepares, `plain_backs` and `checked_backs`, and what such marks show of the versions that are
-- kept: `version_announced` and `version_based`.
use Rattle.std.proofs.Common.{◌≡◌, ℕ, zero, suc, ◌<◌, true, false, ◌==◌, List, [], ◌∷◌, ◌++◌, length, Contains, Some, is_some, refl, ap, sym, ◌∙◌, subst, arith, append-nil}
use Rattle.std.specs.List.{zip}
use Rattle.std.proofs.lemmas.Bool.{and_parts, false≢true}
use Rattle.std.proofs.lemmas.List.{append_assoc}
use Rattle.std.proofs.lemmas.Bool.Decides.{Decides-eqb}
use Rattle.album_items.specs.ItemIds.{place_of}
use Rattle.album_items.specs.Openings.{Row}
use Rattle.album_items.specs.declared.values.Value.{Value}
use Rattle.album_partition.specs.Bases.{are_bases, is_chained, IsMadeOn}
use Rattle.album_partition.specs.Marks.{value_in, version, state_of, is_legal}
use Rattle.album_partition.specs.Proper.{is_proper}
use Rattle.album_partition.specs.declared.marks.Mark.{Mark}
use Rattle.album_partition.specs.declared.marks.Mark.TheVariants.{Prepared}
use Rattle.album_terminate.specs.declared.deciding.StampState.TheVariants as state
use Rattle.album_partition.proofs.ChainLemmas.{base_is_latest, made_on}
use Rattle.album_partition.proofs.ListLemmas.{one_before}
use Rattle.album_partition.proofs.ProperLemmas.{has_value, proper_placed}
use Rattle.album_partition.proofs.StoredLemmas.{rows_have}
use Rattle.album_passes.specs.Changes.{marked_cut}
use Rattle.album_passes.specs.Cuts.{Cut, Announced, prefix_at, prefix_for, announced_for, IsNamed, IsNamedOn, IsBaseOf, IsPreparedOver, IsOverItsBase, IsBacked, IsSound}
use Rattle.album_passes.specs.Reads.{written_value}
use Rattle.album_passes.proofs.ClosedLemmas.{backed_there}
use Rattle.album_passes.proofs.CutLemmas.{mark_here, extends_marked_any, named_more}
use Rattle.album_passes.proofs.ReadLemmas.{version_parts, version_prepared, value_has}

-- ---- what backs a mark that prepares

-- in a store that isn't checked, that its writes are named
pub plain_backs : (c : Cut) (p t : ℕ) (ws : List Row) (is : List ℕ) → c.checked ≡ false → IsNamed c t ws is
    → IsBacked (marked_cut c p (Prepared t ws is)) (Prepared t ws is)
plain_backs c p t ws is plain n = record {
  named = named_more c (marked_cut c p (Prepared t ws is)) (extends_marked_any c p (Prepared t ws is)) t ws is n;
  based = λ on w k. absurd (false≢true (sym plain ∙ on));
}

-- each write has its base
pub base_of : (ws : List Row) (bs : List ℕ) → length ws ≡ length bs → (w : Row) → Contains ws w → (b : ℕ) × Contains (zip ws bs) (w, b)
base_of [] bs long w (k, l, at) = absurd (omega arith)
base_of (x ∷ ws) [] long w h = absurd (omega arith)
base_of (x ∷ ws) (b ∷ bs) long w (zero, l, at) = (b, (zero, omega arith, ap (λ (y : Row). (y, b)) at))
base_of (x ∷ ws) (b ∷ bs) long w (suc k, l, at) =
    let r = base_of ws bs (omega arith) w (k, omega arith, at) in (r.0, one_before (x, b) (w, r.0) (zip ws bs) r.1)

wrote_some : (ws : List Row) (w : Row) → Contains ws w → is_some (value_in ws w.0) ≡ true
wrote_some ws w (k, l, at) = subst (λ (y : Row). is_some (value_in ws y.0) ≡ true) at (rows_have ws k w l)

-- in a checked one, that they are named with their bases, and that these are the latest versions
pub checked_backs : (c : Cut) (p t : ℕ) (ws : List Row) (is bs : List ℕ) → p < length c.prefixes
    → is_proper p c.parts t ws is ≡ true → IsNamedOn c t ws is bs → are_bases (prefix_at c p) t ws bs ≡ true
    → IsBacked (marked_cut c p (Prepared t ws is)) (Prepared t ws is)
checked_backs c p t ws is bs inside own n based = record {
  named = named_more c (marked_cut c p (Prepared t ws is)) (extends_marked_any c p (Prepared t ws is)) t ws is n.named;
  based = λ on w k. over w k;
}
  where
    long : length ws ≡ length bs
    long = (Decides-eqb (length ws) (length bs)).0 (and_parts (length ws == length bs) _ based).0

    over : (w : Row) → Contains ws w → IsOverItsBase (marked_cut c p (Prepared t ws is)) t w
    over w k =
        let some = wrote_some ws w k in
        let b = base_of ws bs long w k in
        let here : place_of c.parts w.0 ≡ p = ((proper_placed p c.parts t ws is w.0 own).0 (rw some refl)).1 in
        record {
          all = n.named.all;
          announced = n.named.announced;
          base = b.0;
          of = n.based w b.0 b.1;
          over = record {
            before = prefix_at c p;
            writes = ws;
            items = is;
            had = (
              [],
              append-nil (prefix_at c p ++ Prepared t ws is ∷ [])
                  ∙ sym (ap (λ (q : ℕ). prefix_at (marked_cut c p (Prepared t ws is)) q) here ∙ mark_here c p (Prepared t ws is) inside),
            );
            wrote = sym (has_value ws w.0) ∙ some;
            latest_is = sym (base_is_latest (prefix_at c p) t ws bs (w, b.0) based b.1);
          };
        }

-- ---- what is kept was announced

-- the mark that prepared a version that is kept
pub record IsPreparedBy (ms : List Mark) (i t : ℕ) (v : Value) : Type 0 where
  pub writes : List Row
  pub items : List ℕ
  pub there : Contains ms (Prepared t writes items)
  pub wrote : Contains writes (i, v)

pub prepared_by : (ms : List Mark) (i t : ℕ) (v : Value) → version ms i t ≡ Some v → IsPreparedBy ms i t v
prepared_by ms i t v e =
    let w = version_prepared ms i t v (version_parts ms i t v e).1 in
    record { writes = w.0; items = w.1; there = w.2; wrote = value_has w.0 i v w.3 }

-- its author has announced it, with its value
pub version_announced : (c : Cut) (i t : ℕ) (v : Value) → IsSound c → written_value c i t ≡ Some v
    → (all : Announced) × (announced_for c t ≡ Some all) × Contains all.writes (i, v)
version_announced c i t v s e =
    let p = prepared_by (prefix_for c i) i t v e in
    let b = backed_there c (place_of c.parts i) (Prepared t p.writes p.items) s.closed p.there in
    (b.named.all, b.named.announced, b.named.within (i, v) p.wrote)

-- and it was made on the version at the base that is announced for it, where it is committed
pub version_based : (c : Cut) (i t : ℕ) (v : Value) → IsSound c → c.checked ≡ true → written_value c i t ≡ Some v
    → state_of (prefix_for c i) t ≡ state.Committed
    → (all : Announced) × (announced_for c t ≡ Some all) × ((base : ℕ) × IsBaseOf all (i, v) base × IsMadeOn (prefix_for c i) i t base)
version_based c i t v s checked e done =
    let p = prepared_by (prefix_for c i) i t v e in
    let b = backed_there c (place_of c.parts i) (Prepared t p.writes p.items) s.closed p.there in
    let o = b.based checked (i, v) p.wrote in
    (o.all, o.announced, (o.base, o.of, made o.base o.over))
  where
    ms : List Mark
    ms = prefix_for c i

    made : (base : ℕ) → IsPreparedOver ms t i base → IsMadeOn ms i t base
    made base h =
        let m : Mark = Prepared t h.writes h.items in
        let is : h.before ++ m ∷ h.had.0 ≡ ms = sym (append_assoc h.before (m ∷ []) h.had.0) ∙ h.had.1 in
        subst (λ (y : List Mark × ℕ). IsMadeOn y.0 i t y.1) (λ j. (is j, h.latest_is j))
        (made_on h.before h.had.0 t h.writes h.items i (ap is_legal is ∙ s.legal (place_of c.parts i))
        (ap is_chained is ∙ s.chained (place_of c.parts i) checked)
        (ap (λ (ns : List Mark). state_of ns t) is ∙ done)
        (has_value h.writes i ∙ h.wrote))
