-- How the entries of a log, one after another, make histories.
use Rattle.std.proofs.Common.{◌≡◌, ℕ, zero, suc, ◌+◌, ◌<◌, ◌==◌, Bool, true, false, cond, List, [], ◌∷◌, ◌++◌, length, take, drop, ◌-◌, ◌≤◌, Some, None, if◌then◌else◌, refl, sym, ap, ◌∙◌, subst, arith, eqb-true, length-append, take-add}
use Rattle.std.specs.BTreeMap.{is_at}
use Rattle.std.specs.BTreeSet as set
use Rattle.std.specs.BTreeSet.{BTreeSet}
use Rattle.std.specs.List.{list_any, slice_get}
use Rattle.std.specs.Ordering.{nat_cmp}
use Rattle.std.proofs.Math.Seq.{take-append_seam, take-append-add, get_or-append_seam}
use Rattle.std.proofs.lemmas.Bool.{eqb-false}
use Rattle.album_partition.specs.Marks.{prepares, prepare_in}
use Rattle.album_partition.specs.declared.marks.Mark.{Mark}
use Rattle.album_epochs.specs.Folding.{ArePrepared}
use Rattle.album_epochs.proofs.FoundLemmas.{stamp_more}
use Rattle.album_keepers.specs.declared.log_entries.LogEntry.{LogEntry}
use Rattle.album_data.specs.Recovery.{with_prepare, with_mark, marks_after, AreLogged, IsEntryLine, AreEntryLines}
use Rattle.album_data.specs.Recovery.AreEntryLines.{more}
use Rattle.album_data.specs.Texts.{IsLine}

-- ---- a mark more

pub none_taken : (ms : List Mark) (m : Mark) → prepare_in m ≡ None → with_mark ms m ≡ ms
none_taken ms m none = ap (with_prepare ms m) none

pub known_taken : (ms : List Mark) (m : Mark) (s : ℕ) → prepare_in m ≡ Some s → list_any (prepares s) ms ≡ true → with_mark ms m ≡ ms
known_taken ms m s is known =
    ap (with_prepare ms m) is ∙ ap (λ (b : Bool). if b then ms else ms ++ m ∷ []) known

pub new_taken : (ms : List Mark) (m : Mark) (s : ℕ) → prepare_in m ≡ Some s → list_any (prepares s) ms ≡ false
    → with_mark ms m ≡ ms ++ m ∷ []
new_taken ms m s is unknown =
    ap (with_prepare ms m) is ∙ ap (λ (b : Bool). if b then ms else ms ++ m ∷ []) unknown

-- ---- an entry more

pub entry_more : (part : ℕ) (ms : List Mark) (es : List LogEntry) (e : LogEntry)
    → marks_after part ms (es ++ e ∷ []) ≡ (if e.part == part then with_mark (marks_after part ms es) e.mark else marks_after part ms es)
entry_more part ms [] e = refl
entry_more part ms (x ∷ es) e = entry_more part (if x.part == part then with_mark ms x.mark else ms) es e

-- ---- a history more

slice_get_before : {X : Type 0} (xs : List X) (x : X) (i : ℕ) → i < length xs → slice_get (xs ++ x ∷ []) i ≡ slice_get xs i
slice_get_before [] x i l = absurd (omega (arith, l))
slice_get_before (y ∷ xs) x zero l = refl
slice_get_before (y ∷ xs) x (suc i) l = slice_get_before xs x i (omega (arith, l))

slice_get_last : {X : Type 0} (xs : List X) (x : X) → slice_get (xs ++ x ∷ []) (length xs) ≡ Some x
slice_get_last [] x = refl
slice_get_last (y ∷ xs) x = slice_get_last xs x

pub history_more : (n : ℕ) (es : List LogEntry) (hs : List (List Mark)) (h : List Mark) → AreLogged n es hs
    → h ≡ marks_after n [] es → AreLogged (n + 1) es (hs ++ h ∷ [])
history_more n es hs h logged is = record {
  count = omega (arith, length-append hs (h ∷ []), logged.count);
  each = each;
}
  where
    last : (k : ℕ) → k ≡ length hs → slice_get (hs ++ h ∷ []) k ≡ Some h
    last k e = subst (λ (j : ℕ). slice_get (hs ++ h ∷ []) j ≡ Some h) (sym e) (slice_get_last hs h)

    by : (k : ℕ) → (b : Bool) → (k == n) ≡ b → k < n + 1 → slice_get (hs ++ h ∷ []) k ≡ Some (marks_after k [] es)
    by k true e l =
        let same : k ≡ n = eqb-true k n e in
        last k (same ∙ sym logged.count) ∙ ap Some (is ∙ ap (λ (j : ℕ). marks_after j [] es) (sym same))
    by k false e l =
        let less : k < n = omega (arith, l, eqb-false k n e) in
        slice_get_before hs h k (subst (λ (j : ℕ). k < j) (sym logged.count) less) ∙ logged.each k less

    each : (k : ℕ) → k < n + 1 → slice_get (hs ++ h ∷ []) k ≡ Some (marks_after k [] es)
    each k l = by k (k == n) refl l

-- ---- the stamps that are prepared

-- a stamp more
pub prepared_more : (ms : List Mark) (m : Mark) (s : ℕ) (old new : BTreeSet ℕ) → prepare_in m ≡ Some s
    → ((q : ℕ) → set.contains nat_cmp new q ≡ cond (is_at (nat_cmp s) q) true (set.contains nat_cmp old q))
    → ArePrepared ms old → ArePrepared (ms ++ m ∷ []) new
prepared_more ms m s old new is up h =
    let all = ms ++ m ∷ [] in
    let front : take (length ms) all ≡ ms = take-append_seam ms (m ∷ []) in
    let whole : take (length ms + 1) all ≡ all = take-append-add ms (m ∷ []) 1 in
    let less : length ms < length all = omega (arith, length-append ms (m ∷ [])) in
    subst (λ (l : List Mark). ArePrepared l new) whole
    (stamp_more all (length ms) s m old new less (sym (get_or-append_seam ms m [] m)) is up
    (subst (λ (l : List Mark). ArePrepared l old) (sym front) h))

-- ---- the lines of a text

-- a line more, which is the text from there on and up to its end
pub line_read : (text : List ℕ) (at end : ℕ) (es : List LogEntry) (e : LogEntry) → at ≤ end
    → AreEntryLines (take at text) es → IsLine (take (end - at) (drop at text)) → IsEntryLine (take (end - at) (drop at text)) e
    → AreEntryLines (take end text) (es ++ e ∷ [])
line_read text at end es e l read line entry =
    subst (λ (t : List ℕ). AreEntryLines t (es ++ e ∷ [])) (sym (take_on text at end l))
    (more (take at text) (take (end - at) (drop at text)) e es read line entry)
  where
    take_on : (xs : List ℕ) (a b : ℕ) → a ≤ b → take b xs ≡ take a xs ++ take (b - a) (drop a xs)
    take_on xs a b h = ap (λ (n : ℕ). take n xs) (omega (arith, h)) ∙ take-add a (b - a) xs
