-- Which text bytes hold (`whole_text_is`, `marks_of`), and what a crash leaves of a log (`kept_of_mixed`). Of texts, for
-- callers: `whole_append`, `whole_line`, `whole_kept`, `whole_whole_text`, `whole_text_same`.
use Rattle.std.proofs.Common.{◌≡◌, ◌≢◌, ℕ, ◌+◌, ◌-◌, ◌<◌, ◌≤◌, ◌==◌, Bool, not, List, [], ◌∷◌, ◌++◌, length, take, drop, slice_index, get_or, reverse, refl, sym, ◌∙◌, ap, subst, inl, inr, arith}
use Rattle.std.specs.List.{EachIndex, suffix_len, prefix_len, position_or_len}
use Rattle.std.proofs.lemmas.List.{length-take-le, length-append, length-reverse, get_or-take, get_or-append_right, get_or_append_left, get_or-reverse, get_or_past, get_or_default, get_or_push, same_lists, take-take, take-append-drop, append-nil, take_all}
use Rattle.std.proofs.lemmas.List.Sums.{prefix_len_passes, prefix_len_stops, prefix_len-le-length, position_or_len_is, suffix_len_is}
use Rattle.std.proofs.lemmas.Bool.{cases_lt, eq-eqb, ne_eqb, eqb-true, eqb-false, not-true, not-false}
use Rattle.sqlite_disk.specs.Disk.{Holds, Torn, Mixed, Follows}
use Rattle.album_log.specs.Texts.{IsWholeText, IsKept, up_to_newline, whole_text}
use Rattle.album_log.specs.Logs.{HasText, HasZeros, LeavesText, LeavesKept}

-- the first zero is at `zero`, or the end is, and the last newline before it is just before `end`
pub record IsMarked (bytes : List ℕ) (end stop : ℕ) : Type 0 where
  pub order : end ≤ stop
  pub within : stop ≤ length bytes
  pub no_zero : (k : ℕ) → k < stop → slice_index bytes k ≢ 0
  pub stops : stop < length bytes → slice_index bytes stop ≡ 0
  pub no_newline : (k : ℕ) → end ≤ k → k < stop → slice_index bytes k ≢ 10
  pub ends : 0 < end → slice_index bytes (end - 1) ≡ 10

pub whole_text_is : (bytes : List ℕ) (end stop : ℕ) → IsMarked bytes end stop → whole_text bytes ≡ take end bytes
unfolding whole_text
whole_text_is bytes end stop m =
    let p : ℕ → Bool = λ b. b == 0 in
    let q : ℕ → Bool = λ b. not (b == 10) in
    let zero : position_or_len p bytes ≡ stop = position_or_len_is p bytes stop 0 m.within (λ k low. ne_eqb _ _ (m.no_zero k low)) (λ low. eq-eqb _ _ (m.stops low)) in
    let text = take stop bytes in
    let long : length text ≡ stop = length-take-le stop bytes m.within in
    let at : (k : ℕ) → k < stop → slice_index text k ≡ slice_index bytes k = λ k low. get_or-take stop bytes k 0 low in
    let tail : suffix_len q text ≡ length text - end =
    suffix_len_is q text end 0 (omega (arith, m.order))
    (λ k low high. ap not (ne_eqb _ _ (λ e. m.no_newline k low (omega arith) (sym (at k (omega arith)) ∙ e))))
    (λ some. ap not (eq-eqb _ _ (at (end - 1) (omega (arith, m.order)) ∙ m.ends some))) in
    let cut : length text - suffix_len q text ≡ end = omega (arith, m.order) in
    ap (λ (n : ℕ). up_to_newline (take n bytes)) zero ∙ ap (λ (n : ℕ). take n text) cut ∙ take-take end stop bytes m.order

-- any bytes are marked somewhere
pub record Marks (bytes : List ℕ) : Type 0 where
  pub end : ℕ
  pub stop : ℕ
  pub marked : IsMarked bytes end stop

pub marks_of : (bytes : List ℕ) → Marks bytes
marks_of bytes =
    let p : ℕ → Bool = λ b. not (b == 0) in
    let q : ℕ → Bool = λ b. not (b == 10) in
    let stop = prefix_len p bytes in
    let within = prefix_len-le-length p bytes in
    let text = take stop bytes in
    let long : length text ≡ stop = length-take-le stop bytes within in
    let at : (k : ℕ) → k < stop → slice_index text k ≡ slice_index bytes k = λ k low. get_or-take stop bytes k 0 low in
    let tail = prefix_len q (reverse text) in
    let back : length (reverse text) ≡ stop = length-reverse text ∙ long in
    let few : tail ≤ stop = omega (arith, prefix_len-le-length q (reverse text)) in
    record {
      end = stop - tail;
      stop = stop;
      marked = record {
        order = omega arith;
        within = within;
        no_zero = λ k low. eqb-false _ _ (not-true _ (prefix_len_passes p bytes k 0 low));
        stops = λ low. eqb-true _ _ (not-false _ (prefix_len_stops p bytes 0 low));
        no_newline = λ k low high.
            let j = stop - 1 - k in
            let here : slice_index (reverse text) j ≡ slice_index bytes k =
            get_or-reverse text j 0 (omega arith) ∙ ap (slice_index text) (omega arith) ∙ at k high in
            λ e. eqb-false _ _ (not-true _ (prefix_len_passes q (reverse text) j 0 (omega arith))) (here ∙ e);
        ends = λ some.
            let here : slice_index (reverse text) tail ≡ slice_index bytes (stop - tail - 1) =
            get_or-reverse text tail 0 (omega arith) ∙ ap (slice_index text) (omega arith) ∙ at (stop - tail - 1) (omega arith) in
            sym here ∙ eqb-true _ _ (not-false _ (prefix_len_stops q (reverse text) 0 (omega arith)));
      };
    }

-- a log's whole text is its text
pub whole_text_of_log : (text : List ℕ) (size : ℕ) (file : List ℕ) → HasText text size file → whole_text file ≡ text
whole_text_of_log text size file h =
    let n = length text in
    let cut : length (take n file) ≡ n = length-take-le n file (omega (arith, h.room, h.within)) in
    let same : take n file ≡ text =
    same_lists _ _ cut (λ k d low.
    let low' : k < n = omega arith in
    get_or-take n file k d low' ∙ get_or_default file k d 0 (omega (arith, h.room, h.within)) ∙ h.each k (omega (arith, h.room)) ∙ get_or_default text k 0 d low') in
    whole_text_is file n n (record {
      order = omega arith;
      within = omega (arith, h.room, h.within);
      no_zero = λ k low e. h.whole.no_zero k low (sym (h.each k (omega (arith, h.room))) ∙ e);
      stops = λ _. h.each n h.room ∙ get_or_past text n 0 (omega arith);
      no_newline = λ k low high. absurd (omega arith);
      ends = λ some. h.each (n - 1) (omega (arith, h.room)) ∙ h.whole.ends some;
    }) ∙ same

-- with no line of the group
pub kept_of_old : (old group : List ℕ) (size : ℕ) (file : List ℕ) → HasText old size file → IsKept old group (whole_text file)
kept_of_old old group size file h = record {
  part = [];
  rest = group;
  whole = record { no_zero = λ k low. absurd (omega arith); ends = λ some. absurd (omega arith) };
  begins = refl;
  follows = whole_text_of_log old size file h ∙ sym (append-nil old);
}

-- a file that is the same below keeps the text
pub has_text_below : (text : List ℕ) (size : ℕ) (old new : List ℕ) → HasText text size old → size ≤ length new → ((k : ℕ) → k < size → slice_index new k ≡ slice_index old k) → HasText text size new
has_text_below text size old new h within same = record {
  whole = h.whole;
  room = h.room;
  within = within;
  each = λ k low. same k low ∙ h.each k low;
}

-- the torn bytes of two writes, one after the other
pub torn_more : (at n m : ℕ) (a b c : List ℕ) → Torn at n a b → Torn (at + n) m b c → Torn at (n + m) a c
torn_more at n m a b c x y = record {
  no_shorter = omega (arith, x.no_shorter, y.no_shorter);
  no_longer = omega (arith, x.no_longer, y.no_longer);
  below = λ i low early. y.below i (omega (arith, x.no_shorter)) (omega arith) ∙ x.below i low early;
  above = λ i low late. y.above i (omega (arith, x.no_shorter)) (omega arith) ∙ x.above i low (omega arith);
}

pub torn_none : (at : ℕ) (a : List ℕ) → Torn at 0 a a
torn_none at a = record {
  no_shorter = omega arith;
  no_longer = omega arith;
  below = λ i low early. refl;
  above = λ i low late. refl;
}

pub torn_wider : (at n m : ℕ) (a b : List ℕ) → n ≤ m → Torn at n a b → Torn at m a b
torn_wider at n m a b le x = record {
  no_shorter = x.no_shorter;
  no_longer = omega (arith, x.no_longer);
  below = x.below;
  above = λ i low late. x.above i low (omega arith);
}

-- a crash in a write of the group over zeros leaves whole lines of it
module _ (old group : List ℕ) (size : ℕ) (file c : List ℕ) (h : HasText old size file) (text : IsWholeText group) (fits : length old + length group < size) (mixed : Mixed (length old) group file c) where
  abbrev n : ℕ
  n = length old

  long : size ≤ length c
  long = omega (arith, h.within, mixed.torn.no_shorter)

  before : (k : ℕ) → k < n → slice_index c k ≡ slice_index old k
  before k low = mixed.torn.below k (omega (arith, h.within, fits)) low ∙ h.each k (omega (arith, fits))

  behind : slice_index c (n + length group) ≡ 0
  behind =
      mixed.torn.above (n + length group) (omega (arith, h.within, fits)) (omega arith)
      ∙ h.each (n + length group) fits
      ∙ get_or_past old (n + length group) 0 (omega arith)

  within_group : (k : ℕ) → n ≤ k → k < n + length group → slice_index c k ≢ 0 → slice_index c k ≡ slice_index group (k - n)
  within_group k low high some =
      let i = k - n in
      let at : n + i ≡ k = omega arith in
      let here : slice_index c (n + i) ≡ slice_index c k = ap (slice_index c) at in
      elim (mixed.each i (omega arith) (omega (arith, h.within, fits))) [
        | inl was ↦ absurd (some (sym here ∙ was ∙ h.each (n + i) (omega (arith, fits)) ∙ get_or_past old (n + i) 0 (omega arith)))
        | inr is ↦ sym here ∙ is
      ]

  pub kept_of_mixed : IsKept old group (whole_text c)
  kept_of_mixed =
      let marks = marks_of c in
      let m = marks.marked in
      let end = marks.end in
      let stop = marks.stop in
      let reaches : n ≤ stop = elim (cases_lt stop n) [
        | inl low ↦ absurd (h.whole.no_zero stop low (sym (before stop low) ∙ m.stops (omega (arith, long, fits))))
        | inr le ↦ le
      ] in
      let stops : stop ≤ n + length group = elim (cases_lt (n + length group) stop) [
        | inl low ↦ absurd (m.no_zero _ low behind)
        | inr le ↦ le
      ] in
      let covers : n ≤ end = elim (cases_lt end n) [
        | inl low ↦ absurd (m.no_newline (n - 1) (omega arith) (omega arith) (before (n - 1) (omega arith) ∙ h.whole.ends (omega arith)))
        | inr le ↦ le
      ] in
      let i = end - n in
      let part = take i group in
      let size_of : length part ≡ i = length-take-le i group (omega (arith, m.order)) in
      let cut : length (take end c) ≡ end = length-take-le end c (omega (arith, m.order, m.within)) in
      let of_part : (k : ℕ) → n ≤ k → k < end → slice_index c k ≡ slice_index part (k - n) =
      λ k low high. within_group k low (omega (arith, m.order)) (m.no_zero k (omega (arith, m.order)))
      ∙ sym (get_or-take i group (k - n) 0 (omega arith)) in
      let same : take end c ≡ old ++ part =
      same_lists _ _ (cut ∙ omega (arith, length-append old part)) (λ k d low.
      let low' : k < end = omega arith in
      let left : get_or (take end c) k d ≡ slice_index c k =
      get_or-take end c k d low' ∙ get_or_default c k d 0 (omega (arith, m.order, m.within)) in
      left ∙ elim (cases_lt k n) [
        | inl early ↦ before k early ∙ get_or_default old k 0 d early ∙ sym (get_or_append_left old part d k early)
        | inr late ↦ of_part k late low' ∙ get_or_default part (k - n) 0 d (omega arith) ∙ sym (get_or-append_right old part n k d refl late)
      ]) in
      record {
        part = part;
        rest = drop i group;
        whole = record {
          no_zero = λ k low e. text.no_zero k (omega (arith, m.order)) (sym (get_or-take i group k 0 (omega arith)) ∙ e);
          ends = λ some.
              let last : end - 1 - n ≡ length part - 1 = omega arith in
              sym (of_part (end - 1) (omega arith) (omega arith) ∙ ap (slice_index part) last) ∙ m.ends (omega arith);
        };
        begins = sym (take-append-drop i group);
        follows = whole_text_is c end stop m ∙ same;
      }

-- two texts of whole lines, one behind the other
pub whole_append : (some more : List ℕ) → IsWholeText some → IsWholeText more → IsWholeText (some ++ more)
whole_append some more a b =
    let n = length some in
    let long : length (some ++ more) ≡ n + length more = length-append some more in
    record {
      no_zero = λ k low. elim (cases_lt k n) [
        | inl early ↦ λ e. a.no_zero k early (sym (get_or_append_left some more 0 k early) ∙ e)
        | inr late ↦ λ e. b.no_zero (k - n) (omega arith) (sym (get_or-append_right some more n k 0 refl late) ∙ e)
      ];
      ends = λ any. elim (cases_lt 0 (length more)) [
        | inl there ↦
            let last : length (some ++ more) - 1 - n ≡ length more - 1 = omega arith in
            get_or-append_right some more n (length (some ++ more) - 1) 0 refl (omega arith) ∙ ap (slice_index more) last ∙ b.ends there
        | inr none ↦
            let last : length (some ++ more) - 1 ≡ n - 1 = omega arith in
            ap (slice_index (some ++ more)) last ∙ get_or_append_left some more 0 (n - 1) (omega arith) ∙ a.ends (omega arith)
      ];
    }

-- one line with its newline
pub whole_line : (line : List ℕ) → EachIndex line (λ k. slice_index line k ≢ 0) → IsWholeText (line ++ 10 ∷ [])
whole_line line no_zero =
    let n = length line in
    let long : length (line ++ 10 ∷ []) ≡ n + 1 = length-append line (10 ∷ []) in
    record {
      no_zero = λ k low. elim (cases_lt k n) [
        | inl early ↦ λ e. no_zero k early (sym (get_or_append_left line (10 ∷ []) 0 k early) ∙ e)
        | inr late ↦
            let here : k ≡ n = omega arith in
            λ e. let ten : 10 ≡ 0 = sym (get_or_push line 10 0 k (sym here)) ∙ e in omega arith
      ];
      ends = λ any. get_or_push line 10 0 (length (line ++ 10 ∷ []) - 1) (omega arith);
    }

-- what is kept of a log is a log's text
pub whole_kept : (old group kept : List ℕ) → IsWholeText old → IsKept old group kept → IsWholeText kept
whole_kept old group kept whole is = subst IsWholeText (sym is.follows) (whole_append old is.part whole is.whole)

-- the text with the group behind it, once the group is written
pub has_text_written :
    (text group : List ℕ) (size at : ℕ) (old new : List ℕ)
    → length text ≡ at
    → at + length group < size
    → IsWholeText group
    → (0 < length group → Holds new at group)
    → Torn at (length group) old new
    → HasText text size old
    → HasText (text ++ group) size new
has_text_written text group size at old new end fits whole holds torn h =
    let n = length text in
    let long : length (text ++ group) ≡ n + length group = length-append text group in
    record {
      whole = whole_append text group h.whole whole;
      room = omega arith;
      within = omega (arith, h.within, torn.no_shorter);
      each = λ k low. elim (cases_lt k n) [
        | inl early ↦ torn.below k (omega (arith, h.within)) (omega arith) ∙ h.each k low ∙ sym (get_or_append_left text group 0 k early)
        | inr late ↦ elim (cases_lt k (n + length group)) [
          | inl inside ↦
              let i = k - n in
              let here : at + i ≡ k = omega arith in
              ap (slice_index new) (sym here) ∙ (holds (omega arith)).each i (omega arith) ∙ sym (get_or-append_right text group n k 0 refl late)
          | inr behind ↦
              torn.above k (omega (arith, h.within)) (omega arith) ∙ h.each k low
              ∙ get_or_past text k 0 late
              ∙ sym (get_or_past (text ++ group) k 0 (omega arith))
        ]
      ];
    }

-- the text with more zeros behind it, once they are written
pub has_text_extended :
    (text : List ℕ) (size to : ℕ) (old new : List ℕ)
    → size ≤ to
    → HasZeros size to new
    → Torn size (to - size) old new
    → HasText text size old
    → HasText text to new
has_text_extended text size to old new le zeros torn h = record {
  whole = h.whole;
  room = omega (arith, h.room);
  within = zeros.within;
  each = λ k low. elim (cases_lt k size) [
    | inl early ↦ torn.below k (omega (arith, h.within)) early ∙ h.each k early
    | inr late ↦ zeros.zero k late low ∙ sym (get_or_past text k 0 (omega (arith, h.room)))
  ];
}

-- what a write past the known size leaves of the text
pub leaves_text_torn :
    (text : List ℕ) (size n : ℕ) (first after : List ℕ → Type 0)
    → Follows (Torn size n) first after
    → LeavesText text size first
    → LeavesText text size after
leaves_text_torn text size n first after follows before c left =
    let (d, d_left, torn) = follows c left in
    let h = before d d_left in
    has_text_below text size d c h (omega (arith, h.within, torn.no_shorter)) (λ k low. torn.below k (omega (arith, h.within)) low)

-- what a write of the group over zeros leaves
pub leaves_kept_mixed :
    (text group : List ℕ) (size at : ℕ) (first after : List ℕ → Type 0)
    → length text ≡ at
    → at + length group < size
    → IsWholeText group
    → Follows (Mixed at group) first after
    → LeavesText text size first
    → LeavesKept text group after
leaves_kept_mixed text group size at first after end fits whole follows before c left =
    let (d, d_left, mixed) = follows c left in
    kept_of_mixed text group size d c (before d d_left) whole (omega arith) (subst (λ (n : ℕ). Mixed n group d c) (sym end) mixed)

-- what bytes hold is whole lines
pub whole_whole_text : (bytes : List ℕ) → IsWholeText (whole_text bytes)
whole_whole_text bytes =
    let marks = marks_of bytes in
    let m = marks.marked in
    let long : length (take marks.end bytes) ≡ marks.end = length-take-le marks.end bytes (omega (arith, m.order, m.within)) in
    let at : (k : ℕ) → k < marks.end → slice_index (take marks.end bytes) k ≡ slice_index bytes k =
    λ k low. get_or-take marks.end bytes k 0 low in
    subst IsWholeText (sym (whole_text_is bytes marks.end marks.stop m)) (record {
      no_zero = λ k low e. m.no_zero k (omega (arith, m.order)) (sym (at k (omega arith)) ∙ e);
      ends = λ some. ap (slice_index (take marks.end bytes)) (omega arith) ∙ at (marks.end - 1) (omega arith) ∙ m.ends (omega arith);
    })

-- whole lines hold themselves
pub whole_text_same : (text : List ℕ) → IsWholeText text → whole_text text ≡ text
whole_text_same text whole =
    let n = length text in
    whole_text_is text n n (record {
      order = omega arith;
      within = omega arith;
      no_zero = whole.no_zero;
      stops = λ low. absurd (omega arith);
      no_newline = λ k low high. absurd (omega arith);
      ends = whole.ends;
    }) ∙ take_all n text (omega arith)
