-- How a read of two rounds ends: `read_so`, where it is done, and `trimmed_away`, where an item was gone. ReadingLemmas of
-- `album_sessions` cites both.
use Rattle.std.proofs.Common.{◌≡◌, ℕ, zero, suc, ◌<◌, ◌≤◌, true, List, [], ◌∷◌, get_or, map, All, Contains, Option, refl, sym, ap, ◌∙◌, subst, arith}
use Rattle.std.specs.Option.{unwrap_or}
use Rattle.std.specs.List.{count_by}
use Rattle.std.proofs.lemmas.List.Elements.{All-contains, Contains-get_or}
use Rattle.album_items.specs.ItemIds.{place_of}
use Rattle.album_calls.specs.declared.messages.Message.{Message}
use Rattle.album_partition.specs.Laws.{IsLatest}
use Rattle.album_partition.specs.Marks.{is_legal, latest}
use Rattle.album_partition.specs.declared.marks.Mark.{Mark}
use Rattle.album_partition.proofs.LegalLemmas.{legal_parts}
use Rattle.album_passes.specs.Cuts.{Cut, prefix_at, prefix_for, IsSound, IsPrefix, Extends}
use Rattle.album_passes.specs.Reads.{IsAnsweredBetween, IsReadInTwoRounds}
use Rattle.album_passes.proofs.CutLemmas.{extends_trans}
use Rattle.album_passes.proofs.PrefixLemmas.{prefix_trans}
use Rattle.album_passes.proofs.ReadLemmas.{read_whole, read_written, committed_then, read_up_to_date}
use Rattle.album_reader.specs.Answers.{ReadVersion}
use Rattle.album_reader.specs.Rounds.{RoundState, asked_stamps}
use Rattle.album_reader.specs.Snapshots.{items_read}
use Rattle.album_reader.specs.StampSets.{stamps_of}
use Rattle.album_reader.proofs.StampSets.{stamps_of-Contains}
use Rattle.album_grounds.specs.Grounds.{is_trim}
use Rattle.album_grounds.specs.Replies.{AreOf, IsFirstOver, IsGoneFrom, IsReadOf, IsTrimmedAway}
use Rattle.album_grounds.proofs.TrimLemmas.{prefix_trims, trimmed_since, trims_rise}

-- ---- what a list of answers has

mapped_there : (f : ReadVersion → ℕ) (xs : List ReadVersion) (x : ReadVersion) → Contains xs x → Contains (map f xs) (f x)
mapped_there f [] x n = absurd (omega (arith, n.1))
mapped_there f (y ∷ xs) x (zero, l, e) = (0, omega arith, ap f e)
mapped_there f (y ∷ xs) x (suc k, l, e) = let r = mapped_there f xs x (k, omega arith, e) in (suc r.0, omega (arith, r.1), r.2)

pub mapped_from : (f : ReadVersion → ℕ) (xs : List ReadVersion) (n : ℕ) → Contains (map f xs) n → (x : ReadVersion) × Contains xs x × (f x ≡ n)
mapped_from f [] n h = absurd (omega (arith, h.1))
mapped_from f (y ∷ xs) n (zero, l, e) = (y, (0, omega arith, refl), e)
mapped_from f (y ∷ xs) n (suc k, l, e) = let r = mapped_from f xs n (k, omega arith, e) in (r.0, (suc r.1.0, omega (arith, r.1.1), r.1.2), r.2)

-- ---- both rounds

module _ (b m c : Cut) (begun next : RoundState) (gets : List Message) (F : IsFirstOver b m begun next gets) where
  -- the second round asks for the items of the first, with the stamps of its answers
  items_again : next.items ≡ items_read F.answers
  items_again = ap (λ (r : RoundState). r.items) F.next_is ∙ sym F.are.items

  stamps_given : asked_stamps next ≡ stamps_of F.answers
  stamps_given = ap asked_stamps F.next_is

  first_round : All (IsAnsweredBetween b m []) F.answers
  first_round = subst (λ (o : Option (List ℕ)). All (IsAnsweredBetween b m (unwrap_or o [])) F.answers) F.first F.are.between

  -- each item of the second round was answered in the first
  answered : (i : ℕ) → Contains next.items i → (x : ReadVersion) × Contains F.answers x × (x.item ≡ i)
  answered i n = mapped_from (λ (x : ReadVersion). x.item) F.answers i (subst (λ (is : List ℕ). Contains is i) items_again n)

  in_two_rounds : (rows : List ReadVersion) → IsSound b → IsSound m → IsSound c → Extends b m → Extends m c → AreOf m c next rows
      → IsReadInTwoRounds b m c F.answers (stamps_of F.answers) rows
  in_two_rounds rows s r t x y a = record {
    begun_sound = s;
    middle_sound = r;
    ended_sound = t;
    first_on = x;
    second_on = y;
    first_round = first_round;
    collected = stamps_of-Contains F.answers;
    second_round = subst (λ (ts : List ℕ). All (IsAnsweredBetween m c ts) rows) stamps_given a.between;
    asked_before = λ k d l. answered (get_or rows k d).item
        (subst (λ (is : List ℕ). Contains is (get_or rows k d).item) a.items
        (mapped_there (λ (z : ReadVersion). z.item) rows (get_or rows k d) (Contains-get_or rows k d l)));
  }

  -- what the second round has read is read atomic, settled, and fresh from where that round began
  pub read_so : (rows : List ReadVersion) → IsSound b → IsSound m → IsSound c → Extends b m → Extends m c → AreOf m c next rows
      → IsReadOf b c begun.items rows
  read_so rows s r t x y a =
      let R = in_two_rounds rows s r t x y a in
      record {
        items_are = a.items ∙ ap (λ (z : RoundState). z.items) F.next_is;
        seen = record {
          atomic = record {
            whole = read_whole b m c F.answers (stamps_of F.answers) rows R;
            written = read_written b m c F.answers (stamps_of F.answers) rows R;
          };
          at = m;
          since = x;
          until = y;
          sound = r;
          known = λ k d l. committed_then b m c F.answers (stamps_of F.answers) rows R (get_or rows k d) (Contains-get_or rows k d l);
          fresh = read_up_to_date b m c F.answers (stamps_of F.answers) rows R
              (λ z n. All-contains (λ (w : ReadVersion). latest (prefix_for m w.item) w.item ≤ w.stamp) rows z a.latest n);
          settled = a.settled;
        };
      }

  -- where the second round finds an item gone, a trim has let go of its version
  pub trimmed_away : (all : List ℕ) → IsSound b → IsSound m → IsSound c → Extends b m → Extends m c → IsGoneFrom m c next all
      → IsTrimmedAway b c begun.items all
  trimmed_away all s r t x y g =
      let gone = g.gone in
      let i = gone.item in
      let first = answered i gone.asked in
      let Was : ℕ → Type 0 = λ j. (old : List Mark) × (IsPrefix (prefix_for b j) old) × (IsPrefix old (prefix_for m j)) × IsLatest old j first.0.stamp in
      let told = All-contains (IsAnsweredBetween b m []) F.answers first.0 first_round first.1 in
      let was : Was i = subst Was first.2 (told.marks, told.from, told.to, told.read) in
      let since : IsPrefix was.0 gone.marks = prefix_trans was.0 (prefix_for m i) gone.marks was.2 gone.from in
      let legal : is_legal gone.marks ≡ true =
      (legal_parts gone.marks gone.to.0 (subst (λ (ms : List Mark). is_legal ms ≡ true) (sym gone.to.1) (t.legal (place_of c.parts i)))).0 in
      let given : Contains (asked_stamps next) first.0.stamp =
      subst (λ (ts : List ℕ). Contains ts first.0.stamp) (sym stamps_given)
      ((stamps_of-Contains F.answers first.0.stamp).1 (mapped_there (λ (z : ReadVersion). z.stamp) F.answers first.0 first.1)) in
      let more = trimmed_since was.0 gone.marks i first.0.stamp (asked_stamps next) since legal was.3 given gone.trimmed gone.unkept in
      let before = prefix_trims (prefix_for b i) was.0 was.1 in
      let now = prefix_trims gone.marks (prefix_for c i) gone.to in
      let along : Extends b c = extends_trans b m c x y in
      let there : count_by is_trim (prefix_for b i) < count_by is_trim (prefix_at c (place_of b.parts i)) =
      subst (λ (n : ℕ). count_by is_trim (prefix_for b i) < count_by is_trim (prefix_at c (place_of n i))) along.parts (omega arith) in
      record {
        items_are = g.items_are ∙ ap (λ (z : RoundState). z.items) F.next_is;
        trimmed = trims_rise b c (place_of b.parts i) s t along there;
      }
