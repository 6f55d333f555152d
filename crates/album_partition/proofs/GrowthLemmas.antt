-- What marks that follow leave as it was. The laws `histories_only_grow` and `promises_against_are_kept` cite the
-- lemmas that are `pub`.
use Rattle.std.proofs.Common.{◌≡◌, ℕ, ◌<◌, ◌≤◌, ◌+◌, Bool, true, false, ◌||◌, max, List, [], ◌∷◌, ◌++◌, length, refl, sym, ap, ◌∙◌, subst, arith, if◌then◌else◌}
use Rattle.std.specs.List.{list_any}
use Rattle.std.proofs.lemmas.Bool.{and_parts}
use Rattle.std.proofs.lemmas.Bool.Decides.{Decides-eqb, Decides-ltb}
use Rattle.std.proofs.lemmas.List.{append_assoc, length-append}
use Rattle.album_terminate.specs.declared.deciding.StampState.{StampState}
use Rattle.album_terminate.specs.declared.deciding.StampState.TheVariants as state
use Rattle.album_partition.specs.declared.marks.Mark.{Mark}
use Rattle.album_partition.specs.declared.marks.Mark.TheVariants.{Prepared, Committed, Discarded, Trimmed}
use Rattle.album_partition.specs.Marks.{IsPromisedAgainst, is_mark_of, prepares, commits, state_of, is_unknown, is_pending, version, has_version, latest, may_follow, is_legal, load, is_full}
use Rattle.album_partition.proofs.LegalLemmas.{along, along_legal, legal_parts}
use Rattle.album_partition.proofs.LoadLemmas.{prepared_counts, committed_counts, discarded_counts, refused_counts, trimmed_counts}
use Rattle.album_partition.proofs.StateLemmas.{any_push_no, prepares_no, state_push_other, unknown_tells, pending_tells, is_unknown_tells, is_pending_tells, discarded_is_discarded}
use Rattle.album_partition.proofs.VersionLemmas.{version_push_other, latest_prepared, latest_committed, latest_discarded, latest_trimmed}

-- ---- a stamp that is decided

-- no mark of it can follow
apart : (marks : List Mark) (mark : Mark) (t : ℕ) → is_unknown (state_of marks t) || is_pending (state_of marks t) ≡ false
    → may_follow marks mark ≡ true → is_mark_of t mark ≡ false
apart marks mark t decided may = go (is_mark_of t mark) refl
  where
    closed : (m : Mark) → is_mark_of t m ≡ true → may_follow marks m ≡ true → is_unknown (state_of marks t) || is_pending (state_of marks t) ≡ true
    closed (Prepared s ws is) own may = subst (λ (u : ℕ). is_unknown (state_of marks u) || is_pending (state_of marks u) ≡ true) ((Decides-eqb s t).0 own) (rw may refl)
    closed (Committed s) own may = subst (λ (u : ℕ). is_unknown (state_of marks u) || is_pending (state_of marks u) ≡ true) ((Decides-eqb s t).0 own) (rw (is_pending_tells (state_of marks s) may) refl)
    closed (Discarded s) own may = subst (λ (u : ℕ). is_unknown (state_of marks u) || is_pending (state_of marks u) ≡ true) ((Decides-eqb s t).0 own) may
    closed (Trimmed i) own may = absurd (cc)

    go : (b : Bool) → is_mark_of t mark ≡ b → is_mark_of t mark ≡ false
    go false e = e
    go true e = absurd (let still = closed mark e may in cc)

committed_apart : (marks : List Mark) (mark : Mark) (t : ℕ) → state_of marks t ≡ state.Committed → may_follow marks mark ≡ true → is_mark_of t mark ≡ false
committed_apart marks mark t done may = apart marks mark t (rw done refl) may

discarded_apart : (marks : List Mark) (mark : Mark) (t : ℕ) → state_of marks t ≡ state.Discarded → may_follow marks mark ≡ true → is_mark_of t mark ≡ false
discarded_apart marks mark t gone may = apart marks mark t (rw gone refl) may

pub committed_stays : (before later : List Mark) (t : ℕ) → is_legal (before ++ later) ≡ true
    → state_of before t ≡ state.Committed → state_of (before ++ later) t ≡ state.Committed
committed_stays before later t h done =
    along (λ (ms : List Mark). state_of ms t ≡ state.Committed)
    (λ ms m may e. state_push_other ms m t (committed_apart ms m t e may) ∙ e)
    before later (legal_parts before later h).1 done

pub discarded_stays : (before later : List Mark) (t : ℕ) → is_legal (before ++ later) ≡ true
    → state_of before t ≡ state.Discarded → state_of (before ++ later) t ≡ state.Discarded
discarded_stays before later t h gone =
    along (λ (ms : List Mark). state_of ms t ≡ state.Discarded)
    (λ ms m may e. state_push_other ms m t (discarded_apart ms m t e may) ∙ e)
    before later (legal_parts before later h).1 gone

-- it keeps its versions
record IsCommittedWith (old : List Mark) (i t : ℕ) (marks : List Mark) : Type 0 where
  done : state_of marks t ≡ state.Committed
  same : version marks i t ≡ version old i t

pub version_stays : (before later : List Mark) (i t : ℕ) → is_legal (before ++ later) ≡ true
    → state_of before t ≡ state.Committed → version (before ++ later) i t ≡ version before i t
version_stays before later i t h done =
    (along (IsCommittedWith before i t)
    (λ ms m may e. let other = committed_apart ms m t e.done may in
    record { done = state_push_other ms m t other ∙ e.done; same = version_push_other ms m i t other ∙ e.same })
    before later (legal_parts before later h).1 (record { done = done; same = refl })).same

-- ---- the latest stamp

max_left : (m n : ℕ) → m ≤ max m n
max_left m n = omega arith

latest_more : (marks : List Mark) (mark : Mark) (i : ℕ) → may_follow marks mark ≡ true → latest marks i ≤ latest (marks ++ mark ∷ []) i
latest_more marks (Prepared t ws is) i may =
    let same = latest_prepared marks t ws is (is_unknown_tells (state_of marks t) may) i in omega arith
latest_more marks (Discarded t) i may =
    let same = latest_discarded marks t (uncommitted (state_of marks t) refl may) i in omega arith
  where
    uncommitted : (s : StampState) → state_of marks t ≡ s → is_unknown s || is_pending s ≡ true → list_any (commits t) marks ≡ false
    uncommitted state.Unknown e f = (unknown_tells _ _ _ e).0
    uncommitted state.Pending e f = (pending_tells _ _ _ e).0
    uncommitted state.Committed e f = absurd (cc)
    uncommitted state.Discarded e f = absurd (cc)
latest_more marks (Committed t) i may = rw (latest_committed marks t i) (go (has_version marks i t))
  where
    go : (b : Bool) → latest marks i ≤ (if b then max (latest marks i) t else latest marks i)
    go true = max_left (latest marks i) t
    go false = omega arith
latest_more marks (Trimmed j) i may = let same = latest_trimmed marks j i in omega arith

pub latest_rises : (before later : List Mark) (i : ℕ) → is_legal (before ++ later) ≡ true → latest before i ≤ latest (before ++ later) i
latest_rises before later i h =
    along (λ (ms : List Mark). latest before i ≤ latest ms i)
    (λ ms m may e. let more = latest_more ms m i may in omega arith)
    before later (legal_parts before later h).1 (omega arith)

-- ---- the load

load_more : (marks : List Mark) (mark : Mark) → is_legal marks ≡ true → may_follow marks mark ≡ true → load marks ≤ load (marks ++ mark ∷ [])
load_more marks (Prepared t ws is) h may =
    let one : length (marks ++ Prepared t ws is ∷ []) ≡ length marks + 1 = length-append marks (Prepared t ws is ∷ []) in
    let more = prepared_counts marks t ws is (is_unknown_tells (state_of marks t) may) in
    omega arith
load_more marks (Committed t) h may =
    let one : length (marks ++ Committed t ∷ []) ≡ length marks + 1 = length-append marks (Committed t ∷ []) in
    let fewer = committed_counts marks t h (is_pending_tells (state_of marks t) may) in
    omega arith
load_more marks (Discarded t) h may = go (state_of marks t) refl may
  where
    one : length (marks ++ Discarded t ∷ []) ≡ length marks + 1
    one = length-append marks (Discarded t ∷ [])

    go : (s : StampState) → state_of marks t ≡ s → is_unknown s || is_pending s ≡ true → load marks ≤ load (marks ++ Discarded t ∷ [])
    go state.Unknown e f = let same = refused_counts marks t e in let more = one in omega arith
    go state.Pending e f = let fewer = discarded_counts marks t h e in let more = one in omega arith
    go state.Committed e f = absurd (cc)
    go state.Discarded e f = absurd (cc)
load_more marks (Trimmed i) h may =
    let one : length (marks ++ Trimmed i ∷ []) ≡ length marks + 1 = length-append marks (Trimmed i ∷ []) in
    let same = trimmed_counts marks i in
    omega arith

pub load_rises : (before later : List Mark) → is_legal (before ++ later) ≡ true → load before ≤ load (before ++ later)
load_rises before later h =
    along_legal (λ (ms : List Mark). load before ≤ load ms)
    (λ ms m legal may e. let more = load_more ms m legal may in omega arith)
    before later h (omega arith)

pub full_still : (before later : List Mark) (limit : ℕ) → is_legal (before ++ later) ≡ true
    → is_full limit before ≡ true → is_full limit (before ++ later) ≡ true
full_still before later limit h full =
    let rises = load_rises before later h in
    let above : limit < load before + 2 = (Decides-ltb limit (load before + 2)).0 full in
    (Decides-ltb limit (load (before ++ later) + 2)).1 (omega arith)

-- ---- a promise against a stamp

record IsGone (t : ℕ) (marks : List Mark) : Type 0 where
  gone : state_of marks t ≡ state.Discarded
  unprepared : list_any (prepares t) marks ≡ false

gone_for_good : (before later : List Mark) (t : ℕ) → is_legal (before ++ Discarded t ∷ later) ≡ true
    → list_any (prepares t) before ≡ false → IsGone t (before ++ Discarded t ∷ later)
gone_for_good before later t h none =
    subst (IsGone t) (append_assoc before (Discarded t ∷ []) later)
    (along (IsGone t)
    (λ ms m may e. let other = discarded_apart ms m t e.gone may in
    record { gone = state_push_other ms m t other ∙ e.gone; unprepared = any_push_no (prepares t) ms m (prepares_no m t other) ∙ e.unprepared })
    (before ++ Discarded t ∷ []) later (legal_parts (before ++ Discarded t ∷ []) later (subst (λ (ms : List Mark). is_legal ms ≡ true) (sym (append_assoc before (Discarded t ∷ []) later)) h)).1
    first)
  where
    may : may_follow before (Discarded t) ≡ true
    may = (and_parts (may_follow before (Discarded t)) _ (legal_parts before (Discarded t ∷ later) h).1).0

    uncommitted : (s : StampState) → state_of before t ≡ s → is_unknown s || is_pending s ≡ true → list_any (commits t) before ≡ false
    uncommitted state.Unknown e f = (unknown_tells _ _ _ e).0
    uncommitted state.Pending e f = (pending_tells _ _ _ e).0
    uncommitted state.Committed e f = absurd (cc)
    uncommitted state.Discarded e f = absurd (cc)

    first : IsGone t (before ++ Discarded t ∷ [])
    first =
        record {
          gone = discarded_is_discarded before t (uncommitted (state_of before t) refl may);
          unprepared = any_push_no (prepares t) before (Discarded t) refl ∙ none;
        }

promised_is_gone : (marks : List Mark) (t : ℕ) → is_legal marks ≡ true → IsPromisedAgainst marks t → IsGone t marks
promised_is_gone marks t h p =
    subst (IsGone t) (sym p.discarded)
    (gone_for_good p.before p.later t (subst (λ (ms : List Mark). is_legal ms ≡ true) p.discarded h) p.unprepared)

pub promised_unprepared : (marks : List Mark) (t : ℕ) → is_legal marks ≡ true → IsPromisedAgainst marks t → list_any (prepares t) marks ≡ false
promised_unprepared marks t h p = (promised_is_gone marks t h p).unprepared

pub promised_discarded : (marks : List Mark) (t : ℕ) → is_legal marks ≡ true → IsPromisedAgainst marks t → state_of marks t ≡ state.Discarded
promised_discarded marks t h p = (promised_is_gone marks t h p).gone

pub promised_stays : (marks later : List Mark) (t : ℕ) → IsPromisedAgainst marks t → IsPromisedAgainst (marks ++ later) t
promised_stays marks later t p =
    record {
      before = p.before;
      later = p.later ++ later;
      discarded = ap (λ (ms : List Mark). ms ++ later) p.discarded ∙ append_assoc p.before (Discarded t ∷ p.later) later;
      unprepared = p.unprepared;
    }
