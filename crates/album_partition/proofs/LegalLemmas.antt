-- What follows where each mark may follow those before it, and what such marks never hold.
use Rattle.std.proofs.Common.{◌≡◌, ℕ, ◌≤◌, ◌+◌, Bool, true, false, ◌==◌, ◌||◌, cond, List, [], ◌∷◌, ◌++◌, length, filter, refl, sym, ap, ◌∙◌, subst, arith}
use Rattle.std.specs.List.{list_any}
use Rattle.std.proofs.lemmas.List.{append_assoc, append-nil, length-append}
use Rattle.std.proofs.lemmas.Bool.{and_parts, and_from}
use Rattle.std.proofs.Math.Bool.{or-false}
use Rattle.std.proofs.lemmas.Bool.Decides.{Decides-eqb}
use Rattle.std.proofs.lemmas.List.Elements.{filter-append, filter_map-append}
use Rattle.album_partition.specs.declared.marks.Mark.{Mark}
use Rattle.album_partition.specs.declared.marks.Mark.TheVariants.{Prepared, Committed, Discarded, Trimmed}
use Rattle.album_partition.specs.Marks.{prepares, state_of, prepare_in, prepared_stamps, may_follow, legal_after, is_legal, commits, discards, decides, is_unknown, is_pending}
use Rattle.album_partition.proofs.StateLemmas.{unknown_tells, is_unknown_tells, any_push, pending_tells, is_pending_tells}
use Rattle.album_items.specs.Openings.{Row}
use Rattle.album_terminate.specs.declared.deciding.StampState.{StampState}
use Rattle.album_terminate.specs.declared.deciding.StampState.TheVariants as state

legal_after-push : (before marks : List Mark) (mark : Mark) → legal_after before marks ≡ true → may_follow (before ++ marks) mark ≡ true → legal_after before (marks ++ mark ∷ []) ≡ true
legal_after-push before [] mark h may = and_from (may_follow before mark) true (subst (λ ms. may_follow ms mark ≡ true) (append-nil before) may) refl
legal_after-push before (m ∷ marks) mark h may =
    and_from (may_follow before m) (legal_after (before ++ m ∷ []) (marks ++ mark ∷ []))
    (and_parts (may_follow before m) (legal_after (before ++ m ∷ []) marks) h).0
    (legal_after-push (before ++ m ∷ []) marks mark (and_parts (may_follow before m) (legal_after (before ++ m ∷ []) marks) h).1 (subst (λ ms. may_follow ms mark ≡ true) (sym (append_assoc before (m ∷ []) marks)) may))

-- one mark more
pub is_legal-push : (marks : List Mark) (mark : Mark) → is_legal marks ≡ true → may_follow marks mark ≡ true → is_legal (marks ++ mark ∷ []) ≡ true
is_legal-push marks mark h may = legal_after-push [] marks mark h may

-- ---- a fact that one mark more keeps

-- is kept by all marks that follow
pub along : (P : List Mark → Type 0)
    → ((marks : List Mark) (mark : Mark) → may_follow marks mark ≡ true → P marks → P (marks ++ mark ∷ []))
    → (before later : List Mark) → legal_after before later ≡ true → P before → P (before ++ later)
along P more before [] h p = subst P (sym (append-nil before)) p
along P more before (m ∷ later) h p =
    let may = and_parts (may_follow before m) (legal_after (before ++ m ∷ []) later) h in
    subst P (append_assoc before (m ∷ []) later) (along P more (before ++ m ∷ []) later may.1 (more before m may.0 p))

-- marks that are legal are so to each of them, and from there on
pub legal_parts : (before later : List Mark) → is_legal (before ++ later) ≡ true
    → (is_legal before ≡ true) × (legal_after before later ≡ true)
legal_parts before later h = go [] before h
  where
    go : (seen rest : List Mark) → legal_after seen (rest ++ later) ≡ true
        → (legal_after seen rest ≡ true) × (legal_after (seen ++ rest) later ≡ true)
    go seen [] e = (refl, subst (λ (ms : List Mark). legal_after ms later ≡ true) (sym (append-nil seen)) e)
    go seen (m ∷ rest) e =
        let may = and_parts (may_follow seen m) (legal_after (seen ++ m ∷ []) (rest ++ later)) e in
        let h = go (seen ++ m ∷ []) rest may.1 in (
          and_from (may_follow seen m) (legal_after (seen ++ m ∷ []) rest) may.0 h.0,
          subst (λ (ms : List Mark). legal_after ms later ≡ true) (append_assoc seen (m ∷ []) rest) h.1,
        )

-- the same of a fact that is kept where the marks are legal too
pub along_legal : (P : List Mark → Type 0)
    → ((marks : List Mark) (mark : Mark) → is_legal marks ≡ true → may_follow marks mark ≡ true → P marks → P (marks ++ mark ∷ []))
    → (before later : List Mark) → is_legal (before ++ later) ≡ true → P before → P (before ++ later)
along_legal P more before later h p =
    let parts = legal_parts before later h in
    (along (λ (ms : List Mark). (is_legal ms ≡ true) × P ms)
    (λ ms m may q. (is_legal-push ms m q.0 may, more ms m q.0 may q.1))
    before later parts.1 (parts.0, p)).1

-- ---- how often a stamp is prepared

abbrev pub times : ℕ → List ℕ → ℕ
times t stamps = length (filter (λ s. s == t) stamps)

times_append : (t : ℕ) (xs ys : List ℕ) → times t (xs ++ ys) ≡ times t xs + times t ys
times_append t xs ys = ap length (filter-append (λ s. s == t) xs ys) ∙ length-append (filter (λ s. s == t) xs) (filter (λ s. s == t) ys)

times_push : (t : ℕ) (marks : List Mark) (mark : Mark) → times t (prepared_stamps (marks ++ mark ∷ [])) ≡ times t (prepared_stamps marks) + times t (prepared_stamps (mark ∷ []))
times_push t marks mark = ap (times t) (filter_map-append prepare_in marks (mark ∷ [])) ∙ times_append t (prepared_stamps marks) (prepared_stamps (mark ∷ []))

pub times_none : (t : ℕ) (marks : List Mark) → list_any (prepares t) marks ≡ false → times t (prepared_stamps marks) ≡ 0
times_none t [] e = refl
times_none t (Committed s ∷ marks) e = times_none t marks e
times_none t (Discarded s ∷ marks) e = times_none t marks e
times_none t (Trimmed i ∷ marks) e = times_none t marks e
times_none t (Prepared s ws is ∷ marks) e = go (s == t) e (times_none t marks)
  where
    go : (b : Bool) → b || list_any (prepares t) marks ≡ false → (list_any (prepares t) marks ≡ false → times t (prepared_stamps marks) ≡ 0) → length (cond b (s ∷ filter (λ s. s == t) (prepared_stamps marks)) (filter (λ s. s == t) (prepared_stamps marks))) ≡ 0
    go true e rest = absurd (cc)
    go false e rest = rest e

times_some : (t : ℕ) (marks : List Mark) → list_any (prepares t) marks ≡ true → 1 ≤ times t (prepared_stamps marks)
times_some t [] e = absurd (cc)
times_some t (Committed s ∷ marks) e = times_some t marks e
times_some t (Discarded s ∷ marks) e = times_some t marks e
times_some t (Trimmed i ∷ marks) e = times_some t marks e
times_some t (Prepared s ws is ∷ marks) e = go (s == t) e (times_some t marks)
  where
    go : (b : Bool) → b || list_any (prepares t) marks ≡ true → (list_any (prepares t) marks ≡ true → 1 ≤ times t (prepared_stamps marks)) → 1 ≤ length (cond b (s ∷ filter (λ s. s == t) (prepared_stamps marks)) (filter (λ s. s == t) (prepared_stamps marks)))
    go true e rest = omega arith
    go false e rest = rest e

one_is : (s t : ℕ) → (s == t) ≡ true → times t (s ∷ []) ≡ 1
one_is s t e = rw e refl

one_is_not : (s t : ℕ) → (s == t) ≡ false → times t (s ∷ []) ≡ 0
one_is_not s t e = rw e refl

times_more : (t : ℕ) (before : List Mark) (mark : Mark) → may_follow before mark ≡ true → times t (prepared_stamps before) ≤ 1 → times t (prepared_stamps (before ++ mark ∷ [])) ≤ 1
times_more t before (Committed s) may few = (let more = times_push t before (Committed s) in omega arith)
times_more t before (Discarded s) may few = (let more = times_push t before (Discarded s) in omega arith)
times_more t before (Trimmed i) may few = (let more = times_push t before (Trimmed i) in omega arith)
times_more t before (Prepared s ws is) may few = go (s == t) refl
  where
    unprepared : list_any (prepares s) before ≡ false
    unprepared = (unknown_tells _ _ _ (is_unknown_tells (state_of before s) may)).2

    none : (s == t) ≡ true → times t (prepared_stamps before) ≡ 0
    none e = times_none t before (subst (λ u. list_any (prepares u) before ≡ false) ((Decides-eqb s t).0 e) unprepared)

    go : (b : Bool) → (s == t) ≡ b → times t (prepared_stamps (before ++ Prepared s ws is ∷ [])) ≤ 1
    go true e = (let more = times_push t before (Prepared s ws is) in let one = one_is s t e in let zero = none e in omega arith)
    go false e = (let more = times_push t before (Prepared s ws is) in let zero = one_is_not s t e in omega arith)

-- no stamp is prepared twice
pub times_once : (t : ℕ) (marks : List Mark) → is_legal marks ≡ true → list_any (prepares t) marks ≡ true → times t (prepared_stamps marks) ≡ 1
times_once t marks h e =
    let some = times_some t marks e in
    let few = along (λ (ms : List Mark). times t (prepared_stamps ms) ≤ 1) (times_more t) [] marks h (omega arith) in
    omega arith

-- ---- each mark may follow those before it

follows_after : (seen before later : List Mark) (mark : Mark) → legal_after seen (before ++ mark ∷ later) ≡ true → may_follow (seen ++ before) mark ≡ true
follows_after seen [] later mark h = subst (λ (ms : List Mark). may_follow ms mark ≡ true) (sym (append-nil seen)) (and_parts (may_follow seen mark) (legal_after (seen ++ mark ∷ []) later) h).0
follows_after seen (m ∷ before) later mark h =
    subst (λ (ms : List Mark). may_follow ms mark ≡ true) (append_assoc seen (m ∷ []) before)
    (follows_after (seen ++ m ∷ []) before later mark (and_parts (may_follow seen m) (legal_after (seen ++ m ∷ []) (before ++ mark ∷ later)) h).1)

pub follows : (before later : List Mark) (mark : Mark) → is_legal (before ++ mark ∷ later) ≡ true → may_follow before mark ≡ true
follows before later mark h = follows_after [] before later mark h

-- ---- what may follow only once occurs at most once

none_kept : (test : Mark → Bool) (marks : List Mark) → list_any test marks ≡ false → filter test marks ≡ []
none_kept test [] e = refl
none_kept test (m ∷ marks) e = go (test m) e (none_kept test marks)
  where
    go : (b : Bool) → b || list_any test marks ≡ false → (list_any test marks ≡ false → filter test marks ≡ []) → cond b (m ∷ filter test marks) (filter test marks) ≡ []
    go true e h = absurd (cc)
    go false e h = h e

pushed_length : (test : Mark → Bool) (marks : List Mark) (mark : Mark) → length (filter test (marks ++ mark ∷ [])) ≡ length (filter test marks) + length (filter test (mark ∷ []))
pushed_length test marks mark = ap length (filter-append test marks (mark ∷ [])) ∙ length-append (filter test marks) (filter test (mark ∷ []))

one_kept : (b : Bool) (mark : Mark) → length (cond b (mark ∷ []) []) ≤ 1
one_kept true mark = omega arith
one_kept false mark = omega arith

once_more : (test : Mark → Bool) (marks : List Mark) (mark : Mark) → (test mark ≡ true → list_any test marks ≡ false) → length (filter test marks) ≤ 1 → length (filter test (marks ++ mark ∷ [])) ≤ 1
once_more test marks mark new few = go (test mark) refl
  where
    go : (b : Bool) → test mark ≡ b → length (filter test (marks ++ mark ∷ [])) ≤ 1
    go true e =
        let zero : length (filter test marks) ≡ 0 = ap length (none_kept test marks (new e)) in
        let one : length (filter test (mark ∷ [])) ≤ 1 = one_kept (test mark) mark in
        let pushed : length (filter test (marks ++ mark ∷ [])) ≡ length (filter test marks) + length (filter test (mark ∷ [])) = pushed_length test marks mark in
        omega arith
    go false e =
        let zero : length (filter test (mark ∷ [])) ≡ 0 = rw e refl in
        let pushed : length (filter test (marks ++ mark ∷ [])) ≡ length (filter test marks) + length (filter test (mark ∷ [])) = pushed_length test marks mark in
        omega arith

once_after : (test : Mark → Bool)
    → ((marks : List Mark) (mark : Mark) → may_follow marks mark ≡ true → test mark ≡ true → list_any test marks ≡ false)
    → (marks : List Mark) → is_legal marks ≡ true → length (filter test marks) ≤ 1
once_after test new marks h =
    along (λ (ms : List Mark). length (filter test ms) ≤ 1) (λ ms m may few. once_more test ms m (new ms m may) few)
    [] marks h (omega arith)

-- ---- a stamp is prepared once

new_prepare : (t : ℕ) (marks : List Mark) (mark : Mark) → may_follow marks mark ≡ true → prepares t mark ≡ true → list_any (prepares t) marks ≡ false
new_prepare t marks (Committed s) may e = absurd (cc)
new_prepare t marks (Discarded s) may e = absurd (cc)
new_prepare t marks (Trimmed i) may e = absurd (cc)
new_prepare t marks (Prepared s ws is) may e =
    subst (λ (u : ℕ). list_any (prepares u) marks ≡ false) ((Decides-eqb s t).0 e) (unknown_tells _ _ _ (is_unknown_tells (state_of marks s) may)).2

pub prepared_once : (marks : List Mark) (t : ℕ) → is_legal marks ≡ true → length (filter (prepares t) marks) ≤ 1
prepared_once marks t h = once_after (prepares t) (new_prepare t) marks h

-- ---- a stamp is decided once

any_either : (f g : Mark → Bool) (marks : List Mark) → list_any f marks ≡ false → list_any g marks ≡ false → list_any (λ m. f m || g m) marks ≡ false
any_either f g [] d e = refl
any_either f g (m ∷ marks) d e = go (f m) (g m) d e (any_either f g marks)
  where
    go : (a b : Bool) → a || list_any f marks ≡ false → b || list_any g marks ≡ false → (list_any f marks ≡ false → list_any g marks ≡ false → list_any (λ n. f n || g n) marks ≡ false) → (a || b) || list_any (λ n. f n || g n) marks ≡ false
    go true b d e h = absurd (cc)
    go false true d e h = absurd (cc)
    go false false d e h = h d e

not_decided : (t : ℕ) (marks : List Mark) (s : StampState) → state_of marks t ≡ s → is_unknown s || is_pending s ≡ true → list_any (decides t) marks ≡ false
not_decided t marks state.Unknown e may = let told = unknown_tells _ _ _ e in any_either (commits t) (discards t) marks told.0 told.1
not_decided t marks state.Pending e may = let told = pending_tells _ _ _ e in any_either (commits t) (discards t) marks told.0 told.1
not_decided t marks state.Committed e may = absurd (cc)
not_decided t marks state.Discarded e may = absurd (cc)

new_decision : (t : ℕ) (marks : List Mark) (mark : Mark) → may_follow marks mark ≡ true → decides t mark ≡ true → list_any (decides t) marks ≡ false
new_decision t marks (Prepared s ws is) may e = absurd (cc)
new_decision t marks (Trimmed i) may e = absurd (cc)
new_decision t marks (Committed s) may e =
    subst (λ (u : ℕ). list_any (decides u) marks ≡ false) ((Decides-eqb s t).0 (sym (or-false (s == t)) ∙ e)) (not_decided s marks state.Pending (is_pending_tells (state_of marks s) may) refl)
new_decision t marks (Discarded s) may e =
    subst (λ (u : ℕ). list_any (decides u) marks ≡ false) ((Decides-eqb s t).0 e) (not_decided s marks (state_of marks s) refl may)

pub decided_once : (marks : List Mark) (t : ℕ) → is_legal marks ≡ true → length (filter (decides t) marks) ≤ 1
decided_once marks t h = once_after (decides t) (new_decision t) marks h

-- ---- a stamp is committed only where it was prepared

prepared_more : (t : ℕ) (marks : List Mark) (mark : Mark) → may_follow marks mark ≡ true → (list_any (commits t) marks ≡ true → list_any (prepares t) marks ≡ true) → list_any (commits t) (marks ++ mark ∷ []) ≡ true → list_any (prepares t) (marks ++ mark ∷ []) ≡ true
prepared_more t marks mark may before e =
    any_push (prepares t) marks mark ∙ rw (was mark may (list_any (commits t) marks) refl (sym (any_push (commits t) marks mark) ∙ e)) refl
  where
    was : (m : Mark) → may_follow marks m ≡ true → (a : Bool) → list_any (commits t) marks ≡ a → a || commits t m ≡ true → list_any (prepares t) marks ≡ true
    was m may true f g = before f
    was (Prepared s ws is) may false f g = absurd (cc)
    was (Discarded s) may false f g = absurd (cc)
    was (Trimmed i) may false f g = absurd (cc)
    was (Committed s) may false f g = subst (λ (u : ℕ). list_any (prepares u) marks ≡ true) ((Decides-eqb s t).0 g) (pending_tells _ _ _ (is_pending_tells (state_of marks s) may)).2

pub committed_was_prepared : (marks : List Mark) (t : ℕ) → is_legal marks ≡ true → list_any (commits t) marks ≡ true → list_any (prepares t) marks ≡ true
committed_was_prepared marks t h e =
    along (λ (ms : List Mark). list_any (commits t) ms ≡ true → list_any (prepares t) ms ≡ true) (prepared_more t)
    [] marks h (λ f. absurd (cc)) e

-- ---- what is discarded is not prepared afterwards

pub discarded_for_good : (before later : List Mark) (t : ℕ) (ws : List Row) (is : List ℕ) → is_legal (before ++ Prepared t ws is ∷ later) ≡ true → list_any (discards t) before ≡ false
discarded_for_good before later t ws is h = (unknown_tells _ _ _ (is_unknown_tells (state_of before t) (follows before later (Prepared t ws is) h))).1
