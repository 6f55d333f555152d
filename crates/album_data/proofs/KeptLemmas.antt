-- What a log keeps is read of it (`kept_is_read`): a line in lines of entries is one of them (`line_parts`), and what is
-- read of an entry's line is the entry (`read_mark`).
use Rattle.std.proofs.Common.{◌≡◌, ◌≢◌, ℕ, ◌+◌, ◌-◌, ◌<◌, ◌≤◌, Bool, true, false, Result, List, [], ◌∷◌, ◌++◌, ◌⊎◌, inl, inr, length, take, drop, slice_index, Ok, refl, sym, ap, ◌∙◌, subst, append_assoc, arith}
use Rattle.std.specs.List.{Contains}
use Rattle.std.proofs.lemmas.Bool.{cases_lt}
use Rattle.std.proofs.lemmas.List.{length-append, length_push, take_at, take_all, append-nil, take-append-le, take-append-drop, get_or-append_right, get_or_append_left, get_or_push, append_cancel_left, append_cancel_right}
use Rattle.std.proofs.lemmas.List.Elements.{Contains-append_left, Contains-push}
use Rattle.serde_json.specs.Data.{Data, Members, object, member, no_members}
use Rattle.json.specs.Print.{quoted}
use Rattle.serde_json.specs.Written.{comma_if, compact_text, members_text}
use Rattle.album_items.specs.declared.values.Value.{Value}
use Rattle.album_partition.specs.declared.marks.Mark.{Mark}
use Rattle.album_partition.specs.declared.marks.Mark.TheVariants.{Prepared, Committed, Discarded, Trimmed}
use Rattle.album_keepers.specs.declared.log_entries.LogEntry.{LogEntry}
use Rattle.album_log.specs.Seals.{sealed, seal_of}
use Rattle.album_log.proofs.SealLemmas.{front_of_line, length_of_seal}
use Rattle.album_wire.specs.MarkLine.{mark_json, mark_line_of, mark_text}
use Rattle.album_wire.specs.Spellable.{IsSpellableMark}
use Rattle.album_wire.specs.declared.mark_line.PreparedMark.{PreparedMark}
use Rattle.album_data.specs.Recovery.{AreEntryLines, IsEntryLine, entry_with}
use Rattle.album_data.specs.Recovery.AreEntryLines.{none, more}
use Rattle.album_data.specs.Texts.{HasLine, IsLine, IsSpellableEntry, IsSpellableOf, entry_text, mark_line, without_end}

-- ---- the text of an object, without its end

regroup : (a b c front : List ℕ) → a ++ (b ++ 58 ∷ (c ++ (front ++ 125 ∷ []))) ≡ (a ++ (b ++ 58 ∷ (c ++ front))) ++ 125 ∷ []
regroup a b c front = simp append_assoc

-- the members end with the bracket
members_end : (later : Bool) (ms : Members) → (front : List ℕ) × (members_text later ms ≡ front ++ 125 ∷ [])
members_end later no_members = ([], refl)
members_end later (member k d ms) =
    let (front, is) = members_end true ms in (
      comma_if later ++ (quoted k ++ 58 ∷ (compact_text d ++ front)),
      ap (λ (s : List ℕ). comma_if later ++ (quoted k ++ 58 ∷ (compact_text d ++ s))) is
          ∙ regroup (comma_if later) (quoted k) (compact_text d) front,
    )

front_is : (front : List ℕ) → without_end ((front ++ 125 ∷ []) ++ 10 ∷ []) ≡ front
front_is front =
    let text : List ℕ = (front ++ 125 ∷ []) ++ 10 ∷ [] in
    let long : length text - 2 ≡ length front = omega (arith, length_push (front ++ 125 ∷ []) 10, length_push front 125) in
    ap (λ (n : ℕ). take n text) long
    ∙ (ap (take (length front)) (append_assoc front (125 ∷ []) (10 ∷ [])) ∙ take_at front (125 ∷ 10 ∷ []) (length front) refl)

-- the bracket is there again
bracket_again : (ms : Members) → without_end (compact_text (object ms) ++ 10 ∷ []) ++ 125 ∷ [] ≡ compact_text (object ms)
bracket_again ms =
    let (front, is) = members_end false ms in
    let whole : compact_text (object ms) ≡ (123 ∷ front) ++ 125 ∷ [] = ap (λ (s : List ℕ). 123 ∷ s) is in
    ap (λ (s : List ℕ). without_end (s ++ 10 ∷ []) ++ 125 ∷ []) whole
    ∙ (ap (λ (s : List ℕ). s ++ 125 ∷ []) (front_is (123 ∷ front)) ∙ sym whole)

-- those of an object
abbrev members_of : Data → Members
members_of (object ms) = ms
members_of d = no_members

-- ---- a line in lines of entries

-- the newline at `stop` is the first one from `start` on
record HasNewline (text : List ℕ) (start stop : ℕ) : Type 0 where
  pub at : slice_index text stop ≡ 10
  pub no_other : (k : ℕ) → start ≤ k → k < stop → slice_index text k ≢ 10

-- it is cut there at its start or behind a newline
abbrev EndsAt : List ℕ → ℕ → Type 0
EndsAt text n = 0 < n → slice_index text (n - 1) ≡ 10

byte_at : (before line after : List ℕ) (k : ℕ) → length before ≤ k → k < length before + length line
    → slice_index (before ++ (line ++ after)) k ≡ slice_index line (k - length before)
byte_at before line after k low high =
    get_or-append_right before (line ++ after) (length before) k 0 refl low
    ∙ get_or_append_left line after 0 (k - length before) (omega arith)

length_of_line : (line : List ℕ) (one : IsLine line) → length line ≡ length one.front + 1
length_of_line line one = ap length one.is ∙ length_push one.front 10

newline_of : (before line after : List ℕ) (one : IsLine line)
    → HasNewline (before ++ (line ++ after)) (length before) (length before + length one.front)
newline_of before line after one =
    let long : length line ≡ length one.front + 1 = length_of_line line one in
    record {
      at = byte_at before line after (length before + length one.front) (omega arith) (omega arith)
          ∙ (ap (λ (s : List ℕ). slice_index s (length before + length one.front - length before)) one.is
          ∙ get_or_push one.front 10 0 (length before + length one.front - length before) (omega arith));
      no_other = λ k low high e.
          let here : slice_index one.front (k - length before) ≡ 10 =
          sym (get_or_append_left one.front (10 ∷ []) 0 (k - length before) (omega arith))
          ∙ (ap (λ (s : List ℕ). slice_index s (k - length before)) (sym one.is)
          ∙ (sym (byte_at before line after k low (omega arith)) ∙ e)) in
          one.no_other (k - length before) (omega arith) here;
    }

-- two lines of a text that end from `n` on are one
same_place : (text : List ℕ) (n p b q : ℕ) → HasNewline text n (n + p) → HasNewline text b (b + q)
    → EndsAt text n → EndsAt text b → b + q ≤ n + p → n ≤ b + q → (b ≡ n) × (q ≡ p)
same_place text n p b q mine its here there within reaches =
    elim (cases_lt (b + q) (n + p)) [
      | inl low ↦ absurd (mine.no_other (b + q) reaches low its.at)
      | inr high ↦ elim (cases_lt b n) [
        | inl less ↦ absurd (its.no_other (n - 1) (omega arith) (omega arith) (here (omega arith)))
        | inr no_less ↦ elim (cases_lt n b) [
          | inl greater ↦ absurd (mine.no_other (b - 1) (omega arith) (omega arith) (there (omega arith)))
          | inr no_greater ↦ (omega arith, omega arith)
        ]
      ]
    ]

-- a line that ends within a text is there without what is behind the text
line_within : (text behind before line after : List ℕ) → text ++ behind ≡ before ++ (line ++ after)
    → length before + length line ≤ length text
    → text ≡ before ++ (line ++ drop (length before + length line) text)
line_within text behind before line after is within =
    let n : ℕ = length before + length line in
    let front : take n text ≡ before ++ line =
    sym (take-append-le n text behind within)
    ∙ (ap (take n) (is ∙ sym (append_assoc before line after)) ∙ take_at (before ++ line) after n (length-append before line)) in
    sym (take-append-drop n text)
    ∙ (ap (λ (s : List ℕ). s ++ drop n text) front ∙ append_assoc before line (drop n text))

-- a line at the end of a text is its last one
line_last : (text last before line after : List ℕ) → text ++ last ≡ before ++ (line ++ after)
    → length before ≡ length text → length line ≡ length last → last ≡ line
line_last text last before line after is at long =
    let n : ℕ = length text in
    let front : text ≡ before =
    sym (take_at text last n refl) ∙ (ap (take n) is ∙ take_at before (line ++ after) n at) in
    let rest : last ≡ line ++ after =
    append_cancel_left text last (line ++ after) (is ∙ ap (λ (s : List ℕ). s ++ (line ++ after)) (sym front)) in
    sym (take_all (length line) last (omega arith))
    ∙ (ap (take (length line)) rest ∙ take_at line after (length line) refl)

-- a line of a text with a line more is in the text, or it is that one
line_parts : (text last line : List ℕ) → IsLine last → EndsAt text (length text) → HasLine (text ++ last) line
    → HasLine text line ⊎ (last ≡ line)
line_parts text last line one ends has =
    let whole : List ℕ = has.before ++ (line ++ has.after) in
    let mine_long : length last ≡ length one.front + 1 = length_of_line last one in
    let its_long : length line ≡ length has.one.front + 1 = length_of_line line has.one in
    let long : length text + length last ≡ length has.before + (length line + length has.after) =
    sym (length-append text last) ∙ (ap length has.there ∙ (length-append has.before (line ++ has.after)
    ∙ ap (λ (n : ℕ). length has.before + n) (length-append line has.after))) in
    elim (cases_lt (length has.before + length has.one.front) (length text)) [
      | inl within ↦ inl (record {
        before = has.before;
        after = drop (length has.before + length line) text;
        whole = has.whole;
        one = has.one;
        there = line_within text last has.before line has.after has.there (omega arith);
      })
      | inr reaches ↦
          let mine : HasNewline whole (length text) (length text + length one.front) =
          subst (λ (s : List ℕ). HasNewline s (length text) (length text + length one.front))
          (ap (λ (s : List ℕ). text ++ s) (append-nil last) ∙ has.there) (newline_of text last [] one) in
          let here : EndsAt whole (length text) = λ some.
          ap (λ (s : List ℕ). slice_index s (length text - 1)) (sym has.there)
          ∙ (get_or_append_left text last 0 (length text - 1) (omega arith) ∙ ends some) in
          let there : EndsAt whole (length has.before) = λ some.
          get_or_append_left has.before (line ++ has.after) 0 (length has.before - 1) (omega arith) ∙ has.whole.ends some in
          let place : (length has.before ≡ length text) × (length has.one.front ≡ length one.front) =
          same_place whole (length text) (length one.front) (length has.before) (length has.one.front)
          mine (newline_of has.before line has.after has.one) here there (omega arith) reaches in
          inr (line_last text last has.before line has.after has.there place.0 (omega (arith, place.1)))
    ]

-- lines of entries end with a newline
lines_end : (text : List ℕ) (entries : List LogEntry) → AreEntryLines text entries → EndsAt text (length text)
lines_end text entries none some = absurd (omega (arith, some))
lines_end text entries (more before line entry others read one says) some =
    let is : before ++ line ≡ (before ++ one.front) ++ 10 ∷ [] =
    ap (λ (s : List ℕ). before ++ s) one.is ∙ sym (append_assoc before one.front (10 ∷ [])) in
    let long : length (before ++ line) ≡ length (before ++ one.front) + 1 = ap length is ∙ length_push (before ++ one.front) 10 in
    ap (λ (s : List ℕ). slice_index s (length (before ++ line) - 1)) is
    ∙ get_or_push (before ++ one.front) 10 0 (length (before ++ line) - 1) (omega arith)

-- an empty text has no line
no_line : (line : List ℕ) → HasLine [] line → ⊥
no_line line has =
    let long : 0 ≡ length has.before + (length line + length has.after) =
    ap length has.there ∙ (length-append has.before (line ++ has.after)
    ∙ ap (λ (n : ℕ). length has.before + n) (length-append line has.after)) in
    omega (arith, length_of_line line has.one)

-- ---- what is read of an entry's line

-- what is sealed can be told from the sealed bytes
sealed_same : (a b : List ℕ) → sealed a ≡ sealed b → a ≡ b
sealed_same a b is =
    sym (front_of_line (sealed a) a (seal_of a) refl (length_of_seal a))
    ∙ front_of_line (sealed a) b (seal_of b) is (length_of_seal b)

ok_same : {X E : Type 0} (x y : X) → Path (Result X E) (Ok x) (Ok y) → x ≡ y
ok_same x y is = cc

module _
    (text_is : (part stamp : ℕ) (writes : List (ℕ × Value)) (items : List ℕ)
    → mark_text part stamp writes items ≡ compact_text (mark_json part stamp writes items) ++ 10 ∷ [])
    (back : (mark : PreparedMark) → IsSpellableMark mark
    → mark_line_of (compact_text (mark_json mark.part mark.stamp mark.writes mark.items)) ≡ Ok mark)
  where
    -- what is read of the line of a mark is that mark
    read_mark : (part : ℕ) (mark : Mark) (line : List ℕ) (e : LogEntry) → IsSpellableOf part mark → line ≡ mark_line part mark
        → IsEntryLine line e → e ≡ record { part = part; mark = mark }
    read_mark part (Committed stamp) line e h is says = absurd h
    read_mark part (Discarded stamp) line e h is says = absurd h
    read_mark part (Trimmed item) line e h is says = absurd h
    read_mark part (Prepared stamp writes items) line e h is says =
        let text : List ℕ = without_end (mark_text part stamp writes items) in
        let body : says.body ≡ text =
        sealed_same says.body text (append_cancel_right (sealed says.body) (sealed text) (10 ∷ []) (sym says.is ∙ is)) in
        let spelled : says.body ++ 125 ∷ [] ≡ compact_text (mark_json part stamp writes items) =
        ap (λ (s : List ℕ). s ++ 125 ∷ []) (body ∙ ap without_end (text_is part stamp writes items))
        ∙ bracket_again (members_of (mark_json part stamp writes items)) in
        let mark : PreparedMark = record { part = part; stamp = stamp; writes = writes; items = items } in
        let same : says.mark ≡ mark =
        ok_same says.mark mark (sym says.says ∙ (ap mark_line_of spelled ∙ back mark h)) in
        says.spells ∙ ap entry_with same

    -- the entry whose line a text of entries' lines has is one of these
    pub kept_is_read : (text : List ℕ) (entries : List LogEntry) (entry : LogEntry) → AreEntryLines text entries
        → HasLine text (entry_text entry) → IsSpellableEntry entry → Contains entries entry
    kept_is_read text entries entry none has spellable = absurd (no_line (entry_text entry) has)
    kept_is_read text entries entry (more before line e others read one says) has spellable =
        elim (line_parts before line (entry_text entry) one (lines_end before others read) has) [
          | inl within ↦ Contains-append_left others (e ∷ []) entry (kept_is_read before others entry read within spellable)
          | inr same ↦
              subst (Contains (others ++ e ∷ []))
              (read_mark entry.part entry.mark line e spellable same says) (Contains-push others e)
        ]
