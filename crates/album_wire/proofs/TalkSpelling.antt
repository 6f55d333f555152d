-- What is read of a line of a connection is what spells it. For `hellos_by_line` and `talks_by_line`, which are
-- `one_hello_line` and `one_talk_line`.
use Rattle.std.proofs.Common.{◌≡◌, ◌↔◌, ℕ, true, List, [], ◌∷◌, codes, Ok, refl, ap, ◌∙◌, subst}
use Rattle.std.specs.Option.{ok_or}
use Rattle.serde_json.specs.Data.{Data}
use Rattle.album_stamps.specs.declared.refusals.Refusal.TheVariants.{BadWho}
use Rattle.album_eval.specs.Matching.{principal_of}
use Rattle.album_eval.specs.declared.facts.Principal.{Principal}
use Rattle.album_views.specs.declared.asks.Ask.{Ask}
use Rattle.album_lines.specs.Fields.{guard, has, text_of, truth_of}
use Rattle.album_wire.specs.AskShape.{SpelledAsk, ask_shape_of}
use Rattle.album_wire.specs.EventShape.{part_named, sweep_of, trim_of}
use Rattle.album_wire.specs.Asks.{ask_read}
use Rattle.album_wire.specs.TalkShape.{SpelledTalk, Asked, Pending, Swept, Dumped, Trimmed, hello_shape_of, talk_ask_shape_of, pending_shape_of, talk_sweep_shape_of, dump_shape_of, talk_trim_shape_of, talk_shape_of}
use Rattle.album_wire.specs.TalkLine.{hello_line_of, talk_read, talk_line_of}
use Rattle.album_wire.specs.ObjectSpelling.{IsTruth, HasMember, HasJust}
use Rattle.album_wire.specs.AskSpelling.{IsAsk}
use Rattle.album_wire.specs.EventSpelling.{IsPrincipal, IsPart, IsSweep, IsTrim}
use Rattle.album_wire.specs.TalkSpelling.{IsHello, IsTalk, IsHelloLine, IsTalkLine}
use Rattle.album_wire.specs.declared.talk_line.TalkLine.{TalkLine}
use Rattle.album_wire.specs.declared.talk_line.TalkLine.TheVariants as line
use Rattle.album_lines.proofs.Steps.{step_taken, same_value, test_passed}
use Rattle.album_wire.proofs.Forms.{step_then, on_test, on_true, on_false, IsString, string_form, truth_form, read_truth, names_taken, names_then, member_form, read_member, member_taken, member_then, member_as, member_parts, is_in, is_out, line_by, known_taken, known_then}
use Rattle.album_wire.proofs.ItemSpelling.{ReadsItems}
use Rattle.album_wire.proofs.AskSpelling.{ask_spelled, ask_parts}
use Rattle.album_wire.proofs.EventSpelling.{principal_form, principal_parts, part_form, read_part, sweep_form, read_sweep, trim_form, read_trim}

-- ---- the first line

hello_spelled : (who : Principal) (text : List ℕ) (d : Data) → hello_shape_of d ≡ Ok text
    → ok_or (principal_of text) BadWho ≡ Ok who
    → IsHello who d
unfolding hello_shape_of
hello_spelled who text d h g =
    let names = names_taken (codes "who" ∷ []) d _ text h in
    let is = member_form (codes "who") d text_of IsString string_form text names.1 in
    record {
      names = names.0;
      value = member_as (codes "who") d (IsString text) (IsPrincipal who) (principal_form who text g) is;
    }

hello_parts : (who : Principal) (d : Data) → IsHello who d
    → (text : List ℕ) × (hello_shape_of d ≡ Ok text) × (ok_or (principal_of text) BadWho ≡ Ok who)
unfolding hello_shape_of
hello_parts who d is =
    let text =
    member_parts (codes "who") d text_of (IsPrincipal who) (λ t. ok_or (principal_of t) BadWho ≡ Ok who)
    (principal_parts who) is.value in
    let read = read_member (codes "who") d text_of (λ e. text_of e ≡ Ok text.0) text.0 (λ e r. r) text.1 in
    (text.0, names_then (codes "who" ∷ []) d _ text.0 is.names read, text.2)

pub one_hello_line : (who : Principal) (bytes : List ℕ) → (hello_line_of bytes ≡ Ok who) ↔ IsHelloLine who bytes
unfolding hello_line_of
one_hello_line who bytes =
    line_by hello_shape_of (λ text. ok_or (principal_of text) BadWho) IsHello hello_spelled hello_parts who bytes

-- ---- what is pending, and sweeps

pending_spelled : (v : TalkLine) (s : SpelledTalk) (d : Data) → pending_shape_of d ≡ Ok s → talk_read s ≡ Ok v
    → IsTalk v d
unfolding pending_shape_of talk_read
pending_spelled v s d h g =
    let names = names_taken (codes "pending" ∷ []) d _ s h in
    let part = member_taken (codes "pending") d part_named IsPart part_form _ s names.1 in
    let shape : Pending part.0 ≡ s = same_value _ _ part.2 in
    let same : line.Pending part.0 ≡ v = same_value _ _ (ap talk_read shape ∙ g) in
    let is : IsTalk (line.Pending part.0) d = record { names = names.0; value = part.1 } in
    subst (λ w. IsTalk w d) same is

pending_parts : (part : ℕ) (d : Data) → HasJust (codes "pending") (IsPart part) d
    → (s : SpelledTalk) × (talk_shape_of d ≡ Ok s) × (talk_read s ≡ Ok (line.Pending part))
unfolding pending_shape_of talk_read
pending_parts part d is =
    let s : SpelledTalk = Pending part in
    let shape : pending_shape_of d ≡ Ok s =
    names_then (codes "pending" ∷ []) d _ s is.names
    (member_then (codes "pending") d part_named (IsPart part) part (read_part part) _ s is.value refl) in
    let which : talk_shape_of d ≡ Ok s =
    on_false (has (codes "ask") d) _ _ s (is_out _ (codes "ask") d is.names refl)
    (on_true (has (codes "pending") d) _ _ s (is_in (codes "pending") (IsPart part) d is.value) shape) in
    (s, which, refl)

swept_spelled : (v : TalkLine) (s : SpelledTalk) (d : Data) → talk_sweep_shape_of d ≡ Ok s → talk_read s ≡ Ok v
    → IsTalk v d
unfolding talk_sweep_shape_of talk_read
swept_spelled v s d h g =
    let names = names_taken (codes "sweep" ∷ []) d _ s h in
    let sweep =
    member_taken (codes "sweep") d sweep_of (λ (p : ℕ × ℕ) (e : Data). IsSweep p.0 p.1 e) sweep_form _ s names.1 in
    let shape : Swept sweep.0.0 sweep.0.1 ≡ s = same_value _ _ sweep.2 in
    let same : line.Sweep sweep.0.0 sweep.0.1 ≡ v = same_value _ _ (ap talk_read shape ∙ g) in
    let is : IsTalk (line.Sweep sweep.0.0 sweep.0.1) d = record { names = names.0; value = sweep.1 } in
    subst (λ w. IsTalk w d) same is

swept_parts : (part stamp : ℕ) (d : Data) → HasJust (codes "sweep") (IsSweep part stamp) d
    → (s : SpelledTalk) × (talk_shape_of d ≡ Ok s) × (talk_read s ≡ Ok (line.Sweep part stamp))
unfolding talk_sweep_shape_of talk_read
swept_parts part stamp d is =
    let s : SpelledTalk = Swept part stamp in
    let shape : talk_sweep_shape_of d ≡ Ok s =
    names_then (codes "sweep" ∷ []) d _ s is.names
    (member_then (codes "sweep") d sweep_of (IsSweep part stamp) (part, stamp) (read_sweep part stamp) _ s is.value
    refl) in
    let which : talk_shape_of d ≡ Ok s =
    on_false (has (codes "ask") d) _ _ s (is_out _ (codes "ask") d is.names refl)
    (on_false (has (codes "pending") d) _ _ s (is_out _ (codes "pending") d is.names refl)
    (on_true (has (codes "sweep") d) _ _ s (is_in (codes "sweep") (IsSweep part stamp) d is.value) shape)) in
    (s, which, refl)

-- ---- a dump

dumped_spelled : (v : TalkLine) (s : SpelledTalk) (d : Data) → dump_shape_of d ≡ Ok s → talk_read s ≡ Ok v → IsTalk v d
unfolding dump_shape_of talk_read
dumped_spelled v s d h g =
    let names = names_taken (codes "dump" ∷ []) d _ s h in
    let dump = member_taken (codes "dump") d truth_of IsTruth truth_form _ s names.1 in
    let test = step_taken (guard dump.0) _ s dump.2 in
    let shape : Dumped ≡ s = same_value _ _ test.2 in
    let same : line.Dump ≡ v = same_value _ _ (ap talk_read shape ∙ g) in
    let yes : HasMember (codes "dump") (IsTruth true) d =
    subst (λ b. HasMember (codes "dump") (IsTruth b) d) (test_passed dump.0 test.0 test.1) dump.1 in
    let is : IsTalk line.Dump d = record { names = names.0; value = yes } in
    subst (λ w. IsTalk w d) same is

dumped_parts : (d : Data) → HasJust (codes "dump") (IsTruth true) d
    → (s : SpelledTalk) × (talk_shape_of d ≡ Ok s) × (talk_read s ≡ Ok line.Dump)
unfolding dump_shape_of talk_read
dumped_parts d is =
    let shape : dump_shape_of d ≡ Ok Dumped =
    names_then (codes "dump" ∷ []) d _ Dumped is.names
    (member_then (codes "dump") d truth_of (IsTruth true) true (read_truth true) _ Dumped is.value refl) in
    let which : talk_shape_of d ≡ Ok Dumped =
    on_false (has (codes "ask") d) _ _ Dumped (is_out _ (codes "ask") d is.names refl)
    (on_false (has (codes "pending") d) _ _ Dumped (is_out _ (codes "pending") d is.names refl)
    (on_false (has (codes "sweep") d) _ _ Dumped (is_out _ (codes "sweep") d is.names refl)
    (on_true (has (codes "dump") d) _ _ Dumped (is_in (codes "dump") (IsTruth true) d is.value) shape))) in
    (Dumped, which, refl)

module _ (reads : ReadsItems) where
  -- ---- asks and trims

  said_spelled : (v : TalkLine) (s : SpelledTalk) (d : Data) → talk_ask_shape_of d ≡ Ok s → talk_read s ≡ Ok v
      → IsTalk v d
  unfolding talk_ask_shape_of talk_read
  said_spelled v s d h g =
      let Shape : SpelledAsk → Data → Type 0 = λ a e. ask_shape_of e ≡ Ok a in
      let names = names_taken (codes "ask" ∷ []) d _ s h in
      let ask = known_taken (codes "ask") d ask_shape_of _ s names.1 in
      let shape : Asked ask.0 ≡ s = same_value _ _ ask.2 in
      let good = step_taken (ask_read ask.0) _ v (ap talk_read shape ∙ g) in
      let same : line.Ask good.0 ≡ v = same_value _ _ good.2 in
      let spells =
      member_as (codes "ask") d (Shape ask.0) (IsAsk good.0) (λ e read. ask_spelled reads good.0 ask.0 e read good.1)
      ask.1 in
      let is : IsTalk (line.Ask good.0) d = record { names = names.0; value = spells } in
      subst (λ w. IsTalk w d) same is

  said_parts : (ask : Ask) (d : Data) → HasJust (codes "ask") (IsAsk ask) d
      → (s : SpelledTalk) × (talk_shape_of d ≡ Ok s) × (talk_read s ≡ Ok (line.Ask ask))
  unfolding talk_ask_shape_of talk_read
  said_parts ask d is =
      let of_ask =
      member_parts (codes "ask") d ask_shape_of (IsAsk ask) (λ a. ask_read a ≡ Ok ask) (ask_parts reads ask) is.value in
      let s : SpelledTalk = Asked of_ask.0 in
      let shape : talk_ask_shape_of d ≡ Ok s =
      names_then (codes "ask" ∷ []) d _ s is.names
      (known_then (codes "ask") d ask_shape_of of_ask.0 _ s of_ask.1 refl) in
      let read : talk_read s ≡ Ok (line.Ask ask) = step_then (ask_read of_ask.0) _ ask _ of_ask.2 refl in
      let which : talk_shape_of d ≡ Ok s =
      on_true (has (codes "ask") d) _ _ s (is_in (codes "ask") (IsAsk ask) d is.value) shape in
      (s, which, read)

  trimmed_spelled : (v : TalkLine) (s : SpelledTalk) (d : Data) → talk_trim_shape_of d ≡ Ok s → talk_read s ≡ Ok v
      → IsTalk v d
  unfolding talk_trim_shape_of talk_read
  trimmed_spelled v s d h g =
      let names = names_taken (codes "trim" ∷ []) d _ s h in
      let trim =
      member_taken (codes "trim") d trim_of (λ (p : ℕ × ℕ) (e : Data). IsTrim p.0 p.1 e) (trim_form reads) _ s
      names.1 in
      let shape : Trimmed trim.0.0 trim.0.1 ≡ s = same_value _ _ trim.2 in
      let same : line.Trim trim.0.0 trim.0.1 ≡ v = same_value _ _ (ap talk_read shape ∙ g) in
      let is : IsTalk (line.Trim trim.0.0 trim.0.1) d = record { names = names.0; value = trim.1 } in
      subst (λ w. IsTalk w d) same is

  trimmed_parts : (part item : ℕ) (d : Data) → HasJust (codes "trim") (IsTrim part item) d
      → (s : SpelledTalk) × (talk_shape_of d ≡ Ok s) × (talk_read s ≡ Ok (line.Trim part item))
  unfolding talk_trim_shape_of talk_read
  trimmed_parts part item d is =
      let s : SpelledTalk = Trimmed part item in
      let shape : talk_trim_shape_of d ≡ Ok s =
      names_then (codes "trim" ∷ []) d _ s is.names
      (member_then (codes "trim") d trim_of (IsTrim part item) (part, item) (read_trim reads part item) _ s is.value
      refl) in
      let which : talk_shape_of d ≡ Ok s =
      on_false (has (codes "ask") d) _ _ s (is_out _ (codes "ask") d is.names refl)
      (on_false (has (codes "pending") d) _ _ s (is_out _ (codes "pending") d is.names refl)
      (on_false (has (codes "sweep") d) _ _ s (is_out _ (codes "sweep") d is.names refl)
      (on_false (has (codes "dump") d) _ _ s (is_out _ (codes "dump") d is.names refl) shape))) in
      (s, which, refl)

  -- ---- lines

  talk_spelled : (v : TalkLine) (s : SpelledTalk) (d : Data) → talk_shape_of d ≡ Ok s → talk_read s ≡ Ok v → IsTalk v d
  talk_spelled v s d h g =
      on_test (has (codes "ask") d) _ _ s h (λ _ ask. said_spelled v s d ask g)
      (λ h. on_test (has (codes "pending") d) _ _ s h (λ _ pending. pending_spelled v s d pending g)
      (λ h. on_test (has (codes "sweep") d) _ _ s h (λ _ sweep. swept_spelled v s d sweep g)
      (λ h. on_test (has (codes "dump") d) _ _ s h (λ _ dump. dumped_spelled v s d dump g)
      (λ trim. trimmed_spelled v s d trim g))))

  talk_parts : (v : TalkLine) (d : Data) → IsTalk v d
      → (s : SpelledTalk) × (talk_shape_of d ≡ Ok s) × (talk_read s ≡ Ok v)
  talk_parts (line.Ask ask) d is = said_parts ask d is
  talk_parts (line.Pending part) d is = pending_parts part d is
  talk_parts (line.Sweep part stamp) d is = swept_parts part stamp d is
  talk_parts line.Dump d is = dumped_parts d is
  talk_parts (line.Trim part item) d is = trimmed_parts part item d is

  pub one_talk_line : (line : TalkLine) (bytes : List ℕ) → (talk_line_of bytes ≡ Ok line) ↔ IsTalkLine line bytes
  unfolding talk_line_of
  one_talk_line line bytes = line_by talk_shape_of talk_read IsTalk talk_spelled talk_parts line bytes
