-- The texts of talks. For `answer_lines`, and for the turns of `converse`: any lines have a talk, and the text of a
-- talk of more lines follows that of the first.
use Rattle.std.proofs.Common.{◌≡◌, ◌≢◌, ◌⊎◌, ℕ, ◌+◌, ◌<◌, List, [], ◌∷◌, ◌++◌, length, take, drop, map, get_or, Bool, true, false, Option, MatchBool, inr, refl, sym, ap, ◌∙◌, subst, arith, append_assoc, append-nil, length-drop}
use Rattle.std.proofs.lemmas.List.{length-map}
use Rattle.std.proofs.KnownBytes.{Appends-nil}
use Rattle.std.specs.Io.KnownBytes.{Appends}
use Rattle.album_stamps.specs.declared.refusals.Refusal.TheVariants.{OutOfMemory}
use Rattle.album_eval.specs.declared.policies.Policy.{Policy}
use Rattle.album_sessions.specs.Asks.{IsOn}
use Rattle.album_sessions.specs.Sessions.{SessionState}
use Rattle.album_lines.specs.Lines.{Line, is_blank}
use Rattle.album_lines.specs.Output.{refusal_line}
use Rattle.album_judge.specs.declared.fault.Fault.TheVariants.{Writing, Memory}
use Rattle.album_talk.specs.Talk.{Talker, Hears, TalksOnce, Talks, MayTalk, Rules}
use Rattle.album_judge.specs.Writes.{Writes, IsCutShort, IsLeftBy}
use Rattle.album_judge.proofs.Answering.{goes_on}
use Rattle.album_judge.proofs.Texts.{up_to_next, with_others, writes_weaker, writes_both}

module _ (limit : ℕ) (policy : Policy) (rules : Rules) where
  -- any line can be answered that memory ran out
  by_memory : (b : Bool) (old : Talker) (line : Line)
      → (text : List ℕ) × MatchBool b ((old ≡ old) × (text ≡ []))
      (Hears limit policy rules old.who old line old text ⊎ ((old ≡ old) × (text ≡ refusal_line OutOfMemory)))
  by_memory true old line = ([], (refl, refl))
  by_memory false old line = (refusal_line OutOfMemory, inr (refl, refl))

  pub some_talk : (old : Talker) (lines : List Line) → (text : List ℕ) × Talks limit policy rules old lines old text
  some_talk old [] = ([], (refl, refl))
  some_talk old (line ∷ lines) =
      let first = by_memory (is_blank line) old line in
      let others = some_talk old lines in
      (first.0 ++ others.0, (old, first.0, others.0, first.1, others.1, refl))

  pub talks_append : (old between new : Talker) (lines more : List Line) (x y : List ℕ)
      → Talks limit policy rules old lines between x
      → Talks limit policy rules between more new y
      → Talks limit policy rules old (lines ++ more) new (x ++ y)
  talks_append old between new [] more x y g h =
      subst (λ s. Talks limit policy rules s more new (x ++ y)) g.0
      (subst (Talks limit policy rules between more new) (ap (λ t. t ++ y) (sym g.1)) h)
  talks_append old between new (line ∷ lines) more x y g h = (
    g.0,
    g.1,
    g.2 ++ y,
    g.3,
    talks_append g.0 between new lines more g.2 y g.4 h,
    ap (λ t. t ++ y) g.5 ∙ append_assoc g.1 g.2 y,
  )

  -- ---- lines one after another

  one_talk : (old new : Talker) (line : Line) (text : List ℕ)
      → TalksOnce limit policy rules old line new text
      → Talks limit policy rules old (line ∷ []) new text
  one_talk old new line text h = (new, text, [], h, (refl, refl), sym (append-nil text))

  pub lines_begin : (old : Talker) (a : Option (List ℕ)) → Writes (Talks limit policy rules old [] old) a a
  lines_begin old a = ([], (refl, refl), Appends-nil a)

  module _ {X : Type 0} (f : X → Line) (xs : List X) (i : ℕ) (x : X) (inside : i < length xs) (is : x ≡ get_or xs i x)
      (old between new : Talker) (text : List ℕ) (a b c : Option (List ℕ))
      (so_far : Writes (Talks limit policy rules old (map f (take i xs)) between) a b)
      (answered : TalksOnce limit policy rules between (f x) new text) where
    -- the next is answered
    pub lines_next : Appends b c text → Writes (Talks limit policy rules old (map f (take (i + 1) xs)) new) a c
    lines_next written =
        let both : (y z : List ℕ) → Talks limit policy rules old (map f (take i xs)) between y → z ≡ text
        → Talks limit policy rules old (map f (take (i + 1) xs)) new (y ++ z) =
        λ y z g e.
        subst (λ ls. Talks limit policy rules old ls new (y ++ z)) (sym (up_to_next f xs i x inside is))
        (talks_append old between new _ _ y z g
        (subst (Talks limit policy rules between (f x ∷ []) new) (sym e) (one_talk between new (f x) text answered))) in
        writes_both _ (λ z. z ≡ text) _ both a b c so_far (text, refl, written)

    -- its answer is cut short
    pub lines_cut : (bound : SessionState) → IsOn new.session bound → Writes (IsCutShort (λ whole. whole ≡ text)) b c
        → Writes (IsLeftBy Writing (MayTalk limit policy rules bound old) (map f xs)) a c
    lines_cut bound on cut =
        let both : (y z : List ℕ) → Talks limit policy rules old (map f (take i xs)) between y
        → IsCutShort (λ whole. whole ≡ text) z
        → IsCutShort (MayTalk limit policy rules bound old (map f xs)) (y ++ z) =
        λ y z g s.
        let one = subst (Talks limit policy rules between (f x ∷ []) new) (sym s.2) (one_talk between new (f x) text answered) in
        let first = talks_append old between new _ _ y (z ++ s.0) g one in
        let later = some_talk new (map f (drop (i + 1) xs)) in
        let all = talks_append old new new _ _ (y ++ (z ++ s.0)) later.0 first later.1 in
        let lines : (map f (take i xs) ++ f x ∷ []) ++ map f (drop (i + 1) xs) ≡ map f xs =
        ap (λ ls. ls ++ map f (drop (i + 1) xs)) (sym (up_to_next f xs i x inside is)) ∙ sym (with_others f xs (i + 1)) in
        let whole : (y ++ (z ++ s.0)) ++ later.0 ≡ (y ++ z) ++ (s.0 ++ later.0) = simp append_assoc in (
          s.0 ++ later.0,
          goes_on s.0 later.0 s.1,
          (new, subst (λ ls. Talks limit policy rules old ls new ((y ++ z) ++ (s.0 ++ later.0))) lines (subst (Talks limit policy rules old _ new) whole all), on),
        ) in
        writes_both _ _ _ both a b c so_far cut

  -- there is no memory for the next answer
  pub lines_unanswered : {X : Type 0} (f : X → Line) (xs : List X) (i : ℕ) → i < length xs
      → (old between : Talker) (a b : Option (List ℕ))
      → Writes (Talks limit policy rules old (map f (take i xs)) between) a b
      → (bound : SessionState) → IsOn between.session bound
      → Writes (IsLeftBy Memory (MayTalk limit policy rules bound old) (map f xs)) a b
  lines_unanswered f xs i inside old between a b so_far bound on =
      let later : map f (drop i xs) ≢ [] =
      λ none. absurd (omega (arith, ap length none, length-map (drop i xs) f, length-drop i xs, inside)) in
      writes_weaker _ _
      (λ text h. (map f (take i xs), map f (drop i xs), later, with_others f xs i, (between, h, on)))
      a b so_far

-- nothing of a text is written
pub none_written : (text : List ℕ) (a : Option (List ℕ)) → text ≢ [] → Writes (IsCutShort (λ whole. whole ≡ text)) a a
none_written text a some = ([], (text, some, refl), Appends-nil a)
