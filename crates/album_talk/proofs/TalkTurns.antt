-- The loop of the engine of connections: what was read so far, and what was written for it. For `talk_on`; `HasTalked` is its
-- invariant.
use Rattle.std.proofs.Common.{◌≡◌, ◌≢◌, ◌≤◌, ◌<◌, ◌+◌, ℕ, List, [], length, Option, Some, IfSome, refl}
use Rattle.std.specs.Io.KnownBytes.{Consumes, IsAtEnd, Keeps}
use Rattle.album_eval.specs.declared.policies.Policy.{Policy}
use Rattle.album_sessions.specs.Asks.{IsOn}
use Rattle.album_sessions.specs.Sessions.{SessionState}
use Rattle.album_lines.specs.Lines.{Line, cut, last, lines_of}
use Rattle.album_judge.specs.declared.engine.TheConstants.{PIECE}
use Rattle.album_judge.specs.declared.fault.Fault.{Fault}
use Rattle.album_judge.specs.declared.fault.Fault.TheVariants.{Reading, Memory}
use Rattle.album_talk.specs.Talk.{Talker, Talks, MayTalk, Rules}
use Rattle.album_judge.specs.Writes.{HasRead, Writes, Exchanges, IsPrefixOf, IsLeftBy, IsEndedBy}
use Rattle.album_judge.proofs.Answering.{Answering, Are, Joins, GoesOn}
use Rattle.album_talk.proofs.Talking.{talks_append, some_talk}
use Rattle.album_judge.proofs.Turns as turns

-- the texts of talks from one state to another, by their lines
abbrev pub Talked : ℕ → Policy → Rules → Talker → Talker → Answering
Talked limit policy rules old new lines text = Talks limit policy rules old lines new text

module _ (limit : ℕ) (policy : Policy) (rules : Rules) where
  joins : (old between new : Talker)
      → Joins (Talked limit policy rules old between) (Talked limit policy rules between new) (Talked limit policy rules old new)
  joins old between new lines more x y g h = talks_append limit policy rules old between new lines more x y g h

  may_join : (bound : SessionState) (old between : Talker)
      → Joins (Talked limit policy rules old between) (MayTalk limit policy rules bound between) (MayTalk limit policy rules bound old)
  may_join bound old between lines more x y g h =
      (h.0, talks_append limit policy rules old between h.0 lines more x y g h.1, h.2)

  may : (bound : SessionState) (old new : Talker) → IsOn new.session bound
      → Are (Talked limit policy rules old new) (MayTalk limit policy rules bound old)
  may bound old new on lines x h = (new, h, on)

  may_go_on : (bound : SessionState) (old : Talker) → GoesOn (MayTalk limit policy rules bound old)
  may_go_on bound old lines later x h =
      let more = some_talk limit policy rules h.0 later in
      (more.0, (h.0, talks_append limit policy rules old h.0 h.0 lines later x more.0 h.1 more.1, h.2))

  -- ---- the engine so far

  -- a talk that began with `begun` has come to `now`
  abbrev pub HasTalked : Talker → Talker → ℕ → Line
      → Option (List ℕ) → Option (List ℕ) → Option (List ℕ) → Option (List ℕ) → Type 0
  HasTalked begun now count unfinished a b c d =
      turns.HasAnswered (Talked limit policy rules begun now) count unfinished a b c d

  pub begins : (begun : Talker) (a c : Option (List ℕ)) → HasTalked begun begun 0 (Some []) a a c c
  begins begun a c = turns.begins (Talked limit policy rules begun begun) (refl, refl) a c

  module _ (begun now : Talker) (count : ℕ) (line : Line) (a b c d : Option (List ℕ))
      (h : HasTalked begun now count line a b c d) where
    pub has_read : (k : ℕ) → count ≤ k → HasRead k a b
    has_read k within = turns.has_read (Talked limit policy rules begun now) count k line a b c d h within

    pub reading_ends : (bound : SessionState) → IsOn now.session bound
        → Exchanges (IsEndedBy Reading (MayTalk limit policy rules bound begun)) a b c d
    reading_ends bound on =
        turns.reading_ends (Talked limit policy rules begun now) (MayTalk limit policy rules bound begun)
        (may bound begun now on) count line a b c d h

    pub reading_fails : (bound : SessionState) → IsOn now.session bound → (e : Option (List ℕ)) → Keeps b e
        → Exchanges (IsEndedBy Reading (MayTalk limit policy rules bound begun)) a e c d
    reading_fails bound on e k =
        turns.reading_fails (Talked limit policy rules begun now) (MayTalk limit policy rules bound begun)
        (may bound begun now on) count line a b e c d h k

    -- the talk of what has ended is that which has come to `now`
    pub left : Exchanges (IsEndedBy Reading (Talked limit policy rules begun now)) a b c d
    left =
        turns.reading_ends (Talked limit policy rules begun now) (Talked limit policy rules begun now) (λ lines x h. h)
        count line a b c d h

    pub left_by_failure : (e : Option (List ℕ)) → Keeps b e
        → Exchanges (IsEndedBy Reading (Talked limit policy rules begun now)) a e c d
    left_by_failure e k =
        turns.reading_fails (Talked limit policy rules begun now) (Talked limit policy rules begun now) (λ lines x h. h)
        count line a b e c d h k

    pub prefix_so_far : (bound : SessionState) → IsOn now.session bound
        → IfSome a (λ input. Writes (IsPrefixOf (MayTalk limit policy rules bound begun (lines_of input))) c d)
    prefix_so_far bound on =
        turns.prefix_so_far (Talked limit policy rules begun now) (MayTalk limit policy rules bound begun)
        (may bound begun now on) (may_go_on bound begun) count line a b c d h

    -- a piece more is read
    module _ (piece : List ℕ) (e : Option (List ℕ)) (more : Consumes b e piece) where
      pub has_read_more : (k : ℕ) → length piece ≤ PIECE → count < k → HasRead k a e
      has_read_more k short within =
          turns.has_read_more (Talked limit policy rules begun now) count k line piece a b e c d h more short within

      -- which ends these lines, and begins the next
      module _ (ends : List Line) (next : Line) (cuts : cut line piece ≡ (ends, next)) where
        pub turn_done : (new : Talker) (f : Option (List ℕ)) → length piece ≤ PIECE
            → Writes (Talks limit policy rules now ends new) d f
            → HasTalked begun new (count + 1) next a e c f
        turn_done new f short w =
            turns.turn_done (Talked limit policy rules begun now) (Talked limit policy rules now new) count line piece ends next cuts
            (Talked limit policy rules begun new) (joins begun now new) a b e c d f short h more w

        pub turn_left : (bound : SessionState) (fault : Fault) (f : Option (List ℕ)) → Writes (IsLeftBy fault (MayTalk limit policy rules bound now) ends) d f
            → Exchanges (IsEndedBy fault (MayTalk limit policy rules bound begun)) a e c f
        turn_left bound fault f w =
            turns.turn_left (Talked limit policy rules begun now) (MayTalk limit policy rules bound now) count line piece ends next cuts
            (MayTalk limit policy rules bound begun) (may_join bound begun now) (may_go_on bound begun)
            fault a b e c d f h more w

        pub turn_uncut : (bound : SessionState) → IsOn now.session bound → piece ≢ []
            → Exchanges (IsEndedBy Memory (MayTalk limit policy rules bound begun)) a e c d
        turn_uncut bound on some =
            turns.turn_uncut (Talked limit policy rules begun now) (MayTalk limit policy rules bound now) count line piece ends next cuts
            (MayTalk limit policy rules bound begun) (may bound begun now on) a b e c d some h more

        pub prefix_of_turn : (bound : SessionState) (fault : Fault) (f : Option (List ℕ)) → Writes (IsLeftBy fault (MayTalk limit policy rules bound now) ends) d f
            → IfSome a (λ input. Writes (IsPrefixOf (MayTalk limit policy rules bound begun (lines_of input))) c f)
        prefix_of_turn bound fault f w =
            turns.prefix_of_turn (Talked limit policy rules begun now) (MayTalk limit policy rules bound now) count line piece ends next
            cuts (MayTalk limit policy rules bound begun) (may_join bound begun now) (may_go_on bound now)
            (may_go_on bound begun) fault a b e c d f h more w

      -- or there is no more
      module _ (nothing : piece ≡ []) where
        pub last_done : (new : Talker) (f : Option (List ℕ)) → IsAtEnd e
            → Writes (Talks limit policy rules now (last line) new) d f
            → IfSome a (λ input. Writes (Talks limit policy rules begun (lines_of input) new) c f)
        last_done new f end w =
            turns.last_done (Talked limit policy rules begun now) (Talked limit policy rules now new) count line piece nothing
            a b e c d f h more (Talked limit policy rules begun new)
            (λ lines later x y g k. talks_append limit policy rules begun now new lines later x y g k) end w

        pub last_left : (bound : SessionState) (fault : Fault) (f : Option (List ℕ))
            → Writes (IsLeftBy fault (MayTalk limit policy rules bound now) (last line)) d f
            → Exchanges (IsEndedBy fault (MayTalk limit policy rules bound begun)) a e c f
        last_left bound fault f w =
            turns.last_left (Talked limit policy rules begun now) (MayTalk limit policy rules bound now) count line piece nothing
            a b e c d f h more (MayTalk limit policy rules bound begun) (may_join bound begun now)
            (may_go_on bound begun) fault w

        pub prefix_of_last : (bound : SessionState) (fault : Fault) (f : Option (List ℕ)) → IsAtEnd e
            → Writes (IsLeftBy fault (MayTalk limit policy rules bound now) (last line)) d f
            → IfSome a (λ input. Writes (IsPrefixOf (MayTalk limit policy rules bound begun (lines_of input))) c f)
        prefix_of_last bound fault f end w =
            turns.prefix_of_last (Talked limit policy rules begun now) (MayTalk limit policy rules bound now) count line piece nothing
            a b e c d f h more (MayTalk limit policy rules bound begun) (may_join bound begun now) (may_go_on bound now) fault end w
