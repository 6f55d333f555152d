-- Talks whose answers are recorded before they are written: they join, and so does what is written of one. For
-- `answer_lines`, `finish` and `talk_on`; `recorded_next` and `recorded_cut` are the ways on of a line.
use Rattle.std.proofs.Common.{◌≡◌, ◌≢◌, List, [], ◌∷◌, ◌++◌, Option, ℕ, Result, Ok, Err, OnOk, OnErr, sym, ap, ◌∙◌, subst, append_assoc, append-nil}
use Rattle.std.proofs.KnownBytes.{Appends-nil, Appends-trans}
use Rattle.std.specs.Io.KnownBytes.{Appends}
use Rattle.album_eval.specs.declared.policies.Policy.{Policy}
use Rattle.album_lines.specs.Lines.{Line}
use Rattle.album_talk.specs.Talk.{Talker, TalksOnce, Ends, IsWrittenIf, IsRecordedBy, IsRecordedTalk, IsRecordedPart, Records, Rules}
use Rattle.album_talk.specs.Talk.IsRecordedTalk.{Begins, Answers}
use Rattle.album_talk.specs.declared.endings.Ending.{Ending}
use Rattle.album_judge.specs.Writes.{Writes}

-- what holds after either outcome holds
pub by_outcome : {T E P Q X : Type 0} (r : Result T E) → (P → X) → (Q → X) → OnOk r P → OnErr r Q → X
by_outcome (Ok t) f g p q = f p
by_outcome (Err e) f g p q = g q

module _ (limit : ℕ) (policy : Policy) (rules : Rules) (Recorded : Records) where
  abbrev Talk : Talker → Talker → List ℕ → Type 0
  Talk old new text = IsRecordedTalk limit policy rules Recorded old new text

  abbrev Part : Talker → List ℕ → Type 0
  Part old text = IsRecordedPart limit policy rules Recorded old text

  -- ---- of texts

  joined : (old between new : Talker) (x y : List ℕ) → Talk old between x → Talk between new y → Talk old new (x ++ y)
  joined old between _ x _ g Begins = subst (Talk old between) (sym (append-nil x)) g
  joined old between _ x _ g (Answers then new line y z h once there) =
      subst (Talk old new) (append_assoc x y z) (Answers then new line (x ++ y) z (joined old between then x y g h) once there)

  joined_part : (old between : Talker) (x y : List ℕ) → Talk old between x → Part between y → Part old (x ++ y)
  joined_part old between x y g h =
      (h.0, (h.1.0, subst (Talk old h.1.0) (sym (append_assoc x y h.0)) (joined old between h.1.0 x (y ++ h.0) g h.1.1)))

  -- with how its request has ended
  pub recorded_by : (old new : Talker) (line : Line) (text : List ℕ) (ending : Option Ending)
      → Ends rules old line text ending → (text ≢ [] → Recorded new.session ending)
      → text ≢ [] → IsRecordedBy rules Recorded old line new text
  recorded_by old new line text ending ends there some = (ending, ends, there some)

  -- the same of so much of it
  pub written_by : (old new : Talker) (line : Line) (text : List ℕ) (ending : Option Ending) (a b : Option (List ℕ))
      → Ends rules old line text ending → Writes (IsWrittenIf text (Recorded new.session ending)) a b
      → Writes (IsWrittenIf text (IsRecordedBy rules Recorded old line new text)) a b
  written_by old new line text ending a b ends h =
      (h.0, (h.1.0, λ some. (ending, ends, h.1.1 some)), h.2)

  -- so much of one more answer
  one_part : (old between new : Talker) (line : Line) (x answer y : List ℕ) → Talk old between x
      → TalksOnce limit policy rules between line new answer
      → IsWrittenIf answer (IsRecordedBy rules Recorded between line new answer) y → Part old (x ++ y)
  one_part old between new line x answer [] g once h = ([], (between, subst (Talk old between) (sym all) g))
    where
      all : (x ++ []) ++ [] ≡ x
      all = append-nil (x ++ []) ∙ append-nil x
  one_part old between new line x answer (b ∷ y) g once h =
      (h.0.0, (new, subst (Talk old new) (sym all) (Answers between new line x answer g once (λ _. h.1 some))))
    where
      some : b ∷ y ≢ []
      some none = cc

      all : (x ++ b ∷ y) ++ h.0.0 ≡ x ++ answer
      all = append_assoc x (b ∷ y) h.0.0 ∙ ap (λ t. x ++ t) h.0.1

  -- ---- of what is written

  pub recorded_begins : (old : Talker) (a : Option (List ℕ)) → Writes (Talk old old) a a
  recorded_begins old a = ([], Begins, Appends-nil a)

  pub recorded_next : (old between new : Talker) (line : Line) (answer : List ℕ) (a b c : Option (List ℕ))
      → Writes (Talk old between) a b → TalksOnce limit policy rules between line new answer
      → Appends b c answer → (answer ≢ [] → IsRecordedBy rules Recorded between line new answer) → Writes (Talk old new) a c
  recorded_next old between new line answer a b c g once more there =
      (g.0 ++ answer, Answers between new line g.0 answer g.1 once there, Appends-trans a b c g.0 answer g.2 more)

  pub recorded_cut : (old between new : Talker) (line : Line) (answer : List ℕ) (a b c : Option (List ℕ))
      → Writes (Talk old between) a b → TalksOnce limit policy rules between line new answer
      → Writes (IsWrittenIf answer (IsRecordedBy rules Recorded between line new answer)) b c → Writes (Part old) a c
  recorded_cut old between new line answer a b c g once h =
      (g.0 ++ h.0, one_part old between new line g.0 answer h.0 g.1 once h.1, Appends-trans a b c g.0 h.0 g.2 h.2)

  pub recorded_part : (old new : Talker) (a b : Option (List ℕ)) → Writes (Talk old new) a b → Writes (Part old) a b
  recorded_part old new a b g = (g.0, ([], (new, subst (Talk old new) (sym (append-nil g.0)) g.1)), g.2)

  pub recorded_joined : (old between new : Talker) (a b c : Option (List ℕ))
      → Writes (Talk old between) a b → Writes (Talk between new) b c → Writes (Talk old new) a c
  recorded_joined old between new a b c g h =
      (g.0 ++ h.0, joined old between new g.0 h.0 g.1 h.1, Appends-trans a b c g.0 h.0 g.2 h.2)

  pub recorded_part_joined : (old between : Talker) (a b c : Option (List ℕ))
      → Writes (Talk old between) a b → Writes (Part between) b c → Writes (Part old) a c
  recorded_part_joined old between a b c g h =
      (g.0 ++ h.0, joined_part old between g.0 h.0 g.1 h.1, Appends-trans a b c g.0 h.0 g.2 h.2)
