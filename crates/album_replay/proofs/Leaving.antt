-- What a fault leaves of a text that is made of parts. For the engine of replays.
use Rattle.std.proofs.Common.{◌≡◌, ℕ, List, [], ◌++◌, Option, refl, sym, subst, append_assoc}
use Rattle.std.proofs.KnownBytes.{Appends-nil}
use Rattle.std.specs.Io.KnownBytes.{Appends}
use Rattle.album_judge.specs.declared.fault.Fault.{Fault}
use Rattle.album_judge.specs.declared.fault.Fault.TheVariants.{Reading, Writing, Memory}
use Rattle.album_judge.specs.Writes.{Writes, IsPrefixOf, IsCutShort, LeavesOf}
use Rattle.album_judge.proofs.Answering.{goes_on}
use Rattle.album_judge.proofs.Texts.{writes_weaker}

-- nothing of a text is there
pub leaves_nothing : (whole : List ℕ) (a : Option (List ℕ)) → Writes (LeavesOf Memory (λ text. text ≡ whole)) a a
leaves_nothing whole a = ([], (whole, refl), Appends-nil a)

pub writes_whole : (whole : List ℕ) (a b : Option (List ℕ)) → Appends a b whole → Writes (λ text. text ≡ whole) a b
writes_whole whole a b h = (whole, refl, h)

pub leaves_cut : (P : List ℕ → Type 0) (fault : Fault) (text : List ℕ)
    → fault ≡ Writing
    → IsCutShort P text
    → LeavesOf fault P text
leaves_cut P fault text is h = subst (λ f. LeavesOf f P text) (sym is) h

pub leaves_prefix : (P : List ℕ → Type 0) (fault : Fault) (text : List ℕ) → LeavesOf fault P text → IsPrefixOf P text
leaves_prefix P Reading text h = absurd h
leaves_prefix P Writing text h = (h.0, h.2)
leaves_prefix P Memory text h = h

pub leaves_weaker : (P Q : List ℕ → Type 0) → ((text : List ℕ) → P text → Q text)
    → (fault : Fault) (text : List ℕ) → LeavesOf fault P text → LeavesOf fault Q text
leaves_weaker P Q so Reading text h = absurd h
leaves_weaker P Q so Writing text h = (h.0, h.1, so (text ++ h.0) h.2)
leaves_weaker P Q so Memory text h = (h.0, so (text ++ h.0) h.1)

-- something whole comes before it
pub leaves_behind : (P Q : List ℕ → Type 0) (front : List ℕ) → ((text : List ℕ) → P text → Q (front ++ text))
    → (fault : Fault) (text : List ℕ) → LeavesOf fault P text → LeavesOf fault Q (front ++ text)
leaves_behind P Q front so Reading text h = absurd h
leaves_behind P Q front so Writing text h =
    (h.0, h.1, subst Q (sym (append_assoc front text h.0)) (so (text ++ h.0) h.2))
leaves_behind P Q front so Memory text h =
    (h.0, subst Q (sym (append_assoc front text h.0)) (so (text ++ h.0) h.1))

-- something more would come after it
pub leaves_before : (P Q : List ℕ → Type 0) → ((text : List ℕ) → P text → IsPrefixOf Q text)
    → (fault : Fault) (text : List ℕ) → LeavesOf fault P text → LeavesOf fault Q text
leaves_before P Q so Reading text h = absurd h
leaves_before P Q so Writing text h =
    let more = so (text ++ h.0) h.2 in
    (h.0 ++ more.0, goes_on h.0 more.0 h.1, subst Q (append_assoc text h.0 more.0) more.1)
leaves_before P Q so Memory text h =
    let more = so (text ++ h.0) h.1 in
    (h.0 ++ more.0, subst Q (append_assoc text h.0 more.0) more.1)

-- what is left of a text, of another that holds where that one does
pub writes_left : (P Q : List ℕ → Type 0) → ((text : List ℕ) → P text → Q text)
    → (fault : Fault) (a b : Option (List ℕ)) → Writes (LeavesOf fault P) a b → Writes (LeavesOf fault Q) a b
writes_left P Q so fault a b h =
    writes_weaker (LeavesOf fault P) (LeavesOf fault Q) (leaves_weaker P Q so fault) a b h
