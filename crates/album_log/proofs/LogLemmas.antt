-- What an open log's file is (`log_of_sound`), and that a log which has begun is sound (`sound_at_first`).
use Rattle.std.proofs.Common.{◌≡◌, ℕ, ◌+◌, ◌-◌, ◌<◌, Bool, IsTrue, List, [], ◌++◌, length, take, replicate, refl, sym, ◌∙◌, ap, subst, inl, inr, arith}
use Rattle.std.proofs.lemmas.List.{length-take-le, length-append, length-replicate, get_or-take, get_or_append_left, get_or-append_right, get_or-replicate, get_or_past}
use Rattle.std.proofs.lemmas.Grind.{same_number_lists}
use Rattle.std.proofs.lemmas.Bool.{cases_lt}
use Rattle.sqlite_disk.specs.Disk.{Only}
use Rattle.album_log.specs.Texts.{whole_text}
use Rattle.album_log.proofs.TextLemmas.{kept_of_old, whole_text_of_log}
use Rattle.album_log.specs.Logs.{HasText, IsDurable, IsLog, IsSound, LeavesText, LeavesKept, Outcomes}

-- a file that is known to its end is its text and zeros
zeros_behind :
    (text file : List ℕ)
    → HasText text (length file) file
    → file ≡ text ++ replicate (length file - length text) 0
zeros_behind text file h =
    let n = length text in
    let m = length file - n in
    let zeros : List ℕ = replicate m 0 in
    let long : length (text ++ zeros) ≡ length file = omega (arith, length-append text zeros, length-replicate {A = ℕ} m 0, h.room) in
    same_number_lists file (text ++ zeros) (sym long) (λ k low. h.each k low ∙ elim (cases_lt k n) [
      | inl early ↦ sym (get_or_append_left text zeros 0 k early)
      | inr late ↦ get_or_past text k 0 late ∙ sym (get_or-append_right text zeros n k 0 refl late ∙ get_or-replicate m (k - n) 0 0 (omega arith))
    ])

pub log_of_sound :
    (end size : ℕ) (file : List ℕ) (outcomes : Outcomes) (is_clean is_usable : Bool)
    → IsSound end size file outcomes is_clean is_usable
    → IsTrue is_clean
    → IsLog (take end file) file outcomes
log_of_sound end size file outcomes is_clean is_usable sound clean =
    let known : HasText (take end file) (length file) file =
    subst (λ (n : ℕ). HasText (take end file) n file) (sound.all clean) sound.durable.stands in
    record {
      whole = known.whole;
      room = known.room;
      zeros = zeros_behind (take end file) file known;
      only = sound.durable.only;
    }

pub sound_at_first :
    (size : ℕ) (file : List ℕ) (outcomes : Outcomes) (is_clean is_usable : Bool)
    → HasText [] size file
    → Only file outcomes
    → IsTrue is_usable
    → (IsTrue is_clean → size ≡ length file)
    → IsSound 0 size file outcomes is_clean is_usable
sound_at_first size file outcomes is_clean is_usable text only usable all = record {
  usable = usable;
  durable = record { stands = text; only = only };
  reach = text.room;
  all = all;
}

-- a crash of a durable log leaves its text
pub leaves_text_durable : (text : List ℕ) (size : ℕ) (file : List ℕ) (outcomes : Outcomes) → IsDurable text size file outcomes → LeavesText text size outcomes
leaves_text_durable text size file outcomes durable c left = subst (HasText text size) (sym (durable.only c left)) durable.stands

pub leaves_kept_old : (text group : List ℕ) (size : ℕ) (outcomes : Outcomes) → LeavesText text size outcomes → LeavesKept text group outcomes
leaves_kept_old text group size outcomes before c left = kept_of_old text group size c (before c left)

-- a text ends where it was known to end
pub length_of_text : (end size : ℕ) (file : List ℕ) → end < size → HasText (take end file) size file → length (take end file) ≡ end
length_of_text end size file low text = length-take-le end file (omega (arith, text.within))

-- the file's front is the text that it has
pub take_of_text : (text : List ℕ) (size : ℕ) (file : List ℕ) → HasText text size file → take (length text) file ≡ text
take_of_text text size file h =
    let n = length text in
    let long : length (take n file) ≡ n = length-take-le n file (omega (arith, h.room, h.within)) in
    same_number_lists _ _ long (λ k low. get_or-take n file k 0 (omega arith) ∙ h.each k (omega (arith, h.room)))

-- the text of a log to which a group was appended
pub appended_text :
    (end size next : ℕ) (group old new : List ℕ) (outcomes : Outcomes)
    → end < size
    → HasText (take end old) size old
    → IsDurable (take end old ++ group) next new outcomes
    → take (end + length group) new ≡ take end old ++ group
appended_text end size next group old new outcomes low before after =
    let text = take end old ++ group in
    let long : length text ≡ end + length group =
    length-append (take end old) group ∙ ap (λ (n : ℕ). n + length group) (length_of_text end size old low before) in
    ap (λ (n : ℕ). take n new) (sym long) ∙ take_of_text text next new after.stands

pub sound_appended :
    (end size next : ℕ) (group old new : List ℕ) (first outcomes : Outcomes) (was_clean was_usable is_clean is_usable : Bool)
    → IsSound end size old first was_clean was_usable
    → IsDurable (take end old ++ group) next new outcomes
    → end + length group < next
    → is_clean ≡ was_clean
    → (size ≡ length old → next ≡ length new)
    → IsTrue is_usable
    → IsSound (end + length group) next new outcomes is_clean is_usable
sound_appended end size next group old new first outcomes was_clean was_usable is_clean is_usable sound after room same all usable =
    let text = appended_text end size next group old new outcomes sound.reach sound.durable.stands after in
    record {
      usable = usable;
      durable = subst (λ (t : List ℕ). IsDurable t next new outcomes) (sym text) after;
      reach = room;
      all = λ clean. all (sound.all (subst IsTrue same clean));
    }

-- each crash of a sound log leaves its text
pub whole_text_sound :
    (end size : ℕ) (file : List ℕ) (outcomes : Outcomes) (is_clean is_usable : Bool)
    → IsSound end size file outcomes is_clean is_usable
    → (c : List ℕ)
    → outcomes c
    → whole_text c ≡ take end file
whole_text_sound end size file outcomes is_clean is_usable sound c left =
    whole_text_of_log (take end file) size c (leaves_text_durable (take end file) size file outcomes sound.durable c left)
