-- What the partitions gave one after another is a part of the cut that was seen in the end, and has all of the first.
use Rattle.std.proofs.Common.{◌≡◌, ◌≢◌, ◌⊎◌, inl, inr, ℕ, zero, suc, ◌+◌, ◌<◌, ◌≤◌, true, List, [], ◌∷◌, ◌++◌, length, ⊎_elim, refl, sym, ap, ◌∙◌, subst, arith, length-append}
use native.Mathlib.Decide.{ℕ_discrete}
use mathlib.Core.Logic.{dite}
use Rattle.std.specs.List.{list_any}
use Rattle.std.proofs.lemmas.Bool.{cases_lt}
use Rattle.std.proofs.lemmas.List.{get_or_past}
use Rattle.album_stamps.specs.Stamps.{counter_of}
use Rattle.album_stamps.specs.declared.limits.TheConstants.{MAX_PARTS}
use Rattle.album_stamps.specs.declared.refusals.Refusal.{Refusal}
use Rattle.album_stamps.specs.declared.refusals.Refusal.TheVariants.{BadOpening, NoSuchPart}
use Rattle.album_items.specs.declared.openings.Opening.{Opening}
use Rattle.album_partition.specs.Marks.{is_mark_of}
use Rattle.album_partition.specs.declared.marks.Mark.{Mark}
use Rattle.album_passes.specs.Cuts.{Cut, Extends, IsPrefix, IsSound, marks_at, prefix_at}
use Rattle.album_passes.proofs.CutLemmas.{extends_self, extends_trans}
use Rattle.album_passes.proofs.PrefixLemmas.{any_more, prefix_self, prefix_trans}
use Rattle.album_epochs.specs.Carried.{IsLeft}
use Rattle.album_epochs.specs.Next.{IsOpeningAfter}
use Rattle.album_epochs.proofs.NextLemmas.{next_rows, next_stamps}
use Rattle.album_sessions.specs.Sessions.{SessionState}
use Rattle.album_sessions.specs.Steps.{IsStill}
use Rattle.album_sessions.proofs.AttemptLemmas.{still_on}
use Rattle.album_sessions.proofs.SessionLemmas.{on_self}
use Rattle.album_channels.specs.Channels.{IsClosedOrOutOfMemory}
use Rattle.album_turns.specs.Left.{AreBetween, IsCounterIn, IsFoundBy, IsLeftTo, IsUnleft}
use Rattle.album_turns.specs.Left.IsCounterIn.{Zero, Of}
use Rattle.album_turns.specs.Left.IsUnleft.{NoParts, ManyParts, OtherParts, Unheard}

-- the histories of so many partitions, the first ones, which were given between the two cuts
pub record AreFirst (old now : Cut) (count : ℕ) (histories : List (List Mark)) : Type 0 where
  pub all : length histories ≡ count
  pub grown : Extends old now
  pub between : AreBetween old now histories

pub none_first : (c : Cut) → AreFirst c c 0 []
none_first c = record { all = refl; grown = extends_self c; between = λ part l. absurd (omega (arith, l)) }

marks_before : (hs : List (List Mark)) (h : List Mark) (k : ℕ) → k < length hs → marks_at (hs ++ h ∷ []) k ≡ marks_at hs k
marks_before [] h k l = absurd (omega (arith, l))
marks_before (x ∷ hs) h zero l = refl
marks_before (x ∷ hs) h (suc k) l = marks_before hs h k (omega (arith, l))

marks_last : (hs : List (List Mark)) (h : List Mark) → marks_at (hs ++ h ∷ []) (length hs) ≡ h
marks_last [] h = refl
marks_last (x ∷ hs) h = marks_last hs h

-- one more
pub first_more : (old mid new : Cut) (n : ℕ) (hs : List (List Mark)) (h : List Mark) → AreFirst old mid n hs
    → Extends mid new → h ≡ prefix_at new n → AreFirst old new (n + 1) (hs ++ h ∷ [])
first_more old mid new n hs h first x is = record {
  all = omega (arith, length-append hs (h ∷ []), first.all);
  grown = extends_trans old mid new first.grown x;
  between = between;
}
  where
    before : (k : ℕ) → k < length hs → IsPrefix (prefix_at old k) (marks_at (hs ++ h ∷ []) k) × IsPrefix (marks_at (hs ++ h ∷ []) k) (prefix_at new k)
    before k l = subst (λ (ms : List Mark). IsPrefix (prefix_at old k) ms × IsPrefix ms (prefix_at new k))
        (sym (marks_before hs h k l))
        ((first.between k l).0, prefix_trans (marks_at hs k) (prefix_at mid k) (prefix_at new k) (first.between k l).1 (x.prefixes k))

    last : (k : ℕ) → k ≡ length hs → IsPrefix (prefix_at old k) (marks_at (hs ++ h ∷ []) k) × IsPrefix (marks_at (hs ++ h ∷ []) k) (prefix_at new k)
    last k e =
        let all : marks_at (hs ++ h ∷ []) k ≡ prefix_at new k =
        ap (marks_at (hs ++ h ∷ [])) e ∙ marks_last hs h ∙ is ∙ ap (prefix_at new) (sym first.all ∙ sym e) in
        subst (λ (ms : List Mark). IsPrefix (prefix_at old k) ms × IsPrefix ms (prefix_at new k)) (sym all)
        ((extends_trans old mid new first.grown x).prefixes k, prefix_self (prefix_at new k))

    between : AreBetween old new (hs ++ h ∷ [])
    between k l = ⊎_elim (λ (small : k < length hs). before k small)
        (λ (past : length hs ≤ k). last k (omega (arith, length-append hs (h ∷ []), l, past))) (cases_lt k (length hs))

-- where nothing is of a partition, that is the beginning of anything
prefix_none : (ms ns : List Mark) → ms ≡ [] → IsPrefix ms ns
prefix_none ms ns e = subst (λ (os : List Mark). IsPrefix os ns) (sym e) (ns, refl)

pub left_to : (begun now : Cut) (o next : Opening) (hs : List (List Mark)) (greatest : ℕ) → IsSound begun → IsSound now
    → Extends begun now → AreBetween begun now hs → length hs ≡ o.parts → begun.opening ≡ o.items → begun.parts ≡ o.parts
    → ((part stamp : ℕ) → list_any (is_mark_of stamp) (marks_at hs part) ≡ true → stamp ≤ greatest)
    → IsOpeningAfter (counter_of greatest) o hs next → IsLeftTo begun o next
left_to begun now o next hs greatest old new x between count items parts above after = record {
  left = left;
  is_left = is_left;
  since = record {
    opening = x.opening;
    parts = x.parts;
    checked = x.checked;
    prefixes = λ p. ⊎_elim (λ (l : p < length hs). (between p l).0)
        (λ (past : length hs ≤ p). prefix_none (prefix_at begun p) (marks_at hs p)
        (get_or_past begun.prefixes p [] (omega (arith, old.wide, parts, count, past)))) (cases_lt p (length hs));
    announced = x.announced;
    depended = x.depended;
  };
  parts = after.parts;
  limit = after.limit;
  policy = after.policy;
  checked = after.checked;
  root = after.root;
  first = omega (arith, after.first);
  above = λ part stamp e. (let low : stamp ≤ greatest = above part stamp e in omega (arith, low, after.first));
  rows = next_rows left is_left o.items hs next.items (x.opening ∙ items) refl after.rows;
  stamps = next_stamps left is_left o.items hs o.stamps next.stamps (x.opening ∙ items) refl after.stamps;
}
  where
    left : Cut
    left = record now { prefixes = hs }

    is_left : IsLeft left
    is_left = record {
      whole = now;
      sound = new;
      part = record {
        opening = refl;
        parts = refl;
        checked = refl;
        prefixes = λ p. ⊎_elim (λ (l : p < length hs). (between p l).1)
            (λ (past : length hs ≤ p). prefix_none (marks_at hs p) (prefix_at now p) (get_or_past hs p [] past))
            (cases_lt p (length hs));
        announced = λ t a e. e;
        depended = λ t ls e. e;
      };
      wide = omega (arith, x.parts, parts, count);
      announced = λ t a e. e;
    }

-- ---- a session that asks

pub still_self : (a : SessionState) → IsSound a.cut → IsStill a a
still_self a sound = record {
  sound = sound;
  on = on_self a sound;
  adds = record { share = refl; drawn = record { counter = refl; silent = λ t e. refl } };
}

pub still_trans : (a b c : SessionState) → IsStill a b → IsStill b c → IsStill a c
still_trans a b c x y = still_on a b c x y.on.grown y.on.sound y.on.client y.adds

-- the session has asked so many partitions for their histories
pub record HasAsked (old now : SessionState) (count : ℕ) (histories : List (List Mark)) : Type 0 where
  pub first : AreFirst old.cut now.cut count histories
  pub still : IsStill old now

-- ---- what is left has what was seen before

pub left_less : (c d : Cut) (o next : Opening) → Extends c d → IsLeftTo d o next → IsLeftTo c o next
left_less c d o next x to = record {
  left = to.left;
  is_left = to.is_left;
  since = extends_trans c d to.left x to.since;
  parts = to.parts;
  limit = to.limit;
  policy = to.policy;
  checked = to.checked;
  root = to.root;
  first = to.first;
  above = to.above;
  rows = to.rows;
  stamps = to.stamps;
}

pub found_by : (old mid : SessionState) (listened : Cut) (o next : Opening) → IsStill old mid → Extends listened mid.cut
    → (mid.cut.opening ≡ o.items → mid.cut.parts ≡ o.parts → IsLeftTo mid.cut o next) → IsFoundBy old.cut o listened next
found_by old mid listened o next still heard left items parts =
    let to = left (still.on.grown.opening ∙ items) (still.on.grown.parts ∙ parts) in
    (left_less old.cut mid.cut o next still.on.grown to, left_less listened mid.cut o next heard to)

-- ---- why nothing is found

-- a counter that a history shows is one of the cut
pub counter_in : (old now : Cut) (hs : List (List Mark)) (greatest : ℕ) → AreBetween old now hs
    → (greatest ≢ 0 → (part : ℕ) × (list_any (is_mark_of greatest) (marks_at hs part) ≡ true))
    → IsCounterIn now (counter_of greatest)
counter_in old now hs greatest between reached = dite (ℕ_discrete greatest 0)
    (λ (none : greatest ≡ 0). subst (λ (n : ℕ). IsCounterIn now (counter_of n)) (sym none) Zero)
    (λ (some : greatest ≢ 0). let at = reached some in
    ⊎_elim (λ (l : at.0 < length hs). Of at.0 greatest
    (any_more (is_mark_of greatest) (marks_at hs at.0) (prefix_at now at.0) (between at.0 l).1 at.1))
    (λ (past : length hs ≤ at.0).
    let nothing : list_any (is_mark_of greatest) [] ≡ true =
    subst (λ (ms : List Mark). list_any (is_mark_of greatest) ms ≡ true) (get_or_past hs at.0 [] past) at.1 in
    absurd (cc (nothing)))
    (cases_lt at.0 (length hs)))

pub bad_parts : (cut : Cut) (o : Opening) (why : Refusal) → (why ≡ BadOpening) × ((o.parts ≡ 0) ⊎ (MAX_PARTS < o.parts))
    → IsUnleft cut o why
bad_parts cut o why (is, parts) = subst (IsUnleft cut o) (sym is) (⊎_elim (λ none. NoParts none) (λ many. ManyParts many) parts)

pub unheard : (cut : Cut) (o : Opening) (parts : ℕ) (why : Refusal) → parts ≡ o.parts
    → ((why ≡ NoSuchPart) × (cut.parts < parts)) ⊎ IsClosedOrOutOfMemory why → IsUnleft cut o why
unheard cut o parts why is = ⊎_elim
    (λ (p : (why ≡ NoSuchPart) × (cut.parts < parts)). subst (IsUnleft cut o) (sym p.0)
    (OtherParts (subst (λ (n : ℕ). cut.parts < n) is p.1)))
    (λ (closed : IsClosedOrOutOfMemory why). Unheard why closed)

-- a partition that isn't there is refused by that, and each other for want of a reply
pub unasked : (old now : Cut) (part parts : ℕ) (why : Refusal) → now.parts ≡ old.parts → part < parts
    → (old.parts ≤ part → why ≡ NoSuchPart) → (part < old.parts → IsClosedOrOutOfMemory why)
    → ((why ≡ NoSuchPart) × (now.parts < parts)) ⊎ IsClosedOrOutOfMemory why
unasked old now part parts why same l nowhere closed = ⊎_elim
    (λ (there : part < old.parts). inr (closed there))
    (λ (past : old.parts ≤ part). inl (nowhere past, omega (arith, same, past, l)))
    (cases_lt part old.parts)
