-- The histories that are folded as a world opens again. `next_rows` cites these.
use Rattle.std.proofs.Common.{◌≡◌, ℕ, zero, suc, ◌+◌, ◌<◌, ◌≤◌, List, [], ◌∷◌, ◌++◌, length, get_or, take, Some, None, Result, Ok, Err, IfOk, refl, ap, sym, ◌∙◌, subst, arith}
use Rattle.std.specs.Borrow.{Bor}
use Rattle.std.specs.List.{slice_get}
use Rattle.std.proofs.lemmas.List.{length-map, take_all, take_more, map-append}
use Rattle.album_stamps.specs.declared.refusals.Refusal.{Refusal}
use Rattle.album_stamps.specs.declared.limits.TheConstants.{MAX_PARTS}
use Rattle.album_items.specs.Openings.{Row}
use Rattle.album_items.specs.declared.openings.Opening.{Opening}
use Rattle.album_partition.specs.Partition.{PartitionState}
use Rattle.album_partition.specs.declared.marks.Mark.{Mark}
use Rattle.album_permits.specs.declared.events.Event.{Event}
use Rattle.album_world.specs.State.{Now}
use Rattle.album_world.specs.Runs.{run_of}
use Rattle.album_world.specs.Seen.{WorldState, LeadsTo}
use Rattle.album_world.proofs.ListLemmas.{some_same}
use Rattle.album_world.proofs.RunLemmas.{opening_is}
use Rattle.album_epochs.specs.Folding.{histories_lent}
use Rattle.album_restarts.specs.Worlds.{histories_of}
use Rattle.album_restarts.proofs.SoundLemmas.{parts_are}

pub kept_parts : (o : Opening) (es : List Event) (w : WorldState) → LeadsTo o es w → length w.kept.partitions ≡ o.parts
kept_parts o es w l = ap (λ (n : Now). length n.partitions) l.kept ∙ parts_are o es

marks_got : (hs : List PartitionState) (k : ℕ) (h : PartitionState) → slice_get hs k ≡ Some h → get_or (histories_of hs) k h.marks ≡ h.marks
marks_got [] k h e = refl
marks_got (x ∷ hs) zero h e = ap (λ (y : PartitionState). y.marks) (some_same e)
marks_got (x ∷ hs) (suc k) h e = marks_got hs k h e

-- one history more
pub one_more : (hs : List PartitionState) (k : ℕ) (h : PartitionState) (old new : List (Bor (List Mark))) (x : Bor (List Mark)) → k < length hs
    → slice_get hs k ≡ Some h → x.now ≡ h.marks → new ≡ old ++ x ∷ []
    → histories_lent old ≡ take k (histories_of hs) → histories_lent new ≡ take (k + 1) (histories_of hs)
one_more hs k h old new x l at is more e =
    let within : k < length (histories_of hs) = subst (λ (n : ℕ). k < n) (sym (length-map hs (λ (y : PartitionState). y.marks))) l in
    ap histories_lent more
    ∙ (map-append (λ (y : Bor (List Mark)). y.now) old (x ∷ [])
    ∙ (ap (λ (ms : List (List Mark)). ms ++ x.now ∷ []) e
    ∙ (ap (λ (m : List Mark). take k (histories_of hs) ++ m ∷ []) (is ∙ sym (marks_got hs k h at))
    ∙ sym (take_more (histories_of hs) k h.marks within))))

pub there_is : (hs : List PartitionState) (k : ℕ) {R : Type 0} → k < length hs → slice_get hs k ≡ None → R
there_is [] k l e = absurd (omega arith)
there_is (h ∷ hs) zero l e = absurd (cc (e))
there_is (h ∷ hs) (suc k) l e = there_is hs k (omega arith) e

pub all_lent : (hs : List PartitionState) (k : ℕ) (lent : List (Bor (List Mark))) → length hs ≤ k
    → histories_lent lent ≡ take k (histories_of hs) → histories_lent lent ≡ histories_of hs
all_lent hs k lent l e = e ∙ take_all k (histories_of hs) (subst (λ (n : ℕ). n ≤ k) (sym (length-map hs (λ (y : PartitionState). y.marks))) l)

pub count_lent : (hs : List PartitionState) (lent : List (Bor (List Mark))) → histories_lent lent ≡ histories_of hs → length lent ≡ length hs
count_lent hs lent e =
    sym (length-map lent (λ (y : Bor (List Mark)). y.now)) ∙ (ap (λ (ms : List (List Mark)). length ms) e ∙ length-map hs (λ (y : PartitionState). y.marks))

pub record Fits (n : ℕ) : Type 0 where
  pub some : 1 ≤ n
  pub few : n ≤ MAX_PARTS

pub fits : (o : Opening) (es : List Event) (w : WorldState) (k : ℕ) (lent : List (Bor (List Mark))) → LeadsTo o es w → o.parts ≤ k
    → histories_lent lent ≡ take k (histories_of w.kept.partitions) → Fits (length lent)
fits o es w k lent l le e =
    let parts = kept_parts o es w l in
    let d = opening_is o l.passes in
    let n : length lent ≡ o.parts = count_lent w.kept.partitions lent (all_lent w.kept.partitions k lent (omega (arith, parts, le)) e) ∙ parts in
    record { some = omega (arith, n, d.some); few = omega (arith, n, d.few) }

-- what the fold gives: of the first values and the histories
pub folded : {X : Type 0} (Of : List Row → List (List Mark) → X → Type 0) (o : Opening) (w : WorldState) (k : ℕ)
    (first : List Row) (lent : List (Bor (List Mark))) (r : Result X Refusal)
    → (es : List Event) × LeadsTo o es w → o.parts ≤ k → histories_lent lent ≡ take k (histories_of w.kept.partitions) → first ≡ o.items
    → IfOk r (Of first (histories_lent lent)) → IfOk r (Of o.items (histories_of w.kept.partitions))
folded Of o w k first lent (Err why) some le e is h = tt
folded Of o w k first lent (Ok given) some le e is h =
    let parts = kept_parts o some.0 w some.1 in
    subst (λ (hs : List (List Mark)). Of o.items hs given)
    (all_lent w.kept.partitions k lent (omega (arith, parts, le)) e)
    (subst (λ (f : List Row). Of f (histories_lent lent) given) is h)
