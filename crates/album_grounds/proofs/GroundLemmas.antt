-- The grounds of an answer stay as the cut grows: the law `grounds_stay` cites the lemmas that are `pub`.
use Rattle.std.proofs.Common.{ℕ, ◌<◌, List, [], ◌∷◌, ◌++◌, length, length-append, get_or, Contains, sym, ◌∙◌, subst, arith}
use Rattle.std.proofs.lemmas.List.{get_or_append_left}
use Rattle.album_items.specs.Openings.{Row}
use Rattle.album_items.specs.Places.{places_of, rows_placed_at}
use Rattle.album_partition.specs.Marks.{commits}
use Rattle.album_partition.specs.declared.marks.Mark.{Mark}
use Rattle.album_partition.specs.declared.marks.Mark.TheVariants.{Prepared}
use Rattle.album_reader.specs.Answers.{ReadVersion}
use Rattle.album_permits.specs.Effects.{effect_of}
use Rattle.album_permits.specs.Permits.{PermitState}
use Rattle.album_passes.specs.Cuts.{Cut, prefix_at, prefix_for, IsSound, IsPrefix, Extends}
use Rattle.album_passes.proofs.CutLemmas.{extends_self, extends_trans, prefix_for_more}
use Rattle.album_passes.proofs.PrefixLemmas.{prefix_trans, any_more}
use Rattle.album_passes.proofs.ReadLemmas.{atomic_more, fresh_more}
use Rattle.album_grounds.specs.Grounds.{AreSettled, IsSeen, items_of, rows_at, bases_for, IsPreparedOn, IsKeptAt, IsKept, IsWithoutRoom}

pub settled_more : (c d : Cut) → Extends c d → (rows : List ReadVersion) → AreSettled c rows → AreSettled d rows
settled_more c d x rows h = λ k row l nz.
    let it = get_or rows k row in
    any_more (commits it.stamp) (prefix_for c it.item) (prefix_for d it.item) (prefix_for_more c d x it.item) (h k row l nz)

pub seen_more : (b c d : Cut) (rows : List ReadVersion) → IsSound c → IsSound d → Extends b c → Extends c d → IsSeen b c rows → IsSeen b d rows
seen_more b c d rows s r x y h = record {
  atomic = atomic_more c d s r y rows h.atomic;
  at = h.at;
  since = h.since;
  until = extends_trans h.at c d h.until y;
  sound = h.sound;
  known = h.known;
  fresh = fresh_more h.at h.at c d s r (extends_self h.at) h.until y rows h.fresh;
  settled = settled_more c d y rows h.settled;
}

-- what a history has, a longer one has
pub has_more : (ms ns : List Mark) (m : Mark) → IsPrefix ms ns → Contains ms m → Contains ns m
has_more ms ns m p h =
    let l : h.0 < length (ms ++ p.0) = (let long = length-append ms p.0 in let k = h.1 in omega arith) in
    subst (λ (os : List Mark). Contains os m) p.1 (h.0, l, get_or_append_left ms p.0 m h.0 h.1 ∙ h.2)

-- what was prepared on these bases was so
pub prepared_on_more : (ms ns : List Mark) (t : ℕ) (rows : List Row) (is bs : List ℕ) → IsPrefix ms ns → IsPreparedOn ms t rows is bs → IsPreparedOn ns t rows is bs
prepared_on_more ms ns t rows is bs p h =
    record { before = h.before; had = prefix_trans (h.before ++ Prepared t rows is ∷ []) ms ns h.had p; based = h.based }

kept_at_more : (c d : Cut) → Extends c d → (permit : PermitState) (t p : ℕ) → IsKeptAt c permit t p → IsKeptAt d permit t p
kept_at_more c d x permit t p h = record {
  prepared = subst (λ (n : ℕ). Contains (prefix_at d p) (Prepared t (rows_placed_at p n (effect_of permit t)) (items_of permit t))) (sym x.parts)
      (has_more (prefix_at c p) (prefix_at d p) _ (x.prefixes p) h.prepared);
  based = λ on. subst (λ (n : ℕ). IsPreparedOn (prefix_at d p) t (rows_placed_at p n (effect_of permit t)) (items_of permit t) (bases_for permit (rows_placed_at p n (effect_of permit t)))) (sym x.parts)
      (prepared_on_more (prefix_at c p) (prefix_at d p) t (rows_at c permit t p) (items_of permit t) (bases_for permit (rows_at c permit t p)) (x.prefixes p)
      (h.based (sym x.checked ∙ on)));
  committed = any_more (commits t) (prefix_at c p) (prefix_at d p) (x.prefixes p) h.committed;
}

pub kept_more : (c d : Cut) (permit : PermitState) (t : ℕ) → Extends c d → IsKept c permit t → IsKept d permit t
kept_more c d permit t x h = λ p participant. kept_at_more c d x permit t p
    (h p (subst (λ (n : ℕ). Contains (places_of n (items_of permit t)) p) x.parts participant))

pub without_room_more : (limit : ℕ) (c d : Cut) (permit : PermitState) (t : ℕ) → Extends c d → IsWithoutRoom limit c permit t → IsWithoutRoom limit d permit t
without_room_more limit c d permit t x h = record {
  place = h.place;
  participant = subst (λ (n : ℕ). Contains (places_of n (items_of permit t)) h.place) (sym x.parts) h.participant;
  marks = h.marks;
  had = prefix_trans h.marks (prefix_at c h.place) (prefix_at d h.place) h.had (x.prefixes h.place);
  full = h.full;
  unknown = h.unknown;
}
