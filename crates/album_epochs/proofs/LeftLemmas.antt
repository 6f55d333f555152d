-- What a part of a sound cut has of it. All that speaks of what is carried cites these.
use Rattle.std.proofs.Common.{◌≡◌, ℕ, Bool, true, false, List, Contains, refl, sym, subst}
use Rattle.std.specs.List.{list_any}
use Rattle.std.proofs.lemmas.List.Elements.{Contains-append_left}
use Rattle.album_items.specs.Openings.{Row}
use Rattle.album_partition.specs.declared.marks.Mark.{Mark}
use Rattle.album_partition.specs.declared.marks.Mark.TheVariants.{Prepared, Committed}
use Rattle.album_partition.specs.Marks.{discards, is_legal}
use Rattle.album_partition.proofs.LegalLemmas.{legal_parts}
use Rattle.album_passes.specs.Cuts.{Cut, prefix_at, IsNamed, IsPreparedThroughout, IsSound}
use Rattle.album_passes.proofs.PrefixLemmas.{any_more}
use Rattle.album_passes.proofs.CutLemmas.{extends_self, backed_more}
use Rattle.album_passes.proofs.ClosedLemmas.{backed_there}
use Rattle.album_epochs.specs.Carried.{IsLeft, is_carried}
use Rattle.album_epochs.proofs.CarriedLemmas.{throughout, undiscarded}

pub sound_left : (c : Cut) → IsSound c → IsLeft c
sound_left c s = record { whole = c; sound = s; part = extends_self c; wide = s.wide; announced = λ t is e. e }

pub legal_left : (c : Cut) → IsLeft c → (p : ℕ) → is_legal (prefix_at c p) ≡ true
legal_left c s p =
    (legal_parts (prefix_at c p) (s.part.prefixes p).0
    (subst (λ (ms : List Mark). is_legal ms ≡ true) (sym (s.part.prefixes p).1) (s.sound.legal p))).0

pub named_left : (c : Cut) → IsLeft c → (p t : ℕ) (ws : List Row) (is : List ℕ) → Contains (prefix_at c p) (Prepared t ws is) → IsNamed c t ws is
named_left c s p t ws is n =
    let there : Contains (prefix_at s.whole p) (Prepared t ws is) =
    subst (λ (ms : List Mark). Contains ms (Prepared t ws is)) (s.part.prefixes p).1
    (Contains-append_left (prefix_at c p) (s.part.prefixes p).0 (Prepared t ws is) n) in
    let named = (backed_there s.whole p (Prepared t ws is) s.sound.closed there).named in
    record {
      all = named.all;
      announced = s.announced t named.all named.announced;
      items_are = named.items_are;
      within = named.within;
    }

pub undiscarded_left : (c : Cut) (p t : ℕ) → IsLeft c → IsPreparedThroughout c t → list_any (discards t) (prefix_at c p) ≡ false
undiscarded_left c p t s w = go (list_any (discards t) (prefix_at c p)) refl
  where
    go : (b : Bool) → list_any (discards t) (prefix_at c p) ≡ b → b ≡ false
    go false e = refl
    go true e = absurd (
        let more = any_more (discards t) (prefix_at c p) (prefix_at s.whole p) (s.part.prefixes p) e in
        let none = undiscarded s.whole p t s.sound (backed_more c s.whole s.part (Committed t) w) in
        cc (more, none))

pub discarded_left : (c : Cut) (p t : ℕ) → IsLeft c → list_any (discards t) (prefix_at c p) ≡ true → is_carried c t ≡ false
discarded_left c p t s e = go (is_carried c t) refl
  where
    go : (b : Bool) → is_carried c t ≡ b → b ≡ false
    go false f = refl
    go true f = absurd (let none = undiscarded_left c p t s (throughout c t f) in cc (none, e))
