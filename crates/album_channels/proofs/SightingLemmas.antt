-- What a sighting shows, and that it does so as the cut grows. `PartitionChannel` cites these.
use Rattle.std.proofs.Common.{◌≡◌, ℕ, ◌≤◌, true, List, length, Contains, All, Option, Some, None, get_or, set, sym, ap, ◌∙◌, subst, arith}
use Rattle.std.proofs.lemmas.List.Elements.{All-set}
use Rattle.album_calls.specs.declared.messages.Body.TheVariants as body
use Rattle.album_calls.specs.declared.messages.Message.{Message}
use Rattle.album_calls.specs.declared.nodes.Node.TheVariants.{Part}
use Rattle.album_calls.specs.declared.replies.Reply.TheVariants as reply
use Rattle.album_items.specs.declared.values.Value.{Value}
use Rattle.album_partition.specs.Marks.{latest}
use Rattle.album_passes.specs.Cuts.{Cut, prefix_at, IsSound, Extends}
use Rattle.album_passes.proofs.CutLemmas.{extends_self, extends_trans}
use Rattle.album_keepers.specs.Envelopes.{IsAnswered, IsSettledBelow, IsUpToDate}
use Rattle.album_channels.specs.Reads.{asks_latest}
use Rattle.album_keepers.specs.Replies.{IsCurrent, IsLate, IsReplied}
use Rattle.album_channels.specs.Sightings.{repeated, IfSighted, IsRepeatedBy, IsShownBy, IsSighted, IsVersion}
use Rattle.album_channels.specs.declared.sightings.Sighting.{Sighting}
use Rattle.album_channels.proofs.RepeatLemmas.{asked_again}

-- ---- as the cut grows

pub sighted_more : (limit : ℕ) (c d : Cut) (o : Option Sighting) → Extends c d → IfSighted limit c o → IfSighted limit d o
sighted_more limit c d None x h = tt
sighted_more limit c d (Some s) x h = record {
  request = h.request;
  heard = h.heard;
  seen = extends_trans h.heard c d h.seen x;
  sound = h.sound;
  asks = h.asks;
  answered = h.answered;
  up_to_date = h.up_to_date;
  so_many = h.so_many;
  settled = h.settled;
}

pub all_sighted : (limit : ℕ) (c d : Cut) (os : List (Option Sighting)) → Extends c d → All (IfSighted limit c) os → All (IfSighted limit d) os
all_sighted limit c d os x h = λ k e l. sighted_more limit c d (get_or os k e) x (h k e l)

pub current_more : (old c d : Cut) (m : Message) → Extends c d → IsCurrent old c m → IsCurrent old d m
current_more old c d m x h = record { at = h.at; seen = extends_trans h.at c d h.seen x; sound = h.sound; late = h.late; is = h.is }

-- ---- what it shows

same_part : (i j : ℕ) → Part i ≡ Part j → i ≡ j
same_part i j e = cc

same_version : (i j t u : ℕ) (v w : Value) → body.Reply (reply.Version i t v) ≡ body.Reply (reply.Version j u w) → (i ≡ j) × (t ≡ u)
same_version i j t u v w e = (cc, cc)

-- whoever had seen no more marks of the partition than the sighting has, had seen none that it lacks
late_by : (limit : ℕ) (c old : Cut) (s : Sighting) (m : Message) (part item stamp : ℕ) → (h : IsSighted limit c s) → IsVersion s.reply part item stamp
    → length (prefix_at old part) ≤ s.marks → m.from ≡ Part part → IsLate old h.heard m
late_by limit c old s m part item stamp h v late from other is =
    let many : s.marks ≡ length (prefix_at h.heard part) = h.so_many part v.from in
    subst (λ (p : ℕ). length (prefix_at old p) ≤ length (prefix_at h.heard p)) (same_part part other (sym from ∙ is)) (omega (arith, late, many))

-- a version that is no older than the sighted one is new enough
pub shown_current : (limit : ℕ) (c old : Cut) (s : Sighting) (m : Message) → IsSighted limit c s → IsShownBy s old m → IsCurrent old c m
shown_current limit c old s m h b = record {
  at = h.heard;
  seen = h.seen;
  sound = h.sound;
  late = late_by limit c old s m b.part b.item b.seen h b.sighted b.late b.replied.from;
  is = λ part item stamp value from is.
      let parts : b.part ≡ part = same_part b.part part (sym b.replied.from ∙ from) in
      let same = same_version b.item item b.stamp stamp b.replied.value value (sym b.replied.is ∙ is) in
      let latest_seen : latest (prefix_at h.heard b.part) b.item ≤ b.seen = h.up_to_date b.part b.item b.seen b.sighted.value b.sighted.from b.sighted.is in
      let older = b.no_older in
      subst (λ (z : ℕ × ℕ × ℕ). latest (prefix_at h.heard z.0) z.1 ≤ z.2) (λ k. (parts k, same.0 k, same.1 k)) (omega (arith, latest_seen, older));
}

-- what the session gives itself is a reply of the partition
pub repeated_replied : (limit : ℕ) (c old : Cut) (s : Sighting) (m : Message) (sent : List Message) → IsSighted limit c s → IsRepeatedBy s old m
    → Contains sent m → IsReplied limit old c sent (repeated s m)
repeated_replied limit c old s m sent h b listed = record {
  request = m;
  own = listed;
  heard = h.heard;
  seen = h.seen;
  answered = asked_again limit h.heard h.request s.reply m b.part b.item b.stamp b.stamps h.answered h.asks b.sighted
      (λ k d l. h.settled b.part b.sighted.from (get_or b.stamps k d) (b.below k d l)) b.asked b.to b.among;
  late = late;
  current = record {
    at = h.heard;
    seen = h.seen;
    sound = h.sound;
    late = late;
    is = λ part item stamp value from is. h.up_to_date part item stamp value (b.sighted.from ∙ (sym b.to ∙ from)) is;
  };
}
  where
    late : IsLate old h.heard (repeated s m)
    late = late_by limit c old s (repeated s m) b.part b.item b.stamp h b.sighted b.late b.to

-- ---- what is kept

pub none_sighted : (limit : ℕ) (c : Cut) (os : List (Option Sighting)) → All (λ o. o ≡ None) os → All (IfSighted limit c) os
none_sighted limit c os h = λ k e l. subst (IfSighted limit c) (sym (h k e l)) tt

pub sighted_put : (limit : ℕ) (c : Cut) (os : List (Option Sighting)) (i : ℕ) (o : Option Sighting) → IfSighted limit c o → All (IfSighted limit c) os
    → All (IfSighted limit c) (set os i o)
sighted_put limit c os i o h all = All-set (IfSighted limit c) os i o h all

-- what a reply has shown, with the cut of its own pass
pub sighted_now : (limit : ℕ) (c : Cut) (q r : Message) (marks below part : ℕ) → IsSound c → asks_latest q.body ≡ true
    → r.from ≡ Part part → marks ≡ length (prefix_at c part) → IsAnswered limit c q r → IsUpToDate c r → IsSettledBelow below c r
    → IsSighted limit c (record { reply = r; marks = marks; settled_below = below })
sighted_now limit c q r marks below part sound asks from so_many answered up_to_date settled = record {
  request = q;
  heard = c;
  seen = extends_self c;
  sound = sound;
  asks = asks;
  answered = answered;
  up_to_date = up_to_date;
  so_many = λ p is. so_many ∙ ap (λ (n : ℕ). length (prefix_at c n)) (same_part part p (sym from ∙ is));
  settled = settled;
}
