-- That a reply that is put behind others counts as they do, and says as little of prepared stamps. For `Locked`.
use Rattle.std.proofs.Common.{◌≡◌, ℕ, ◌<◌, Bool, true, false, List, [], ◌∷◌, ◌++◌, length, get_or, if◌then◌else◌, All, Option, Some, None, Result, Ok, Err, OnOk, IfOk, IfSome, sym, ap, ◌∙◌, subst}
use Rattle.std.proofs.lemmas.List.{get_or_read}
use Rattle.std.proofs.lemmas.List.Elements.{All-push}
use Rattle.album_calls.specs.declared.messages.Message.{Message}
use Rattle.album_calls.specs.declared.nodes.Node.TheVariants.{Part}
use Rattle.album_partition.specs.Answers.{after, answer}
use Rattle.album_partition.specs.Partition.{PartitionState}
use Rattle.album_partition.proofs.LawLemmas.{to_the_sender}
use Rattle.album_passes.specs.Cuts.{Cut, prefix_at, Extends, IsSound}
use Rattle.album_passes.specs.Owner.{OwnerState}
use Rattle.album_passes.specs.Pass.{PassState}
use Rattle.album_passes.proofs.CutLemmas.{extends_trans}
use Rattle.album_passes.proofs.PrefixLemmas.{prefix_length}
use Rattle.album_keepers.specs.Envelopes.{Shows}
use Rattle.album_keepers.specs.Held.{may_prepare, AreNeverPrepared}
use Rattle.album_keepers.specs.Rounds.{RoundReplyState, Counts, IsAt, RepliesTo, SaysNonePrepared}
use Rattle.album_keepers.proofs.EnvelopeLemmas.{shows_more}
use Rattle.album_keepers.proofs.HeldLemmas.{free_reply}
use Rattle.album_stamps.specs.declared.refusals.Refusal.{Refusal}

-- what holds of what is there
pub of_some : {X : Type 0} (P : X → Type 0) (o : Option X) (x : X) → o ≡ Some x → IfSome o P → P x
of_some {X} P o x is h = subst (λ (y : Option X). IfSome y P) is h

-- what is read of a list at an index is there
pub read_at : (ms : List Message) (index : ℕ) (m : Message) → index < length ms → m ≡ get_or ms index m → IsAt ms index m
read_at ms index m within is = record { within = within; is = λ other. sym (get_or_read ms index m within is other) }

-- a reply of a partition that has heard with what its round began
counts_here : (limit : ℕ) (begun : Cut) (sent : List Message) (index : ℕ) (m : Message) (r : RoundReplyState) → IsAt sent index m
    → r.index ≡ index → RepliesTo limit m r → Extends begun r.pass.cut → Counts limit begun sent r
counts_here limit begun sent index m r at same replies heard = record {
  request = m;
  at = subst (λ (n : ℕ). IsAt sent n m) (sym same) at;
  replies = replies;
  late = λ part from. prefix_length (prefix_at begun part) (prefix_at r.pass.cut part) (heard.prefixes part);
}

more : (P : RoundReplyState → Type 0) (b : Bool) (rs now : List RoundReplyState) (r : RoundReplyState) → P r
    → now ≡ (if b then rs ++ r ∷ [] else rs) → All P rs → All P now
more P true rs now r one is h = subst (All P) (sym is) (All-push P rs r h one)
more P false rs now r one is h = subst (All P) (sym is) h

-- a reply more, if it was added
pub counts_more : (limit : ℕ) (begun : Cut) (sent : List Message) (b : Bool) (rs now : List RoundReplyState) (index : ℕ) (m : Message)
    (r : RoundReplyState) → IsAt sent index m → r.index ≡ index → RepliesTo limit m r → Extends begun r.pass.cut
    → now ≡ (if b then rs ++ r ∷ [] else rs) → All (Counts limit begun sent) rs → All (Counts limit begun sent) now
counts_more limit begun sent b rs now index m r at same replies heard is h =
    more (Counts limit begun sent) b rs now r (counts_here limit begun sent index m r at same replies heard) is h

pub none_prepared_more : (sent : List Message) (b : Bool) (rs now : List RoundReplyState) (index : ℕ) (m : Message) (r : RoundReplyState)
    (p : PartitionState) → IsAt sent index m → AreNeverPrepared sent → answer p m ≡ Some r.reply
    → now ≡ (if b then rs ++ r ∷ [] else rs) → All SaysNonePrepared rs → All SaysNonePrepared now
none_prepared_more sent b rs now index m r p at never said is h =
    more SaysNonePrepared b rs now r
    (free_reply p m r.reply
    (subst (λ (x : Message). may_prepare x.body ≡ false) (at.is m) (never index m at.within)) said) is h

-- the partition that has replied is the one that it is then
pub sent_from : (old new : PartitionState) (m : Message) (r : Result (Option Message) Refusal) → OnOk r (new ≡ after old m)
    → IfOk r (λ reply. reply ≡ answer old m) → IfOk r (λ reply. IfSome reply (λ some. some.from ≡ Part new.number))
sent_from old new m (Err why) done is = tt
sent_from old new m (Ok None) done is = tt
sent_from old new m (Ok (Some told)) done is =
    (to_the_sender old m told (sym is)).sender ∙ ap (λ (p : PartitionState). Part p.number) (sym done)

-- what was heard stays so as the cut grows
pub heard_more : (p q : PassState) (c d : Cut) → q ≡ p → Extends q.cut c → Extends c d → Extends p.cut d
heard_more p q c d is x y = subst (λ (z : PassState). Extends z.cut d) is (extends_trans q.cut c d x y)

-- what is so of an owner and of replies, while messages are taken one after another
pub record AreTaken (limit : ℕ) (begun : Cut) (sent : List Message) (before : List RoundReplyState) (owner : OwnerState)
    (now : List RoundReplyState) : Type 0 where
  pub heard : Extends begun owner.cut
  pub sound : IsSound owner.cut
  pub inside : owner.part < owner.cut.parts
  pub count : All (Counts limit begun sent) before → All (Counts limit begun sent) now
  pub free : AreNeverPrepared sent → All SaysNonePrepared before → All SaysNonePrepared now

pub taken_as : (limit : ℕ) (begun : Cut) (sent : List Message) (before : List RoundReplyState) (o p : OwnerState) (rs now : List RoundReplyState)
    → p ≡ o → now ≡ rs → AreTaken limit begun sent before o rs → AreTaken limit begun sent before p now
taken_as limit begun sent before o p rs now a b h =
    subst (λ (z : OwnerState × List RoundReplyState). AreTaken limit begun sent before z.0 z.1) (λ i. (sym a i, sym b i)) h

-- what each message rests on stays shown as the cut grows
pub all_shown_more : (c d : Cut) (ms : List Message) → Extends c d → All (Shows c) ms → All (Shows d) ms
all_shown_more c d ms x h = λ k e l. shows_more c d x (get_or ms k e) (h k e l)
