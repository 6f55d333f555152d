use Rattle.std.proofs.Common.{◌≡◌, ◌≢◌, ℕ, ◌<◌, ◌≤◌, List, [], ◌∷◌, ◌++◌, length, get_or, take, refl, sym, ap, ◌∙◌, subst}
use Rattle.std.proofs.lemmas.List.{take_all, take_more}
use Rattle.album_partition.specs.Marks.{state_of}
use Rattle.album_partition.specs.Partition.{PartitionState}
use Rattle.album_passes.specs.Reads.{IsCommitted}
use Rattle.album_passes.proofs.CutLemmas.{extends_trans}
use Rattle.album_terminate.specs.declared.deciding.StampState.TheVariants as state
use Rattle.album_keepers.specs.Keepers.{KeeperState}
use Rattle.album_keepers.specs.Settling.{stamps_in, settle_one, settled, AreSettledIn}
use Rattle.album_keepers.proofs.SettleLemmas.{settled_push, settled_none, none_left, none_there, shown_committed}
use Rattle.album_keepers.proofs.keeper.PartitionKeeper.settle.Goals as goal

-- where nothing is pending, nothing has to be done
pub returns-then-not-has_pending-clause-settled : goal.returns-then-not-has_pending-clause-settled
returns-then-not-has_pending-clause-settled g c =
    let none = subst (λ (k : KeeperState). (t : ℕ) → state_of k.partition.marks t ≢ state.Pending) c.self.view_is (c.if-not-has_pending.ensures.none refl) in
    sym (settled_none c.args.self.now.partition (stamps_in c.args.message.now.body) none)

pub returns-then-not-has_pending-clause-none : goal.returns-then-not-has_pending-clause-none
returns-then-not-has_pending-clause-none g c =
    let none = subst (λ (k : KeeperState). (t : ℕ) → state_of k.partition.marks t ≢ state.Pending) c.self.view_is (c.if-not-has_pending.ensures.none refl) in
    none_there c.args.self.now.partition (stamps_in c.args.message.now.body) none

-- the reader has seen each stamp committed
pub settle_one-requires-clause-committed : goal.settle_one-requires-clause-committed
settle_one-requires-clause-committed g c = λ nz.
    let index = c.loop-stamp.stamp-index in
    let stamps = stamps_in c.args.message.now.body in
    let is : c.stamp-item.result ≡ get_or stamps index c.stamp-item.result = c.stamp-item.is ∙ ap (λ (ts : List ℕ). get_or ts index c.stamp-item.result) c.stamps_in-stamp-items.ensures in
    let there : index < length stamps = subst (λ (ts : List ℕ). index < length ts) c.stamps_in-stamp-items.ensures c.loop-stamp-test.true in
    let shown = shown_committed c.args.self.now.owner.cut c.loop-stamp.self.owner.cut c.args.message.now c.requires.shown c.loop-stamp.invariant.grown in
    subst (IsCommitted c.loop-stamp.self.owner.cut) (sym is) (shown index c.stamp-item.result there (λ z. nz (is ∙ z)))

-- one stamp more is settled
pub loop-stamp-preserved : goal.loop-stamp-preserved
loop-stamp-preserved g c =
    let index = c.loop-stamp.stamp-index in
    let old = c.args.self.now.partition in
    let stamps = stamps_in c.args.message.now.body in
    let is : c.stamp-item.result ≡ get_or stamps index c.stamp-item.result = c.stamp-item.is ∙ ap (λ (ts : List ℕ). get_or ts index c.stamp-item.result) c.stamps_in-stamp-items.ensures in
    let there : index < length stamps = subst (λ (ts : List ℕ). index < length ts) c.stamps_in-stamp-items.ensures c.loop-stamp-test.true in
    record {
      settled = c.in_ok-settle_one.ensures.settled
          ∙ ap (λ (p : PartitionState). settle_one p c.stamp-item.result) c.loop-stamp.invariant.settled
          ∙ sym (settled_push old (take index stamps) c.stamp-item.result)
          ∙ ap (λ (t : ℕ). settled old (take index stamps ++ t ∷ [])) is
          ∙ ap (settled old) (sym (take_more stamps index c.stamp-item.result there));
      grown = extends_trans c.args.self.now.owner.cut c.loop-stamp.self.owner.cut c.settle_one.new.self.owner.cut c.loop-stamp.invariant.grown c.settle_one.ensures.grown;
      sound = c.settle_one.ensures.sound;
      inside = c.settle_one.ensures.inside;
    }

-- at the end all are
pub returns-clause-none : goal.returns-clause-none
returns-clause-none g c =
    let old = c.args.self.now.partition in
    let stamps = stamps_in c.args.message.now.body in
    let whole : length stamps ≤ c.loop-stamp.stamp-index = subst (λ (ts : List ℕ). length ts ≤ c.loop-stamp.stamp-index) c.stamps_in-stamp-items.ensures c.loop-stamp-test.false in
    subst (λ (p : PartitionState). AreSettledIn p.marks stamps)
    (sym (c.loop-stamp.invariant.settled ∙ ap (settled old) (take_all c.loop-stamp.stamp-index stamps whole))) (none_left old stamps)
