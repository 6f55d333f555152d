use Rattle.std.proofs.Common.{◌≡◌, ◌≢◌, ℕ, ◌≤◌, List, ap, sym, ◌∙◌, subst}
use Rattle.album_calls.specs.declared.nodes.Node.TheVariants.{Part}
use Rattle.album_partition.specs.Marks.{latest, state_of}
use Rattle.album_partition.specs.Partition.{PartitionState}
use Rattle.album_partition.specs.declared.marks.Mark.{Mark}
use Rattle.album_passes.specs.Cuts.{Cut, prefix_at, IsSound}
use Rattle.album_passes.specs.Pass.{PassState}
use Rattle.album_terminate.specs.declared.deciding.StampState.TheVariants as state
use Rattle.album_keepers.specs.Envelopes.{IsAnswered}
use Rattle.album_keepers.specs.Keepers.{KeeperState}
use Rattle.album_keepers.specs.Rounds.{RepliesTo}
use Rattle.album_keepers.proofs.keeper.PartitionKeeper.round_reply_of.Given as given
use Rattle.album_keepers.proofs.keeper.PartitionKeeper.round_reply_of.Goals as goal

-- the pass shows the partition as it is
shown_as : (g : given.Over) (c : goal.After-new g) (part : ℕ) → c.args.reply.from ≡ Part part
    → c.args.self.now.partition.marks ≡ prefix_at c.split-pass.result.cut part
shown_as g c part from =
    let kept : c.self.inside.partition ≡ c.args.self.now.partition = ap (λ (k : KeeperState). k.partition) c.self.view_is in
    let same : c.args.self.now.partition.number ≡ part = same_part c.args.self.now.partition.number part (sym c.requires.sender ∙ from) in
    let number : c.self.inside.partition.number ≡ part = ap (λ (p : PartitionState). p.number) kept ∙ same in
    let cut : c.split-pass.result.cut ≡ c.self.inside.owner.cut = ap (λ (p : PassState). p.cut) c.split-pass.ensures.split in
    ap (λ (p : PartitionState). p.marks) (sym kept) ∙ c.self.invariant.1.shown.marks ∙ (λ i. prefix_at (sym cut i) (number i))
  where
    same_part : (i j : ℕ) → Part i ≡ Part j → i ≡ j
    same_part i j e = cc (e)

-- a version that is replied is not below the partition's latest one, and no stamp below the number is pending
pub returns-clause-replies : goal.returns-clause-replies
returns-clause-replies g c =
    let limit = g.J.DeskNames.terms.limit in
    let cut : c.split-pass.result.cut ≡ c.args.self.now.owner.cut =
    ap (λ (p : PassState). p.cut) c.split-pass.ensures.split ∙ ap (λ (k : KeeperState). k.owner.cut) c.self.view_is in
    subst (RepliesTo limit c.args.message.now) (sym c.new.ensures) (record {
      answered = subst (λ (d : Cut). IsAnswered limit d c.args.message.now c.args.reply) (sym cut) c.requires.answered;
      sound = subst IsSound (sym (ap (λ (p : PassState). p.cut) c.split-pass.ensures.split)) c.split-pass.ensures.sound;
      latest = λ none part item stamp value from is.
          subst (λ (ms : List Mark). latest ms item ≤ stamp) (shown_as g c part from) (c.has_newer-overtaken.ensures none item stamp value is);
      settled = λ part from stamp low.
          subst (λ (ms : List Mark). state_of ms stamp ≢ state.Pending) (shown_as g c part from) (c.settled_below-below.ensures stamp low);
    })
