use Rattle.std.proofs.Common.{rules, ◌≡◌, ℕ, true, List, Contains, Some, ap, sym, ◌∙◌, subst}
use Rattle.std.specs.Option.{option_copied}
use Rattle.album_calls.specs.declared.nodes.Node.TheVariants.{Part}
use Rattle.album_partition.specs.Marks.{prepares}
use Rattle.album_partition.specs.declared.marks.Mark.{Mark}
use Rattle.album_keepers.specs.Held.{stamp_prepared}
use Rattle.album_keepers.specs.Keepers.{KeeperState}
use Rattle.album_keepers.proofs.HeldLemmas.{kept_there, sent_by}
use Rattle.album_keepers.proofs.keeper.PartitionKeeper.entry_for.Goals as goal

-- the mark that the partition keeps of the stamp
pub returns-in_ok-copy-in-Some-prepared-clause-among : goal.returns-in_ok-copy-in-Some-prepared-clause-among
returns-in_ok-copy-in-Some-prepared-clause-among g c =
    let part : ℕ = c.self.inside.part in
    let stamp : ℕ = c.in-Some.stamp in
    let message = c.args.message.now in
    let marks : List Mark = c.self.inside.partition.marks in
    let says : stamp_prepared message.body ≡ Some stamp = search rules in
    let from : message.from ≡ Part part = sent_by message.from part (search rules) in
    let kept = kept_there marks stamp c.in-Some-prepared.mark.now (sym c.prepared.ensures ∙ ap option_copied c.in-Some-prepared.is) in
    let same : c.in_ok-copy-in-Some-prepared.field-0 ≡ c.in-Some-prepared.mark.now = c.in_ok-copy-in-Some-prepared.ensures in
    let now : marks ≡ c.args.self.now.partition.marks = ap (λ (k : KeeperState). k.partition.marks) c.self.view_is in (
      stamp,
      says,
      record {
        from = from;
        prepares = subst (λ (m : Mark). prepares stamp m ≡ true) (sym same) kept.0;
        made = subst (λ (m : Mark). Contains c.args.self.now.partition.marks m) (sym same)
            (subst (λ (ms : List Mark). Contains ms c.in-Some-prepared.mark.now) now kept.1);
      },
    )
