use Rattle.std.proofs.Common.{◌≡◌, true, false, List, [], ◌∷◌, ◌++◌, Some, sym, ap, ◌∙◌, subst}
use Rattle.std.specs.List.{list_any}
use Rattle.album_partition.specs.Marks.{prepares, prepare_in}
use Rattle.album_partition.specs.declared.marks.Mark.{Mark as Made}
use Rattle.album_epochs.specs.Folding.{ArePrepared}
use Rattle.album_data.proofs.RecoveryLemmas.{known_taken, new_taken, prepared_more}
use Rattle.album_data.proofs.recovery.take_mark.Goals as goal

pub returns-then-contains-clause-marks : goal.returns-then-contains-clause-marks
returns-then-contains-clause-marks c =
    let marks : List Made = c.args.marks.now.items in
    let is : prepare_in c.args.mark.now ≡ Some c.in-Some.stamp = sym c.prepare_in.ensures ∙ c.in-Some.is in
    let known : list_any (prepares c.in-Some.stamp) marks ≡ true =
    sym (c.requires c.in-Some.stamp) ∙ (sym c.contains.ensures ∙ c.if-contains.true) in
    sym (known_taken marks c.args.mark.now c.in-Some.stamp is known)

pub returns-clause-marks : goal.returns-clause-marks
returns-clause-marks c =
    let marks : List Made = c.args.marks.now.items in
    let is : prepare_in c.args.mark.now ≡ Some c.in-Some.stamp = sym c.prepare_in.ensures ∙ c.in-Some.is in
    let unknown : list_any (prepares c.in-Some.stamp) marks ≡ false =
    sym (c.requires c.in-Some.stamp) ∙ (sym c.contains.ensures ∙ c.if-contains.false) in
    c.in_ok-push.ensures.items ∙ (ap (λ (m : Made). marks ++ m ∷ []) c.in_ok-copy.ensures
    ∙ sym (new_taken marks c.args.mark.now c.in-Some.stamp is unknown))

pub returns-clause-stamps : goal.returns-clause-stamps
returns-clause-stamps c =
    let marks : List Made = c.args.marks.now.items in
    let is : prepare_in c.in_ok-copy.copy ≡ Some c.in-Some.stamp =
    ap prepare_in c.in_ok-copy.ensures ∙ (sym c.prepare_in.ensures ∙ c.in-Some.is) in
    subst (λ (ms : List Made). ArePrepared ms c.insert.new.self) (sym c.in_ok-push.ensures.items)
    (prepared_more marks c.in_ok-copy.copy c.in-Some.stamp c.args.stamps.now c.insert.new.self is c.in_ok-insert.ensures.updates.0 c.requires)
