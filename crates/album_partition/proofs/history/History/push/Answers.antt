use Rattle.std.proofs.Common.{◌∙◌, List, [], ◌∷◌, ◌++◌, ap}
use Rattle.album_partition.specs.declared.marks.Mark.{Mark}
use Rattle.album_partition.proofs.HistoryLemmas.{seen, pushed_of_none}
use Rattle.album_partition.proofs.history.History.push.Goals as goal

pub invariant_of-self-2 : goal.invariant_of-self-2
invariant_of-self-2 c =
    pushed_of_none c.args.self.now _ c.args.mark _ _ (seen c.self.view_is c.self.invariant) c.requires.follows c.requires.change
    (c.push_reserved.ensures.items ∙ ap (λ (ms : List Mark). ms ++ c.args.mark ∷ []) (c.reserve.ensures.items ∙ c.self.view_is))
