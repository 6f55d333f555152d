use Rattle.std.proofs.Common.{◌∙◌, List, [], ◌∷◌, ◌++◌, ap}
use Rattle.album_partition.specs.declared.marks.Mark.{Mark}
use Rattle.album_partition.proofs.HistoryLemmas.{seen, made}
use Rattle.album_partition.proofs.history.History.push_with.Goals as goal

pub invariant_of-self-2 : goal.invariant_of-self-2
invariant_of-self-2 c =
    made c.args.self.now _ c.args.mark c.args.change _ _ _ (seen c.self.view_is c.self.invariant) c.requires.follows c.requires.change
    c.in_default.ensures.ok
    (c.push_reserved.ensures.items ∙ ap (λ (ms : List Mark). ms ++ c.args.mark ∷ []) (c.reserve.ensures.items ∙ c.self.view_is))
