use Rattle.std.proofs.Common.{subst, List, ap}
use mathlib.Core.List.{IsPrefix}
use Rattle.album_passes.specs.Pass.{PassState}
use Rattle.album_board.specs.Entries.{Entry, passes_from}
use Rattle.album_board.proofs.EntryLemmas.{passes_from-prefix}
use Rattle.album_board.proofs.writer.Front.meet.Goals as goal

pub returns-clause-this : goal.returns-clause-this
returns-clause-this g c =
    let both = c.learn.new.self.log in
    let this : IsPrefix c.self.inside.seen.log both =
    subst (λ (l : List Entry). IsPrefix l both) (ap (λ s. s.log) c.again-both.ensures) c.learn.ensures.2 in
    subst (λ (ps : List PassState). IsPrefix ps (passes_from g.J.BoardNames.list.first both)) c.self.view_is
    (passes_from-prefix g.J.BoardNames.list.first c.self.inside.seen.log both this)

pub returns-clause-that : goal.returns-clause-that
returns-clause-that g c =
    let both = c.learn.new.self.log in
    subst (λ (ps : List PassState). IsPrefix ps (passes_from g.J.BoardNames.list.first both)) c.other.view_is
    (passes_from-prefix g.J.BoardNames.list.first c.other.inside.seen.log both c.learn.ensures.3)
