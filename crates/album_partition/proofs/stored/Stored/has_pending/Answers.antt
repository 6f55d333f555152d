use Rattle.std.proofs.Common.{◌≡◌, ◌∙◌, ℕ, true, List, ap, sym, subst}
use Rattle.std.specs.Prelude.{nat_lt}
use Rattle.album_partition.specs.Bases.{has_pending, is_chained}
use Rattle.album_partition.specs.Marks.{latest}
use Rattle.album_partition.specs.declared.marks.Mark.{Mark}
use Rattle.album_partition.proofs.ChainLemmas.{newest_pending}
use Rattle.album_partition.proofs.stored.Stored.has_pending.Goals as goal

pub returns : goal.returns
returns c =
    ap (λ (l : ℕ). nat_lt l c.value-2.result) (c.value.ensures.value ∙ c.latest.ensures)
    ∙ ap (λ (n : ℕ). nat_lt (latest c.args.self.now c.args.item) n) c.value-2.ensures.value
    ∙ subst (λ (ms : List Mark). nat_lt (latest ms c.args.item) c.newest.result ≡ has_pending ms c.args.item) c.self.view_is
    (newest_pending c.self.inside.history c.self.inside.versions c.args.item c.newest.result c.self.invariant
    (subst (λ (ms : List Mark). is_chained ms ≡ true) (sym c.self.view_is) c.requires) c.newest.ensures.there c.newest.ensures.greatest)
