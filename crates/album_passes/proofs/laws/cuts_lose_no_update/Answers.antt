use Rattle.std.proofs.Common.{List, sym, subst, ◌∙◌, ap}
use Rattle.album_items.specs.ItemIds.{place_of}
use Rattle.album_partition.specs.Bases.{is_chained, IsMadeOn}
use Rattle.album_partition.specs.Marks.{state_of, latest, is_legal}
use Rattle.album_partition.specs.declared.marks.Mark.{Mark}
use Rattle.album_partition.proofs.ChainLemmas.{made_on, one_pending}
use Rattle.album_passes.specs.Cuts.{prefix_for}
use Rattle.album_passes.proofs.laws.cuts_lose_no_update.Goals as goal

pub returns-clause-made_on : goal.returns-clause-made_on
returns-clause-made_on c = λ cut before later stamp item writes items sound checked is done wrote.
    subst (λ (ms : List Mark). IsMadeOn ms item stamp (latest before item)) (sym is)
    (made_on before later stamp writes items item
    (ap is_legal (sym is) ∙ sound.legal (place_of cut.parts item))
    (ap is_chained (sym is) ∙ sound.chained (place_of cut.parts item) checked)
    (ap (λ (ms : List Mark). state_of ms stamp) (sym is) ∙ done) wrote)

pub returns-clause-one_pending : goal.returns-clause-one_pending
returns-clause-one_pending c = λ cut item t u sound checked.
    one_pending (prefix_for cut item) item t u (sound.legal (place_of cut.parts item)) (sound.chained (place_of cut.parts item) checked)
