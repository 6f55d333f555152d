use Rattle.std.proofs.Common.{rules}
use Rattle.std.proofs.lemmas.List.Sorted.{answers_always}
use Rattle.album_versions.proofs.RowLemmas.{searched}
use Rattle.album_versions.proofs.rows.Row.search.Goals as goal

-- the closure gives a version's stamp, and the slice is the row's versions
pub returns : goal.returns
returns c =
    let facts = c.binary_search_by_key.ensures in
    let by_stamp = facts.position (λ version. version.stamp) (answers_always _ _ _ (λ f a r g called. search rules)) in
    rw (← c.self.view_is, ← c.deref.ensures.value) (searched _ (rw c.deref.ensures.value c.self.invariant.rising) c.args.stamp _ facts.bound by_stamp)
