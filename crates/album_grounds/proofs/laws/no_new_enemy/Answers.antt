use Rattle.std.proofs.Common.{◌≢◌}
use Rattle.std.proofs.lemmas.List.Elements.{All-contains}
use Rattle.album_passes.specs.Reads.{IsCommitted}
use Rattle.album_passes.proofs.CausalLemmas.{fresh_by_author}
use Rattle.album_reader.specs.Answers.{ReadVersion}
use Rattle.album_grounds.proofs.laws.no_new_enemy.Goals as goal

pub returns : goal.returns
returns c = λ begun now rows row seen there some.
    fresh_by_author seen.at now row.stamp rows seen.sound seen.until
    (All-contains (λ (x : ReadVersion). x.stamp ≢ 0 → IsCommitted seen.at x.stamp) rows row seen.known there some) seen.fresh
