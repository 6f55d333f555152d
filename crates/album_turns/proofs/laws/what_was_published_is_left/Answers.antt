use Rattle.album_turns.proofs.LeftLemmas.{left_less}
use Rattle.album_turns.proofs.laws.what_was_published_is_left.Goals as goal

pub returns : goal.returns
returns g c = record {
  left = λ before opening next to.
      left_less c.args.published.now.cut c.args.listened.now.cut opening next (c.what_was_published_is_seen.ensures.seen before) to;
}
