use Rattle.std.proofs.Common.{rules, not, List, ℕ, ap}
use Rattle.std.proofs.lemmas.Fn.{filter_same}
use Rattle.album_calls.specs.Nodes.{is_part}
use Rattle.album_writer.specs.Writing.{WritingState}
use Rattle.album_writer.proofs.writing.Writing.answered_by.Goals as goal

-- the round is as it was, but for the outstanding participants
pub returns : goal.returns
returns c =
    let round : List ℕ → WritingState = λ outstanding. record {
      checked = c.self.inside.checked;
      permit = c.self.inside.writes.permit;
      stamp = c.self.inside.writes.stamp;
      client = c.self.inside.client;
      tag = c.self.inside.tag;
      parts = c.self.inside.parts;
      outstanding = outstanding;
    }
    in
    rw (← c.self.view_is)
    (ap round
    (filter_same _ (λ part. not (is_part c.args.node part)) _ (λ x b f' k. search rules) _ _ c.retain.ensures.filtered))
