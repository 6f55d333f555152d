use Rattle.album_eval.proofs.Giving.{others_same, other_bits_same, owner_granted, three_as_two, way_granted, none_granted}
use Rattle.album_eval.proofs.verdicts.given_to_owners.Goals as goal

pub returns : goal.returns
returns c = record { others = others_same; other_bits = other_bits_same; given = owner_granted; three = three_as_two; way = way_granted; no_list = none_granted }
