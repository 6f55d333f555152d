use Rattle.album_eval.proofs.Acting.{root-acts, others-act, same-user, nobody-acts}
use Rattle.album_eval.proofs.facts.root_by_name.Goals as goal

pub returns : goal.returns
returns c = record { root = root-acts; others = others-act; same = same-user; nobody = nobody-acts }
