use Rattle.album_explain.proofs.Adding.{adds_up, only_verdict}
use Rattle.album_explain.proofs.decisions.verdict_by_bits.Goals as goal

pub returns : goal.returns
returns c = record { adds_up = adds_up; only = only_verdict }
