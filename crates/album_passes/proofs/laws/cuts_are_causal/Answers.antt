use Rattle.album_passes.proofs.CausalLemmas.{depended_on, depended_lengths}
use Rattle.album_passes.proofs.laws.cuts_are_causal.Goals as goal

pub returns-clause-announced : goal.returns-clause-announced
returns-clause-announced c = λ cut stamp part items lengths e. depended_lengths cut stamp part items lengths e

pub returns-clause-known : goal.returns-clause-known
returns-clause-known c = λ cut stamp sound done. depended_on cut stamp sound done
