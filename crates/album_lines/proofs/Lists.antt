-- What is read of a list, after what was read before. For the invariants of the loops that read lists.
use Rattle.std.proofs.Common.{List, ◌++◌, Result, Ok}
use Rattle.album_stamps.specs.declared.refusals.Refusal.{Refusal}
use Rattle.album_stamps.specs.Outcome.{◌>>=◌}

abbrev pub with_front : {A : Type 0} → List A → Result (List A) Refusal → Result (List A) Refusal
with_front front read = read >>= λ others. Ok (front ++ others)
