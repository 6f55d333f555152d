-- What a dump is answered: an opening that was left, as text, or a refusal.
use Rattle.std.proofs.Common.{◌≡◌, ℕ, Vec, Result, Ok, Err, IfOk}
use Rattle.std.specs.declared.alloc.Global.{Global}
use Rattle.album_stamps.specs.declared.refusals.Refusal.{Refusal}
use Rattle.album_items.specs.declared.openings.Opening.{Opening}
use Rattle.album_passes.specs.Cuts.{Cut}
use Rattle.album_sessions.specs.Sessions.{SessionState}
use Rattle.album_sessions.specs.Steps.{IsStill}
use Rattle.album_lines.specs.Output.{refusal_line}
use Rattle.album_turns.specs.Left.{IsFoundBy, IsUnleft}
use Rattle.album_talk.specs.Talk.{dumped, IsDumped}

pub found_dumped : (opening : Opening) (old new : SessionState) (listened : Cut) (next : Opening)
    (r : Result (Vec ℕ Global) Refusal) → IsStill old new → IsFoundBy old.cut opening listened next
    → IfOk r (λ text. text.items ≡ dumped next) → IfOk r (λ text. IsDumped opening old new text.items)
found_dumped opening old new listened next (Ok text) still found is = (Ok next, (listened, found), is, still.adds)
found_dumped opening old new listened next (Err why) still found is = is

pub refused_dumped : (opening : Opening) (old new : SessionState) (why : Refusal) (r : Result (Vec ℕ Global) Refusal)
    → IsStill old new → IsUnleft new.cut opening why → IfOk r (λ text. text.items ≡ refusal_line why)
    → IfOk r (λ text. IsDumped opening old new text.items)
refused_dumped opening old new why (Ok text) still unleft is = (Err why, unleft, is, still.adds)
refused_dumped opening old new why (Err other) still unleft is = is
