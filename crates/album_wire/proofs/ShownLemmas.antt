-- In a first epoch each answer is shown as it is: for `write_out` and `write_answer`.
use Rattle.std.proofs.Common.{◌≡◌, ◌==◌, ℕ, Bool, true, false, [], refl, ap, sym, if◌then◌else◌}
use Rattle.std.proofs.lemmas.Bool.Decides.{Decides-eqb}
use Rattle.album_items.specs.FirstStamps.{shown}
use Rattle.album_permits.specs.declared.answers.Answer.{Answer}
use Rattle.album_permits.specs.declared.answers.Answer.TheVariants as answer
use Rattle.album_permits.specs.declared.outs.Out.{Out}
use Rattle.album_permits.specs.declared.outs.Out.TheVariants as out
use Rattle.album_permits.specs.declared.serving.Served.{Served}
use Rattle.album_permits.specs.declared.serving.Served.TheVariants as served
use Rattle.album_wire.specs.ShownStamps.{served_shown, answer_shown, out_shown}

stamp_at_first : (item stamp : ℕ) → shown [] item stamp ≡ stamp
stamp_at_first item stamp = go (stamp == 0) refl
  where
    go : (b : Bool) → (stamp == 0) ≡ b → (if b then 0 else stamp) ≡ stamp
    go true e = sym ((Decides-eqb stamp 0).0 e)
    go false e = refl

served_at_first : (given : Served) → served_shown [] given ≡ given
served_at_first (served.Picture object stamp title content) =
    ap (λ (s : ℕ). served.Picture object s title content) (stamp_at_first object stamp)
served_at_first (served.Group object stamp members) =
    ap (λ (s : ℕ). served.Group object s members) (stamp_at_first object stamp)
served_at_first (served.Entries object of stamp entries) =
    ap (λ (s : ℕ). served.Entries object of s entries) (stamp_at_first of stamp)
served_at_first (served.Listed album stamp rows) =
    ap (λ (s : ℕ). served.Listed album s rows) (stamp_at_first album stamp)
served_at_first (served.Head object stamp attributes) =
    ap (λ (s : ℕ). served.Head object s attributes) (stamp_at_first object stamp)
served_at_first (served.Children album stamp children) =
    ap (λ (s : ℕ). served.Children album s children) (stamp_at_first album stamp)

pub answer_at_first : (given : Answer) → answer_shown [] given ≡ given
answer_at_first (answer.Served given) = ap (λ (s : Served). answer.Served s) (served_at_first given)
answer_at_first (answer.Denied reasons) = refl
answer_at_first (answer.Missing object) = refl
answer_at_first (answer.Busy why) = refl
answer_at_first (answer.Committed stamp) = refl
answer_at_first (answer.Aborted stamp) = refl
answer_at_first (answer.Unsettled stamp refusal) = refl
answer_at_first (answer.Refused refusal) = refl

pub out_at_first : (output : Out) → out_shown [] output ≡ output
out_at_first (out.Sent number) = refl
out_at_first (out.Noted client note) = refl
out_at_first (out.Answered client given) = ap (λ (a : Answer). out.Answered client a) (answer_at_first given)
