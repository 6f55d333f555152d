-- The texts of outputs, one after the other. For `write_outputs`.
use Rattle.std.proofs.Common.{◌≡◌, ◌+◌, ◌<◌, ℕ, List, [], ◌∷◌, ◌++◌, length, take, drop, get_or, Option, refl, sym, ap, ◌∙◌, subst, append_assoc, append-nil, take-append-drop}
use Rattle.std.proofs.lemmas.List.{take_more}
use Rattle.std.specs.Io.KnownBytes.{Appends}
use Rattle.std.proofs.KnownBytes.{Appends-trans, Appends-nil}
use Rattle.album_world.specs.State.{Now}
use Rattle.album_permits.specs.declared.outs.Out.{Out}
use Rattle.album_wire.specs.OutJson.{out_line}
use Rattle.album_wire.specs.ShownStamps.{out_shown}
use Rattle.album_judge.specs.declared.fault.Fault.{Fault}
use Rattle.album_replay.specs.Replay.{message_shown, outputs_text, Showing}
use Rattle.album_judge.specs.Writes.{Writes, LeavesOf}
use Rattle.album_replay.proofs.Leaving.{leaves_behind, leaves_before}

outputs_append : (how : Showing) (now : Now) (xs ys : List Out)
    → outputs_text how now (xs ++ ys) ≡ outputs_text how now xs ++ outputs_text how now ys
outputs_append how now [] ys = refl
outputs_append how now (x ∷ xs) ys =
    let line = out_line (out_shown how.stamps x) (message_shown how.trace now x) in
    ap (λ t. line ++ t) (outputs_append how now xs ys)
    ∙ sym (append_assoc line (outputs_text how now xs) (outputs_text how now ys))

pub no_outputs : (a : Option (List ℕ)) → Appends a a []
no_outputs a = Appends-nil a

-- the outs before an index, and the one that is there
module _ (how : Showing) (now : Now) (outs : List Out) (i : ℕ) (out : Out) (inside : i < length outs)
    (is : out ≡ get_or outs i out) where
  line : List ℕ
  line = out_line (out_shown how.stamps out) (message_shown how.trace now out)

  outputs_more : outputs_text how now (take (i + 1) outs) ≡ outputs_text how now (take i outs) ++ line
  unfolding line
  outputs_more =
      ap (outputs_text how now) (take_more outs i out inside ∙ ap (λ x. take i outs ++ x ∷ []) (sym is))
      ∙ outputs_append how now (take i outs) (out ∷ [])
      ∙ ap (λ t. outputs_text how now (take i outs) ++ t) (append-nil line)

  pub outputs_next : (a b c : Option (List ℕ))
      → Appends a b (outputs_text how now (take i outs))
      → Appends b c (out_line (out_shown how.stamps out) (message_shown how.trace now out))
      → Appends a c (outputs_text how now (take (i + 1) outs))
  unfolding line
  outputs_next a b c first next = subst (Appends a c) (sym outputs_more) (Appends-trans a b c _ _ first next)

  outputs_whole : (outputs_text how now (take i outs) ++ line) ++ outputs_text how now (drop (i + 1) outs) ≡ outputs_text how now outs
  outputs_whole =
      ap (λ t. t ++ outputs_text how now (drop (i + 1) outs)) (sym outputs_more)
      ∙ sym (outputs_append how now (take (i + 1) outs) (drop (i + 1) outs))
      ∙ ap (outputs_text how now) (take-append-drop (i + 1) outs)

  pub outputs_left : (fault : Fault) (a b c : Option (List ℕ))
      → Appends a b (outputs_text how now (take i outs))
      → Writes (LeavesOf fault (λ whole. whole ≡ out_line (out_shown how.stamps out) (message_shown how.trace now out))) b c
      → Writes (LeavesOf fault (λ whole. whole ≡ outputs_text how now outs)) a c
  unfolding line
  outputs_left fault a b c first next =
      let front = outputs_text how now (take i outs) in
      let rest = outputs_text how now (drop (i + 1) outs) in
      let here : LeavesOf fault (λ whole. whole ≡ line ++ rest) next.0 =
      leaves_before (λ whole. whole ≡ line) (λ whole. whole ≡ line ++ rest)
      (λ text e. (rest, ap (λ t. t ++ rest) e)) fault next.0 next.1 in
      let all : LeavesOf fault (λ whole. whole ≡ outputs_text how now outs) (front ++ next.0) =
      leaves_behind (λ whole. whole ≡ line ++ rest) (λ whole. whole ≡ outputs_text how now outs) front
      (λ text e. ap (λ t. front ++ t) e ∙ sym (append_assoc front line rest) ∙ outputs_whole) fault next.0 here in
      (front ++ next.0, all, Appends-trans a b c front next.0 first next.2)
