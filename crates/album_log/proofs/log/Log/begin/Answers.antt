-- The file was empty, so its first zeros are all that it has.
use Rattle.std.proofs.Common.{◌≡◌, [], ℕ, List, length, slice_index, IsTrue, ap, sym, subst, ◌∙◌, arith}
use Rattle.std.specs.List.{EachIndex}
use Rattle.std.proofs.lemmas.List.{nil_from_length}
use Rattle.album_log.specs.Logs.{HasText, IsSound}
use Rattle.album_log.specs.declared.zeros.TheConstants.{PIECE}
use Rattle.album_log.proofs.LogLemmas.{log_of_sound, sound_at_first}
use Rattle.album_log.proofs.log.Log.begin.Goals as goal

pub begin_zeros-requires-clause-zeros : goal.begin_zeros-requires-clause-zeros
begin_zeros-requires-clause-zeros g c =
    let Zeros : List ℕ → Type 0 = λ zeros. EachIndex zeros (λ k. slice_index zeros k ≡ 0) in
    subst Zeros (sym c.deref.ensures.value) c.in_ok-zeros.ensures.zeros

-- the file was empty, where the disk is clean
was_empty : (g : _) (c : goal.In_ok-begin_zeros g) → IsTrue (g.D.Disk.is_clean c.begin_zeros.new.disk) → length (g.D.Disk.seen c.args.disk) ≡ 0
was_empty g c clean =
    sym (c.in_ok-len.ensures.len (subst IsTrue c.in_ok-begin_zeros.ensures.clean clean)) ∙ c.if-branch-ne0.false

sound : (g : _) (c : goal.In_ok-begin_zeros g) → IsSound 0 PIECE (g.D.Disk.seen c.begin_zeros.new.disk) (g.D.Disk.may_leave c.begin_zeros.new.disk) (g.D.Disk.is_clean c.begin_zeros.new.disk) (g.D.Disk.is_usable c.begin_zeros.new.disk)
sound g c =
    let e = c.in_ok-begin_zeros.ensures in
    let long : length c.deref.result.now ≡ PIECE = ap length c.deref.ensures.value ∙ c.in_ok-zeros.ensures.length in
    sound_at_first PIECE _ _ _ _ (subst (λ (n : ℕ). HasText [] n (g.D.Disk.seen c.begin_zeros.new.disk)) long e.text) e.only e.usable
    (λ clean. sym long ∙ e.size (ap length c.len.ensures.seen ∙ was_empty g c clean))

pub invariant_of-result : goal.invariant_of-result
invariant_of-result g c = (omega (arith, c.in_ok-zeros.ensures.length), c.in_ok-zeros.ensures.zeros, λ _. sound g c)

pub returns-clause-empty : goal.returns-clause-empty
returns-clause-empty g c clean = nil_from_length _ (was_empty g c clean)

pub returns-clause-log : goal.returns-clause-log
returns-clause-log g c clean = log_of_sound 0 PIECE _ _ _ _ (sound g c) clean
