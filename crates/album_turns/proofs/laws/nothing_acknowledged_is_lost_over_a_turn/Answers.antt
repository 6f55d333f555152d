use Rattle.std.proofs.Common.{◌≡◌, ℕ, Bool, Some, is_some, if◌then◌else◌, ap, ◌∙◌}
use Rattle.std.specs.Option.{unwrap_or}
use Rattle.std.proofs.lemmas.Bool.{ne_eqb}
use Rattle.album_items.specs.declared.values.Value.{Value}
use Rattle.album_items.specs.declared.values.Value.TheVariants.{Missing}
use Rattle.album_partition.specs.Marks.{discards, first_value}
use Rattle.album_passes.specs.Cuts.{Cut, Extends, IsSound, prefix_at}
use Rattle.album_passes.specs.Reads.{IsCommitted, written_value}
use Rattle.album_passes.proofs.PrefixLemmas.{any_more}
use Rattle.album_epochs.specs.Carried.{IsLeft, value_carried_at}
use Rattle.album_epochs.proofs.CarriedLemmas.{throughout, committed_carried, carried_more}
use Rattle.album_epochs.proofs.EpochLemmas.{never_back, read_back}
use Rattle.album_epochs.proofs.LeftLemmas.{discarded_left}
use Rattle.album_epochs.proofs.WrittenLemmas.{same_written}
use Rattle.album_turns.proofs.laws.nothing_acknowledged_is_lost_over_a_turn.Goals as goal

-- what was committed is written in what is left, as it was
kept : (c d : Cut) → IsSound c → IsLeft d → Extends c d → (t i : ℕ) → IsCommitted c t → (v : Value)
    → written_value c i t ≡ Some v → written_value d i t ≡ Some v
kept c d s left x t i done v is = same_written c d left x t (throughout c t (committed_carried c t s done)) i ∙ is

pub returns-clause-carried : goal.returns-clause-carried
returns-clause-carried c = λ cut opening next stamp to sound done.
    carried_more cut to.left stamp to.since (committed_carried cut stamp sound done)

pub returns-clause-no_older : goal.returns-clause-no_older
returns-clause-no_older c = λ cut opening next stamp item value to sound done is.
    never_back cut to.left stamp item to.since (committed_carried cut stamp sound done)
    (ap is_some (kept cut to.left sound to.is_left to.since stamp item done value is))

pub returns-clause-as_written : goal.returns-clause-as_written
returns-clause-as_written c = λ cut opening next stamp item value to sound done some is same.
    to.rows.values item ∙ ap (value_carried_at to.left item) same
    ∙ ap (λ (b : Bool). if b then first_value to.left.opening item else unwrap_or (written_value to.left item stamp) Missing)
    (ne_eqb stamp 0 some)
    ∙ ap (λ v. unwrap_or v Missing) (kept cut to.left sound to.is_left to.since stamp item done value is)

pub returns-clause-let_go : goal.returns-clause-let_go
returns-clause-let_go c = λ cut opening next part stamp to e.
    discarded_left to.left part stamp to.is_left
    (any_more (discards stamp) (prefix_at cut part) (prefix_at to.left part) (to.since.prefixes part) e)

pub returns-clause-no_view_goes_back : goal.returns-clause-no_view_goes_back
returns-clause-no_view_goes_back c = λ begun cut opening next rows row to sound seen here.
    read_back cut to.left row sound to.is_left to.since (seen.atomic.written row here)
