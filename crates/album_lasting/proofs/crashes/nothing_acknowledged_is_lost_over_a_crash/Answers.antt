use Rattle.std.proofs.Common.{◌≡◌, ℕ, Some, ⊎_elim, subst, sym, ◌∙◌, arith}
use Rattle.album_items.specs.ItemIds.{place_of}
use Rattle.album_reader.specs.Atomic.{IsWrittenBy}
use Rattle.album_partition.specs.Marks.{commits, first_value}
use Rattle.album_passes.specs.Cuts.{prefix_at}
use Rattle.album_passes.specs.Reads.{IsCommitted, written_value, writes_in_cut}
use Rattle.album_passes.proofs.PrefixLemmas.{any_more}
use Rattle.album_epochs.proofs.LeftLemmas.{discarded_left, sound_left}
use Rattle.album_world.proofs.ListLemmas.{some_same}
use Rattle.album_lasting.specs.Crashing.{IsLogged}
use Rattle.album_lasting.proofs.CrashLemmas.{logged_carried, opens}
use Rattle.album_lasting.proofs.VersionLemmas.{kept_whole, written_more}
use Rattle.album_lasting.proofs.crashes.nothing_acknowledged_is_lost_over_a_crash.Goals as goal

pub returns-clause-opens : goal.returns-clause-opens
returns-clause-opens c = λ opening next cut entries item log after. opens opening cut entries log next item after

pub returns-clause-acknowledged : goal.returns-clause-acknowledged
returns-clause-acknowledged c = λ opening next answered cut entries permit stamp item opened value log at since kept wrote.
    let is = kept_whole answered cut permit stamp log.sound log.some since kept item value wrote in
    at.greatest stamp value (log.kept stamp (place_of cut.parts item, is.committed)) is.is

pub returns-clause-as_written : goal.returns-clause-as_written
returns-clause-as_written c = λ opening next answered cut entries permit stamp item value log at since kept some wrote.
    let is = kept_whole answered cut permit stamp log.sound log.some since kept item value wrote in
    ⊎_elim
    (λ (first : (stamp ≡ 0) × (first_value next.items item ≡ first_value cut.opening item)). absurd (some first.0))
    (λ (later : IsLogged cut entries stamp × (written_value cut item stamp ≡ Some (first_value next.items item))).
    some_same (sym later.1 ∙ is.is))
    at.value

pub returns-clause-no_view_goes_back : goal.returns-clause-no_view_goes_back
returns-clause-no_view_goes_back c = λ opening next begun answered cut entries rows row opened log at since seen there.
    ⊎_elim
    (λ (first : (row.stamp ≡ 0) × (row.value ≡ first_value answered.opening row.item)).
    (let zero : row.stamp ≡ 0 = first.0 in omega (arith, zero)))
    (λ (by : IsWrittenBy (writes_in_cut answered) row).
    let done : IsCommitted answered row.stamp = subst (IsCommitted answered) by.at by.committed in
    let wrote : written_value answered row.item row.stamp ≡ Some row.value =
    subst (λ (t : ℕ). written_value answered row.item t ≡ Some row.value) by.at by.wrote in
    let now : IsCommitted cut row.stamp =
    (done.0, any_more (commits row.stamp) (prefix_at answered done.0) (prefix_at cut done.0) (since.prefixes done.0) done.1) in
    at.greatest row.stamp row.value (log.kept row.stamp now)
    (written_more answered cut row.item row.stamp row.value log.sound since done wrote))
    (seen.atomic.written row there)

pub returns-clause-whole : goal.returns-clause-whole
returns-clause-whole c = λ opening next cut entries one other stamp opened value log at of_other some wrote.
    ⊎_elim
    (λ (first : (stamp ≡ 0) × (first_value next.items one ≡ first_value cut.opening one)). absurd (some first.0))
    (λ (later : IsLogged cut entries stamp × (written_value cut one stamp ≡ Some (first_value next.items one))).
    of_other.greatest stamp value later.0 wrote)
    at.value

pub returns-clause-let_go : goal.returns-clause-let_go
returns-clause-let_go c = λ opening cut entries part stamp log discarded logged.
    let carried = logged_carried opening cut entries log stamp logged in
    let none = discarded_left cut part stamp (sound_left cut log.sound) discarded in
    absurd (cc (carried, none))
