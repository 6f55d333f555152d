-- What a snapshot leads to where nobody in particular looks: `nobodys`.
use Rattle.std.proofs.Common.{◌≡◌, ℕ, ◌+◌, Bool, true, false, List, None, if◌then◌else◌, nat_le, nat_lt, length, refl}
use Rattle.album_stamps.specs.declared.limits.TheConstants.{MAX_READ_ITEMS, MAX_READS}
use Rattle.album_reader.specs.Answers.{ReadVersion}
use Rattle.album_views.specs.ReadSets.{names_of}
use Rattle.album_views.specs.Steps.{stepped, again, unclosed}
use Rattle.album_views.specs.Views.{ViewingState, is_closed}
use Rattle.album_views.specs.declared.viewing.ViewStep.TheVariants.{Again, Closed, Busy}
use Rattle.album_views.specs.declared.viewing.Why.TheVariants.{Rounds, Wide}
use Rattle.album_tests_views.specs.Looking.{IsNobodys}

pub nobodys : (viewing : ViewingState) (rows : List ReadVersion) → IsNobodys (stepped None viewing rows)
nobodys viewing rows = go (is_closed None viewing.ask rows)
  where
    names : List ℕ
    names = names_of rows None viewing.ask

    once_more : (b : Bool)
        → IsNobodys (if b then Busy Rounds else Again (record viewing { reads = viewing.reads + 1 }) names)
    once_more true = tt
    once_more false = tt

    open_yet : (b : Bool) → IsNobodys (if b then Busy Wide else again viewing names)
    open_yet true = tt
    open_yet false = once_more (nat_le MAX_READS (viewing.reads + 1))

    go : (b : Bool) → IsNobodys
        (if b then Closed (record { looker = None; ask = viewing.ask; rows = rows }) else unclosed viewing names)
    go true = refl
    go false = open_yet (nat_lt MAX_READ_ITEMS (length names))
