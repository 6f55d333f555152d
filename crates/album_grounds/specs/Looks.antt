-- The outcomes of the reads of an ask: a view, one read more, or that it is busy.
use Rattle.std.specs.Prelude.{◌≡◌, ◌⊎◌, ◌+◌, ◌<◌, ◌≤◌, ℕ, List, [], ◌∷◌, length, None, Option}
use Rattle.album_stamps.specs.declared.limits.TheConstants.{MAX_READ_ITEMS, MAX_READS}
use Rattle.album_passes.specs.Cuts.{Cut, IsSound}
use Rattle.album_reader.specs.Answers.{ReadVersion}
use Rattle.album_reader.specs.Snapshots.{items_read}
use Rattle.album_views.specs.Asks.{objects_of}
use Rattle.album_views.specs.Checks.{flaw_of}
use Rattle.album_views.specs.ReadSets.{names_of}
use Rattle.album_views.specs.Steps.{AreReadable}
use Rattle.album_views.specs.Views.{ViewState, ViewingState, IsClosed, IsView}
use Rattle.album_views.specs.declared.asks.Ask.{Ask}
use Rattle.album_views.specs.declared.viewing.ViewStep.{ViewStep}
use Rattle.album_views.specs.declared.viewing.ViewStep.TheVariants.{Again, Closed, Busy}
use Rattle.album_views.specs.declared.viewing.Why.{Why}
use Rattle.album_views.specs.declared.viewing.Why.TheVariants.{Rounds, Wide}
use Rattle.album_grounds.specs.Grounds.{IsSeen, IsWide, AreInVain, IsOutOfReads, trims_in}
use Rattle.album_eval.specs.declared.facts.Principal.{Principal}

-- the view is one of the ask, of what was read atomic and fresh
pub record IsViewOf (begun now : Cut) (looker : Option Principal) (ask : Ask) (view : ViewState) : Type 0 where
  pub of : view.ask ≡ ask
  pub by : view.looker ≡ looker
  pub is : IsView view
  pub seen : IsSeen begun now view.rows
  pub sound : IsSound now

-- why there is no view
abbrev pub IsBusy : Cut → Cut → Option Principal → Ask → Why → Type 0
IsBusy begun now looker ask Wide = IsWide begun now looker ask
IsBusy begun now looker ask Rounds = IsOutOfReads begun now looker ask

-- what was read of these items is no view, and can be read anew with what it names
pub record IsVain
    (begun now : Cut) (looker : Option Principal) (ask : Ask) (items : List ℕ) (rows : List ReadVersion)
    : Type 0 where
  pub of : items_read rows ≡ items
  pub seen : IsSeen begun now rows
  pub lacking : IsClosed looker ask rows → ⊥
  pub few : length (names_of rows looker ask) ≤ MAX_READ_ITEMS

-- The outcome of one read of these items for the ask, for whoever looks. Where it is no view, it was in vain, or found
-- an item trimmed.
abbrev pub LooksOnce : Cut → Cut → Option Principal → ViewingState → List ℕ → ViewStep → Type 0
LooksOnce begun now looker viewing items (Closed view) = IsViewOf begun now looker viewing.ask view
LooksOnce begun now looker viewing items (Busy Wide) = IsWide begun now looker viewing.ask
LooksOnce begun now looker viewing items (Busy Rounds) =
    (MAX_READS ≤ viewing.reads + 1)
    × (((rows : List ReadVersion) × IsVain begun now looker viewing.ask items rows) ⊎ (trims_in begun < trims_in now))
LooksOnce begun now looker viewing items (Again next names) =
    (next ≡ record { ask = viewing.ask; reads = viewing.reads + 1 })
    × AreReadable names
    × (((rows : List ReadVersion) × IsVain begun now looker viewing.ask items rows
    × (names ≡ names_of rows looker viewing.ask))
    ⊎ ((trims_in begun < trims_in now) × (names ≡ items)))

-- the items to be read next, after reads in vain that began with these items
abbrev pub items_next : Option Principal → Ask → List ℕ → List (List ReadVersion) → List ℕ
items_next looker ask items [] = items
items_next looker ask items (rows ∷ later) = items_next looker ask (names_of rows looker ask) later

-- The reads so far were in vain, or found an item gone by a trim, and these items are to be read next.
pub record IsLooking
    (begun now : Cut) (looker : Option Principal) (viewing : ViewingState) (items : List ℕ)
    : Type 0 where
  pub flawless : flaw_of viewing.ask ≡ None
  pub reads : List (List ReadVersion)
  pub in_vain : AreInVain begun now looker viewing.ask (objects_of viewing.ask) reads
  pub next : items ≡ items_next looker viewing.ask (objects_of viewing.ask) reads
  pub all : viewing.reads + trims_in begun ≤ length reads + trims_in now
  pub readable : AreReadable items
  pub sound : IsSound now
