use Rattle.std.proofs.Common.{◌≡◌, ℕ, List, Option, Some, None, refl}
use Rattle.album_eval.specs.declared.facts.Principal.{Principal}
use Rattle.album_reader.specs.Answers.{ReadVersion}
use Rattle.album_views.specs.ReadSets.{first_names, names_of}
use Rattle.album_views.specs.declared.asks.Ask.TheVariants as ask
use Rattle.album_views.proofs.laws.heads_and_children_are_narrow.Goals as goal

-- who goes no owner's way to the one goes none to the other
children : (rows : List ReadVersion) (looker : Option Principal) (album : ℕ) (title content : List ℕ)
    → names_of rows looker (ask.Children album) ≡ names_of rows looker (ask.AddPicture album title content)
unfolding names_of first_names
children rows None album title content = refl
children rows (Some principal) album title content = refl

head : (rows : List ReadVersion) (looker : Option Principal) (object : ℕ) (title : List ℕ)
    → names_of rows looker (ask.Head object) ≡ names_of rows looker (ask.Retitle object title)
unfolding names_of first_names
head rows None object title = refl
head rows (Some principal) object title = refl

pub returns-clause-children : goal.returns-clause-children
returns-clause-children c = children

pub returns-clause-head : goal.returns-clause-head
returns-clause-head c = head
