use Rattle.std.proofs.Common.{◌≡◌, List, [], ◌∷◌, Ok, refl, sym, ap, ◌∙◌}
use Rattle.album_lists.specs.Entries.{is_spelled, is_of_use, access_list_of}
use Rattle.album_lists.specs.declared.lists.Ace.{Ace}
use Rattle.album_permits.specs.Effects.{owners_list}
use Rattle.album_permits.proofs.additions.owners_list.Goals as goal

-- a line can spell the entry
is_list : access_list_of owners_list ≡ Ok owners_list
unfolding access_list_of is_spelled is_of_use
is_list = refl

pub unreachable-requires : goal.unreachable-requires
unreachable-requires c =
    let items = c.in_ok-vec.ensures.items ∙ ap (λ (entry : Ace). entry ∷ []) c.owners_entry.ensures in
    let never = sym is_list ∙ sym (ap (λ (entries : List Ace). access_list_of entries) items) ∙ c.in-Err.ensures.refused in
    absurd (cc)

pub returns-clause-list : goal.returns-clause-list
returns-clause-list c =
    let items = c.in_ok-vec.ensures.items ∙ ap (λ (entry : Ace). entry ∷ []) c.owners_entry.ensures in
    let same = sym c.in-Ok.ensures.taken ∙ ap (λ (entries : List Ace). access_list_of entries) items ∙ is_list in
    cc
