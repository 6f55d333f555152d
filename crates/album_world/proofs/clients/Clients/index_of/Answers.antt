use Rattle.std.proofs.Common.{◌≡◌, ℕ, ◌==◌, ap, ◌∙◌, rules, position}
use Rattle.indexmap.specs.IndexMap.{keys, values}
use Rattle.album_world.proofs.RegisterLemmas.{missing_if, stands_if}
use Rattle.album_world.proofs.clients.Clients.index_of.Goals as goal

module _ (c : goal.After-get_index_of) where
  is : c.get_index_of.result ≡ position (λ m. c.args.number == m) (keys c.self.inside.by_number)
  is = c.get_index_of.ensures.index ∙ ap (λ (n : ℕ). position (λ m. n == m) (keys c.self.inside.by_number)) c.number.ensures.number

-- the client is at the index of its number
pub returns-clause-found : goal.returns-clause-found
returns-clause-found c =
    let found = stands_if (values c.self.inside.by_number) (keys c.self.inside.by_number) c.args.number c.get_index_of.result c.self.invariant (is c) in
    search (rules, found)

-- or nowhere
pub returns-clause-missing : goal.returns-clause-missing
returns-clause-missing c =
    let missing = missing_if (values c.self.inside.by_number) (keys c.self.inside.by_number) c.args.number c.get_index_of.result c.self.invariant (is c) in
    search (rules, missing)
