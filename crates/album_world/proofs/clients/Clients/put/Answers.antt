use Rattle.std.proofs.Common.{◌≡◌, ℕ, false, rules, sym, subst, ap, ◌∙◌}
use Rattle.std.specs.Map.{keys_of, values_of}
use Rattle.indexmap.specs.IndexMap.{values}
use Rattle.album_world.specs.Registers.{has_number, numbers_of}
use Rattle.album_world.proofs.RegisterLemmas.{pushed, pushed_keys}
use Rattle.album_world.proofs.clients.Clients.put.Goals as goal

-- no client has its number
new : (c : goal.Joined-branch-2) → has_number (values c.self.inside.by_number) c.number.result ≡ false
new c =
    let same : c.args.client.number ≡ c.number.result = search rules in
    let absent : has_number (values c.self.inside.by_number) c.args.client.number ≡ false = search rules in
    subst (λ (n : ℕ). has_number (values c.self.inside.by_number) n ≡ false) same absent

-- so it is put last, and its number too
pub invariant_of-self-2 : goal.invariant_of-self-2
invariant_of-self-2 c =
    let own : c.args.client.number ≡ c.number.result = search rules in
    ap keys_of c.in_ok-insert.ensures.entries
    ∙ pushed_keys c.self.inside.by_number c.number.result c.args.client c.self.invariant (new c) own
    ∙ ap (λ es. numbers_of (values_of es)) (sym c.in_ok-insert.ensures.entries)

pub returns-clause-ok : goal.returns-clause-ok
returns-clause-ok c =
    let own : c.args.client.number ≡ c.number.result = search rules in
    let done = ap values_of c.in_ok-insert.ensures.entries
    ∙ pushed c.self.inside.by_number c.number.result c.args.client c.self.invariant (new c) own in
    search (rules, done)
