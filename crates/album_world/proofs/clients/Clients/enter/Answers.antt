use Rattle.std.proofs.Common.{◌≡◌, IsOkAnd, rules}
use Rattle.album_client.specs.Clients.{newcomer}
use Rattle.album_world.specs.Moves.{IsChangedBy}
use Rattle.album_world.specs.Registers.{asks_of}
use Rattle.album_world.proofs.RegisterLemmas.{first_asked}
use Rattle.album_world.proofs.clients.Clients.enter.Goals as goal

-- what it does as a newcomer is done among all
pub returns-in-Ok-put-clause-done : goal.returns-in-Ok-put-clause-done
returns-in-Ok-put-clause-done c =
    let own : c.ask.new.client.number ≡ c.args.number = search rules in
    let turned : IsOkAnd (asks_of c.args.terms c.args.number (newcomer c.args.number) c.args.principal.now c.args.ask.now)
    (λ change. IsChangedBy c.args.before (newcomer c.args.number) change c.ask.new.client c.in-Ok.done.0.items c.in-Ok.done.1.items) = search rules in
    let done = first_asked c.args.before c.args.number c.args.self.now c.ask.new.client c.requires.new own c.args.terms
    c.args.principal.now c.args.ask.now c.in-Ok.done.0.items c.in-Ok.done.1.items turned in
    search (rules, done)
