use Rattle.std.proofs.Common.{subst, sym, IfOk, IsOkAnd}
use Rattle.indexmap.specs.IndexMap.{values, with_value_at}
use Rattle.album_world.specs.Registers.{AreChangedBy, StandsAt, asks_of}
use Rattle.album_world.specs.State.{client_at}
use Rattle.album_world.proofs.RegisterLemmas.{asked_if}
use Rattle.album_world.proofs.clients.Clients.ask.Goals as goal

-- what it does at its index is done among all
pub returns-in-Some-clause-done : goal.returns-in-Some-clause-done
returns-in-Some-clause-done c =
    let at : StandsAt (values c.self.inside.by_number) c.args.number c.in-Some.index =
    subst (λ cs. StandsAt cs c.args.number c.in-Some.index) (sym c.self.view_is) c.in-Some.ensures.found in
    let done = asked_if c.in-Some.index c.self.inside.by_number c.index_mut-client.result.now c.ask.new.client
    c.index_mut-client.ensures.value c.args.before c.args.number at c.args.terms c.args.principal.now c.args.ask.now
    c.ask.result (λ given. given.0.items) (λ given. given.1.items) c.ask.ensures.number c.ask.ensures.done in
    subst (λ cs. IfOk c.ask.result (λ given. IsOkAnd
    (asks_of c.args.terms c.args.number (client_at cs c.args.number) c.args.principal.now c.args.ask.now)
    (λ change. AreChangedBy c.args.before cs change
    (values (with_value_at c.self.inside.by_number c.in-Some.index c.ask.new.client)) given.0.items given.1.items)))
    c.self.view_is done
