use Rattle.std.proofs.Common.{◌≡◌, false, rules}
use Rattle.album_world.specs.State.{is_stopped}
use Rattle.album_world.proofs.StateLemmas.{asks_so}
use Rattle.album_world.proofs.state.State.ask.Goals as goal

-- the client may not ask this
pub returns-in_err-may_ask-clause-refused : goal.returns-in_err-may_ask-clause-refused
returns-in_err-may_ask-clause-refused c =
    let runs : is_stopped c.args.self.now c.args.client ≡ false = search rules in
    let so = asks_so c.args.terms c.args.self.now c.args.client c.args.principal.now c.args.ask.now c.has.ensures.client runs in
    search (rules, so)

-- it may, and there is no memory
pub returns-in_err-reserve-clause-memory : goal.returns-in_err-reserve-clause-memory
returns-in_err-reserve-clause-memory c =
    let runs : is_stopped c.args.self.now c.args.client ≡ false = search rules in
    let so = asks_so c.args.terms c.args.self.now c.args.client c.args.principal.now c.args.ask.now c.has.ensures.client runs in
    search (rules, so)

pub returns-in_err-sent-clause-memory : goal.returns-in_err-sent-clause-memory
returns-in_err-sent-clause-memory c =
    let runs : is_stopped c.args.self.now c.args.client ≡ false = search rules in
    let so = asks_so c.args.terms c.args.self.now c.args.client c.args.principal.now c.args.ask.now c.has.ensures.client runs in
    search (rules, so)
