use Rattle.std.proofs.Common.{◌≡◌, Some, ap, refl, rules}
use Rattle.std.proofs.lemmas.Result.{IfOk-weaker}
use Rattle.album_views.specs.Asks.{objects_of}
use Rattle.album_client.specs.PendingAsks.{PendingAsk}
use Rattle.album_client.specs.Clients.{Client}
use Rattle.album_client.specs.Steps.{read_begins}
use Rattle.album_world.specs.Moves.{idle_tag}
use Rattle.album_world.proofs.CheckLemmas.{is_taken}
use Rattle.album_world.proofs.MoveLemmas.{asked_done}
use Rattle.album_world.proofs.RegisterLemmas.{turned_number}
use Rattle.album_world.proofs.client_events.ask.Goals as goal

-- it was idle, and may ask
pub returns-clause-done : goal.returns-clause-done
returns-clause-done c =
    let x = c.args.client.now in
    let pending_ask : PendingAsk = record { viewing = record { ask = c.args.ask.now; reads = 0 }; principal = c.args.principal.now } in
    let idles : idle_tag x.phase ≡ Some c.in-Some.tag = search rules in
    let number = ap (λ (y : Client). y.number) c.client_step.ensures.client in
    let clock = ap (λ (y : Client). y.clock) c.client_step.ensures.client in
    let is = rw (c.client_step.ensures.terms, number, clock, c.in_ok-copy.ensures.copy, c.in_ok-copy-2.ensures.copy) at c.in_ok-transition.ensures.transition in
    IfOk-weaker c.install.result _ _ (λ r turned.
    asked_done c.args.before c.args.terms x c.install.new.client c.args.principal.now c.args.ask.now c.in-Some.tag r.0.items r.1.items
    idles (is_taken c.args.terms x.number x c.args.principal.now c.args.ask.now c.requires.may) turned)
    (c.install.ensures.installed (read_begins c.args.terms x c.in-Some.tag pending_ask (objects_of c.args.ask.now)) is)

-- and keeps its number
pub returns-clause-number : goal.returns-clause-number
returns-clause-number c =
    let x = c.args.client.now in
    let pending_ask : PendingAsk = record { viewing = record { ask = c.args.ask.now; reads = 0 }; principal = c.args.principal.now } in
    let idles : idle_tag x.phase ≡ Some c.in-Some.tag = search rules in
    let number = ap (λ (y : Client). y.number) c.client_step.ensures.client in
    let clock = ap (λ (y : Client). y.clock) c.client_step.ensures.client in
    let is = rw (c.client_step.ensures.terms, number, clock, c.in_ok-copy.ensures.copy, c.in_ok-copy-2.ensures.copy) at c.in_ok-transition.ensures.transition in
    turned_number c.install.result x c.install.new.client (read_begins c.args.terms x c.in-Some.tag pending_ask (objects_of c.args.ask.now))
    c.args.before (λ r. r.0.items) (λ r. r.1.items) refl
    (c.install.ensures.installed (read_begins c.args.terms x c.in-Some.tag pending_ask (objects_of c.args.ask.now)) is) c.install.ensures.unchanged
