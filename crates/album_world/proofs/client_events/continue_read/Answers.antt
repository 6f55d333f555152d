use Rattle.std.proofs.Common.{◌≡◌, [], true, ap, subst, ◌∙◌}
use Rattle.album_client.specs.Clients.{Client}
use Rattle.album_client.specs.Steps.{is_waiting}
use Rattle.album_world.specs.Changes.{client_takes_by}
use Rattle.album_world.specs.Moves.{IsChangedBy}
use Rattle.album_world.proofs.MoveLemmas.{waits_done}
use Rattle.album_world.proofs.client_events.continue_read.Goals as goal

-- the message changes nothing but the client's phase
pub returns-clause-done : goal.returns-clause-done
returns-clause-done c = λ terms before.
    let m = c.args.message.now in
    let inside : Client = record { number = c.client.inside.number; clock = c.client.inside.clock; phase = c.client.inside.phase } in
    let new : Client = record { number = c.client.inside.number; clock = c.client.inside.clock; phase = c.take_in_place.new.self } in
    let waiting : is_waiting c.client.inside.phase m ≡ true =
    ap (λ (y : Client). is_waiting y.phase m) c.client.view_is ∙ c.requires in
    subst (λ (y : Client). IsChangedBy before y (client_takes_by terms y.number y m y.phase) new [] []) c.client.view_is
    (waits_done terms before inside c.take_in_place.new.self m waiting
    (c.in_ok-take_in_place.ensures.taken (c.in_ok-take_in_place.ensures.test ∙ waiting)))
