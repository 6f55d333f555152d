use Rattle.std.proofs.Common.{◌≡◌, ◌≤◌, length, take, vec_len, vec_capacity}
use Rattle.album_world.specs.Seen.{AreStepped}
use Rattle.album_world.proofs.world.World.run.Given as goal

-- the results of the events so far, with room for those of the others
abbrev pub invariant-loop-event : goal.invariant-loop-event
invariant-loop-event l = record {
  count : vec_len l.results ≡ l.event-index;
  room : length l.events ≤ vec_capacity l.results;
  terms : l.self.terms ≡ l.fn.self.terms;
  steps : AreStepped (λ outs. outs.items) l.fn.self.terms l.fn.self.kept (take l.event-index l.events) l.self.kept l.results.items;
}
