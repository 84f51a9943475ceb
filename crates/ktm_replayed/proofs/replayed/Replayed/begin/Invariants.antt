use Rattle.std.proofs.Common.{◌≡◌, ◌+◌, ◌<◌, ◌^◌, length}
use Rattle.std.specs.List.{flat_map}
use Rattle.ktm_world.specs.Durable.{after_events}
use Rattle.ktm_world.specs.World.{own_events, own_group}
use Rattle.ktm_replayed.proofs.replayed.Replayed.begin.Given as goal

-- with what is left, all is made
abbrev pub invariant-loop : goal.invariant-loop
invariant-loop l = record {
  after : after_events l.self.state (flat_map own_events l.self.state.transactions) ≡ after_events l.fn.self.state (own_group l.fn.self.state);
  events : l.self.state.events + length (flat_map own_events l.self.state.transactions) < 2 ^ 63;
}

abbrev pub decreases-loop : goal.decreases-loop
decreases-loop l = length (flat_map own_events l.self.state.transactions)
