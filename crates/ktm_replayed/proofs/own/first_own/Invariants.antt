use Rattle.std.proofs.Common.{◌≡◌, drop}
use Rattle.std.specs.List.{flat_map}
use Rattle.ktm_world.specs.World.{own_events}
use Rattle.ktm_replayed.proofs.own.first_own.Given as goal

-- those before have no events
abbrev pub invariant-loop-transaction : goal.invariant-loop-transaction
invariant-loop-transaction l = flat_map own_events l.transactions ≡ flat_map own_events (drop l.transaction-index l.transactions)
