use Rattle.std.proofs.Common.{◌≡◌, length}
use Rattle.ktm_manager.specs.Durable.{durable_listed}
use Rattle.ktm_manager.proofs.durable.DurableManagers.next.Given as goal

-- no durable one was passed over
abbrev pub invariant-loop-self : goal.invariant-loop-self
invariant-loop-self l = durable_listed l.self-inside.listed.now ≡ durable_listed l.initial.self-inside.listed.now

abbrev pub decreases-loop-self : goal.decreases-loop-self
decreases-loop-self l = length l.self-inside.listed.now
