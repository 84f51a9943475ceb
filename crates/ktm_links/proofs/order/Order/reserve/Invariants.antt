use Rattle.std.proofs.Common.{◌≡◌, ◌-◌, ◌≤◌, length}
use Rattle.ktm_links.specs.Blocks.{flat}
use Rattle.ktm_links.proofs.order.Order.reserve.Given as goal

abbrev pub invariant-loop-self : goal.invariant-loop-self
invariant-loop-self l = record {
  blocks : l.self.blocks ≡ l.initial.self.blocks;
  grows : l.initial.self.capacity ≤ l.self.capacity;
}

abbrev pub decreases-loop-self : goal.decreases-loop-self
decreases-loop-self l = l.n - (l.self.capacity - length (flat l.self.blocks))
