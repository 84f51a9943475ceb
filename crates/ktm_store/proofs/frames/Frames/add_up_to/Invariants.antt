use Rattle.std.proofs.Common.{◌≡◌, ◌≤◌}
use Rattle.ktm_store.proofs.frames.Frames.add_up_to.Given as goal

abbrev pub invariant-loop : goal.invariant-loop
invariant-loop l = record { kept : l.self.kept ≡ l.fn.self.kept; many : l.counter ≤ l.self.spare }
