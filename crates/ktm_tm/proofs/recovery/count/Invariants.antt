use Rattle.std.proofs.Common.{◌≡◌, ◌≤◌, length, take}
use Rattle.ktm_tm.specs.Recovery.{recovers}
use Rattle.ktm_tm.proofs.recovery.count.Given as goal

abbrev pub invariant-loop-e : goal.invariant-loop-e
invariant-loop-e l = (l.count ≡ length (recovers l.transactions.items l.manager (take l.e-index l.enlistments))) × (l.count ≤ l.e-index)
