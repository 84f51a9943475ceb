use Rattle.std.proofs.Common.{◌≡◌, ◌+◌, None, length, map, take}
use Rattle.ktm_world.specs.Outcome.{served}
use Rattle.ktm_tm.specs.Recovery.{recovers}
use Rattle.ktm_tm.proofs.recovery.tell_each.Given as goal

abbrev pub invariant-loop-e : goal.invariant-loop-e
invariant-loop-e l = record {
  managers : l.managers.managers ≡ map (served None (recovers l.transactions.items l.manager (take l.e-index l.enlistments))) l.fn.managers.managers;
  spare : l.managers.spare + length (recovers l.transactions.items l.manager (take l.e-index l.enlistments)) ≡ l.fn.managers.spare;
  room : l.managers.room ≡ l.fn.managers.room;
}
