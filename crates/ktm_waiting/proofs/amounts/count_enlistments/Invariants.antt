use Rattle.std.proofs.Common.{◌≡◌, ◌≤◌, count_by, not, take}
use Rattle.ktm_world.specs.declared.recorded.RecordedPart.{RecordedPart}
use Rattle.ktm_world.specs.Durable.{is_sole}
use Rattle.ktm_waiting.proofs.amounts.count_enlistments.Given as goal

abbrev pub invariant-loop-p : goal.invariant-loop-p
invariant-loop-p l = record {
  few : l.many ≤ l.p-index;
  count : l.many ≡ count_by (λ (p : RecordedPart). not (is_sole p.part)) (take l.p-index l.parts);
}
